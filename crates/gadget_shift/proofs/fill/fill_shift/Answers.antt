use Rattle.std.proofs.Common.{◌≡◌, ℕ, zero, suc, ◌*◌, ◌^◌, ◌%◌, ◌/◌, ◌<◌, refl, arith, append_assoc}
use Rattle.air_core.specs.Flags.{one_hot}
use Rattle.gadget_shift.specs.Shift.{shift_filled}
use Rattle.gadget_shift.proofs.fill.fill_shift.Goals as goal

-- 2 to the number of bits is a number of 32 bits
pow_is : (s : ℕ) → s < 8 → 1 * 2 ^ s % 2 ^ 32 ≡ 2 ^ s
pow_is zero low = refl
pow_is (suc zero) low = refl
pow_is (suc (suc zero)) low = refl
pow_is (suc (suc (suc zero))) low = refl
pow_is (suc (suc (suc (suc zero)))) low = refl
pow_is (suc (suc (suc (suc (suc zero))))) low = refl
pow_is (suc (suc (suc (suc (suc (suc zero)))))) low = refl
pow_is (suc (suc (suc (suc (suc (suc (suc zero))))))) low = refl
pow_is (suc (suc (suc (suc (suc (suc (suc (suc s)))))))) low = absurd (omega arith)

pub returns-clause-is : goal.returns-clause-is
unfolding shift_filled
returns-clause-is c =
    rw (
      c.put_carries.ensures.is,
      c.put_limbs.ensures.so_far,
      c.put_bits.ensures.so_far,
      c.value-amount.ensures.number,
      pow_is (c.args.amount % 8) (omega arith),
    )
    (append_assoc (one_hot 8 (c.args.amount % 8)) (one_hot 4 (c.args.amount % 32 / 8)) _)
