use Rattle.air_core.specs.Ring.{field}
use Rattle.std.proofs.Common.{ℕ, arith}
use Rattle.std.proofs.lemmas.List.FromFn.{fill_by_all}
use Rattle.gadget_bits.specs.Bits.{xor3_of, turned, shifted, small_sigma_bits}
use Rattle.gadget_bits.proofs.bits.small_sigma_columns.Goals as goal

pub returns : goal.returns
unfolding small_sigma_bits
returns c =
    fill_by_all (λ (i : ℕ). xor3_of field (turned field c.args.bits.now c.args.j i) (turned field c.args.bits.now c.args.k i) (shifted field c.args.bits.now c.args.l i)) c.loop-i.all 32 0 c.loop-i.invariant.long
    (λ k lt. c.loop-i.invariant.are k (omega arith))
