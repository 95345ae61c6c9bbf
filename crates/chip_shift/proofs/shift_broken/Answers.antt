use Rattle.std.proofs.Common.{◌≡◌, ℕ, ◌+◌, ◌++◌, length, sym, ap, ◌∙◌, arith, refl, slice_index}
use Rattle.air_core.specs.First.{first_from, or_else}
use Rattle.air_core.specs.Flags.{sum_from}
use Rattle.air_core.specs.Ring.{field}
use Rattle.air_core.proofs.FirstLemmas.{first_from-part}
use Rattle.gadget_limbs.specs.Sign.{sign_constraints}
use Rattle.gadget_shift.specs.Shift.{shift_columns, amount_constraints, left_constraints, right_constraints}
use Rattle.gadget_shift.proofs.ShiftHolds.{length-amount, length-left}
use Rattle.chip_shift.specs.Shift.{sign_of, new_of, shift_constraints_of}
use Rattle.chip_shift.proofs.shift_broken.Goals as goal

length-sign : (g gate : ℕ) → length (sign_constraints field g gate) ≡ 2
unfolding sign_constraints
length-sign g gate = refl

pub returns : goal.returns
unfolding shift_constraints_of
returns c =
    let from = c.args.from in
    let own = c.args.own.now in
    let flags = c.args.flags.now in
    let s = shift_columns field own in
    let b = c.args.old.now in
    let amount = amount_constraints field (sum_from field 0 flags) s in
    let sign = sign_constraints field (sign_of field own) (slice_index flags 2) in
    let left = left_constraints field (slice_index flags 0) s b (new_of field own) in
    let right = right_constraints field (field.plus (slice_index flags 1) (slice_index flags 2)) (sign_of field own) s b (new_of field own) in
    rw (
      c.first-2.ensures,
      c.first.ensures,
      c.first-words.ensures,
      c.first_nonzero.ensures,
      c.first_nonzero-2.ensures,
      c.first_nonzero-signs.ensures,
      c.amount_broken-amount.ensures,
      c.left_constraints-left.ensures,
      c.right_constraints-right.ensures,
      c.sign_constraints.ensures,
      c.add-gate.ensures,
      c.flag.ensures,
      c.flag-2.ensures,
      c.flag-3.ensures,
      c.flag-4.ensures,
      c.sign_of-sign.ensures,
      c.flag_sum.ensures,
      c.new_of-new.ensures,
    )
    (sym (first_from-part from (from + 14) amount (sign ++ (left ++ right)) (omega (arith, length-amount (sum_from field 0 flags) own))
    ∙ ap (or_else (first_from from amount)) (first_from-part (from + 14) (from + 16) sign (left ++ right) (omega (arith, length-sign (sign_of field own) (slice_index flags 2)))
    ∙ ap (or_else (first_from (from + 14) sign)) (first_from-part (from + 16) (from + 32) left right (omega (arith, length-left (slice_index flags 0) s b (new_of field own)))))))
