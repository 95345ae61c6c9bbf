use Rattle.std.proofs.Common.{◌≡◌, ℕ, ◌+◌, List, [], ◌∷◌, ◌++◌, length, map, sym, ap, ◌∙◌, arith}
use Rattle.std.proofs.lemmas.List.{length-map}
use Rattle.vm_field.specs.Field.{field_sub}
use Rattle.vm_field.specs.Limbs.{list_of}
use Rattle.air_core.specs.First.{bit, first_from, or_else}
use Rattle.air_core.specs.Flags.{sum_from}
use Rattle.air_core.specs.Ring.{field}
use Rattle.air_core.proofs.FirstLemmas.{first_from-part}
use Rattle.gadget_shift.specs.Shift.{shift_columns, amount_constraints}
use Rattle.gadget_shift.proofs.ShiftSays.{bits_long, limbs_long}
use Rattle.gadget_shift.proofs.constraints.amount_broken.Goals as goal

first_of_parts : (from : ℕ) (bits limbs : List ℕ) (one_bit one_limb : ℕ) → length bits ≡ 8 → length limbs ≡ 4
    → first_from from (bits ++ (one_bit ∷ (limbs ++ (one_limb ∷ []))))
    ≡ or_else (first_from from bits) (or_else (first_from (from + 8) (one_bit ∷ [])) (or_else (first_from (from + 9) limbs) (first_from (from + 13) (one_limb ∷ []))))
first_of_parts from bits limbs one_bit one_limb a b =
    first_from-part from (from + 8) bits (one_bit ∷ (limbs ++ (one_limb ∷ []))) (omega (arith, a))
    ∙ ap (or_else (first_from from bits)) (first_from-part (from + 8) (from + 9) (one_bit ∷ []) (limbs ++ (one_limb ∷ [])) (omega arith)
    ∙ ap (or_else (first_from (from + 8) (one_bit ∷ []))) (first_from-part (from + 9) (from + 13) limbs (one_limb ∷ []) (omega (arith, b))))

pub returns : goal.returns
unfolding amount_constraints
returns c =
    let s = shift_columns field c.args.own.now in
    let limbs = list_of s.limbs in
    rw (
      c.first-3.ensures,
      c.first-2.ensures,
      c.first.ensures,
      c.first_nonzero-one_bit.ensures,
      c.first_nonzero-one_place.ensures,
      c.bits_broken-bits.ensures,
      c.bits_broken-places.ensures,
      c.sub.ensures,
      c.sub-one_place.ensures,
      c.flag_sum.ensures,
      c.flag_sum-2.ensures,
      c.array-limbs.ensures,
      c.read-c.ensures.bits,
      c.read-c.ensures.limbs,
    )
    (sym (first_of_parts c.args.from (map (bit field) s.bits) (map (bit field) limbs) (field_sub (sum_from field 0 s.bits) c.args.valid) (field_sub (sum_from field 0 limbs) c.args.valid)
    (length-map s.bits (bit field) ∙ bits_long c.args.own.now) (length-map limbs (bit field) ∙ limbs_long c.args.own.now)))
