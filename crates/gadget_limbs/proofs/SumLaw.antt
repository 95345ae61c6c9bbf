-- What ADD says: with the gate at 1, limbs below 256 and all constraints 0, the sum's limbs are those of the whole sum.
use Rattle.std.proofs.Common.{◌≡◌, ℕ, ◌+◌, ◌*◌, ◌^◌, ◌<◌, ◌≤◌, List, [], ◌∷◌, length, refl, sym, ap, ◌∙◌, arith}
use Rattle.vm_field.specs.Field.{field_add, field_sub, field_mul}
use Rattle.vm_field.proofs.Constraints.{gated_boolean}
use Rattle.vm_field.proofs.Lift.{lift_256}
use Rattle.vm_word.specs.Word.{word_of_limbs}
use Rattle.vm_word.specs.Arithmetic.{word_sum}
use Rattle.vm_isa.specs.Words.{IsBytes}
use Rattle.air_core.specs.First.{bit}
use Rattle.air_core.specs.Sheet.{AllZero}
use Rattle.vm_field.specs.declared.limbs.Limbs.{Limbs}
use Rattle.vm_field.specs.Limbs.{list_of}
use Rattle.gadget_limbs.specs.Number.{number_of}
use Rattle.gadget_limbs.specs.Sum.{sum_constraints, carry_out, gated_bit}
use Rattle.vm_field.proofs.LimbLemmas.{length-list_of}
use Rattle.gadget_limbs.proofs.LimbsLaws.{number_of_below, list_is_word}
use Rattle.std.proofs.Math.Nat.{pow-suc}
use Rattle.air_core.specs.Ring.{field}

-- one limb
limb : (x y k z : ℕ) → x < 256 → y < 256 → z < 256 → k ≤ 1 → gated_bit field 1 (carry_out field x y k z) ≡ 0 → (carry_out field x y k z ≤ 1) × (x + y + k ≡ z + 256 * (carry_out field) x y k z)
unfolding carry_out gated_bit bit
limb x y k z p q r small h =
    let out = field_mul (field_sub (field_add (field_add x y) k) z) 2005401601 in
    let out_small : out ≤ 1 = gated_boolean 1 out refl (omega arith) h in
    let whole : field_add (field_add x y) k ≡ z + 256 * out = lift_256 out (field_add (field_add x y) k) z refl (omega arith) (omega arith) in
    (out_small, omega arith)

-- all limbs: the whole numbers add up, with a last carry of 0 or 1
pub sum_law : (xs ys zs : List ℕ) (k : ℕ) → length xs ≡ length zs → length ys ≡ length zs → IsBytes xs → IsBytes ys → IsBytes zs → k ≤ 1 → AllZero (sum_constraints field 1 k xs ys zs) → (last : ℕ) × (last ≤ 1) × (number_of xs + number_of ys + k ≡ number_of zs + 256 ^ length zs * last)
unfolding sum_constraints
sum_law [] [] [] k ex ey bx by bz low h = (k, low, omega arith)
sum_law (x ∷ xs) (y ∷ ys) (z ∷ zs) k ex ey bx by bz low h =
    let here = limb x y k z bx.0 by.0 bz.0 low h.0 in
    let rest = sum_law xs ys zs (carry_out field x y k z) (omega arith) (omega arith) bx.1 by.1 bz.1 here.0 h.1 in
    (rest.0, rest.1, rw pow-suc (omega (arith, here.1, rest.2)))
sum_law [] [] (z ∷ zs) k ex ey bx by bz low h = absurd (omega arith)
sum_law [] (y ∷ ys) [] k ex ey bx by bz low h = absurd (omega arith)
sum_law [] (y ∷ ys) (z ∷ zs) k ex ey bx by bz low h = absurd (omega arith)
sum_law (x ∷ xs) [] [] k ex ey bx by bz low h = absurd (omega arith)
sum_law (x ∷ xs) [] (z ∷ zs) k ex ey bx by bz low h = absurd (omega arith)
sum_law (x ∷ xs) (y ∷ ys) [] k ex ey bx by bz low h = absurd (omega arith)

-- the step from the whole sum to the sum modulo 2^32, over variables
word_sum_by : (x y z n last : ℕ) → n ≡ 4 → last ≤ 1 → x + y + 0 ≡ z + 256 ^ n * last → z < 256 ^ n → z ≡ word_sum x y
word_sum_by x y z n last e small whole below =
    let sum_is : x + y + 0 ≡ z + 4294967296 * last = rw e at whole in
    let bound : z < 4294967296 = rw e at below in
    omega arith

-- at four limbs: the third word is the sum of the two others
pub sum_law_word : (x y z : Limbs ℕ) → IsBytes (list_of x) → IsBytes (list_of y) → IsBytes (list_of z) → AllZero (sum_constraints field 1 0 (list_of x) (list_of y) (list_of z))
    → word_of_limbs (list_of z) ≡ word_sum (word_of_limbs (list_of x)) (word_of_limbs (list_of y))
sum_law_word x y z bx by bz h =
    let law = sum_law (list_of x) (list_of y) (list_of z) 0 (length-list_of x ∙ sym (length-list_of z)) (length-list_of y ∙ sym (length-list_of z)) bx by bz (omega arith) h in
    let whole = word_sum_by (number_of (list_of x)) (number_of (list_of y)) (number_of (list_of z)) (length (list_of z)) law.0 (length-list_of z) law.1 law.2 (number_of_below (list_of z) bz) in
    sym (list_is_word z) ∙ (whole ∙ ap (λ (n : ℕ). word_sum n (number_of (list_of y))) (list_is_word x) ∙ ap (λ (n : ℕ). word_sum (word_of_limbs (list_of x)) n) (list_is_word y))
