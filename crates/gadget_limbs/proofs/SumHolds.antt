-- The limbs of a sum meet ADD.
use Rattle.std.proofs.Common.{◌≡◌, ℕ, ◌+◌, ◌*◌, ◌/◌, ◌%◌, ◌^◌, ◌<◌, ◌≤◌, List, [], ◌∷◌, length, refl, sym, ap, ◌∙◌, arith}
use Rattle.std.proofs.Math.Nat.{pow-suc}
use Rattle.vm_field.proofs.Constraints.{boolean_holds, gate_off}
use Rattle.vm_word.specs.Word.{word_of_limbs}
use Rattle.vm_word.specs.Arithmetic.{word_sum}
use Rattle.vm_isa.specs.Words.{IsBytes}
use Rattle.air_core.specs.First.{bit}
use Rattle.air_core.specs.Sheet.{AllZero}
use Rattle.vm_field.specs.declared.limbs.Limbs.{Limbs}
use Rattle.vm_field.specs.Limbs.{list_of}
use Rattle.gadget_limbs.specs.Number.{number_of}
use Rattle.vm_field.proofs.LimbLemmas.{length-list_of}
use Rattle.gadget_limbs.proofs.LimbsLaws.{list_is_word}
use Rattle.gadget_limbs.specs.Sum.{sum_constraints, carry_out, gated_bit}
use Rattle.air_core.specs.Ring.{field}

-- the carry of the right limb is the carry of whole numbers
pub carry_out-sum : (x y k z : ℕ) → x < 256 → y < 256 → k ≤ 1 → z ≡ (x + y + k) % 256 → carry_out field x y k z ≡ (x + y + k) / 256
unfolding carry_out
carry_out-sum x y k z p q r e = omega arith

pub gated_bit-carry : (gate k : ℕ) → k ≤ 1 → gated_bit field gate k ≡ 0
unfolding gated_bit bit
gated_bit-carry gate k h = rw (boolean_holds k h) (omega arith)

-- one limb of whole numbers
limb_parts : (x y z k X Y Z P last : ℕ) → x < 256 → y < 256 → z < 256 → k ≤ 1 → x + 256 * X + (y + 256 * Y) + k ≡ z + 256 * Z + P * 256 * last → (z ≡ (x + y + k) % 256) × (X + Y + (x + y + k) / 256 ≡ Z + P * last)
limb_parts x y z k X Y Z P last p q r s e =
    let regroup : P * 256 * last ≡ 256 * (P * last) = omega arith in
    (omega arith, omega arith)

-- words whose whole numbers add up, with a carry at either end, meet ADD under any gate
pub sum_holds : (g k last : ℕ) (xs ys zs : List ℕ) → length xs ≡ length zs → length ys ≡ length zs → IsBytes xs → IsBytes ys → IsBytes zs → k ≤ 1
    → number_of xs + number_of ys + k ≡ number_of zs + 256 ^ length zs * last → AllZero (sum_constraints field g k xs ys zs)
unfolding sum_constraints
sum_holds g k last [] [] [] ex ey bx by bz small e = tt
sum_holds g k last (x ∷ xs) (y ∷ ys) (z ∷ zs) ex ey bx by bz small e =
    let at : x + 256 * number_of xs + (y + 256 * number_of ys) + k ≡ z + 256 * number_of zs + 256 ^ length zs * 256 * last = rw pow-suc at e in
    let parts = limb_parts x y z k (number_of xs) (number_of ys) (number_of zs) (256 ^ length zs) last bx.0 by.0 bz.0 small at in
    let out = carry_out-sum x y k z bx.0 by.0 small parts.0 in
    let small : (carry_out field) x y k z ≤ 1 = omega (arith, bx.0, by.0, out) in
    let rest : number_of xs + number_of ys + carry_out field x y k z ≡ number_of zs + 256 ^ length zs * last = omega (arith, parts.1, out) in
    (gated_bit-carry g (carry_out field x y k z) small, sum_holds g (carry_out field x y k z) last xs ys zs (omega arith) (omega arith) bx.1 by.1 bz.1 small rest)
sum_holds g k last [] [] (z ∷ zs) ex ey bx by bz small e = absurd (omega arith)
sum_holds g k last [] (y ∷ ys) [] ex ey bx by bz small e = absurd (omega arith)
sum_holds g k last [] (y ∷ ys) (z ∷ zs) ex ey bx by bz small e = absurd (omega arith)
sum_holds g k last (x ∷ xs) [] [] ex ey bx by bz small e = absurd (omega arith)
sum_holds g k last (x ∷ xs) [] (z ∷ zs) ex ey bx by bz small e = absurd (omega arith)
sum_holds g k last (x ∷ xs) (y ∷ ys) [] ex ey bx by bz small e = absurd (omega arith)

whole_of : (x y z n : ℕ) → n ≡ 4 → z ≡ word_sum x y → x + y + 0 ≡ z + 256 ^ n * ((x + y) / 2 ^ 32)
whole_of x y z n e h = rw e (omega arith)

-- at four limbs
pub sum_holds_word : (gate : ℕ) (x y z : Limbs ℕ) → IsBytes (list_of x) → IsBytes (list_of y) → IsBytes (list_of z)
    → word_of_limbs (list_of z) ≡ word_sum (word_of_limbs (list_of x)) (word_of_limbs (list_of y)) → AllZero (sum_constraints field gate 0 (list_of x) (list_of y) (list_of z))
sum_holds_word gate x y z bx by bz e =
    let a = number_of (list_of x) in
    let b = number_of (list_of y) in
    let numbers : number_of (list_of z) ≡ word_sum a b =
    list_is_word z ∙ (e ∙ ap (λ (n : ℕ). word_sum n (word_of_limbs (list_of y))) (sym (list_is_word x)) ∙ ap (λ (n : ℕ). word_sum a n) (sym (list_is_word y))) in
    sum_holds gate 0 ((a + b) / 2 ^ 32) (list_of x) (list_of y) (list_of z) (length-list_of x ∙ sym (length-list_of z)) (length-list_of y ∙ sym (length-list_of z)) bx by bz (omega arith)
    (whole_of a b (number_of (list_of z)) (length (list_of z)) (length-list_of z) numbers)

gated_none : (k : ℕ) → gated_bit field 0 k ≡ 0
unfolding gated_bit
gated_none k = gate_off 0 (bit field k) refl

-- under a gate that is 0 it says nothing
pub sum_off : (k : ℕ) (xs ys zs : List ℕ) → AllZero (sum_constraints field 0 k xs ys zs)
unfolding sum_constraints
sum_off k (x ∷ xs) (y ∷ ys) (z ∷ zs) = (gated_none (carry_out field x y k z), sum_off (carry_out field x y k z) xs ys zs)
sum_off k [] ys zs = tt
sum_off k (x ∷ xs) [] zs = tt
sum_off k (x ∷ xs) (y ∷ ys) [] = tt
