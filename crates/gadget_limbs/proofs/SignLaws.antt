-- The sign bit of a word, and its negative.
use Rattle.std.proofs.Common.{◌≡◌, ◌≢◌, ◌&&◌, ℕ, ◌+◌, ◌-◌, ◌*◌, ◌/◌, ◌^◌, ◌<◌, ◌≤◌, Bool, true, false, List, [], ◌∷◌, length, refl, sym, ap, subst, ◌∙◌, arith, bit_xor, inl, inr, ⊎_elim}
use Rattle.std.proofs.lemmas.Nat.{xor_block}
use Rattle.std.proofs.lemmas.Bool.{cases_lt, cases_eq}
use Rattle.std.proofs.lemmas.Bool.Decides.{nat_tests}
use lib.Bits.{xor_zero_r}
use Rattle.air_core.specs.First.{bit}
use Rattle.std.specs.Int.{from_bool}
use Rattle.vm_field.specs.Field.{modulus, field_add, field_sub, field_mul}
use Rattle.vm_field.specs.declared.limbs.Limbs.{Limbs}
use Rattle.vm_field.specs.Limbs.{list_of}
use Rattle.vm_field.proofs.Constraints.{gated_equal, gate_off, boolean_at_most, boolean_holds, gated}
use Rattle.vm_word.specs.Word.{word_of_limbs, limbs_of}
use Rattle.vm_word.specs.Arithmetic.{negated, negated_if, is_negative}
use Rattle.vm_isa.specs.Words.{IsBytes}
use Rattle.air_core.specs.Sheet.{AllZero, AllBelow}
use Rattle.air_core.specs.ListLemmas.{all_left, all_right, all_append}
use Rattle.air_core.specs.Lookups.{IsXorRow}
use Rattle.air_core.proofs.LookupLemmas.{xor_good}
use Rattle.gadget_limbs.proofs.LimbsLaws.{list_is_word, word_below, bytes_below, limbs_of-word}
use Rattle.gadget_limbs.proofs.SumLaw.{sum_law}
use Rattle.gadget_limbs.proofs.SumHolds.{sum_holds, sum_off}
use Rattle.gadget_limbs.specs.Sum.{sum_constraints}
use Rattle.gadget_limbs.specs.SignLaws.{IsSign, SignHolds}
use Rattle.gadget_limbs.specs.Sign.{sign_constraints, sign_looked_up, same_constraints, negative_constraints}
use Rattle.air_core.specs.Ring.{field}

-- ---- NEG

same_law : (xs ys : List ℕ) → length xs ≡ length ys → AllBelow xs → AllBelow ys → AllZero ((same_constraints field) 0 xs ys) → xs ≡ ys
unfolding same_constraints
same_law [] [] e p q h = refl
same_law (x ∷ xs) (y ∷ ys) e p q h =
    let here : x ≡ y = gated_equal 1 x y refl p.0 q.0 h.0 in
    rw (here, same_law xs ys (omega arith) p.1 q.1 h.1) refl
same_law [] (y ∷ ys) e p q h = absurd (omega arith)
same_law (x ∷ xs) [] e p q h = absurd (omega arith)

same_holds : (xs : List ℕ) (g : ℕ) → AllBelow xs → AllZero ((same_constraints field) g xs xs)
unfolding same_constraints
same_holds [] g p = tt
same_holds (x ∷ xs) g p =
    let none : field_sub x x ≡ 0 = omega (arith, p.0) in
    (rw none (omega arith), same_holds xs g p.1)

same_off : (xs ys : List ℕ) → AllZero ((same_constraints field) 1 xs ys)
unfolding same_constraints
same_off [] ys = tt
same_off (x ∷ xs) [] = tt
same_off (x ∷ xs) (y ∷ ys) = (gate_off _ _ refl, same_off xs ys)

four_zeros : IsBytes (0 ∷ 0 ∷ 0 ∷ 0 ∷ [])
four_zeros = (omega arith, (omega arith, (omega arith, (omega arith, tt))))

negated_is : (x y o : ℕ) → x < 2 ^ 32 → y < 2 ^ 32 → x + y + 0 ≡ 2 ^ 32 * o → y ≡ negated x
negated_is x y o p q e = omega arith

negated_back : (x y : ℕ) → x < 2 ^ 32 → y ≡ negated x → x + y + 0 ≡ 2 ^ 32 * ((x + y) / 2 ^ 32)
negated_back x y p e = omega arith

four_long : (w : Limbs ℕ) → length (list_of w) ≡ 4
unfolding list_of
four_long w = refl

-- the second word is the negative of the first where the gate is 1, else the same
pub negative_law : (t : Bool) (g : ℕ) (x y : Limbs ℕ) → g ≡ from_bool t → IsBytes (list_of x) → IsBytes (list_of y) → AllZero ((negative_constraints field) g (list_of x) (list_of y))
    → word_of_limbs (list_of y) ≡ negated_if t (word_of_limbs (list_of x))
unfolding negative_constraints list_of
negative_law false g x y e p q h =
    ap word_of_limbs (sym (same_law (list_of x) (list_of y) (four_long x ∙ sym (four_long y)) (bytes_below (list_of x) p) (bytes_below (list_of y) q)
    (subst (λ (n : ℕ). AllZero ((same_constraints field) n (list_of x) (list_of y))) e (all_left (λ z. z ≡ 0) _ _ h))))
negative_law true g x y e p q h =
    let sums : AllZero ((sum_constraints field) 1 0 (list_of x) (list_of y) (0 ∷ 0 ∷ 0 ∷ 0 ∷ [])) = subst (λ (n : ℕ). AllZero ((sum_constraints field) n 0 (list_of x) (list_of y) (0 ∷ 0 ∷ 0 ∷ 0 ∷ []))) e (all_right (λ z. z ≡ 0) ((same_constraints field) g (list_of x) (list_of y)) _ h) in
    let law = sum_law (list_of x) (list_of y) (0 ∷ 0 ∷ 0 ∷ 0 ∷ []) 0 (four_long x) (four_long y) p q four_zeros (omega arith) sums in
    negated_is _ _ law.0 (word_below x p) (word_below y q) (omega (arith, law.2, list_is_word x, list_is_word y))

pub negative_holds : (t : Bool) (g : ℕ) (x y : Limbs ℕ) → g ≡ from_bool t → IsBytes (list_of x) → IsBytes (list_of y) → word_of_limbs (list_of y) ≡ negated_if t (word_of_limbs (list_of x))
    → AllZero ((negative_constraints field) g (list_of x) (list_of y))
unfolding negative_constraints list_of
negative_holds false g x y e p q h =
    let same : list_of y ≡ list_of x = sym (limbs_of-word (list_of y) (record { four = four_long y; bytes = q })) ∙ ap limbs_of h ∙ limbs_of-word (list_of x) (record { four = four_long x; bytes = p }) in
    rw (e, same) (all_append (λ z. z ≡ 0) _ _ (same_holds (list_of x) 0 (bytes_below (list_of x) p)) (sum_off 0 (list_of x) (list_of x) (0 ∷ 0 ∷ 0 ∷ 0 ∷ [])))
negative_holds true g x y e p q h =
    let back = negated_back (word_of_limbs (list_of x)) (word_of_limbs (list_of y)) (word_below x p) h in
    rw e (all_append (λ z. z ≡ 0) _ _ (same_off (list_of x) (list_of y)) (sum_holds 1 0 ((word_of_limbs (list_of x) + word_of_limbs (list_of y)) / 2 ^ 32) (list_of x) (list_of y) (0 ∷ 0 ∷ 0 ∷ 0 ∷ []) (four_long x) (four_long y) p q four_zeros (omega arith)
    (omega (arith, back, list_is_word x, list_is_word y))))

-- ---- SIGN

-- the xor of a byte with 128
flip_top : (h l : ℕ) → l < 128 → bit_xor (h * 2 ^ 7 + l) 128 ≡ bit_xor h 1 * 2 ^ 7 + bit_xor l 0
flip_top h l q = xor_block 7 h 1 l 0 q (omega arith)

low_flipped : (x : ℕ) → x < 128 → bit_xor x 128 ≡ x + 128
low_flipped x p = let is : x ≡ 0 * 2 ^ 7 + x = omega arith in ap (λ (y : ℕ). bit_xor y 128) is ∙ flip_top 0 x p ∙ rw (xor_zero_r x) (omega arith)

high_flipped : (x l : ℕ) → x ≡ l + 128 → l < 128 → bit_xor x 128 ≡ l
high_flipped x l e p = let is : x ≡ 1 * 2 ^ 7 + l = omega arith in ap (λ (y : ℕ). bit_xor y 128) is ∙ (flip_top 1 l p ∙ rw (xor_zero_r l) (omega arith))

-- a good lookup says that the limb is a byte and g its highest bit
pub sign_law : (g x : ℕ) → g ≤ 1 → IsXorRow ((sign_looked_up field) g x) → g ≡ x / 128
unfolding sign_looked_up
sign_law g x low row =
    let good = xor_good _ _ _ row in
    elim (cases_lt x 128) [
      | inl under ↦ omega (arith, good.xor, low_flipped x under)
      | inr over ↦ omega (arith, good.left, good.xor, high_flipped x (x - 128) (omega arith) (omega (arith, good.left)))
    ]

pub sign_holds : (g x : ℕ) → x < 256 → g ≡ x / 128 → IsXorRow ((sign_looked_up field) g x)
unfolding sign_looked_up
sign_holds g x p e =
    let is : field_sub (field_add x 128) (field_mul 256 g) ≡ bit_xor x 128 =
    elim (cases_lt x 128) [
      | inl under ↦ omega (arith, low_flipped x under)
      | inr over ↦ omega (arith, high_flipped x (x - 128) (omega arith) (omega arith))
    ] in
    record { x = x; y = 128; x_byte = p; y_byte = omega arith; is = rw is refl }

pub sign_number : (w : ℕ) → w < 2 ^ 32 → from_bool (is_negative w) ≡ w / 2 ^ 31
sign_number w p = grind (arith, nat_tests)

-- the highest bit of the highest limb is that of the word
pub sign_of_word : (w : Limbs ℕ) → IsBytes (list_of w) → w.x3 / 128 ≡ from_bool (is_negative (word_of_limbs (list_of w)))
unfolding list_of
sign_of_word w p = omega (arith, p.0, p.1.0, p.1.1.0, p.1.1.1.0, sign_number (word_of_limbs (w.x0 ∷ w.x1 ∷ w.x2 ∷ w.x3 ∷ [])) (omega (arith, p.0, p.1.0, p.1.1.0, p.1.1.1.0)))

looked_byte : (g x : ℕ) → IsXorRow ((sign_looked_up field) g x) → IsXorRow (x ∷ 128 ∷ field_sub (field_add x 128) (field_mul 256 g) ∷ [])
unfolding sign_looked_up
looked_byte g x row = row

-- under a gate of 0 it is 0
pub sign_off : (g : ℕ) → g < modulus → AllZero ((sign_constraints field) g 0) → g ≡ 0
unfolding sign_constraints
sign_off g low h = gated 1 g refl low (h.1.0)

pub sign_bit : (g s : ℕ) → g < modulus → AllZero ((sign_constraints field) g s) → g ≤ 1
unfolding sign_constraints bit
sign_bit g s low h = boolean_at_most g low h.0

pub sign_zero : (g s : ℕ) → g ≤ 1 → (s ≡ 0 → g ≡ 0) → s ≤ 1 → AllZero ((sign_constraints field) g s)
unfolding sign_constraints bit
sign_zero g s low off bit_s =
    (boolean_holds g low, (⊎_elim (λ (one : s ≡ 1). rw one (gate_off (field_sub 1 1) g refl)) (λ (other : s ≡ 1 → ⊥). let none : g ≡ 0 = off (omega arith) in rw none (omega arith)) (cases_eq s 1), tt))

pub top_byte : (w : Limbs ℕ) → IsBytes (list_of w) → w.x3 < 256
unfolding list_of
top_byte w h = h.1.1.1.0

-- SIGN, with its lookup sent where s is 1: g is the sign bit where t says so, and else 0
pub sign_full : (t : Bool) (g s : ℕ) (w : Limbs ℕ) → s ≡ from_bool t → g < modulus → IsBytes (list_of w) → AllZero ((sign_constraints field) g s) → (s ≢ 0 → IsXorRow ((sign_looked_up field) g w.x3))
    → g ≡ from_bool (t && is_negative (word_of_limbs (list_of w)))
sign_full true g s w e low p h row = sign_law g w.x3 (sign_bit g s low h) (row (omega arith)) ∙ sign_of_word w p
sign_full false g s w e low p h row = sign_off g low (subst (λ (n : ℕ). AllZero ((sign_constraints field) g n)) e h)

pub from_bool_small : (t : Bool) → from_bool t ≤ 1
from_bool_small true = omega arith
from_bool_small false = omega arith

pub sign_full_zero : (t : Bool) (g s : ℕ) (w : Limbs ℕ) → s ≡ from_bool t → g ≡ from_bool (t && is_negative (word_of_limbs (list_of w))) → AllZero ((sign_constraints field) g s)
sign_full_zero true g s w e f = sign_zero g s (omega (arith, f, from_bool_small (is_negative (word_of_limbs (list_of w))))) (λ none. absurd (omega arith)) (omega arith)
sign_full_zero false g s w e f = sign_zero g s (omega (arith, f)) (λ none. f) (omega arith)

pub sign_full_row : (t : Bool) (g s : ℕ) (w : Limbs ℕ) → s ≡ from_bool t → IsBytes (list_of w) → g ≡ from_bool (t && is_negative (word_of_limbs (list_of w))) → s ≢ 0 → IsXorRow ((sign_looked_up field) g w.x3)
sign_full_row true g s w e p f some = sign_holds g w.x3 (top_byte w p) (f ∙ sym (sign_of_word w p))
sign_full_row false g s w e p f some = absurd (some e)

-- ---- SIGN of a byte

pub sign_says : (gate x g : ℕ) → g < modulus → SignHolds gate x g → IsSign gate x g
sign_says gate x g low h = record {
  off = λ e. sign_off g low (subst (λ (n : ℕ). AllZero (sign_constraints field g n)) e h.zero);
  on = λ e. let row = h.good (omega arith) in ((xor_good _ _ _ (looked_byte g x row)).left, sign_law g x (sign_bit g gate low h.zero) row);
}

pub sign_meets : (gate x g : ℕ) → gate ≤ 1 → IsSign gate x g → SignHolds gate x g
sign_meets gate x g small h = elim (cases_eq gate 0) [
  | inl off ↦ record { zero = sign_zero g gate (omega (arith, h.off off)) h.off small; good = λ some. absurd (some off) }
  | inr other ↦
      let is = h.on (omega arith) in
      record { zero = sign_zero g gate (omega (arith, is.0, is.1)) h.off small; good = λ some. sign_holds g x is.0 is.1 }
]
