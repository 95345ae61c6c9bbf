-- LT of words: as numbers, and as signed numbers.
use Rattle.std.proofs.Common.{◌≡◌, ℕ, ◌+◌, ◌-◌, ◌%◌, ◌^◌, ◌<◌, ◌≤◌, nat_lt, Bool, true, false, refl, arith, inl, inr}
use Rattle.std.specs.Prelude.{pos, ◌-ℤ◌}
use Rattle.std.proofs.Math.IntN.{negsuc}
use Rattle.std.proofs.lemmas.Int.{ints}
use Rattle.std.proofs.lemmas.Bool.{cases_lt, lt-ltb, le-ltb}
use Rattle.std.proofs.lemmas.Bool.Decides.{nat_tests}
use Rattle.vm_field.specs.declared.limbs.Limbs.{Limbs}
use Rattle.vm_field.specs.Limbs.{list_of}
use Rattle.vm_word.specs.Word.{word_of_limbs, signed_value}
use Rattle.vm_word.specs.Arithmetic.{signed_less}
use Rattle.std.specs.Int.{from_bool}
use Rattle.vm_isa.specs.Words.{IsBytes}
use Rattle.gadget_limbs.proofs.LimbsLaws.{word_below}
use Rattle.gadget_limbs.specs.Less.{ordered}
use Rattle.gadget_limbs.specs.OrderLaws.{digits_of, word_less}

value_low : (a : ℕ) → a < 2 ^ 31 → signed_value a ≡ pos a
value_low a h = rw (lt-ltb a (2 ^ 31) h) refl

value_high : (a : ℕ) → 2 ^ 31 ≤ a → a < 2 ^ 32 → signed_value a ≡ negsuc (2 ^ 32 - 1 - a)
value_high a h low =
    let less : (pos a -ℤ pos (2 ^ 32)) ≡ negsuc (2 ^ 32 - 1 - a) = omega (arith, ints, low) in
    rw (le-ltb a (2 ^ 31) h) less

-- signed words are ordered as numbers with the sign bit turned
pub signed_order : (a b : ℕ) → a < 2 ^ 32 → b < 2 ^ 32 → nat_lt ((a + 2 ^ 31) % 2 ^ 32) ((b + 2 ^ 31) % 2 ^ 32) ≡ signed_less a b
signed_order a b p q =
    elim (cases_lt a (2 ^ 31)) [
      | inl a_low ↦ elim (cases_lt b (2 ^ 31)) [
        | inl b_low ↦ rw (value_low a a_low, value_low b b_low) (grind (arith, nat_tests))
        | inr b_high ↦ rw (value_low a a_low, value_high b b_high q) (grind (arith, nat_tests))
      ]
      | inr a_high ↦ elim (cases_lt b (2 ^ 31)) [
        | inl b_low ↦ rw (value_high a a_high p, value_low b b_low) (grind (arith, nat_tests))
        | inr b_high ↦ rw (value_high a a_high p, value_high b b_high q) (grind (arith, nat_tests))
      ]
    ]

pub ordered_word : (w : Limbs ℕ) → IsBytes (list_of w) → ordered 0 (digits_of w) ≡ word_of_limbs (list_of w)
unfolding list_of
ordered_word w h = omega (arith, h.0, h.1.0, h.1.1.0, h.1.1.1.0)

pub ordered_signed_word : (w : Limbs ℕ) → IsBytes (list_of w) → ordered 1 (digits_of w) ≡ (word_of_limbs (list_of w) + 2 ^ 31) % 2 ^ 32
unfolding list_of
ordered_signed_word w h = omega (arith, h.0, h.1.0, h.1.1.0, h.1.1.1.0)

pub words_are_ordered : (signed : Bool) (x y : Limbs ℕ) → IsBytes (list_of x) → IsBytes (list_of y)
    → nat_lt (ordered (from_bool signed) (digits_of x)) (ordered (from_bool signed) (digits_of y)) ≡ word_less signed (word_of_limbs (list_of x)) (word_of_limbs (list_of y))
words_are_ordered false x y p q = rw (ordered_word x p, ordered_word y q) refl
words_are_ordered true x y p q = rw (ordered_signed_word x p, ordered_signed_word y q) (signed_order (word_of_limbs (list_of x)) (word_of_limbs (list_of y)) (word_below x p) (word_below y q))
