-- Where columns are bits, the halves that polynomials of them have are those of the words' functions.
use Rattle.std.proofs.Common.{◌≡◌, ℕ, zero, suc, ◌+◌, ◌*◌, ◌/◌, ◌%◌, ◌^◌, ◌<◌, ◌≤◌, Bool, true, false, ◌&&◌, nat_lt, List, [], ◌∷◌, length, slice_index, Some, None, refl, sym, ap, ◌∙◌, subst, arith, lit<, w32, bit_xor, lt-ltb, ltb-true, le-ltb, inl, inr}
use Rattle.std.proofs.Math.Nat.{div-le_self}
use Rattle.std.proofs.lemmas.Bool.{and_parts}
use Rattle.std.specs.Int.{rotate_right}
use Rattle.std.proofs.Math.Pow.{pow_mono}
use Rattle.std.proofs.lemmas.Bool.{cases_lt}
use Rattle.vm_word.specs.Digits.{number_of_digits}
use Rattle.vm_word.proofs.DigitLemmas.{number_of_digits-lt}
use Rattle.sha_words.specs.Sha256.{ch, maj}
use Rattle.air_core.specs.Ring.{field}
use Rattle.gadget_bits.specs.declared.halves.Halves.{Halves}
use Rattle.gadget_bits.specs.Bits.{halves_by, big_sigma_bits, small_sigma_bits, choice_bits, majority_bits, BitsOf, HalvesOf, halves_filled, word_by, all_bits, word_if_bits}
use Rattle.gadget_bits.proofs.BitLaws.{halves_of_bits, halves_filled_are, bits_make, word_by-lt, big_sigma_is, small_sigma_is, big_sigma-lt, small_sigma-lt, choice_halves, majority_halves}

-- a word has one pair of halves
pub halves_one : (x y : Halves ℕ) (word : ℕ) → HalvesOf x word → HalvesOf y word → x ≡ y
halves_one x y word h k =
    let lo = h.lo ∙ sym k.lo in
    let hi = h.hi ∙ sym k.hi in
    λ i. record { lo = lo i; hi = hi i }

pub small_of_all : (bits : List ℕ) → all_bits bits ≡ true → (i : ℕ) → slice_index bits i < 2
unfolding all_bits
small_of_all [] h i = lit< tt
small_of_all (x ∷ xs) h zero = ltb-true x 2 (and_parts (nat_lt x 2) (all_bits xs) h).0
small_of_all (x ∷ xs) h (suc i) = small_of_all xs (and_parts (nat_lt x 2) (all_bits xs) h).1 i

pub all_of_small : (bits : List ℕ) (n : ℕ) → length bits ≡ n → ((i : ℕ) → i < n → slice_index bits i < 2) → all_bits bits ≡ true
unfolding all_bits
all_of_small [] n long h = refl
all_of_small (x ∷ xs) zero long h = absurd (omega (arith, long))
all_of_small (x ∷ xs) (suc n) long h = rw (lt-ltb x 2 (h 0 (omega arith))) (all_of_small xs n (omega (arith, long)) (λ i lt. h (suc i) (omega arith)))

and_false : (b : Bool) → b && false ≡ false
and_false true = refl
and_false false = refl

-- a column that is neither
pub not_all : (bits : List ℕ) (i : ℕ) → 2 ≤ slice_index bits i → all_bits bits ≡ false
unfolding all_bits
not_all [] i h = absurd (omega (arith, h))
not_all (x ∷ xs) zero h = rw (le-ltb x 2 h) refl
not_all (x ∷ xs) (suc i) h = rw (not_all xs i h) (and_false (nat_lt x 2))

-- the word of columns that are bits
pub record Known (bits : List ℕ) (word : ℕ) : Type 0 where
  pub fits : word < 2 ^ 32
  pub are : BitsOf bits word

by_test : (bits : List ℕ) (word : ℕ) (b : Bool) → all_bits bits ≡ b → word_if_bits bits ≡ Some word → Known bits word
unfolding word_if_bits
by_test bits word true t h =
    let is : word_by bits ≡ word = cc in
    let small = small_of_all bits t in
    record { fits = subst (λ (w : ℕ). w < 2 ^ 32) is (word_by-lt bits small); are = subst (BitsOf bits) is (bits_make bits small) }
by_test bits word false t h = absurd (cc)

pub known : (bits : List ℕ) (word : ℕ) → word_if_bits bits ≡ Some word → Known bits word
known bits word h = by_test bits word (all_bits bits) refl h

-- Functions of known words.

pub sums_known : (bits : List ℕ) (w : ℕ) → word_if_bits bits ≡ Some w → halves_filled w ≡ halves_by field bits
sums_known bits w h =
    let k = known bits w h in
    halves_one _ _ w (halves_filled_are w k.fits) (halves_of_bits bits w k.fits k.are)

pub big_sigma_known : (j k l : ℕ) (bits : List ℕ) (w : ℕ) → j < 32 → k < 32 → l < 32 → word_if_bits bits ≡ Some w
    → halves_filled (bit_xor (bit_xor (rotate_right w32 w j) (rotate_right w32 w k)) (rotate_right w32 w l)) ≡ halves_by field (big_sigma_bits field j k l bits)
big_sigma_known j k l bits w pj pk pl h =
    let known_w = known bits w h in
    let low = big_sigma-lt j k l w pj pk pl known_w.fits in
    halves_one _ _ _ (halves_filled_are _ low) (halves_of_bits _ _ low (big_sigma_is j k l bits w pj pk pl known_w.fits known_w.are))

shifted-lt : (w l : ℕ) → w < 2 ^ 32 → w / 2 ^ l < 2 ^ 32
shifted-lt w l low = omega (arith, div-le_self w (2 ^ l), low)

pub small_sigma_known : (j k l : ℕ) (bits : List ℕ) (w : ℕ) → j < 32 → k < 32 → word_if_bits bits ≡ Some w
    → halves_filled (bit_xor (bit_xor (rotate_right w32 w j) (rotate_right w32 w k)) (w / 2 ^ l)) ≡ halves_by field (small_sigma_bits field j k l bits)
small_sigma_known j k l bits w pj pk h =
    let known_w = known bits w h in
    let low = small_sigma-lt j k l w pj pk known_w.fits (shifted-lt w l known_w.fits) in
    halves_one _ _ _ (halves_filled_are _ low) (halves_of_bits _ _ low (small_sigma_is j k l bits w pj pk known_w.fits known_w.are))

pub choice_known : (x y z : List ℕ) (u v w : ℕ) → word_if_bits x ≡ Some u → word_if_bits y ≡ Some v → word_if_bits z ≡ Some w → halves_filled (ch u v w) ≡ halves_by field (choice_bits field x y z)
choice_known x y z u v w p q r =
    let a = known x u p in
    let b = known y v q in
    let c = known z w r in
    let is = choice_halves x y z u v w a.fits b.fits c.fits a.are b.are c.are in
    halves_one _ _ _ (halves_filled_are _ is.below) is

pub majority_known : (x y z : List ℕ) (u v w : ℕ) → word_if_bits x ≡ Some u → word_if_bits y ≡ Some v → word_if_bits z ≡ Some w → halves_filled (maj u v w) ≡ halves_by field (majority_bits field x y z)
majority_known x y z u v w p q r =
    let a = known x u p in
    let b = known y v q in
    let c = known z w r in
    let is = majority_halves x y z u v w a.fits b.fits c.fits a.are b.are c.are in
    halves_one _ _ _ (halves_filled_are _ is.below) is

-- The loop that makes the word.

word_below : (bits : List ℕ) (i w : ℕ) → w ≡ number_of_digits 2 (λ k. slice_index bits k) i → ((k : ℕ) → k < i → slice_index bits k < 2) → w < 2 ^ i
word_below bits i w is small = rw is (number_of_digits-lt 2 (λ k. slice_index bits k) i small)

-- over plain numbers
added : (w b p : ℕ) → b < 2 → p ≤ 2147483648 → w + b * p % 18446744073709551616 ≡ w + b * p
added w zero p small low = omega arith
added w (suc zero) p small low = omega arith
added w (suc (suc b)) p small low = absurd (omega arith)

power_low : (i : ℕ) → i < 32 → 2 ^ i ≤ 2147483648
power_low i low = let up : i ≤ 31 = omega arith in pow_mono up

pub word_more : (bits : List ℕ) (i w b : ℕ) → i < 32 → b ≡ slice_index bits i → b < 2 → w ≡ number_of_digits 2 (λ k. slice_index bits k) i
    → w + b * 2 ^ i % 18446744073709551616 ≡ number_of_digits 2 (λ k. slice_index bits k) (i + 1)
unfolding number_of_digits
word_more bits i w b low is small before =
    let next : suc i ≡ i + 1 = omega arith in
    added w b (2 ^ i) small (power_low i low) ∙ (λ t. before t + is t * 2 ^ i) ∙ ap (number_of_digits 2 (λ k. slice_index bits k)) next

pub small_more : (bits : List ℕ) (i b : ℕ) → b ≡ slice_index bits i → b < 2 → ((k : ℕ) → k < i → slice_index bits k < 2) → (k : ℕ) → k < i + 1 → slice_index bits k < 2
small_more bits i b is small before k low = elim (cases_lt k i) [
  | inl under ↦ before k under
  | inr over ↦ let same : i ≡ k = omega arith in subst (λ (j : ℕ). slice_index bits j < 2) same (omega (arith, is, small))
]

pub more_fits : (bits : List ℕ) (i w b : ℕ) → i < 32 → b < 2 → w ≡ number_of_digits 2 (λ k. slice_index bits k) i → ((k : ℕ) → k < i → slice_index bits k < 2)
    → w + b * 2 ^ i % 18446744073709551616 < 18446744073709551616
more_fits bits i w zero low small is under = omega (arith, word_below bits i w is under, power_low i low)
more_fits bits i w (suc zero) low small is under = omega (arith, word_below bits i w is under, power_low i low)
more_fits bits i w (suc (suc b)) low small is under = absurd (omega arith)

pub whole_fits : (bits : List ℕ) (i w : ℕ) → i ≤ 32 → w ≡ number_of_digits 2 (λ k. slice_index bits k) i → ((k : ℕ) → k < i → slice_index bits k < 2) → w < 4294967296
whole_fits bits i w low is under =
    let most : 2 ^ i ≤ 2 ^ 32 = pow_mono low in
    omega (arith, word_below bits i w is under, most)

pub word_made : (bits : List ℕ) (w : ℕ) → length bits ≡ 32 → w ≡ number_of_digits 2 (λ k. slice_index bits k) 32 → ((k : ℕ) → k < 32 → slice_index bits k < 2) → Some w ≡ word_if_bits bits
unfolding word_if_bits word_by
word_made bits w long is under = rw (all_of_small bits 32 long under) (ap (λ (n : ℕ). Some n) is)

pub none_made : (bits : List ℕ) (i b : ℕ) → b ≡ slice_index bits i → 1 < b → None ≡ word_if_bits bits
unfolding word_if_bits
none_made bits i b is high = rw (not_all bits i (omega (arith, is))) refl
