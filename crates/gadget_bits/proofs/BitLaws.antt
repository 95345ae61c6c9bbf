-- Halves of 32 bits, and the functions of SHA-256 on bits.
use Rattle.std.proofs.Common.{◌≡◌, ℕ, zero, suc, ◌+◌, ◌-◌, ◌*◌, ◌/◌, ◌%◌, ◌^◌, ◌<◌, ◌≤◌, List, length, map, slice_index, min, add-zero, refl, sym, ap, ◌∙◌, subst, arith, lit<, lit≤, w32, inl, inr, lt-ltb, le-ltb, bit_xor, bit_and}
use Rattle.std.proofs.Math.Nat.{mod-eq_of_lt}
use Rattle.std.proofs.Math.Pow.{pow_mono}
use Rattle.std.proofs.lemmas.Nat.{shr-shr, xor_lt}
use Rattle.std.specs.Int.Bits.{and_lt}
use Rattle.std.proofs.lemmas.Nat.Bits.{bit_at-lt, bit_at_xor, bit_at_and, bit_at_not, bit_at_above}
use Rattle.std.proofs.lemmas.Bool.{cases_lt}
use Rattle.std.proofs.lemmas.List.FromFn.{get_or-map-range_with_len}
use Rattle.std.proofs.lemmas.List.{get_or_past}
use Rattle.vm_field.specs.Field.{modulus}
use Rattle.air_core.specs.ListLemmas.{below_at}
use Rattle.air_core.specs.lemmas.Cells.{length-cells}
use Rattle.std.specs.Int.{bit_at, bit_not, rotate_right}
use Rattle.vm_field.proofs.Constraints.{boolean_at_most}
use Rattle.air_core.specs.First.{bit}
use Rattle.air_core.specs.Sheet.{AllZero, AllBelow}
use Rattle.vm_word.specs.Digits.{number_of_digits}
use Rattle.vm_word.proofs.DigitLemmas.{number_of_digits-digit, number_of_digits-lt, number_of_digits-same, digit-number_of_digits}
use Rattle.vm_word.proofs.WordLemmas.{rotate_right-is, rotated_right-lt, bit_at-rotated_right}
use Rattle.vm_field.specs.Field.{field_add, field_mul}
use Rattle.sha_words.specs.Sha256.{ch, maj, big_sigma0, big_sigma1, small_sigma0, small_sigma1}
use Rattle.air_core.specs.Ring.{field, cells}
use Rattle.gadget_bits.specs.Bits.{number_by, halves_by, xor3_of, choice_of, majority_of, turned, shifted, big_sigma_bits, small_sigma_bits, choice_bits, majority_bits, BitsOf, HalvesOf, bits_filled, halves_filled, word_by}

-- from sums of the field to whole numbers

one_more : (n w b : ℕ) → n < w → w ≤ 32768 → b < 2 → field_add n (field_mul w b) ≡ n + b * w
one_more n w zero low top bit = omega arith
one_more n w (suc zero) low top bit = omega arith
one_more n w (suc (suc b)) low top bit = absurd (omega arith)

-- up to 16 bits make the same number in the field
number_is : (d : ℕ → ℕ) (k : ℕ) → k ≤ 16 → ((i : ℕ) → i < k → d i < 2) → number_by field d k ≡ number_of_digits 2 d k
unfolding number_by number_of_digits
number_is d zero le bits = refl
number_is d (suc k) le bits =
    let under = λ (i : ℕ) (lt : i < k). bits i (omega arith) in
    let low : number_of_digits 2 d k < 2 ^ k = number_of_digits-lt 2 d k under in
    let small : k ≤ 15 = omega arith in
    let top : 2 ^ k ≤ 2 ^ 15 = pow_mono small in
    rw (number_is d k (omega arith) under) (one_more (number_of_digits 2 d k) (2 ^ k) (d k) low top (bits k (omega arith)))

-- the number that k bits of a word make, from a place on
half_is : (d : ℕ → ℕ) (word : ℕ) → ((i : ℕ) → i < 16 → d i ≡ bit_at word i) → number_by field d 16 ≡ word % 65536
half_is d word are =
    number_is d 16 (lit≤ tt) (λ i lt. rw (are i lt) (bit_at-lt word i))
    ∙ number_of_digits-same 2 d (bit_at word) 16 are ∙ number_of_digits-digit 2 word 16 (lit< tt)

pub halves_of_bits : (bits : List ℕ) (word : ℕ) → word < 2 ^ 32 → BitsOf bits word → HalvesOf (halves_by field bits) word
unfolding halves_by
halves_of_bits bits word fits b =
    let upper : (i : ℕ) → i < 16 → slice_index bits (i + 16) ≡ bit_at (word / 65536) i = λ i lt.
    let place : 16 + i ≡ i + 16 = omega arith in
    b.are (i + 16) (omega arith) ∙ sym (ap (λ (x : ℕ). x % 2) (shr-shr word 16 i) ∙ ap (λ (k : ℕ). bit_at word k) place) in
    let high : word / 65536 < 65536 = omega arith in
    record {
      below = fits;
      lo = half_is (λ i. slice_index bits i) word (λ i lt. b.are i (omega arith));
      hi = half_is (λ i. slice_index bits (i + 16)) (word / 65536) upper ∙ mod-eq_of_lt high;
    }

-- columns of 0 and 1 are the bits of a word
pub bits_make : (bits : List ℕ) → ((i : ℕ) → slice_index bits i < 2) → BitsOf bits (word_by bits)
unfolding word_by
bits_make bits small = record {
  are = λ i lt. sym (digit-number_of_digits 2 (λ k. slice_index bits k) 32 i (λ k h. small k) lt);
}

pub word_by-lt : (bits : List ℕ) → ((i : ℕ) → slice_index bits i < 2) → word_by bits < 2 ^ 32
unfolding word_by
word_by-lt bits small = number_of_digits-lt 2 (λ k. slice_index bits k) 32 (λ k h. small k)

-- two words with the same bits, by the halves
pub same_halves : (v w : ℕ) → v % 65536 ≡ w % 65536 → v / 65536 ≡ w / 65536 → v ≡ w
same_halves v w lo hi = omega arith

-- columns of 0 and 1 with the halves of a word are its bits
pub bits_of_halves : (bits : List ℕ) (word : ℕ) → ((i : ℕ) → slice_index bits i < 2) → HalvesOf (halves_by field bits) word → BitsOf bits word
bits_of_halves bits word small h =
    let own = halves_of_bits bits (word_by bits) (word_by-lt bits small) (bits_make bits small) in
    subst (BitsOf bits) (same_halves (word_by bits) word (sym own.lo ∙ h.lo) (sym own.hi ∙ h.hi)) (bits_make bits small)

-- columns that meet x * (x - 1) = 0 are 0 or 1
bit_small : (x : ℕ) → x < modulus → bit field x ≡ 0 → x < 2
unfolding bit
bit_small x b h = omega (arith, boolean_at_most x b h)

-- n columns from a place on
pub columns_small : (row : List ℕ) (from n i : ℕ) → AllBelow row → AllZero (map (bit field) (cells (slice_index row) from n)) → i < n → slice_index row (from + i) < 2
columns_small row from zero i b h lt = absurd (omega arith)
columns_small row from (suc n) zero b h lt = subst (λ (k : ℕ). slice_index row k < 2) (sym (add-zero from)) (bit_small (slice_index row from) (below_at row from b) h.0)
columns_small row from (suc n) (suc i) b h lt =
    let place : suc from + i ≡ from + suc i = omega arith in
    subst (λ (k : ℕ). slice_index row k < 2) place (columns_small row (suc from) n i b h.1 (omega arith))

-- a column among some
pub index_cells : (at : ℕ → ℕ) (from n i : ℕ) → i < n → slice_index (cells at from n) i ≡ at (from + i)
index_cells at from zero i lt = absurd (omega arith)
index_cells at from (suc n) zero lt = ap at (sym (add-zero from))
index_cells at from (suc n) (suc i) lt = index_cells at (suc from) n i (omega arith) ∙ ap at (omega arith)

pub bits_at_small : (row : List ℕ) (from : ℕ) → ((j : ℕ) → j < 32 → slice_index row (from + j) < 2) → (i : ℕ) → slice_index (cells (slice_index row) from 32) i < 2
bits_at_small row from small i = elim (cases_lt i 32) [
  | inl lt ↦ rw (index_cells (slice_index row) from 32 i lt) (small i lt)
  | inr ge ↦
      let past : length (cells (slice_index row) from 32) ≤ i = omega (arith, length-cells (slice_index row) from 32) in
      rw (get_or_past (cells (slice_index row) from 32) i 0 past) (lit< tt)
]

-- functions of bits

xor3_is : (x y z : ℕ) → x < 2 → y < 2 → z < 2 → xor3_of field x y z ≡ ((x + y) % 2 + z) % 2
unfolding xor3_of
xor3_is zero zero zero a b c = refl
xor3_is zero zero (suc zero) a b c = refl
xor3_is zero (suc zero) zero a b c = refl
xor3_is zero (suc zero) (suc zero) a b c = refl
xor3_is (suc zero) zero zero a b c = refl
xor3_is (suc zero) zero (suc zero) a b c = refl
xor3_is (suc zero) (suc zero) zero a b c = refl
xor3_is (suc zero) (suc zero) (suc zero) a b c = refl
xor3_is (suc (suc x)) y z a b c = absurd (omega arith)
xor3_is x (suc (suc y)) z a b c = absurd (omega arith)
xor3_is x y (suc (suc z)) a b c = absurd (omega arith)

choice_is : (x y z : ℕ) → x < 2 → y < 2 → z < 2 → choice_of field x y z ≡ (min x y + min (1 - x) z) % 2
unfolding choice_of
choice_is zero zero zero a b c = refl
choice_is zero zero (suc zero) a b c = refl
choice_is zero (suc zero) zero a b c = refl
choice_is zero (suc zero) (suc zero) a b c = refl
choice_is (suc zero) zero zero a b c = refl
choice_is (suc zero) zero (suc zero) a b c = refl
choice_is (suc zero) (suc zero) zero a b c = refl
choice_is (suc zero) (suc zero) (suc zero) a b c = refl
choice_is (suc (suc x)) y z a b c = absurd (omega arith)
choice_is x (suc (suc y)) z a b c = absurd (omega arith)
choice_is x y (suc (suc z)) a b c = absurd (omega arith)

majority_is : (x y z : ℕ) → x < 2 → y < 2 → z < 2 → majority_of field x y z ≡ ((min x y + min x z) % 2 + min y z) % 2
unfolding majority_of
majority_is zero zero zero a b c = refl
majority_is zero zero (suc zero) a b c = refl
majority_is zero (suc zero) zero a b c = refl
majority_is zero (suc zero) (suc zero) a b c = refl
majority_is (suc zero) zero zero a b c = refl
majority_is (suc zero) zero (suc zero) a b c = refl
majority_is (suc zero) (suc zero) zero a b c = refl
majority_is (suc zero) (suc zero) (suc zero) a b c = refl
majority_is (suc (suc x)) y z a b c = absurd (omega arith)
majority_is x (suc (suc y)) z a b c = absurd (omega arith)
majority_is x y (suc (suc z)) a b c = absurd (omega arith)

-- functions of words, bit by bit

at_xor3 : (u v w i : ℕ) → bit_at (bit_xor (bit_xor u v) w) i ≡ ((bit_at u i + bit_at v i) % 2 + bit_at w i) % 2
at_xor3 u v w i = bit_at_xor (bit_xor u v) w i ∙ ap (λ (x : ℕ). (x + bit_at w i) % 2) (bit_at_xor u v i)

xor3_at : (u v w i x y z : ℕ) → x ≡ bit_at u i → y ≡ bit_at v i → z ≡ bit_at w i → xor3_of field x y z ≡ bit_at (bit_xor (bit_xor u v) w) i
xor3_at u v w i x y z p q r = (λ t. xor3_of field (p t) (q t) (r t)) ∙ xor3_is (bit_at u i) (bit_at v i) (bit_at w i) (bit_at-lt u i) (bit_at-lt v i) (bit_at-lt w i) ∙ sym (at_xor3 u v w i)

turned_is : (bits : List ℕ) (word by i : ℕ) → word < 2 ^ 32 → by < 32 → i < 32 → BitsOf bits word → turned field bits by i ≡ bit_at (rotate_right w32 word by) i
turned_is bits word by i fits low within b =
    b.are ((i + by) % 32) (omega arith) ∙ sym (ap (λ (x : ℕ). bit_at x i) (rotate_right-is word by fits low) ∙ bit_at-rotated_right word by i fits low within)

shifted_in : (bits : List ℕ) (word by i : ℕ) → BitsOf bits word → i + by < 32 → shifted field bits by i ≡ bit_at (word / 2 ^ by) i
shifted_in bits word by i b within =
    let place : by + i ≡ i + by = omega arith in
    rw (lt-ltb (i + by) 32 within) (b.are (i + by) within ∙ sym (ap (λ (x : ℕ). x % 2) (shr-shr word by i) ∙ ap (λ (k : ℕ). bit_at word k) place))

shifted_out : (bits : List ℕ) (word by i : ℕ) → word < 2 ^ 32 → 32 ≤ i + by → shifted field bits by i ≡ bit_at (word / 2 ^ by) i
shifted_out bits word by i fits past =
    let over : 32 ≤ by + i = omega arith in
    rw (le-ltb (i + by) 32 past) (sym (ap (λ (x : ℕ). x % 2) (shr-shr word by i) ∙ bit_at_above word 32 (by + i) fits over))

shifted_is : (bits : List ℕ) (word by i : ℕ) → word < 2 ^ 32 → BitsOf bits word → shifted field bits by i ≡ bit_at (word / 2 ^ by) i
shifted_is bits word by i fits b = elim (cases_lt (i + by) 32) [
  | inl within ↦ shifted_in bits word by i b within
  | inr past ↦ shifted_out bits word by i fits past
]

pub big_sigma_is : (j k l : ℕ) (bits : List ℕ) (word : ℕ) → j < 32 → k < 32 → l < 32 → word < 2 ^ 32 → BitsOf bits word
    → BitsOf (big_sigma_bits field j k l bits) (bit_xor (bit_xor (rotate_right w32 word j) (rotate_right w32 word k)) (rotate_right w32 word l))
unfolding big_sigma_bits
big_sigma_is j k l bits word pj pk pl fits b = record {
  are = λ i lt. get_or-map-range_with_len (λ n. xor3_of field (turned field bits j n) (turned field bits k n) (turned field bits l n)) 0 32 i i 0 lt (omega arith)
      ∙ xor3_at (rotate_right w32 word j) (rotate_right w32 word k) (rotate_right w32 word l) i _ _ _
      (turned_is bits word j i fits pj lt b) (turned_is bits word k i fits pk lt b) (turned_is bits word l i fits pl lt b);
}

pub small_sigma_is : (j k l : ℕ) (bits : List ℕ) (word : ℕ) → j < 32 → k < 32 → word < 2 ^ 32 → BitsOf bits word
    → BitsOf (small_sigma_bits field j k l bits) (bit_xor (bit_xor (rotate_right w32 word j) (rotate_right w32 word k)) (word / 2 ^ l))
unfolding small_sigma_bits
small_sigma_is j k l bits word pj pk fits b = record {
  are = λ i lt. get_or-map-range_with_len (λ n. xor3_of field (turned field bits j n) (turned field bits k n) (shifted field bits l n)) 0 32 i i 0 lt (omega arith)
      ∙ xor3_at (rotate_right w32 word j) (rotate_right w32 word k) (word / 2 ^ l) i _ _ _
      (turned_is bits word j i fits pj lt b) (turned_is bits word k i fits pk lt b) (shifted_is bits word l i fits b);
}

choice_at : (u v w i x y z : ℕ) → u < 2 ^ 32 → i < 32 → x ≡ bit_at u i → y ≡ bit_at v i → z ≡ bit_at w i → choice_of field x y z ≡ bit_at (ch u v w) i
choice_at u v w i x y z fits lt p q r =
    let left = bit_at_and u v i in
    let right = bit_at_and (bit_not w32 u) w i ∙ ap (λ (n : ℕ). min n (bit_at w i)) (bit_at_not w32 u i fits lt) in
    (λ t. choice_of field (p t) (q t) (r t)) ∙ choice_is (bit_at u i) (bit_at v i) (bit_at w i) (bit_at-lt u i) (bit_at-lt v i) (bit_at-lt w i)
    ∙ sym (bit_at_xor (bit_and u v) (bit_and (bit_not w32 u) w) i ∙ (λ t. (left t + right t) % 2))

pub choice_bits_are : (x y z : List ℕ) (u v w : ℕ) → u < 2 ^ 32 → BitsOf x u → BitsOf y v → BitsOf z w → BitsOf (choice_bits field x y z) (ch u v w)
unfolding choice_bits
choice_bits_are x y z u v w fits a b c = record {
  are = λ i lt. get_or-map-range_with_len (λ n. choice_of field (slice_index x n) (slice_index y n) (slice_index z n)) 0 32 i i 0 lt (omega arith)
      ∙ choice_at u v w i _ _ _ fits lt (a.are i lt) (b.are i lt) (c.are i lt);
}

majority_at : (u v w i x y z : ℕ) → x ≡ bit_at u i → y ≡ bit_at v i → z ≡ bit_at w i → majority_of field x y z ≡ bit_at (maj u v w) i
majority_at u v w i x y z p q r =
    let left = bit_at_and u v i in
    let middle = bit_at_and u w i in
    let right = bit_at_and v w i in
    (λ t. majority_of field (p t) (q t) (r t)) ∙ majority_is (bit_at u i) (bit_at v i) (bit_at w i) (bit_at-lt u i) (bit_at-lt v i) (bit_at-lt w i)
    ∙ sym (at_xor3 (bit_and u v) (bit_and u w) (bit_and v w) i ∙ (λ t. ((left t + middle t) % 2 + right t) % 2))

pub majority_bits_are : (x y z : List ℕ) (u v w : ℕ) → BitsOf x u → BitsOf y v → BitsOf z w → BitsOf (majority_bits field x y z) (maj u v w)
unfolding majority_bits
majority_bits_are x y z u v w a b c = record {
  are = λ i lt. get_or-map-range_with_len (λ n. majority_of field (slice_index x n) (slice_index y n) (slice_index z n)) 0 32 i i 0 lt (omega arith)
      ∙ majority_at u v w i _ _ _ (a.are i lt) (b.are i lt) (c.are i lt);
}

-- these are words

turned-lt : (word by : ℕ) → word < 2 ^ 32 → by < 32 → rotate_right w32 word by < 2 ^ 32
turned-lt word by fits low = rw (rotate_right-is word by fits low) (rotated_right-lt word by fits (omega arith))

pub big_sigma-lt : (j k l word : ℕ) → j < 32 → k < 32 → l < 32 → word < 2 ^ 32 → bit_xor (bit_xor (rotate_right w32 word j) (rotate_right w32 word k)) (rotate_right w32 word l) < 2 ^ 32
big_sigma-lt j k l word pj pk pl fits = xor_lt 32 _ _ (xor_lt 32 _ _ (turned-lt word j fits pj) (turned-lt word k fits pk)) (turned-lt word l fits pl)

pub small_sigma-lt : (j k l word : ℕ) → j < 32 → k < 32 → word < 2 ^ 32 → word / 2 ^ l < 2 ^ 32 → bit_xor (bit_xor (rotate_right w32 word j) (rotate_right w32 word k)) (word / 2 ^ l) < 2 ^ 32
small_sigma-lt j k l word pj pk fits low = xor_lt 32 _ _ (xor_lt 32 _ _ (turned-lt word j fits pj) (turned-lt word k fits pk)) low

-- halves of the functions of SHA-256

module _ (bits : List ℕ) (word : ℕ) (fits : word < 2 ^ 32) (b : BitsOf bits word) where
  pub big_sigma0_halves : HalvesOf (halves_by field (big_sigma_bits field 2 13 22 bits)) (big_sigma0 word)
  big_sigma0_halves = halves_of_bits _ _ (big_sigma-lt 2 13 22 word (lit< tt) (lit< tt) (lit< tt) fits) (big_sigma_is 2 13 22 bits word (lit< tt) (lit< tt) (lit< tt) fits b)

  pub big_sigma1_halves : HalvesOf (halves_by field (big_sigma_bits field 6 11 25 bits)) (big_sigma1 word)
  big_sigma1_halves = halves_of_bits _ _ (big_sigma-lt 6 11 25 word (lit< tt) (lit< tt) (lit< tt) fits) (big_sigma_is 6 11 25 bits word (lit< tt) (lit< tt) (lit< tt) fits b)

  pub small_sigma0_halves : HalvesOf (halves_by field (small_sigma_bits field 7 18 3 bits)) (small_sigma0 word)
  small_sigma0_halves = halves_of_bits _ _ (small_sigma-lt 7 18 3 word (lit< tt) (lit< tt) fits (omega arith)) (small_sigma_is 7 18 3 bits word (lit< tt) (lit< tt) fits b)

  pub small_sigma1_halves : HalvesOf (halves_by field (small_sigma_bits field 17 19 10 bits)) (small_sigma1 word)
  small_sigma1_halves = halves_of_bits _ _ (small_sigma-lt 17 19 10 word (lit< tt) (lit< tt) fits (omega arith)) (small_sigma_is 17 19 10 bits word (lit< tt) (lit< tt) fits b)

module _ (x y z : List ℕ) (u v w : ℕ) (pu : u < 2 ^ 32) (pv : v < 2 ^ 32) (pw : w < 2 ^ 32) (a : BitsOf x u) (b : BitsOf y v) (c : BitsOf z w) where
  pub choice_halves : HalvesOf (halves_by field (choice_bits field x y z)) (ch u v w)
  choice_halves = halves_of_bits _ _ (xor_lt 32 _ _ (and_lt 32 u v pu pv) (and_lt 32 (bit_not w32 u) w (omega arith) pw)) (choice_bits_are x y z u v w pu a b c)

  pub majority_halves : HalvesOf (halves_by field (majority_bits field x y z)) (maj u v w)
  majority_halves = halves_of_bits _ _ (xor_lt 32 _ _ (xor_lt 32 _ _ (and_lt 32 u v pu pv) (and_lt 32 u w pu pw)) (and_lt 32 v w pv pw)) (majority_bits_are x y z u v w a b c)

-- the columns of a word

pub bits_filled_are : (word : ℕ) → BitsOf (bits_filled word) word
unfolding bits_filled
bits_filled_are word = record { are = λ i lt. get_or-map-range_with_len (λ n. bit_at word n) 0 32 i i 0 lt (omega arith) }

pub halves_filled_are : (word : ℕ) → word < 2 ^ 32 → HalvesOf (halves_filled word) word
unfolding halves_filled
halves_filled_are word fits = record { below = fits; lo = refl; hi = refl }
