-- A word and its limbs, halves, bits and rotations.
use Rattle.std.proofs.Common.{◌≡◌, ℕ, zero, suc, ◌+◌, ◌-◌, ◌*◌, ◌/◌, ◌%◌, ◌^◌, ◌<◌, ◌≤◌, List, length, get_or, slice_index, Bool, nat_eq, w32, sym, ap, ◌∙◌, arith, mod-lt, pow_pos, inl, inr, lit<, add-zero, bit_or}
use Rattle.std.proofs.Math.Nat.{mod-eq_of_lt, mul-mod_left}
use Rattle.std.proofs.lemmas.Nat.{mod-pow-add, mul-add-lt, pow-add, or_comm, or_shifted, shl-shr, shr-shr, shr_below, shr_split}
use Rattle.std.proofs.lemmas.Nat.Bits.{bit_at-lt, bit_at_cat_high, bit_at_cat_low}
use Rattle.std.proofs.lemmas.Bool.{cases_lt}
use Rattle.std.proofs.lemmas.List.FromFn.{get_or-map-range_with_len, length-map-range_with_len}
use Rattle.std.proofs.lemmas.Grind.{common_steps}
use Rattle.std.specs.Int.{bit_at, cast_signed, from_bool, rotate_right}
use Rattle.std.specs.Int.Bits.{or_self}
use Rattle.vm_word.proofs.DigitLemmas.{number_of_digits-digit, number_of_digits-same}
use Rattle.vm_word.specs.Digits.{number_of_digits}
use Rattle.vm_word.specs.Word.{bits_of, half, limb, limbs_of, signed_value, word_of_bits, word_of_limbs}

-- ---- limbs and halves

pub limb-lt : (word i : ℕ) → limb word i < 256
limb-lt word i = omega arith

pub half-lt : (word i : ℕ) → half word i < 65536
half-lt word i = omega arith

pub word_of_limbs-lt : (limbs : List ℕ) → ((i : ℕ) → i < 4 → slice_index limbs i < 256) → word_of_limbs limbs < 2 ^ 32
word_of_limbs-lt limbs below = omega (arith, below 0 (lit< tt), below 1 (lit< tt), below 2 (lit< tt), below 3 (lit< tt))

pub word_of_limbs-limbs_of : (word : ℕ) → word < 2 ^ 32 → word_of_limbs (limbs_of word) ≡ word
word_of_limbs-limbs_of word fits = omega arith

pub limbs_of-word_of_limbs : (limbs : List ℕ) → length limbs ≡ 4 → ((i : ℕ) → i < 4 → slice_index limbs i < 256)
    → limbs_of (word_of_limbs limbs) ≡ limbs
limbs_of-word_of_limbs limbs long below = grind (arith, common_steps)

pub word-halves : (word : ℕ) → word < 2 ^ 32 → word ≡ half word 0 + half word 1 * 65536
word-halves word fits = omega arith

-- ---- the signed value

-- std's cast is this one
pub cast_signed-is : (word : ℕ) → word < 2 ^ 32 → cast_signed w32 word ≡ signed_value word
cast_signed-is word fits = grind (arith, common_steps)

pub same_from_signed_value : (a b : ℕ) → a < 2 ^ 32 → b < 2 ^ 32 → signed_value a ≡ signed_value b → a ≡ b
same_from_signed_value a b fits_a fits_b same = grind (arith, common_steps)

-- ---- bits

pub length-bits_of : (word : ℕ) → length (bits_of word) ≡ 32
unfolding bits_of
length-bits_of word = length-map-range_with_len (λ i. nat_eq (bit_at word i) 1) 0 32

pub get_or-bits_of : (word i : ℕ) (d : Bool) → i < 32 → get_or (bits_of word) i d ≡ nat_eq (bit_at word i) 1
unfolding bits_of
get_or-bits_of word i d lt = get_or-map-range_with_len (λ i. nat_eq (bit_at word i) 1) 0 32 i i d lt (omega arith)

-- a word is the sum of its bits
pub number_of_digits-bit_at : (word : ℕ) → word < 2 ^ 32 → number_of_digits 2 (bit_at word) 32 ≡ word
number_of_digits-bit_at word fits = number_of_digits-digit 2 word 32 (lit< tt) ∙ mod-eq_of_lt fits

bit_from_test : (b : ℕ) → b < 2 → from_bool (nat_eq b 1) ≡ b
bit_from_test b lt = grind arith

pub word_of_bits-bits_of : (word : ℕ) → word < 2 ^ 32 → word_of_bits (bits_of word) ≡ word
word_of_bits-bits_of word fits =
    number_of_digits-same 2 _ (bit_at word) 32 (λ i lt. rw (get_or-bits_of word i _ lt) (bit_from_test _ (bit_at-lt word i)))
    ∙ number_of_digits-bit_at word fits

-- ---- rotations

-- the lowest `by` bits go above the others, for `by` up to 32
abbrev pub rotated_right : ℕ → ℕ → ℕ
rotated_right word by = word / 2 ^ by + word % 2 ^ by * 2 ^ (32 - by)

high_lt : (word by : ℕ) → word < 2 ^ 32 → by ≤ 32 → word / 2 ^ by < 2 ^ (32 - by)
high_lt word by fits le =
    let e : 32 ≡ 32 - by + by = omega arith in
    shr_below word (32 - by) by (rw (← e) fits)

-- a shift left keeps only the bits that stay within the word
kept_low : (word by : ℕ) → word < 2 ^ 32 → by ≤ 32 → word * 2 ^ (32 - by) % 2 ^ 32 ≡ word % 2 ^ by * 2 ^ (32 - by)
kept_low word by fits le =
    let j : ℕ = 32 - by in
    let e : 32 ≡ by + j = omega arith in
    let clear : word * 2 ^ j % 2 ^ j ≡ 0 = mul-mod_left word (2 ^ j) in
    ap (λ (i : ℕ). word * 2 ^ j % 2 ^ i) e ∙ mod-pow-add (word * 2 ^ j) by j ∙ rw (shl-shr word j, clear) (add-zero _)

-- std's rotation is this one
pub rotate_right-is : (word by : ℕ) → word < 2 ^ 32 → by < 32 → rotate_right w32 word by ≡ rotated_right word by
rotate_right-is word zero fits lt =
    let one : word / 2 ^ 0 ≡ word = omega arith in
    let same : word * 2 ^ 0 % 2 ^ 32 ≡ word = omega arith in
    let none : word % 2 ^ 0 * 2 ^ 32 ≡ 0 = omega arith in
    ap (bit_or (word / 2 ^ 0)) (same ∙ sym one) ∙ or_self (word / 2 ^ 0) ∙ omega arith
rotate_right-is word (suc k) fits lt =
    let by : ℕ = suc k in
    let here : by % 32 ≡ by = mod-eq_of_lt lt in
    let there : (32 - by) % 32 ≡ 32 - by = omega arith in
    let low = kept_low word by fits (omega arith) in
    rw (here, there, low) (or_comm (word / 2 ^ by) (word % 2 ^ by * 2 ^ (32 - by))
    ∙ or_shifted (word % 2 ^ by) (32 - by) (word / 2 ^ by) (high_lt word by fits (omega arith)) ∙ omega arith)

pub rotated_right-lt : (word by : ℕ) → word < 2 ^ 32 → by ≤ 32 → rotated_right word by < 2 ^ 32
rotated_right-lt word by fits le =
    let j : ℕ = 32 - by in
    let split : 32 ≡ j + by = omega arith in
    let whole : 2 ^ 32 ≡ 2 ^ j * 2 ^ by = ap (λ (e : ℕ). 2 ^ e) split ∙ pow-add 2 j by in
    let below = mul-add-lt (word % 2 ^ by) (2 ^ j) (word / 2 ^ by) (2 ^ by) (mod-lt _ (pow_pos by)) (high_lt word by fits le) in
    omega (arith, whole, below)

bit_at-mod : (n k i : ℕ) → i < k → bit_at (n % 2 ^ k) i ≡ bit_at n i
bit_at-mod n k i lt = sym (bit_at_cat_low (n / 2 ^ k) k (n % 2 ^ k) i lt) ∙ ap (λ (x : ℕ). bit_at x i) (shr_split n k)

-- a rotation moves bit i to place i - by, modulo 32
pub bit_at-rotated_right : (word by i : ℕ) → word < 2 ^ 32 → by < 32 → i < 32
    → bit_at (rotated_right word by) i ≡ bit_at word ((i + by) % 32)
bit_at-rotated_right word by i fits lt within =
    let j : ℕ = 32 - by in
    let high : ℕ = word % 2 ^ by in
    let low : ℕ = word / 2 ^ by in
    let low_fits : low < 2 ^ j = high_lt word by fits (omega arith) in
    let turned : rotated_right word by ≡ high * 2 ^ j + low = omega arith in
    ap (λ (x : ℕ). bit_at x i) turned ∙ elim (cases_lt i j) [
      | inl under ↦
          let place : (i + by) % 32 ≡ by + i = omega arith in
          bit_at_cat_low high j low i under ∙ rw place (ap (λ (x : ℕ). x % 2) (shr-shr word by i))
      | inr over ↦
          let place : (i + by) % 32 ≡ i - j = omega arith in
          bit_at_cat_high high j low i low_fits over ∙ rw place (bit_at-mod word by (i - j) (omega arith))
    ]

pub bit_at-rotate_right : (word by i : ℕ) → word < 2 ^ 32 → by < 32 → i < 32
    → bit_at (rotate_right w32 word by) i ≡ bit_at word ((i + by) % 32)
bit_at-rotate_right word by i fits lt within = ap (λ (x : ℕ). bit_at x i) (rotate_right-is word by fits lt) ∙ bit_at-rotated_right word by i fits lt within
