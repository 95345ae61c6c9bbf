-- Signed words as a sign and a magnitude.
use Rattle.std.proofs.Common.{◌≡◌, ℕ, zero, suc, ◌+◌, ◌-◌, ◌*◌, ◌/◌, ◌%◌, ◌^◌, ◌<◌, ◌≤◌, Bool, true, false, cond, refl, sym, ap, ◌∙◌, arith, not, nat_lt}
use Rattle.std.specs.Prelude.{ℤ, pos, ◌+ℤ◌, ◌*ℤ◌}
use Rattle.std.proofs.Math.IntN.{negsuc, neg_ℤ, *ℤ_comm, pos-*ℤ-pos, negsuc-*ℤ-pos, negsuc-*ℤ-negsuc, zero-*ℤ, *ℤ-zero}
use Rattle.std.proofs.lemmas.Bool.Decides.{nat_tests}
use Rattle.std.proofs.lemmas.Int.{ints}
use Rattle.vm_word.specs.Word.{signed_value}
use Rattle.vm_word.specs.Arithmetic.{is_negative, magnitude, negated_if}

-- a number with a sign
abbrev pub signed_by : Bool → ℕ → ℤ
signed_by negative n = cond negative (neg_ℤ (pos n)) (pos n)

-- whether two signs differ
abbrev pub differ : Bool → Bool → Bool
differ true true = false
differ true false = true
differ false true = true
differ false false = false

pub value_low : (w : ℕ) → w < 2 ^ 31 → signed_value w ≡ pos w
value_low w low = grind (arith, nat_tests)

pub value_high : (w : ℕ) → 2 ^ 31 ≤ w → w < 2 ^ 32 → signed_value w ≡ neg_ℤ (pos (2 ^ 32 - w))
value_high w high fits =
    let test : nat_lt w (2 ^ 31) ≡ false = grind (arith, nat_tests) in
    rw test (omega (arith, ints))

neg_pos : (m n : ℕ) → neg_ℤ (pos m) *ℤ pos n ≡ neg_ℤ (pos (m * n))
neg_pos zero n = let none : zero * n ≡ 0 = omega arith in zero-*ℤ (pos n) ∙ rw none refl
neg_pos (suc m) n = negsuc-*ℤ-pos m n

pos_neg : (m n : ℕ) → pos m *ℤ neg_ℤ (pos n) ≡ neg_ℤ (pos (m * n))
pos_neg m n = let turned : n * m ≡ m * n = omega arith in *ℤ_comm (pos m) (neg_ℤ (pos n)) ∙ neg_pos n m ∙ ap (λ (k : ℕ). neg_ℤ (pos k)) turned

neg_neg : (m n : ℕ) → neg_ℤ (pos m) *ℤ neg_ℤ (pos n) ≡ pos (m * n)
neg_neg zero n = let none : zero * n ≡ 0 = omega arith in zero-*ℤ (neg_ℤ (pos n)) ∙ rw none refl
neg_neg (suc m) zero = let none : suc m * zero ≡ 0 = omega arith in *ℤ-zero (negsuc m) ∙ rw none refl
neg_neg (suc m) (suc n) = negsuc-*ℤ-negsuc m n

pub signed_product : (s t : Bool) (m n : ℕ) → signed_by s m *ℤ signed_by t n ≡ signed_by (differ s t) (m * n)
signed_product true true m n = neg_neg m n
signed_product true false m n = neg_pos m n
signed_product false true m n = pos_neg m n
signed_product false false m n = pos-*ℤ-pos m n

pub signed_sum : (s : Bool) (m n : ℕ) → signed_by s m +ℤ signed_by s n ≡ signed_by s (m + n)
signed_sum true m n = omega (arith, ints)
signed_sum false m n = omega (arith, ints)

-- the bounds that a sign says
abbrev pub Bounds : Bool → ℕ → Type 0
Bounds true w = (2 ^ 31 ≤ w) × (w < 2 ^ 32)
Bounds false w = w < 2 ^ 31

pub bounds : (s : Bool) (w : ℕ) → w < 2 ^ 32 → is_negative w ≡ s → Bounds s w
bounds true w fits e = (grind (arith, nat_tests), fits)
bounds false w fits e = grind (arith, nat_tests)

-- the magnitude of a word of this sign
abbrev pub size : Bool → ℕ → ℕ
size true w = 2 ^ 32 - w
size false w = w

pub magnitude_is : (s : Bool) (w : ℕ) → is_negative w ≡ s → magnitude w ≡ size s w
magnitude_is true w e = rw e refl
magnitude_is false w e = rw e refl

pub size_small : (s : Bool) (w : ℕ) → Bounds s w → size s w ≤ 2 ^ 31
size_small true w h = omega (arith, h.0)
size_small false w h = omega (arith, h)

-- a word is its magnitude with its sign
pub value_of : (s : Bool) (w : ℕ) → Bounds s w → signed_value w ≡ signed_by s (size s w)
value_of true w h = value_high w h.0 h.1
value_of false w h = value_low w h

-- what is negated has the other sign
pub value_negated : (s : Bool) (n : ℕ) → n ≤ 2 ^ 31 → (s ≡ false → n < 2 ^ 31) → signed_value (negated_if s n) ≡ signed_by s n
value_negated false n least low = value_low n (low refl)
value_negated true zero least low = refl
value_negated true (suc n) least low =
    let word : (2 ^ 32 - suc n) % 2 ^ 32 ≡ 2 ^ 32 - suc n = omega arith in
    let back : 2 ^ 32 - (2 ^ 32 - suc n) ≡ suc n = omega arith in
    rw word (value_high (2 ^ 32 - suc n) (omega arith) (omega arith) ∙ ap (λ (k : ℕ). neg_ℤ (pos k)) back)
