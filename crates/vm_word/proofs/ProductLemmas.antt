-- The low and the high word of a product, by the signs of the factors.
use Rattle.std.proofs.Common.{◌≡◌, ℕ, zero, suc, ◌+◌, ◌-◌, ◌*◌, ◌/◌, ◌%◌, ◌^◌, ◌<◌, ◌≤◌, Bool, true, false, refl, sym, ap, subst, ◌∙◌, arith}
use Rattle.std.specs.Prelude.{ℤ, pos, ◌+ℤ◌, ◌*ℤ◌}
use Rattle.std.proofs.Math.IntN.{neg_ℤ}
use Rattle.std.proofs.lemmas.Bool.Decides.{nat_tests}
use Rattle.std.proofs.lemmas.Int.{ints}
use Rattle.std.proofs.lemmas.Nat.{mul-le}
use Rattle.vm_word.specs.Word.{signed_value}
use Rattle.vm_word.specs.Arithmetic.{is_negative, sign_extended_64, low_product, high_product, high_product_signed, high_product_mixed}
use Rattle.vm_word.specs.ArithmeticLaws.{IsWord, UnsignedProductsAreWhole, SignedProductsAreWhole, MixedProductsAreWhole}
use Rattle.vm_word.proofs.SignedLemmas.{signed_by, differ, size, Bounds, bounds, value_of, value_low, value_high, signed_product}

-- z is made of the low word of l and the high word of p, which are known modulo 2 ^ 32 and 2 ^ 64
record Halves (z : ℤ) (p l : ℕ) : Type 0 where
  is_word : IsWord (p % 2 ^ 64 / 2 ^ 32)
  whole : z ≡ pos (l % 2 ^ 32) +ℤ pos (2 ^ 32) *ℤ signed_value (p % 2 ^ 64 / 2 ^ 32)

joined : (z v : ℤ) (p l high low : ℕ) → p % 2 ^ 64 / 2 ^ 32 ≡ high → l % 2 ^ 32 ≡ low → signed_value high ≡ v → pos (2 ^ 32) *ℤ v ≡ z
    → pos low +ℤ z ≡ pos (l % 2 ^ 32) +ℤ pos (2 ^ 32) *ℤ signed_value (p % 2 ^ 64 / 2 ^ 32)
joined z v p l high low h r value times =
    ap (λ (y : ℤ). pos low +ℤ y) (sym times ∙ ap (λ (y : ℤ). pos (2 ^ 32) *ℤ y) (sym value))
    ∙ ap (λ (x : ℕ). pos x +ℤ pos (2 ^ 32) *ℤ signed_value high) (sym r)
    ∙ ap (λ (x : ℕ). pos (l % 2 ^ 32) +ℤ pos (2 ^ 32) *ℤ signed_value x) (sym h)

halves_some : (t p k l j : ℕ) → t < 2 ^ 63 → p ≡ t + 2 ^ 64 * k → l ≡ t + 2 ^ 32 * j → Halves (pos t) p l
halves_some t p k l j small high low =
    let h : p % 2 ^ 64 / 2 ^ 32 ≡ t / 2 ^ 32 = omega arith in
    let r : l % 2 ^ 32 ≡ t % 2 ^ 32 = omega arith in
    let value = value_low (t / 2 ^ 32) (omega arith) in
    let times : pos (2 ^ 32) *ℤ pos (t / 2 ^ 32) ≡ pos (2 ^ 32 * (t / 2 ^ 32)) = signed_product false false (2 ^ 32) (t / 2 ^ 32) in
    let made : pos t ≡ pos (t % 2 ^ 32) +ℤ pos (2 ^ 32 * (t / 2 ^ 32)) = omega (arith, ints) in
    record { is_word = omega arith; whole = made ∙ joined (pos (2 ^ 32 * (t / 2 ^ 32))) (pos (t / 2 ^ 32)) p l (t / 2 ^ 32) (t % 2 ^ 32) h r value times }

halves_less : (t p k l j : ℕ) → t ≤ 2 ^ 63 → p + t ≡ 2 ^ 64 * k → l + t ≡ 2 ^ 32 * j → Halves (neg_ℤ (pos t)) p l
halves_less zero p k l j small high low = halves_some 0 p k l j (omega arith) (omega arith) (omega arith)
halves_less (suc n) p k l j small high low =
    let t : ℕ = suc n in
    let d : ℕ = 2 ^ 64 - t in
    let h : p % 2 ^ 64 / 2 ^ 32 ≡ d / 2 ^ 32 = omega arith in
    let r : l % 2 ^ 32 ≡ d % 2 ^ 32 = omega arith in
    let value = value_high (d / 2 ^ 32) (omega arith) (omega arith) in
    let times : pos (2 ^ 32) *ℤ neg_ℤ (pos (2 ^ 32 - d / 2 ^ 32)) ≡ neg_ℤ (pos (2 ^ 32 * (2 ^ 32 - d / 2 ^ 32))) = signed_product false true (2 ^ 32) (2 ^ 32 - d / 2 ^ 32) in
    let made : neg_ℤ (pos t) ≡ pos (d % 2 ^ 32) +ℤ neg_ℤ (pos (2 ^ 32 * (2 ^ 32 - d / 2 ^ 32))) = omega (arith, ints) in
    record { is_word = omega arith; whole = made ∙ joined (neg_ℤ (pos (2 ^ 32 * (2 ^ 32 - d / 2 ^ 32)))) (neg_ℤ (pos (2 ^ 32 - d / 2 ^ 32))) p l (d / 2 ^ 32) (d % 2 ^ 32) h r value times }

-- a word with 64 bits, by its sign
abbrev extended : Bool → ℕ → ℕ
extended true a = a + (2 ^ 64 - 2 ^ 32)
extended false a = a

-- one negative factor: what is left to a multiple
less : (a m b : ℕ) → a + m ≡ 2 ^ 32 → ((a + (2 ^ 64 - 2 ^ 32)) * b + m * b ≡ 2 ^ 64 * b) × (a * b + m * b ≡ 2 ^ 32 * b)
less a m b e = let times = ap (λ (x : ℕ). x * b) e in (omega (arith, times), omega (arith, times))

-- two negative factors
both : (a m b n : ℕ) → a + m ≡ 2 ^ 32 → b + n ≡ 2 ^ 32 → m ≤ 2 ^ 31 → n ≤ 2 ^ 31
    → ((a + (2 ^ 64 - 2 ^ 32)) * (b + (2 ^ 64 - 2 ^ 32)) ≡ m * n + 2 ^ 64 * (2 ^ 64 - (m + n))) × (a * b ≡ m * n + 2 ^ 32 * (2 ^ 32 - (m + n)))
both a m b n e f low high =
    let first : a * b + m * b ≡ 2 ^ 32 * b = omega (arith, ap (λ (x : ℕ). x * b) e) in
    let second : m * b + m * n ≡ 2 ^ 32 * m = omega (arith, ap (λ (x : ℕ). m * x) f) in
    (omega (arith, first, second), omega (arith, first, second))

halves_signed : (s t : Bool) (a b : ℕ) → Bounds s a → Bounds t b → Halves (signed_by (differ s t) (size s a * size t b)) (extended s a * extended t b) (a * b)
halves_signed false false a b h k =
    let low : a * b ≤ 2 ^ 31 * 2 ^ 31 = mul-le a b (2 ^ 31) (2 ^ 31) (omega (arith, h)) (omega (arith, k)) in
    halves_some (a * b) (a * b) 0 (a * b) 0 (omega (arith, low)) (omega arith) (omega arith)
halves_signed true false a b h k =
    let m : ℕ = 2 ^ 32 - a in
    let e : a + m ≡ 2 ^ 32 = omega (arith, h.1) in
    let low : m * b ≤ 2 ^ 31 * 2 ^ 31 = mul-le m b (2 ^ 31) (2 ^ 31) (omega (arith, h.0)) (omega (arith, k)) in
    let parts = less a m b e in
    halves_less (m * b) ((a + (2 ^ 64 - 2 ^ 32)) * b) b (a * b) b (omega (arith, low)) parts.0 parts.1
halves_signed false true a b h k =
    let n : ℕ = 2 ^ 32 - b in
    let e : b + n ≡ 2 ^ 32 = omega (arith, k.1) in
    let low : a * n ≤ 2 ^ 31 * 2 ^ 31 = mul-le a n (2 ^ 31) (2 ^ 31) (omega (arith, h)) (omega (arith, k.0)) in
    let parts = less b n a e in
    halves_less (a * n) (a * (b + (2 ^ 64 - 2 ^ 32))) a (a * b) a (omega (arith, low)) (omega (arith, parts.0)) (omega (arith, parts.1))
halves_signed true true a b h k =
    let m : ℕ = 2 ^ 32 - a in
    let n : ℕ = 2 ^ 32 - b in
    let low : m * n ≤ 2 ^ 31 * 2 ^ 31 = mul-le m n (2 ^ 31) (2 ^ 31) (omega (arith, h.0)) (omega (arith, k.0)) in
    let parts = both a m b n (omega (arith, h.1)) (omega (arith, k.1)) (omega (arith, h.0)) (omega (arith, k.0)) in
    halves_some (m * n) ((a + (2 ^ 64 - 2 ^ 32)) * (b + (2 ^ 64 - 2 ^ 32))) (2 ^ 64 - (m + n)) (a * b) (2 ^ 32 - (m + n)) (omega (arith, low)) parts.0 parts.1

times_pos : (s : Bool) (m n : ℕ) → signed_by s m *ℤ pos n ≡ signed_by s (m * n)
times_pos true m n = signed_product true false m n
times_pos false m n = signed_product false false m n

halves_mixed : (s : Bool) (a b : ℕ) → Bounds s a → b < 2 ^ 32 → Halves (signed_by s (size s a * b)) (extended s a * b) (a * b)
halves_mixed false a b h k =
    let low : a * b ≤ (2 ^ 31 - 1) * 2 ^ 32 = mul-le a b (2 ^ 31 - 1) (2 ^ 32) (omega (arith, h)) (omega (arith, k)) in
    halves_some (a * b) (a * b) 0 (a * b) 0 (omega (arith, low)) (omega arith) (omega arith)
halves_mixed true a b h k =
    let m : ℕ = 2 ^ 32 - a in
    let e : a + m ≡ 2 ^ 32 = omega (arith, h.1) in
    let low : m * b ≤ 2 ^ 31 * 2 ^ 32 = mul-le m b (2 ^ 31) (2 ^ 32) (omega (arith, h.0)) (omega (arith, k)) in
    let parts = less a m b e in
    halves_less (m * b) ((a + (2 ^ 64 - 2 ^ 32)) * b) b (a * b) b (omega (arith, low)) parts.0 parts.1

extended_is : (s : Bool) (a : ℕ) → is_negative a ≡ s → sign_extended_64 a ≡ extended s a
extended_is true a e = rw e refl
extended_is false a e = rw e refl

signed_by_signs : (s t : Bool) (a b : ℕ) → a < 2 ^ 32 → b < 2 ^ 32 → is_negative a ≡ s → is_negative b ≡ t
    → IsWord (high_product_signed a b) × (signed_value a *ℤ signed_value b ≡ pos (low_product a b) +ℤ pos (2 ^ 32) *ℤ signed_value (high_product_signed a b))
signed_by_signs s t a b p q e f =
    let h = bounds s a p e in
    let k = bounds t b q f in
    let halves = halves_signed s t a b h k in
    let product : signed_value a *ℤ signed_value b ≡ signed_by (differ s t) (size s a * size t b) =
    ap (λ (z : ℤ). z *ℤ signed_value b) (value_of s a h) ∙ ap (λ (z : ℤ). signed_by s (size s a) *ℤ z) (value_of t b k) ∙ signed_product s t (size s a) (size t b) in
    let factors : extended s a * extended t b ≡ sign_extended_64 a * sign_extended_64 b =
    sym (ap (λ (x : ℕ). x * sign_extended_64 b) (extended_is s a e) ∙ ap (λ (x : ℕ). extended s a * x) (extended_is t b f)) in
    (subst (λ (x : ℕ). IsWord (x % 2 ^ 64 / 2 ^ 32)) factors halves.is_word, product ∙ halves.whole ∙ ap (λ (x : ℕ). pos (low_product a b) +ℤ pos (2 ^ 32) *ℤ signed_value (x % 2 ^ 64 / 2 ^ 32)) factors)

mixed_by_sign : (s : Bool) (a b : ℕ) → a < 2 ^ 32 → b < 2 ^ 32 → is_negative a ≡ s
    → IsWord (high_product_mixed a b) × (signed_value a *ℤ pos b ≡ pos (low_product a b) +ℤ pos (2 ^ 32) *ℤ signed_value (high_product_mixed a b))
mixed_by_sign s a b p q e =
    let h = bounds s a p e in
    let halves = halves_mixed s a b h q in
    let product : signed_value a *ℤ pos b ≡ signed_by s (size s a * b) = ap (λ (z : ℤ). z *ℤ pos b) (value_of s a h) ∙ times_pos s (size s a) b in
    let factor : extended s a * b ≡ sign_extended_64 a * b = sym (ap (λ (x : ℕ). x * b) (extended_is s a e)) in
    (subst (λ (x : ℕ). IsWord (x % 2 ^ 64 / 2 ^ 32)) factor halves.is_word, product ∙ halves.whole ∙ ap (λ (x : ℕ). pos (low_product a b) +ℤ pos (2 ^ 32) *ℤ signed_value (x % 2 ^ 64 / 2 ^ 32)) factor)

pub unsigned_products : UnsignedProductsAreWhole
unsigned_products a b p q =
    let low : a * b ≤ (2 ^ 32 - 1) * (2 ^ 32 - 1) = mul-le a b (2 ^ 32 - 1) (2 ^ 32 - 1) (omega arith) (omega arith) in
    (omega (arith, low), omega arith)

pub signed_products : SignedProductsAreWhole
signed_products a b p q = signed_by_signs (is_negative a) (is_negative b) a b p q refl refl

pub mixed_products : MixedProductsAreWhole
mixed_products a b p q = mixed_by_sign (is_negative a) a b p q refl
