-- The modulus is prime, by trial division on native numerals, and what follows from it.
use Rattle.std.proofs.Common.{◌≡◌, ◌≢◌, ℕ, zero, suc, ◌+◌, ◌*◌, ◌/◌, ◌%◌, ◌<◌, ◌≤◌, Bool, true, eqb, ◌&&◌, not, refl, sym, ◌∙◌, ap, subst, inl, inr, ⊎_elim, ◌⊎◌, arith}
use Prim.Native.Nat.{◌∣◌}
use Rattle.std.proofs.Math.Nat.{dvd-add_iff_left, dvd-mul_left_of_dvd, dvd-mul_right, dvd_of_mod-eq-zero, mod-eq-zero_of_dvd, mod-lt, mul-mod_left, div-add-mod}
use Rattle.std.proofs.lemmas.Nat.{mul-le, mul-mod_first}
use Rattle.std.proofs.lemmas.Bool.{and_parts, not-true, eqb-false, cases_lt, cases_eq}
use Rattle.vm_field.specs.Field.{modulus}
use Rattle.vm_field.specs.Laws.{ModulusIsPrime}

-- no number among 2 .. n + 1 divides the modulus
none_divides : ℕ → Bool
none_divides zero = true
none_divides (suc n) = not (eqb (modulus % (n + 2)) 0) && none_divides n

-- 44872 is above the square root of the modulus
none_divides-all : none_divides 44870 ≡ true
unfolding none_divides
none_divides-all = refl

none_divides-at : (n d : ℕ) → none_divides n ≡ true → 1 < d → d < n + 2 → modulus % d ≢ 0
unfolding none_divides
none_divides-at zero d h low high = absurd (omega arith)
none_divides-at (suc n) d h low high =
    let parts = and_parts (not (eqb (modulus % (n + 2)) 0)) (none_divides n) h in
    ⊎_elim
    (λ (below : d < n + 2). none_divides-at n d parts.1 low below)
    (λ (above : n + 2 ≤ d). let here : d ≡ n + 2 = omega arith in
    subst (λ x. modulus % x ≢ 0) (sym here) (eqb-false _ _ (not-true _ parts.0)))
    (cases_lt d (n + 2))

cofactor-large : (p d q : ℕ) → d * q ≡ p → d < p → 1 < q
cofactor-large p d zero e h = absurd (omega arith)
cofactor-large p d (suc zero) e h = absurd (omega arith)
cofactor-large p d (suc (suc q)) e h = omega arith

cofactor-small : (d q : ℕ) → d * q ≡ modulus → 44872 ≤ d → q < 44872
cofactor-small d q e h =
    ⊎_elim
    (λ (below : q < 44872). below)
    (λ (above : 44872 ≤ q). absurd (omega (arith, mul-le 44872 44872 d q h above)))
    (cases_lt q 44872)

cofactor-rem : (p d q : ℕ) → d * q ≡ p → p % q ≡ 0
cofactor-rem p d q e = rw (← e) (mul-mod_left d q)

quotient : (p d : ℕ) → p % d ≡ 0 → d * (p / d) ≡ p
quotient p d h = omega (arith, div-add-mod p d)

-- nothing between 1 and the modulus divides it
pub no_divisor : (d : ℕ) → 1 < d → d < modulus → modulus % d ≢ 0
no_divisor d low high h =
    let q = modulus / d in
    let e : d * q ≡ modulus = quotient modulus d h in
    ⊎_elim
    (λ (below : d < 44872). none_divides-at 44870 d none_divides-all low below h)
    (λ (above : 44872 ≤ d).
    none_divides-at 44870 q none_divides-all (cofactor-large _ d q e high) (cofactor-small d q e above) (cofactor-rem _ d q e))
    (cases_lt d 44872)

factors : (d e : ℕ) → d * e ≡ modulus → (d ≡ 1) ⊎ (e ≡ 1)
factors zero e h = absurd (omega arith)
factors (suc zero) e h = inl refl
factors (suc (suc d)) zero h = absurd (omega arith)
factors (suc (suc d)) (suc zero) h = inr refl
factors (suc (suc d)) (suc (suc e)) h =
    absurd (no_divisor (suc (suc e)) (omega arith) (omega arith) (cofactor-rem modulus (suc (suc d)) (suc (suc e)) h))

-- the modulus is prime
pub modulus_is_prime : ModulusIsPrime
modulus_is_prime = record { above_one = omega arith; factors = factors }

-- Euclid's step: what divides a * b divides (p % a) * b, over variables
step : (p a b q r : ℕ) → a * q + r ≡ p → p ∣ a * b → p ∣ r * b
step p a b q r e h =
    let whole : p * b ≡ r * b + q * (a * b) = ap (λ x. x * b) (sym e) ∙ omega arith in
    (dvd-add_iff_left p {m = r * b} {n = q * (a * b)} (dvd-mul_left_of_dvd p h q)).1 (subst (λ x. p ∣ x) whole (dvd-mul_right p b))

euclid-below : (n a b : ℕ) → a < n → 0 < a → a < modulus → modulus ∣ a * b → modulus ∣ b
euclid-below zero a b bound pos small h = absurd (omega arith)
euclid-below (suc n) a b bound pos small h =
    ⊎_elim
    (λ (one : a ≡ 1). subst (λ x. modulus ∣ x) (let e : a * b ≡ b = ap (λ x. x * b) one ∙ omega arith in e) h)
    (λ (more : a ≡ 1 → ⊥).
    let r = modulus % a in
    let r_below : r < a = mod-lt modulus pos in
    let r_pos : r ≢ 0 = no_divisor a (omega arith) small in
    euclid-below n r b (omega arith) (omega arith) (omega arith)
    (step modulus a b (modulus / a) r (div-add-mod modulus a) h))
    (cases_eq a 1)

-- a product of whole numbers is 0 modulo p only if a factor is
pub no_zero_divisors : (a b : ℕ) → (a * b) % modulus ≡ 0 → (a % modulus ≡ 0) ⊎ (b % modulus ≡ 0)
no_zero_divisors a b h =
    let c = a % modulus in
    let at_c : (c * b) % modulus ≡ 0 = mul-mod_first a b modulus ∙ h in
    ⊎_elim
    (λ (none : c ≡ 0). inl none)
    (λ (some : c ≡ 0 → ⊥). inr (mod-eq-zero_of_dvd modulus
    (euclid-below (suc c) c b (omega arith) (omega arith) (omega arith) (dvd_of_mod-eq-zero modulus at_c))))
    (cases_eq c 0)
