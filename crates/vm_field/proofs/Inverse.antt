-- Inverses: the step by which one is found, that there is one, and that there is one at most.
use Rattle.std.proofs.Common.{◌≡◌, ◌≢◌, ℕ, zero, suc, ◌+◌, ◌*◌, ◌/◌, ◌%◌, ◌<◌, sym, ◌∙◌, ap, ⊎_elim, arith}
use Rattle.std.proofs.Math.Nat.{div-add-mod, mod-lt}
use Rattle.std.proofs.lemmas.Nat.{mul-mod}
use Rattle.std.proofs.lemmas.Bool.{cases_eq}
use Rattle.vm_field.specs.Field.{modulus, field_mul, field_neg}
use Rattle.vm_field.proofs.Prime.{no_divisor}
use Rattle.vm_field.proofs.Ring.{field_mul_assoc, field_mul_comm, field_mul-one, field_mul-field_neg}

-- where x * f is r in the field, x * -((p / r) * f) is p % r
pub inverse-step : (x f r : ℕ) → field_mul x f ≡ r → 0 < r → r < modulus → field_mul x (field_neg (field_mul (modulus / r) f)) ≡ modulus % r
inverse-step x f r h pos small =
    let q = modulus / r in
    let swapped : field_mul x (field_mul q f) ≡ field_mul q r = sym (field_mul_assoc x q f) ∙ (ap (λ y. field_mul y f) (field_mul_comm x q) ∙ (field_mul_assoc q x f ∙ ap (λ y. field_mul q y) h)) in
    let split : r * q + modulus % r ≡ modulus = div-add-mod modulus r in
    field_mul-field_neg x (field_mul q f) (omega arith) ∙ (ap (λ y. field_neg y) swapped ∙ omega arith)

inverse_from : (n x f r : ℕ) → r < n → field_mul x f ≡ r → f < modulus → 0 < r → r < modulus → (i : ℕ) × (i < modulus) × (field_mul x i ≡ 1)
inverse_from zero x f r bound h low pos small = absurd (omega arith)
inverse_from (suc n) x f r bound h low pos small =
    ⊎_elim
    (λ (one : r ≡ 1). (f, low, h ∙ one))
    (λ (more : r ≡ 1 → ⊥).
    let rest : modulus % r < r = mod-lt modulus pos in
    let some : modulus % r ≢ 0 = no_divisor r (omega arith) small in
    inverse_from n x (field_neg (field_mul (modulus / r) f)) (modulus % r) (omega arith) (inverse-step x f r h pos small) (omega arith) (omega arith) (omega arith))
    (cases_eq r 1)

-- an element that is not 0 has an inverse
pub inverse_exists : (a : ℕ) → a < modulus → a ≢ 0 → (i : ℕ) × (i < modulus) × (field_mul a i ≡ 1)
inverse_exists a small some = inverse_from (suc a) a 1 a (omega arith) (field_mul-one a small) (omega arith) (omega arith) small

-- at most one
pub inverse_unique : (a i j : ℕ) → i < modulus → j < modulus → field_mul a i ≡ 1 → field_mul a j ≡ 1 → i ≡ j
inverse_unique a i j p q at_i at_j =
    let from_i : field_mul (field_mul a i) j ≡ j = ap (λ x. field_mul x j) at_i ∙ omega arith in
    let from_j : field_mul i (field_mul a j) ≡ i = ap (λ x. field_mul i x) at_j ∙ omega arith in
    sym from_j ∙ (sym (field_mul_assoc i a j) ∙ (ap (λ x. field_mul x j) (field_mul_comm i a) ∙ from_i))

-- the inverse of a product is the product of the inverses
pub inverse_of_product : (a b i j : ℕ) → field_mul a i ≡ 1 → field_mul b j ≡ 1 → field_mul (field_mul a b) (field_mul i j) ≡ 1
inverse_of_product a b i j at_i at_j =
    let regroup : a * b * (i * j) ≡ a * i * (b * j) = omega arith in
    sym (mul-mod (a * b) (i * j) modulus) ∙ (ap (λ x. x % modulus) regroup ∙ (mul-mod (a * i) (b * j) modulus ∙ (ap (λ x. (x * field_mul b j) % modulus) at_i ∙ ap (λ x. (1 * x) % modulus) at_j)))
