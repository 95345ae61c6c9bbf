-- What it says of the numbers that a constraint, an expression of the field, is 0.
use Rattle.std.proofs.Common.{◌≡◌, ℕ, ◌%◌, ◌<◌, ◌≤◌, inl, inr, ⊎_elim, ◌⊎◌, arith}
use Rattle.std.proofs.lemmas.Bool.{cases_eq}
use Rattle.vm_field.specs.Field.{modulus, field_sub, field_mul}
use Rattle.vm_field.proofs.Prime.{no_zero_divisors}

-- a product of elements is 0 only if a factor is
pub zero_product : (a b : ℕ) → a < modulus → b < modulus → field_mul a b ≡ 0 → (a ≡ 0) ⊎ (b ≡ 0)
zero_product a b p q h =
    ⊎_elim (λ (e : a % modulus ≡ 0). inl (omega arith)) (λ (e : b % modulus ≡ 0). inr (omega arith)) (no_zero_divisors a b h)

-- a difference is 0 only between equals
pub equal_of_sub : (a b : ℕ) → a < modulus → b < modulus → field_sub a b ≡ 0 → a ≡ b
equal_of_sub a b p q h = omega arith

-- f * (f - 1) is 0 at 0 and 1 alone
pub boolean : (f : ℕ) → f < modulus → field_mul f (field_sub f 1) ≡ 0 → (f ≡ 0) ⊎ (f ≡ 1)
boolean f small h =
    ⊎_elim (λ (e : f ≡ 0). inl e) (λ (e : field_sub f 1 ≡ 0). inr (omega arith)) (zero_product f (field_sub f 1) small (omega arith) h)

-- the same as one bound, which `omega` can use
pub boolean_at_most : (f : ℕ) → f < modulus → field_mul f (field_sub f 1) ≡ 0 → f ≤ 1
boolean_at_most f small h =
    ⊎_elim (λ (e : f ≡ 0). omega arith) (λ (e : f ≡ 1). omega arith) (boolean f small h)

-- and back
pub boolean_holds : (f : ℕ) → f ≤ 1 → field_mul f (field_sub f 1) ≡ 0
boolean_holds f h =
    ⊎_elim
    (λ (one : f ≡ 1). rw one (omega arith))
    (λ (other : f ≡ 1 → ⊥). let none : f ≡ 0 = omega arith in rw none (omega arith))
    (cases_eq f 1)

-- under a gate that is 1 the constraint itself is 0
pub gated : (g e : ℕ) → g ≡ 1 → e < modulus → field_mul g e ≡ 0 → e ≡ 0
gated g e one small h = ⊎_elim (λ (z : g ≡ 0). absurd (omega arith)) (λ (z : e ≡ 0). z) (zero_product g e (omega arith) small h)

pub gated_equal : (g a b : ℕ) → g ≡ 1 → a < modulus → b < modulus → field_mul g (field_sub a b) ≡ 0 → a ≡ b
gated_equal g a b one p q h = equal_of_sub a b p q (gated g (field_sub a b) one (omega arith) h)

pub gated_boolean : (g f : ℕ) → g ≡ 1 → f < modulus → field_mul g (field_mul f (field_sub f 1)) ≡ 0 → f ≤ 1
gated_boolean g f one small h = boolean_at_most f small (gated g (field_mul f (field_sub f 1)) one (omega arith) h)

-- under a gate that is 0 each constraint is
pub gate_off : (g e : ℕ) → g ≡ 0 → field_mul g e ≡ 0
gate_off g e none = rw none (omega arith)
