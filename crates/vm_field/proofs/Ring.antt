-- The ring laws of the operations, as equations of numbers.
use Rattle.std.proofs.Common.{◌≡◌, ℕ, ◌+◌, ◌-◌, ◌*◌, ◌%◌, ◌<◌, ◌≤◌, sym, ◌∙◌, ap, arith}
use Rattle.std.proofs.lemmas.Nat.{mul-mod_first, mul-mod_second}
use Rattle.vm_field.specs.Field.{modulus, field_add, field_sub, field_mul, field_neg}

pub field_add_below : (a b : ℕ) → field_add a b < modulus
field_add_below a b = omega arith

pub field_sub_below : (a b : ℕ) → field_sub a b < modulus
field_sub_below a b = omega arith

pub field_mul_below : (a b : ℕ) → field_mul a b < modulus
field_mul_below a b = omega arith

pub field_neg_below : (a : ℕ) → field_neg a < modulus
field_neg_below a = omega arith

pub field_add_comm : (a b : ℕ) → field_add a b ≡ field_add b a
field_add_comm a b = omega arith

pub field_add_assoc : (a b c : ℕ) → field_add (field_add a b) c ≡ field_add a (field_add b c)
field_add_assoc a b c = omega arith

pub field_add-zero : (a : ℕ) → a < modulus → field_add a 0 ≡ a
field_add-zero a h = omega arith

pub field_add-field_neg : (a : ℕ) → a < modulus → field_add a (field_neg a) ≡ 0
field_add-field_neg a h = omega arith

pub field_neg-field_neg : (a : ℕ) → a < modulus → field_neg (field_neg a) ≡ a
field_neg-field_neg a h = omega arith

-- a difference is the sum with the other's negative
pub field_sub_is : (a b : ℕ) → field_sub a b ≡ field_add a (field_neg b)
field_sub_is a b = omega arith

pub field_sub_same : (a : ℕ) → a < modulus → field_sub a a ≡ 0
field_sub_same a h = omega arith

pub field_add-field_sub : (a b : ℕ) → a < modulus → b < modulus → field_add (field_sub a b) b ≡ a
field_add-field_sub a b p q = omega arith

pub field_sub-field_add : (a b : ℕ) → a < modulus → b < modulus → field_sub (field_add a b) b ≡ a
field_sub-field_add a b p q = omega arith

pub field_mul_comm : (a b : ℕ) → field_mul a b ≡ field_mul b a
field_mul_comm a b = omega arith

pub field_mul_assoc : (a b c : ℕ) → field_mul (field_mul a b) c ≡ field_mul a (field_mul b c)
field_mul_assoc a b c =
    let regroup : a * b * c ≡ a * (b * c) = omega arith in
    mul-mod_first (a * b) c modulus ∙ (ap (λ x. x % modulus) regroup ∙ sym (mul-mod_second a (b * c) modulus))

pub field_mul-zero : (a : ℕ) → field_mul a 0 ≡ 0
field_mul-zero a = omega arith

pub field_mul-one : (a : ℕ) → a < modulus → field_mul a 1 ≡ a
field_mul-one a h = omega arith

pub field_mul-field_add : (a b c : ℕ) → field_mul a (field_add b c) ≡ field_add (field_mul a b) (field_mul a c)
field_mul-field_add a b c = mul-mod_second a (b + c) modulus ∙ omega arith

-- a product with p - c, over variables
negated : (a c : ℕ) → c ≤ modulus → a * (modulus - c) + a * c ≡ modulus * a
negated a c h =
    let whole : (modulus - c) + c ≡ modulus = omega arith in
    omega (arith, ap (λ x. a * x) whole)

pub field_mul-field_sub : (a b c : ℕ) → c ≤ modulus → field_mul a (field_sub b c) ≡ field_sub (field_mul a b) (field_mul a c)
field_mul-field_sub a b c h =
    mul-mod_second a (b + (modulus - c)) modulus ∙ omega (arith, negated a c h)

pub field_mul-field_neg : (a c : ℕ) → c ≤ modulus → field_mul a (field_neg c) ≡ field_neg (field_mul a c)
field_mul-field_neg a c h = mul-mod_second a (modulus - c) modulus ∙ omega (arith, negated a c h)
