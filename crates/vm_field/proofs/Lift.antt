-- From equations in the field to equations of whole numbers.
use Rattle.std.proofs.Common.{◌≡◌, ℕ, ◌+◌, ◌*◌, ◌%◌, ◌<◌, ◌≤◌, refl, sym, ◌∙◌, ap, arith}
use Rattle.std.proofs.lemmas.Nat.{mul-mod_first, mul-mod_second}
use Rattle.vm_field.specs.Field.{modulus, field_sub, field_mul}

-- congruent numbers that are less than p apart are equal
pub lift_close : (x y : ℕ) → x % modulus ≡ y % modulus → x < y + modulus → y < x + modulus → x ≡ y
lift_close x y e p q = omega arith

-- n times the quotient d / n is d, where i is the inverse of n
pub times_quotient : (n i d : ℕ) → field_mul n i ≡ 1 → field_mul n (field_mul d i) ≡ d % modulus
times_quotient n i d h =
    let regroup : n * (d * i) ≡ (n * i) * d = omega arith in
    mul-mod_second n (d * i) modulus ∙ (ap (λ y. y % modulus) regroup ∙ (sym (mul-mod_first (n * i) d modulus) ∙ (ap (λ y. (y * d) % modulus) h ∙ ap (λ y. y % modulus) (omega arith))))

-- where k is (s - a) / n in the field, s and a + n * k are congruent
pub quotient_congruent : (n i k s a : ℕ) → field_mul n i ≡ 1 → k ≡ field_mul (field_sub s a) i → a ≤ modulus → s % modulus ≡ (a + n * k) % modulus
quotient_congruent n i k s a inv e small =
    let back : (n * k) % modulus ≡ field_sub s a % modulus = ap (λ y. (n * y) % modulus) e ∙ times_quotient n i (field_sub s a) inv in
    omega arith

-- and equal, if both are below p
pub lift : (n i k s a : ℕ) → field_mul n i ≡ 1 → k ≡ field_mul (field_sub s a) i → a + n * k < modulus → s < modulus → s ≡ a + n * k
lift n i k s a inv e left right =
    let same : s % modulus ≡ (a + n * k) % modulus = quotient_congruent n i k s a inv e (omega arith) in
    omega arith

-- at 256, whose inverse is 2005401601
pub lift_256 : (k s a : ℕ) → k ≡ field_mul (field_sub s a) 2005401601 → a + 256 * k < modulus → s < modulus → s ≡ a + 256 * k
lift_256 k s a = lift 256 2005401601 k s a refl

-- at 65536, whose inverse is 2013235201
pub lift_65536 : (k s a : ℕ) → k ≡ field_mul (field_sub s a) 2013235201 → a + 65536 * k < modulus → s < modulus → s ≡ a + 65536 * k
lift_65536 k s a = lift 65536 2013235201 k s a refl
