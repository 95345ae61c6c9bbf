-- Shifts of all ones.
use Rattle.std.proofs.Common.{◌≡◌, ℕ, zero, suc, ◌+◌, ◌-◌, ◌*◌, ◌/◌, ◌^◌, ◌<◌, true, refl, sym, ap, ◌∙◌, arith}
use Rattle.vm_word.specs.Arithmetic.{is_negative, shifted_right_signed}
use Rattle.std.proofs.Math.Nat.{mul-add-div_right, div-eq_of_lt}
use Rattle.std.proofs.lemmas.Nat.{pow-add, pow_pos}

-- one less than a product
before_product : (m n w : ℕ) → 0 < m → 0 < n → m * n ≡ w + 1 → w ≡ (m - 1) * n + (n - 1)
before_product zero n w some more e = absurd (omega arith)
before_product (suc k) n w some more e =
    let k_is : suc k - 1 ≡ k = omega arith in
    rw k_is (omega arith)

-- 32 ones, shifted right by k places, are 32 - k ones
ones_shifted : (k : ℕ) → k < 32 → 4294967295 / 2 ^ k ≡ 2 ^ (32 - k) - 1
ones_shifted k h =
    let n : ℕ = 2 ^ k in
    let m : ℕ = 2 ^ (32 - k) in
    let some : zero < n = pow_pos k in
    let more : zero < m = pow_pos (32 - k) in
    let all : 32 - k + k ≡ 32 = omega arith in
    let whole : m * n ≡ 4294967295 + 1 = sym (pow-add 2 (32 - k) k) ∙ ap (λ j. 2 ^ j) all in
    let parts : 4294967295 ≡ (m - 1) * n + (n - 1) = before_product m n 4294967295 more some whole in
    ap (λ x. x / n) parts ∙ mul-add-div_right some (m - 1) (n - 1) ∙ ap (λ r. m - 1 + r) (div-eq_of_lt (omega arith)) ∙ omega arith

-- the ones that are left above
pub ones_above : (k : ℕ) → k < 32 → 4294967295 - 4294967295 / 2 ^ k ≡ 4294967296 - 2 ^ (32 - k)
ones_above k h = omega (arith, ones_shifted k h, pow_pos (32 - k))

pub signed_shift : (word by : ℕ) → by < 32 → is_negative word ≡ true → word / 2 ^ by + (4294967295 - 4294967295 / 2 ^ by) ≡ shifted_right_signed word by
signed_shift word by h negative = rw (ones_above by h, negative) refl
