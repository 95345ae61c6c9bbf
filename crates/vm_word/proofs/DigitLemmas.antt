-- A number is what its digits make, and the digits that make a number are its digits.
use Rattle.std.proofs.Common.{◌≡◌, ℕ, zero, suc, ◌+◌, ◌-◌, ◌*◌, ◌/◌, ◌%◌, ◌^◌, ◌<◌, ◌≤◌, refl, ap, ◌∙◌, arith, mod-lt, inl, inr, lit<}
use Rattle.std.proofs.Math.Arith.{mod-mul}
use Rattle.std.proofs.Math.Nat.{pow-suc, pow-zero, mod-one, mod-eq_of_lt, mul-pos, add-mul-div_right, add-mul-mod_self_right, mul-le-mul_right}
use Rattle.std.proofs.lemmas.Nat.{div-mul-add, pow-add}
use Rattle.std.proofs.lemmas.Bool.{cases_lt}
use Rattle.vm_word.specs.Digits.{digit, number_of_digits}

pub pow-pos : (base k : ℕ) → 0 < base → 0 < base ^ k
pow-pos base zero some = rw pow-zero (lit< tt)
pow-pos base (suc k) some = rw pow-suc (mul-pos (pow-pos base k some) some)

pub digit-lt : (base n i : ℕ) → 0 < base → digit base n i < base
digit-lt base n i some = mod-lt _ some

-- the k lowest digits of n make n modulo base ^ k
pub number_of_digits-digit : (base n k : ℕ) → 0 < base → number_of_digits base (digit base n) k ≡ n % base ^ k
unfolding number_of_digits
number_of_digits-digit base n zero some = rw (pow-zero, mod-one) refl
number_of_digits-digit base n (suc k) some =
    let whole = mod-mul n {m = base} {c = base ^ k} some (pow-pos base k some) in
    let power : base ^ suc k ≡ base * base ^ k = pow-suc base k ∙ omega arith in
    rw (power, number_of_digits-digit base n k some) (omega (arith, whole))

-- k digits make a number below base ^ k
pub number_of_digits-lt : (base : ℕ) (d : ℕ → ℕ) (k : ℕ) → ((i : ℕ) → i < k → d i < base) → number_of_digits base d k < base ^ k
unfolding number_of_digits
number_of_digits-lt base d zero below = rw pow-zero (lit< tt)
number_of_digits-lt base d (suc k) below =
    let low = number_of_digits-lt base d k (λ i lt. below i (omega arith)) in
    let top : d k < base = below k (omega arith) in
    let high : (d k + 1) * base ^ k ≤ base * base ^ k = mul-le-mul_right (base ^ k) (omega arith) in
    rw pow-suc (omega (arith, low, high))

-- what is added at place k or above leaves digit i as it is, for i below k
digit-add_above : (base low high i k : ℕ) → 0 < base → i < k → digit base (low + high * base ^ k) i ≡ digit base low i
digit-add_above base low high i k some lt =
    let rest : ℕ = k - suc i in
    let place : base ^ k ≡ base ^ rest * base * base ^ i =
    ap (λ (e : ℕ). base ^ e) (omega arith) ∙ pow-add base (suc rest) i ∙ ap (λ (x : ℕ). x * base ^ i) (pow-suc base rest) in
    let moved : low + high * base ^ k ≡ low + high * base ^ rest * base * base ^ i = rw place (omega arith) in
    rw (moved, add-mul-div_right low (high * base ^ rest * base) {z = base ^ i} (pow-pos base i some), add-mul-mod_self_right (low / base ^ i) (high * base ^ rest) base) refl

-- the digits that make a number are that number's digits
pub digit-number_of_digits : (base : ℕ) (d : ℕ → ℕ) (k i : ℕ) → ((j : ℕ) → j < k → d j < base) → i < k
    → digit base (number_of_digits base d k) i ≡ d i
unfolding number_of_digits
digit-number_of_digits base d zero i below lt = absurd (omega arith)
digit-number_of_digits base d (suc k) i below lt =
    let under = λ (j : ℕ) (h : j < k). below j (omega arith) in
    let low : number_of_digits base d k < base ^ k = number_of_digits-lt base d k under in
    let some : 0 < base = omega (arith, below i lt) in
    elim (cases_lt i k) [
      | inl near ↦ digit-add_above base _ (d k) i k some near ∙ digit-number_of_digits base d k i under near
      | inr far ↦
          let e : i ≡ k = omega arith in
          let turned : number_of_digits base d k + d k * base ^ k ≡ d k * base ^ k + number_of_digits base d k = omega arith in
          rw (e, turned, div-mul-add (d k) (base ^ k) (number_of_digits base d k) low) (mod-eq_of_lt (below k (omega arith)))
    ]

-- digits that agree make one number
pub number_of_digits-same : (base : ℕ) (d e : ℕ → ℕ) (k : ℕ) → ((i : ℕ) → i < k → d i ≡ e i) → number_of_digits base d k ≡ number_of_digits base e k
unfolding number_of_digits
number_of_digits-same base d e zero same = refl
number_of_digits-same base d e (suc k) same =
    let low = number_of_digits-same base d e k (λ i lt. same i (omega arith)) in
    rw (low, same k (omega arith)) refl
