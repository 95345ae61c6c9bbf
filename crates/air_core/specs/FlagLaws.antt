-- What the constraints of flags say.
use Rattle.std.proofs.Common.{◌≡◌, ℕ, ◌+◌, ◌%◌, ◌≤◌, ◌<◌, ◌⊎◌, inl, inr, ⊎_elim, List, [], ◌∷◌, length, map, refl, ◌∙◌, arith}
use Rattle.std.specs.List.{AllByRecursion}
use Rattle.std.proofs.lemmas.Bool.{cases_eq}
use Rattle.vm_field.specs.Field.{field_add}
use Rattle.vm_field.proofs.Constraints.{boolean_at_most}
use Rattle.air_core.specs.First.{bit}
use Rattle.air_core.specs.Sheet.{AllZero, AllBelow}
use Rattle.air_core.specs.Flags.{sum_from, flag_constraints, OneHot}
use Rattle.air_core.specs.ListLemmas.{all_left, all_right}
use Rattle.air_core.specs.Ring.{field}

abbrev total : List ℕ → ℕ
total [] = 0
total (x ∷ xs) = x + total xs

-- the sum in the field is the whole sum modulo p
sum_from-total : (acc : ℕ) (xs : List ℕ) → acc < 2013265921 → sum_from field acc xs ≡ (acc + total xs) % 2013265921
sum_from-total acc [] h = omega arith
sum_from-total acc (x ∷ xs) h = sum_from-total (field_add acc x) xs (omega arith) ∙ omega arith

pub sum_from_below : (acc : ℕ) (xs : List ℕ) → acc < 2013265921 → sum_from field acc xs < 2013265921
sum_from_below acc xs h = omega (arith, sum_from-total acc xs h)

total_small : (xs : List ℕ) → AllByRecursion (λ x. x ≤ 1) xs → total xs ≤ length xs
total_small [] h = omega arith
total_small (x ∷ xs) h = omega (arith, h.0, total_small xs h.1)

total_none : (xs : List ℕ) → total xs ≡ 0 → AllZero xs
total_none [] h = tt
total_none (x ∷ xs) h = (omega arith, total_none xs (omega arith))

total_one : (xs : List ℕ) → AllByRecursion (λ x. x ≤ 1) xs → total xs ≡ 1 → OneHot xs
total_one [] b h = absurd (omega arith)
total_one (x ∷ xs) b h =
    ⊎_elim
    (λ (one : x ≡ 1). inl (one, total_none xs (omega arith)))
    (λ (other : x ≡ 1 → ⊥). let zero : x ≡ 0 = omega (arith, b.0) in inr (zero, total_one xs b.1 (omega arith)))
    (cases_eq x 1)

bits_small : (xs : List ℕ) → AllBelow xs → AllZero (map (bit field) xs) → AllByRecursion (λ x. x ≤ 1) xs
unfolding bit
bits_small [] b h = tt
bits_small (x ∷ xs) b h = (boolean_at_most x b.0 h.0, bits_small xs b.1 h.1)

bit_small : (x : ℕ) → x < 2013265921 → bit field x ≡ 0 → x ≤ 1
unfolding bit
bit_small x b h = boolean_at_most x b h

-- all flags are 0 and so is their sum, or one is 1 and so is the sum
pub flag_cases : (flags : List ℕ) → AllBelow flags → length flags ≤ 64 → AllZero (flag_constraints field flags)
    → ((sum_from field 0 flags ≡ 0) × AllZero flags) ⊎ ((sum_from field 0 flags ≡ 1) × OneHot flags)
unfolding flag_constraints
flag_cases flags below few h =
    let small = bits_small flags below (all_left (λ x. x ≡ 0) (map (bit field) flags) (bit field (sum_from field 0 flags) ∷ []) h) in
    let last = all_right (λ x. x ≡ 0) (map (bit field) flags) (bit field (sum_from field 0 flags) ∷ []) h in
    let whole = sum_from-total 0 flags (omega arith) in
    let sum_small : (sum_from field) 0 flags ≤ 1 = bit_small (sum_from field 0 flags) (omega arith) last.0 in
    let bound = total_small flags small in
    ⊎_elim
    (λ (one : (sum_from field) 0 flags ≡ 1). inr (one, total_one flags small (omega arith)))
    (λ (other : (sum_from field) 0 flags ≡ 1 → ⊥). let zero : (sum_from field) 0 flags ≡ 0 = omega arith in inl (zero, total_none flags (omega arith)))
    (cases_eq (sum_from field 0 flags) 1)

-- flags that are all 0 sum to 0
pub sum_none : (flags : List ℕ) → AllZero flags → sum_from field 0 flags ≡ 0
sum_none [] h = refl
sum_none (x ∷ xs) h = rw h.0 (sum_none xs h.1)
