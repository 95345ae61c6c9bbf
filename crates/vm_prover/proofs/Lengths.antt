-- Cutting a run: what the lengths are.
use Rattle.std.proofs.Common.{◌≡◌, ℕ, zero, suc, ◌+◌, ◌*◌, ◌≤◌, ◌<◌, Bool, true, false, List, [], ◌∷◌, ◌++◌, get_or, length, length-append, append_assoc, refl, sym, ap, ◌∙◌, subst, arith}
use Rattle.std.specs.Prelude.{if◌then◌else◌, sum}
use Rattle.std.specs.List.{AllByRecursion}
use Rattle.std.proofs.lemmas.List.Sums.{sum_by-append, sum_by-cons}
use Rattle.std.proofs.lemmas.Bool.Decides.{nat_tests}
use Rattle.vm_prover.specs.Cut.{AreWithin, CutsAreWithin, CutsGrow, LengthsAreTheSteps, OnlyNoStepsAreEmpty, cut_on, ends_before, sha_blocks_in}

-- ---- what a segment has room for

has_room : (n steps blocks : ℕ) (kind : Bool) → ends_before n steps blocks kind ≡ false → blocks ≤ 1024 → (steps + 1 ≤ n) × (blocks + sha_blocks_in (kind ∷ []) ≤ 1024)
has_room n steps blocks true e few = (grind (arith, nat_tests), grind (arith, nat_tests))
has_room n steps blocks false e few = (grind (arith, nat_tests), grind (arith, nat_tests))

one_block : (kind : Bool) → sha_blocks_in (kind ∷ []) ≤ 1024
one_block true = omega arith
one_block false = omega arith

blocks_append : (xs ys : List Bool) → sha_blocks_in (xs ++ ys) ≡ sha_blocks_in xs + sha_blocks_in ys
blocks_append [] ys = omega arith
blocks_append (x ∷ xs) ys = omega (arith, blocks_append xs ys)

-- ---- within the limits

-- a segment that has these steps, with the steps behind it
record IsOpen (n steps blocks : ℕ) (here : List Bool) : Type 0 where
  count : length here ≡ steps
  blocks_are : sha_blocks_in here ≡ blocks
  short : steps ≤ n
  few : blocks ≤ 1024

within_step : (n steps blocks : ℕ) (here : List Bool) (kind : Bool) (kinds : List Bool) (full : Bool) (closed going : List ℕ) → ends_before n steps blocks kind ≡ full → IsOpen n steps blocks here
    → AreWithin n closed (kind ∷ kinds) → (ends_before n steps blocks kind ≡ false → AreWithin n going (here ++ kind ∷ kinds)) → AreWithin n (if full then steps ∷ closed else going) (here ++ kind ∷ kinds)
within_step n steps blocks here kind kinds true closed going e o next on = (here, kind ∷ kinds, refl, o.count, o.short, subst (λ k. k ≤ 1024) (sym o.blocks_are) o.few, next)
within_step n steps blocks here kind kinds false closed going e o next on = on e

within_on : (n steps blocks : ℕ) (here kinds : List Bool) → 1 ≤ n → IsOpen n steps blocks here → AreWithin n (cut_on n steps blocks kinds) (here ++ kinds)
within_on n steps blocks here [] least o = (here, [], refl, o.count, o.short, subst (λ k. k ≤ 1024) (sym o.blocks_are) o.few, refl)
within_on n steps blocks here (kind ∷ kinds) least o =
    within_step n steps blocks here kind kinds (ends_before n steps blocks kind) _ _ refl o
    (within_on n 1 (sha_blocks_in (kind ∷ [])) (kind ∷ []) kinds least (record { count = refl; blocks_are = refl; short = least; few = one_block kind }))
    (λ e. let room = has_room n steps blocks kind e o.few in
    subst (AreWithin n (cut_on n (steps + 1) (blocks + sha_blocks_in (kind ∷ [])) kinds)) (append_assoc here (kind ∷ []) kinds)
    (within_on n (steps + 1) (blocks + sha_blocks_in (kind ∷ [])) (here ++ kind ∷ []) kinds least (record {
      count = length-append here (kind ∷ []) ∙ ap (λ k. k + 1) o.count;
      blocks_are = blocks_append here (kind ∷ []) ∙ ap (λ k. k + sha_blocks_in (kind ∷ [])) o.blocks_are;
      short = room.0;
      few = room.1;
    })))

pub cuts_are_within : CutsAreWithin
cuts_are_within n kinds least = within_on n 0 0 [] kinds least (record { count = refl; blocks_are = refl; short = omega arith; few = omega arith })

-- ---- the sum, and how many segments there are at least

sum_step : (steps count : ℕ) (full : Bool) (closed going : List ℕ) → sum closed ≡ 1 + count → sum going ≡ steps + 1 + count → sum (if full then steps ∷ closed else going) ≡ steps + suc count
sum_step steps count true closed going a b = omega (arith, sum_by-cons (λ x. x) steps closed, a)
sum_step steps count false closed going a b = b ∙ omega arith

sum_on : (n steps blocks : ℕ) (kinds : List Bool) → sum (cut_on n steps blocks kinds) ≡ steps + length kinds
sum_on n steps blocks [] = omega (arith, sum_by-cons (λ x. x) steps [], sum_by-append (λ x. x) [] [])
sum_on n steps blocks (kind ∷ kinds) = sum_step steps (length kinds) (ends_before n steps blocks kind) _ _ (sum_on n 1 (sha_blocks_in (kind ∷ [])) kinds) (sum_on n (steps + 1) (blocks + sha_blocks_in (kind ∷ [])) kinds)

pub lengths_are_the_steps : LengthsAreTheSteps
lengths_are_the_steps n kinds = sum_on n 0 0 kinds ∙ omega arith

-- lengths within a limit are at most its product with their number
pub within_sum : (n : ℕ) (lengths : List ℕ) (kinds : List Bool) → AreWithin n lengths kinds → length kinds ≤ n * length lengths
within_sum n [] kinds h = rw h omega arith
within_sum n (k ∷ ks) kinds h =
    let rest = within_sum n ks h.1 h.6 in
    rw h.2 (omega (arith, length-append h.0 h.1, rest, h.3, h.4))

-- ---- more steps

pub one_at_least : (n steps blocks : ℕ) (kinds : List Bool) → 1 ≤ length (cut_on n steps blocks kinds)
one_at_least n steps blocks [] = omega arith
one_at_least n steps blocks (kind ∷ kinds) =
    elim (ends_before n steps blocks kind) as (λ b. 1 ≤ length (if b then steps ∷ cut_on n 1 (sha_blocks_in (kind ∷ [])) kinds else cut_on n (steps + 1) (blocks + sha_blocks_in (kind ∷ [])) kinds)) [
      | true ↦ omega arith
      | false ↦ one_at_least n (steps + 1) (blocks + sha_blocks_in (kind ∷ [])) kinds
    ]

grows_step : (steps : ℕ) (full : Bool) (a b c d : List ℕ) → length a ≤ length c → length b ≤ length d → length (if full then steps ∷ a else b) ≤ length (if full then steps ∷ c else d)
grows_step steps true a b c d x y = omega (arith, x)
grows_step steps false a b c d x y = y

grows_on : (n steps blocks : ℕ) (kinds more : List Bool) → length (cut_on n steps blocks kinds) ≤ length (cut_on n steps blocks (kinds ++ more))
grows_on n steps blocks [] more = one_at_least n steps blocks more
grows_on n steps blocks (kind ∷ kinds) more =
    grows_step steps (ends_before n steps blocks kind) _ _ _ _ (grows_on n 1 (sha_blocks_in (kind ∷ [])) kinds more) (grows_on n (steps + 1) (blocks + sha_blocks_in (kind ∷ [])) kinds more)

pub cuts_grow : CutsGrow
cuts_grow n kinds more = grows_on n 0 0 kinds more

-- ---- no segment is empty

used_step : (steps : ℕ) (full : Bool) (closed going : List ℕ) → 1 ≤ steps → AllByRecursion (λ k. 1 ≤ k) closed → AllByRecursion (λ k. 1 ≤ k) going → AllByRecursion (λ k. 1 ≤ k) (if full then steps ∷ closed else going)
used_step steps true closed going some a b = (some, a)
used_step steps false closed going some a b = b

used_on : (n steps blocks : ℕ) (kinds : List Bool) → 1 ≤ steps → AllByRecursion (λ k. 1 ≤ k) (cut_on n steps blocks kinds)
used_on n steps blocks [] some = (some, tt)
used_on n steps blocks (kind ∷ kinds) some =
    used_step steps (ends_before n steps blocks kind) _ _ some (used_on n 1 (sha_blocks_in (kind ∷ [])) kinds (omega arith)) (used_on n (steps + 1) (blocks + sha_blocks_in (kind ∷ [])) kinds (omega arith))

first_goes_in : (n : ℕ) (kind : Bool) → 1 ≤ n → ends_before n 0 0 kind ≡ false
first_goes_in n true least = grind (arith, nat_tests)
first_goes_in n false least = grind (arith, nat_tests)

pub only_no_steps_are_empty : OnlyNoStepsAreEmpty
only_no_steps_are_empty n kind kinds least = rw (first_goes_in n kind least) (used_on n 1 (0 + sha_blocks_in (kind ∷ [])) kinds (omega arith))

-- each of them is within the limit
pub within_each : (n : ℕ) (lengths : List ℕ) (kinds : List Bool) → AreWithin n lengths kinds → (k d : ℕ) → k < length lengths → get_or lengths k d ≤ n
within_each n [] kinds h k d less = absurd (omega (arith, less))
within_each n (m ∷ lengths) kinds h zero d less = h.4
within_each n (m ∷ lengths) kinds h (suc k) d less = within_each n lengths h.1 h.6 k d (omega (arith, less))
