-- The first constraint that is broken: of joined lists, and where there is none.
use Rattle.std.proofs.Common.{◌≡◌, ℕ, ◌+◌, List, [], ◌∷◌, ◌++◌, length, map, Option, Some, None, All, cond, eqb, true, false, refl, ap, ◌∙◌, arith}
use Rattle.std.proofs.lemmas.Bool.Decides.{nat_tests}
use Rattle.std.proofs.Math.Nat.{add-zero}
use Rattle.std.proofs.lemmas.Bool.{eq-eqb}
use Rattle.std.proofs.lemmas.List.Elements.{All-head, All-tail, All-cons, All-nil}
use Rattle.std.proofs.lemmas.List.{length-map}
use Rattle.air_core.specs.First.{bit, first_from, or_else}
use Rattle.air_core.specs.Flags.{sum_from, flag_constraints}
use Rattle.air_core.specs.Sheet.{AllZero}
use Rattle.air_core.specs.Ring.{field}

pub first_from-append : (i : ℕ) (xs ys : List ℕ) → first_from i (xs ++ ys) ≡ or_else (first_from i xs) (first_from (i + length xs) ys)
first_from-append i [] ys = rw add-zero refl
first_from-append i (x ∷ xs) ys =
    let rest = first_from-append (i + 1) xs ys in
    let place : (i + 1) + length xs ≡ i + length (x ∷ xs) = omega arith in
    elim (eqb x 0) as (λ b. cond b (first_from (i + 1) (xs ++ ys)) (Some i) ≡ or_else (cond b (first_from (i + 1) xs) (Some i)) (first_from (i + length (x ∷ xs)) ys))
    [ true ↦ rw (← place) rest | false ↦ refl ]

-- a broken head is the answer
head_zero : (i x : ℕ) (o : Option ℕ) → cond (eqb x 0) o (Some i) ≡ None → (x ≡ 0) × (o ≡ None)
head_zero i x o h = grind (arith, nat_tests)

-- one part of a row's constraints: it begins at place i, and the rest at place j
pub first_from-part : (i j : ℕ) (xs ys : List ℕ) → i + length xs ≡ j → first_from i (xs ++ ys) ≡ or_else (first_from i xs) (first_from j ys)
first_from-part i j xs ys e = first_from-append i xs ys ∙ ap (λ k. or_else (first_from i xs) (first_from k ys)) e

-- no constraint is broken exactly where all are 0
pub first_from-none : (i : ℕ) (xs : List ℕ) → first_from i xs ≡ None → All (λ x. x ≡ 0) xs
first_from-none i [] h = All-nil (λ x. x ≡ 0)
first_from-none i (x ∷ xs) h =
    let parts = head_zero i x (first_from (i + 1) xs) h in
    All-cons (λ x. x ≡ 0) x xs parts.0 (first_from-none (i + 1) xs parts.1)

pub first_from-all : (i : ℕ) (xs : List ℕ) → All (λ x. x ≡ 0) xs → first_from i xs ≡ None
first_from-all i [] h = refl
first_from-all i (x ∷ xs) h =
    let here : x ≡ 0 = All-head (λ x. x ≡ 0) x xs h in
    rw (eq-eqb x 0 here) (first_from-all (i + 1) xs (All-tail (λ x. x ≡ 0) x xs h))

pub first_from-zero : (i : ℕ) (xs : List ℕ) → AllZero xs → first_from i xs ≡ None
first_from-zero i [] h = refl
first_from-zero i (x ∷ xs) h = rw (eq-eqb x 0 h.0) (first_from-zero (i + 1) xs h.1)

-- the constraints of each flag, and then that of their sum
pub flags_split : (flags : List ℕ) → first_from 0 (flag_constraints field flags) ≡ or_else (first_from 0 (map (bit field) flags)) (first_from (length flags) (bit field (sum_from field 0 flags) ∷ []))
unfolding flag_constraints
flags_split flags = first_from-part 0 (length flags) (map (bit field) flags) (bit field (sum_from field 0 flags) ∷ []) (omega (arith, length-map flags (bit field)))
