-- No row of the pair is a hint.
use Rattle.std.specs.Prelude.{◌≡◌, ℕ, Bool, true, false, cond, nat_eq, List, [], ◌∷◌, ◌++◌, refl, slice_index}
use Rattle.std.proofs.Common.{sym, subst, ⊎_elim, zero, suc}
use Rattle.air_core.specs.declared.event.Event.{Event}
use Rattle.air_core.specs.Hint.{NoHint}
use Rattle.air_core.specs.ListLemmas.{below_at}
use Rattle.air_core.specs.Path.{path_lines}
use Rattle.air_core.specs.Sheet.{IsRow, RowHolds, counted, row_events, received}
use Rattle.air_core.specs.System.{sheet_at}
use Rattle.extension_tests.specs.Pair.{pair, step_sheet, step_lines, step_numbers}
use Rattle.extension_tests.specs.PairLaws.{flag_of, silent}
use Rattle.air_core.specs.declared.bus.TheConstants.{FIRST_PRIVATE}

valid_no_hint : (pc time x : ℕ) → NoHint (counted (step_lines pc time 1 x))
unfolding step_lines path_lines step_numbers
valid_no_hint pc time x = record { hint = refl; next = refl }

step_no_hint : (row : List ℕ) → IsRow step_sheet row → RowHolds step_sheet row → NoHint (row_events step_sheet row)
step_no_hint row is holds =
    let pc = slice_index row 0 in
    let time = slice_index row 1 in
    let flag = slice_index row 2 in
    let x = slice_index row 3 in
    ⊎_elim
    (λ (none : flag ≡ 0). subst (λ (events : List Event). NoHint events) (sym (silent pc time flag x none)) (record { hint = refl; next = refl }))
    (λ (one : flag ≡ 1). subst (λ (f : ℕ). NoHint (counted (step_lines pc time f x))) (sym one) (valid_no_hint pc time x))
    (flag_of flag (below_at row 2 is.below) holds.0)

answer_by : (y count : ℕ) (none : Bool) → NoHint (cond none [] (received FIRST_PRIVATE count (y ∷ []) ∷ []) ++ [])
answer_by y count true = record { hint = refl; next = refl }
answer_by y count false = record { hint = refl; next = refl }

pub pair_no_hint : (table : ℕ) (row : List ℕ) → IsRow (sheet_at pair table) row → RowHolds (sheet_at pair table) row → NoHint (row_events (sheet_at pair table) row)
pair_no_hint zero row is holds = step_no_hint row is holds
pair_no_hint (suc zero) row is holds = answer_by (slice_index row 0) (slice_index row 1) (nat_eq (slice_index row 1) 0)
pair_no_hint (suc (suc table)) row is holds = record { hint = refl; next = refl }
