-- From the events of a segment to its run.
use Rattle.std.proofs.Common.{◌≡◌, ℕ, List, [], ◌∷◌, ◌++◌, map, refl, sym, ap, ◌∙◌, arith}
use Rattle.std.specs.Prelude.{flat_map, Option, Some, None}
use Rattle.std.specs.List.{AllByRecursion}
use Rattle.std.proofs.lemmas.Bool.{ne_eqb}
use Rattle.std.proofs.lemmas.List.{map-append}
use Rattle.std.proofs.lemmas.List.Concat.{flat_map-append}
use Rattle.air_core.specs.declared.event.Event.{Event}
use Rattle.air_core.specs.declared.event.Side.{Side}
use Rattle.air_core.specs.Balance.{total, amount_at, Balanced, BalancedOn}
use Rattle.air_core.specs.Step.{Touched as RowAccess, touched_events, on_bus}
use Rattle.air_core.proofs.BalanceLemmas.{total-append, total-cons}
use Rattle.air_core.specs.Counts.{weight}
use Rattle.exec_path.specs.Path.{Point, TimedRow}
use Rattle.air_core.specs.Totals.{SameTotals, is_bus}
use Rattle.exec_path.specs.PathEvents.{path_events, connector_events, execution_events}
use Rattle.air_core.specs.ListLemmas.{all_append, all_weaker}
use Rattle.exec_path.proofs.PathLemmas.{one_path, rows_balance}
use Rattle.air_core.proofs.Totals.{total-on_bus, total_each, SameTotals-flat_map}
use Rattle.vm_trace.specs.declared.page.Touched.{Touched}
use Rattle.offline_memory.specs.Memory.{Access}
use Rattle.offline_memory.specs.Pages.{page_blocks}
use Rattle.offline_memory.specs.MemoryEvents.{access_events, block_events, boundary_events, memory_events}
use Rattle.acceptance.specs.OneRun.{RowStep, TableRow, NotOn, SaysIfValid, RowSays, timed_access, timed_accesses, accesses_of, timed_row, timed_rows, step_list, steps_of, run_events}
use Rattle.acceptance.specs.Laws.{BalancedStepsAreOneRun, BalancedSegmentIsOneRun}
use Rattle.offline_memory.proofs.EventLemmas.{accesses_balance}
use Rattle.acceptance.proofs.RunOfSteps.{Known, run_of_steps}

-- events that are not on a bus have no sum there
pub total_elsewhere : (side : Side) (bus : ℕ) (tuple : List ℕ) (events : List Event) → NotOn bus events → total side bus tuple events ≡ 0
total_elsewhere side bus tuple [] away = refl
total_elsewhere side bus tuple (e ∷ events) away =
    let none : amount_at side bus tuple e ≡ 0 = rw (ne_eqb e.bus bus away.0) refl in
    omega (arith, total-cons side bus tuple e events, none, total_elsewhere side bus tuple events away.1)

-- a list with the events of a bus has its sums
same_on_bus : (bus : ℕ) (events listed : List Event) → on_bus bus events ≡ listed → SameTotals bus events listed
same_on_bus bus events listed e = record { sums = λ side tuple. sym (total-on_bus side bus tuple events) ∙ ap (total side bus tuple) e }

same_nowhere : (bus : ℕ) (events : List Event) → NotOn bus events → SameTotals bus events []
same_nowhere bus events away = record { sums = λ side tuple. total_elsewhere side bus tuple events away }

same_accesses : (time : ℕ) (xs : List RowAccess) → flat_map (touched_events time) xs ≡ flat_map access_events (map (timed_access time) xs)
same_accesses time [] = refl
same_accesses time (a ∷ xs) = ap (λ (t : List Event). touched_events time a ++ t) (same_accesses time xs)

-- what a row says on the execution bus and on the memory bus
says_path : (bound : ℕ) (events : List Event) (step : Option RowStep) → SaysIfValid bound events step → SameTotals 0 events (flat_map path_events (timed_rows (step_list step)))
says_path bound events None away = same_nowhere 0 events away.0
says_path bound events (Some step) says = same_on_bus 0 events (flat_map path_events (timed_rows (step ∷ []))) says.is_step.spoken.path

says_memory : (bound : ℕ) (events : List Event) (step : Option RowStep) → SaysIfValid bound events step → SameTotals 2 events (flat_map access_events (accesses_of (step_list step)))
says_memory bound events None away = same_nowhere 2 events away.1
says_memory bound events (Some step) says =
    same_on_bus 2 events (flat_map access_events (accesses_of (step ∷ [])))
    (says.is_step.spoken.memory ∙ same_accesses step.time step.accesses ∙ ap (λ (t : List Access). flat_map access_events t) (one_list (timed_accesses step)))
  where
    one_list : (xs : List Access) → xs ≡ xs ++ []
    one_list [] = refl
    one_list (x ∷ xs) = ap (λ (t : List Access). x ∷ t) (one_list xs)

known_of : (bound : ℕ) (events : List Event) (step : Option RowStep) → SaysIfValid bound events step → AllByRecursion (Known bound) (step_list step)
known_of bound events None away = tt
known_of bound events (Some step) says =
    (record { some = says.some; far = says.far; rising = says.is_step.rising; earlier = says.is_step.earlier; new_bytes = says.is_step.new_bytes }, tt)

known_all : (bound : ℕ) (rows : List TableRow) → AllByRecursion (RowSays bound) rows → AllByRecursion (Known bound) (steps_of rows)
known_all bound [] says = tt
known_all bound (row ∷ rows) says = all_append (Known bound) (step_list row.step) (steps_of rows) (known_of bound row.events row.step says.0) (known_all bound rows says.1)

pub one_run : BalancedStepsAreOneRun
one_run bound start end pages rows events says labels low high balanced_0 same_0 balanced_2 same_2 =
    run_of_steps bound start end pages (steps_of rows)
    (λ adds. one_path start end (timed_rows (steps_of rows)) adds (omega (arith, low, high)) (rows_balance start end (timed_rows (steps_of rows)) events balanced_0 same_0))
    (known_all bound rows says) low high (accesses_balance pages (accesses_of (steps_of rows)) events balanced_2 same_2) labels

-- the events of the steps, row by row
path_joined : (rows : List TableRow) → flat_map (λ (row : TableRow). flat_map path_events (timed_rows (step_list row.step))) rows ≡ flat_map path_events (timed_rows (steps_of rows))
path_joined [] = refl
path_joined (row ∷ rows) =
    ap (λ (t : List Event). flat_map path_events (timed_rows (step_list row.step)) ++ t) (path_joined rows)
    ∙ sym (flat_map-append path_events (timed_rows (step_list row.step)) (timed_rows (steps_of rows)))
    ∙ ap (λ (t : List TimedRow). flat_map path_events t) (sym (map-append timed_row (step_list row.step) (steps_of rows)))

memory_joined : (rows : List TableRow) → flat_map (λ (row : TableRow). flat_map access_events (accesses_of (step_list row.step))) rows ≡ flat_map access_events (accesses_of (steps_of rows))
memory_joined [] = refl
memory_joined (row ∷ rows) =
    ap (λ (t : List Event). flat_map access_events (accesses_of (step_list row.step)) ++ t) (memory_joined rows)
    ∙ sym (flat_map-append access_events (accesses_of (step_list row.step)) (accesses_of (steps_of rows)))
    ∙ ap (λ (t : List Access). flat_map access_events t) (sym (flat_map-append timed_accesses (step_list row.step) (steps_of rows)))

none : {X : Type 0} (xs : List X) → weight (λ (x : X). 0) xs ≡ 0
none [] = refl
none (x ∷ xs) = omega (arith, none xs)

-- pages say nothing on the execution bus
pages_elsewhere : (side : Side) (tuple : List ℕ) (pages : List Touched) → total side 0 tuple (flat_map boundary_events pages) ≡ 0
pages_elsewhere side tuple pages =
    total_each side 0 tuple boundary_events (λ _. 0) (λ page. total_each side 0 tuple block_events (λ _. 0) (λ b. total_elsewhere side 0 tuple (block_events b) (λ e. omega (arith, e), (λ e. omega (arith, e), tt))) (page_blocks page) ∙ none (page_blocks page)) pages
    ∙ none pages

same_execution : (bound : ℕ) (start end : Point) (pages : List Touched) (rows : List TableRow) (others : List Event) → NotOn 0 others → AllByRecursion (RowSays bound) rows → SameTotals 0 (run_events start end pages rows others) (execution_events start end (timed_rows (steps_of rows)))
same_execution bound start end pages rows others away says =
    let of_rows : SameTotals 0 (flat_map (λ (row : TableRow). row.events) rows) (flat_map (λ (row : TableRow). flat_map path_events (timed_rows (step_list row.step))) rows) =
    SameTotals-flat_map 0 (λ (row : TableRow). row.events) (λ row. flat_map path_events (timed_rows (step_list row.step))) rows
    (all_weaker (RowSays bound) (λ row. SameTotals 0 row.events (flat_map path_events (timed_rows (step_list row.step)))) (λ row h. says_path bound row.events row.step h) rows says) in
    record {
      sums = λ side tuple.
          omega (
            arith,
            total-append side 0 tuple (connector_events start end) (flat_map (λ (row : TableRow). row.events) rows ++ (others ++ flat_map boundary_events pages)),
            total-append side 0 tuple (flat_map (λ (row : TableRow). row.events) rows) (others ++ flat_map boundary_events pages),
            total-append side 0 tuple others (flat_map boundary_events pages),
            total-append side 0 tuple (connector_events start end) (flat_map path_events (timed_rows (steps_of rows))),
            of_rows.sums side tuple,
            ap (total side 0 tuple) (path_joined rows),
            pages_elsewhere side tuple pages,
            total_elsewhere side 0 tuple others away,
          );
    }

same_memory : (bound : ℕ) (start end : Point) (pages : List Touched) (rows : List TableRow) (others : List Event) → NotOn 2 others → AllByRecursion (RowSays bound) rows → SameTotals 2 (run_events start end pages rows others) (memory_events pages (accesses_of (steps_of rows)))
same_memory bound start end pages rows others away says =
    let of_rows : SameTotals 2 (flat_map (λ (row : TableRow). row.events) rows) (flat_map (λ (row : TableRow). flat_map access_events (accesses_of (step_list row.step))) rows) =
    SameTotals-flat_map 2 (λ (row : TableRow). row.events) (λ row. flat_map access_events (accesses_of (step_list row.step))) rows
    (all_weaker (RowSays bound) (λ row. SameTotals 2 row.events (flat_map access_events (accesses_of (step_list row.step)))) (λ row h. says_memory bound row.events row.step h) rows says) in
    record {
      sums = λ side tuple.
          omega (
            arith,
            total-append side 2 tuple (connector_events start end) (flat_map (λ (row : TableRow). row.events) rows ++ (others ++ flat_map boundary_events pages)),
            total-append side 2 tuple (flat_map (λ (row : TableRow). row.events) rows) (others ++ flat_map boundary_events pages),
            total-append side 2 tuple others (flat_map boundary_events pages),
            total-append side 2 tuple (flat_map boundary_events pages) (flat_map access_events (accesses_of (steps_of rows))),
            of_rows.sums side tuple,
            ap (total side 2 tuple) (memory_joined rows),
            total_elsewhere side 2 tuple (connector_events start end) (λ e. omega (arith, e), (λ e. omega (arith, e), tt)),
            total_elsewhere side 2 tuple others away,
          );
    }

one_bus : (bus : ℕ) (events : List Event) → Balanced events → BalancedOn (is_bus bus) events
one_bus bus events balanced = record { even = λ b tuple on. balanced.even b tuple }

pub whole_run : BalancedSegmentIsOneRun
whole_run bound start end pages rows others says away_0 away_2 labels low high balanced =
    one_run bound start end pages rows (run_events start end pages rows others) says labels low high
    (one_bus 0 (run_events start end pages rows others) balanced) (same_execution bound start end pages rows others away_0 says)
    (one_bus 2 (run_events start end pages rows others) balanced) (same_memory bound start end pages rows others away_2 says)
