-- The tables that records fill balance with their connector, with pages that fit them and with the entries.
use Rattle.std.proofs.Common.{◌≡◌, ℕ, zero, suc, ◌+◌, ◌<◌, ◌≤◌, true, false, List, [], ◌∷◌, ◌++◌, length, Some, refl, sym, ◌∙◌, subst, arith, ⊎_elim}
use Rattle.std.specs.Prelude.{flat_map, replicate}
use Rattle.std.specs.List.{AllByRecursion}
use Rattle.std.proofs.lemmas.Bool.{cases_Bool}
use Rattle.vm_isa.specs.declared.instr.VmInstr.{VmInstr}
use Rattle.vm_isa.specs.declared.record.StepRecord.{StepRecord}
use Rattle.vm_isa.specs.Means.{Fillable}
use Rattle.vm_trace.specs.declared.count.CountEntry.{CountEntry}
use Rattle.vm_trace.specs.declared.page.Touched.{Touched}
use Rattle.air_core.specs.declared.event.Event.{Event}
use Rattle.air_core.specs.declared.event.Side.TheVariants.{Send, Receive}
use Rattle.air_core.specs.Balance.{total, Balanced}
use Rattle.air_core.specs.Counts.{weight}
use Rattle.air_core.specs.Laws.{Recorded, is_lookup}
use Rattle.air_core.specs.Lookups.{Good}
use Rattle.air_core.specs.PartLemmas.{total_elsewhere, all_own, away}
use Rattle.air_core.specs.Sheet.{AllBelow}
use Rattle.air_core.specs.System.{System, Part, is_owned, all_events, EachRow, GoodRow, tables_for}
use Rattle.air_core.specs.ExtensionLaws.{QuietZeros}
use Rattle.air_core.proofs.BalanceLemmas.{total-append}
use Rattle.air_core.proofs.RecordLemmas.{said_once}
use Rattle.air_core.proofs.Totals.{total_send-given_first, total_receive-given_first}
use Rattle.exec_path.specs.PathEvents.{point_tuple, connector_events}
use Rattle.offline_memory.specs.MemoryEvents.{access_events, boundary_events}
use Rattle.offline_memory.specs.Linked.{PagesFit}
use Rattle.offline_memory.proofs.LinkedLemmas.{linked_accesses_balance}
use Rattle.vm_transpile.specs.Order.{RisesFrom}
use Rattle.vm_executor.specs.Records.{AreRecords, accesses_of, start_at, point_after}
use Rattle.acceptance.specs.Events.{fixed_row, received_on}
use Rattle.acceptance.proofs.Lookups.{pages_on}
use Rattle.vm_filler.specs.Tables.{zero_row, AreFilledTables}
use Rattle.vm_filler.specs.Uses.{fixed_rows, uses_of, entries_of}
use Rattle.vm_filler.proofs.EntryEvents.{received_as_sent, entries_send, entries_bus}
use Rattle.vm_filler.proofs.Exchange.{exchange, each_filled}
use Rattle.vm_filler.proofs.FixedRows.{OnePlace, program_places, lookup_places, program_below, lookup_below, uses_at}
use Rattle.vm_filler.proofs.Lawful.{Lawful}
use Rattle.vm_filler.proofs.RecordSums.{paths_sent, paths_received, memories_said, programs_sent, chain_sums}
use Rattle.vm_filler.proofs.Sent.{rows_receive_none, good_events, xor_stands, range_stands, constant_stands, program_stands}
use Rattle.vm_filler.proofs.SevenLists.{seven_balance}

-- ---- rows of zeros

zero_below : (n : ℕ) → AllBelow (replicate n 0)
zero_below zero = tt
zero_below (suc n) = (omega arith, zero_below n)

zero_wide : (n : ℕ) → length {A = ℕ} (replicate n 0) ≡ n
zero_wide zero = refl
zero_wide (suc n) = omega (arith, zero_wide n)

zeros_good : (parts : List Part) → AllByRecursion (λ p. QuietZeros p.sheet) parts → AllByRecursion (λ p. GoodRow p.sheet (zero_row p.sheet)) parts
zeros_good [] quiet = tt
zeros_good (p ∷ parts) quiet = (
  record {
    is_row = record { wide = zero_wide p.sheet.width; below = zero_below p.sheet.width };
    holds = quiet.0.holds;
    good = subst (λ (t : List Event). Good t) (sym quiet.0.silent) tt;
  },
  zeros_good parts quiet.1,
)

-- ---- what the rows say

module _ (x : System) (lawful : Lawful x) (program : List VmInstr) (pc : ℕ) (done : List StepRecord) (records : AreRecords x program pc done) (tables : List (List (List ℕ))) (filled : AreFilledTables done x.parts tables) where
  abbrev pub of : StepRecord → List Event
  of d = all_events x.parts (tables_for d x.parts)

  said_each : (ds : List StepRecord) → AllByRecursion (λ d. is_owned x.parts d.instr.op ≡ true) ds → AllByRecursion (λ d. Fillable x.time_bits d) ds → AllByRecursion (λ d. Recorded d (of d)) ds
  said_each [] owned fillable = tt
  said_each (d ∷ ds) owned fillable = (said_once x lawful.fits lawful.buses lawful.rows lawful.complete d owned.0 fillable.0, said_each ds owned.1 fillable.1)

  pub said : AllByRecursion (λ d. Recorded d (of d)) done
  said = said_each done records.owned records.fillable

  path_even : (tuple : List ℕ) → total Send 0 tuple (connector_events (start_at pc) (point_after (start_at pc) done)) + total Send 0 tuple (all_events x.parts tables)
      ≡ total Receive 0 tuple (connector_events (start_at pc) (point_after (start_at pc) done)) + total Receive 0 tuple (all_events x.parts tables)
  path_even tuple =
      let end = point_after (start_at pc) done in
      omega (
        arith,
        total_send-given_first 0 tuple (point_tuple end) (point_tuple (start_at pc)),
        total_receive-given_first 0 tuple (point_tuple end) (point_tuple (start_at pc)),
        exchange Send 0 tuple done x.parts tables filled lawful.quiet,
        exchange Receive 0 tuple done x.parts tables filled lawful.quiet,
        paths_sent of done said tuple,
        paths_received of done said tuple,
        chain_sums tuple (start_at pc) done records.chained,
      )

  memory_even : (pages : List Touched) → PagesFit pages (accesses_of done) → (tuple : List ℕ) → total Send 2 tuple (all_events x.parts tables) + total Send 2 tuple (flat_map boundary_events pages)
      ≡ total Receive 2 tuple (all_events x.parts tables) + total Receive 2 tuple (flat_map boundary_events pages)
  memory_even pages fit tuple =
      omega (
        arith,
        (linked_accesses_balance pages (accesses_of done) records.linked fit).even 2 tuple refl,
        total-append Send 2 tuple (flat_map boundary_events pages) (flat_map access_events (accesses_of done)),
        total-append Receive 2 tuple (flat_map boundary_events pages) (flat_map access_events (accesses_of done)),
        exchange Send 2 tuple done x.parts tables filled lawful.quiet,
        exchange Receive 2 tuple done x.parts tables filled lawful.quiet,
        memories_said of done said tuple Send,
        memories_said of done said tuple Receive,
      )

  -- the private buses balance record by record
  private_each : (bus : ℕ) (tuple : List ℕ) → x.private bus ≡ true → (ds : List StepRecord) → AllByRecursion (λ d. is_owned x.parts d.instr.op ≡ true) ds → AllByRecursion (λ d. Fillable x.time_bits d) ds
      → weight (λ d. total Send bus tuple (of d)) ds ≡ weight (λ d. total Receive bus tuple (of d)) ds
  private_each bus tuple own [] owned fillable = refl
  private_each bus tuple own (d ∷ ds) owned fillable =
      omega (arith, (lawful.complete d owned.0 fillable.0).balanced.even bus tuple own, private_each bus tuple own ds owned.1 fillable.1)

  other_even : (bus : ℕ) (tuple : List ℕ) → 6 ≤ bus → total Send bus tuple (all_events x.parts tables) ≡ total Receive bus tuple (all_events x.parts tables)
  other_even bus tuple high =
      ⊎_elim
      (λ (own : x.private bus ≡ true).
      exchange Send bus tuple done x.parts tables filled lawful.quiet ∙ private_each bus tuple own done records.owned records.fillable ∙ sym (exchange Receive bus tuple done x.parts tables filled lawful.quiet))
      (λ (none : x.private bus ≡ false).
      let off = away x.private bus high (λ own. let z : true ≡ false = sym own ∙ none in absurd (cc)) (all_events x.parts tables) (all_own x.private x.parts lawful.buses tables) in
      total_elsewhere Send bus tuple (all_events x.parts tables) off ∙ sym (total_elsewhere Receive bus tuple (all_events x.parts tables) off))
      (cases_Bool (x.private bus))

  -- ---- rows

  good_each : (ds : List StepRecord) → AllByRecursion (λ d. is_owned x.parts d.instr.op ≡ true) ds → AllByRecursion (λ d. Fillable x.time_bits d) ds
      → AllByRecursion (λ d. EachRow GoodRow x.parts (tables_for d x.parts)) ds
  good_each [] owned fillable = tt
  good_each (d ∷ ds) owned fillable = ((lawful.complete d owned.0 fillable.0).rows, good_each ds owned.1 fillable.1)

  -- every row of the filled tables is good
  pub rows_good : EachRow GoodRow x.parts tables
  rows_good = each_filled GoodRow done x.parts tables filled (zeros_good x.parts lawful.quiet) (good_each done records.owned records.fillable)

  -- ---- fixed tables

  abbrev events : List Event
  events = all_events x.parts tables

  abbrev entries : ℕ → List CountEntry
  entries bus = entries_of (uses_of program bus events)

  fixed_even : (bus : ℕ) → is_lookup bus ≡ true → OnePlace (fixed_row program bus) → ((k : ℕ) (tuple : List ℕ) → fixed_row program bus k ≡ Some tuple → k < fixed_rows program bus)
      → ((tuple : List ℕ) → 0 < total Send bus tuple events → (k : ℕ) × (fixed_row program bus k ≡ Some tuple))
      → (tuple : List ℕ) → total Send bus tuple events + total Send bus tuple (received_on program bus (entries bus)) ≡ total Receive bus tuple events + total Receive bus tuple (received_on program bus (entries bus))
  fixed_even bus lookup one below stands tuple =
      omega (
        arith,
        received_as_sent bus (fixed_row program bus) one events (uses_of program bus events) (λ k t is. uses_at program bus events k t (below k t is) is) stands tuple,
        entries_send bus bus (fixed_row program bus) tuple (entries bus),
        rows_receive_none x.private x.parts lawful.buses tables bus tuple lookup,
      )

  program_rows : (tuple : List ℕ) → 0 < total Send 1 tuple events → (k : ℕ) × (fixed_row program 1 k ≡ Some tuple)
  program_rows tuple some =
      program_stands program tuple done records.stand (omega (arith, some, exchange Send 1 tuple done x.parts tables filled lawful.quiet, programs_sent of done said tuple))

  good : Good events
  good = good_events x.parts tables rows_good

  lookup_even : (bus : ℕ) → 3 ≤ bus → is_lookup bus ≡ true → ((tuple : List ℕ) → 0 < total Send bus tuple events → (k : ℕ) × (fixed_row program bus k ≡ Some tuple))
      → (tuple : List ℕ) → total Send bus tuple events + total Send bus tuple (received_on program bus (entries bus)) ≡ total Receive bus tuple events + total Receive bus tuple (received_on program bus (entries bus))
  lookup_even bus high lookup stands = fixed_even bus lookup (lookup_places program bus high) (λ k t. lookup_below program bus k t high) stands

  -- The whole segment balances.
  pub segment_balances : RisesFrom 0 program → (pages : List Touched) → PagesFit pages (accesses_of done)
      → Balanced (connector_events (start_at pc) (point_after (start_at pc) done) ++
      (events ++ ((received_on program 1 (entries 1) ++
      (received_on program 3 (entries 3) ++ (received_on program 4 (entries 4) ++ received_on program 5 (entries 5)))) ++ flat_map boundary_events pages)))
  segment_balances rises pages fit =
      seven_balance (connector_events (start_at pc) (point_after (start_at pc) done)) events (flat_map boundary_events pages)
      (received_on program 1 (entries 1)) (received_on program 3 (entries 3)) (received_on program 4 (entries 4)) (received_on program 5 (entries 5))
      (record {
        connector = (refl, (refl, tt));
        pages = pages_on (λ e. e.bus ≡ 2) (λ e h. h) pages;
        program = entries_bus 1 (fixed_row program 1) (entries 1);
        xor = entries_bus 3 (fixed_row program 3) (entries 3);
        range = entries_bus 4 (fixed_row program 4) (entries 4);
        constants = entries_bus 5 (fixed_row program 5) (entries 5);
        path_even = path_even;
        memory_even = memory_even pages fit;
        program_even = fixed_even 1 refl (program_places program rises) (program_below program) program_rows;
        xor_even = lookup_even 3 (omega arith) refl (xor_stands program events good);
        range_even = lookup_even 4 (omega arith) refl (range_stands program events good);
        constants_even = lookup_even 5 (omega arith) refl (constant_stands program events good);
        other_even = other_even;
      })
