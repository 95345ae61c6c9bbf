-- A filled segment holds.
use Rattle.std.proofs.Common.{◌≡◌, ℕ, ◌*◌, ◌^◌, ◌<◌, ◌≤◌, List, [], ◌∷◌, ◌++◌, length, refl, sym, subst, arith}
use Rattle.std.specs.Prelude.{All, flat_map}
use Rattle.std.specs.List.{AllByRecursion}
use Rattle.std.proofs.Math.Pow.{pow_mono}
use Rattle.std.proofs.lemmas.List.Elements.{All-from_recursion}
use Rattle.vm_isa.specs.declared.instr.VmInstr.{VmInstr}
use Rattle.vm_isa.specs.declared.record.StepRecord.{StepRecord}
use Rattle.vm_trace.specs.declared.count.CountEntry.{CountEntry}
use Rattle.vm_trace.specs.declared.page.Touched.{Touched}
use Rattle.vm_trace.specs.Canonical.{IsDigest}
use Rattle.vm_trace.specs.Contents.{Contents, rows_by_table}
use Rattle.air_core.specs.declared.event.Event.{Event}
use Rattle.air_core.specs.Balance.{Balanced}
use Rattle.air_core.specs.ListLemmas.{all_weaker}
use Rattle.air_core.specs.Sheet.{IsRow, RowHolds}
use Rattle.air_core.specs.System.{System, Part, GoodRow, all_events}
use Rattle.exec_path.specs.PathEvents.{connector_events}
use Rattle.offline_memory.specs.MemoryEvents.{boundary_events}
use Rattle.page_tree.specs.Opening.{AreDigests}
use Rattle.vm_transpile.specs.Order.{RisesFrom}
use Rattle.vm_executor.specs.Records.{AreRecords, start_at, point_after}
use Rattle.acceptance.specs.Events.{received_on, segment_events}
use Rattle.acceptance.specs.Holds.{SegmentHolds}
use Rattle.acceptance.proofs.EachRow.{each_with}
use Rattle.vm_filler.specs.Laws.{FilledSegmentsHold}
use Rattle.vm_filler.specs.Segment.{SegmentFilled, PagesOpened, filled_segment}
use Rattle.vm_filler.specs.Tables.{AreFilledTables}
use Rattle.vm_filler.specs.Uses.{uses_of, entries_of}
use Rattle.vm_filler.proofs.Balance.{rows_good, segment_balances}
use Rattle.vm_filler.proofs.Lawful.{Lawful}
use Rattle.vm_filler.proofs.Limits.{slots_bound}

pub tables_count : (done : List StepRecord) (ps : List Part) (tables : List (List (List ℕ))) → AreFilledTables done ps tables → length tables ≡ length ps
tables_count done [] [] filled = refl
tables_count done [] (rows ∷ tables) filled = elim filled [ ]
tables_count done (p ∷ ps) [] filled = elim filled [ ]
tables_count done (p ∷ ps) (rows ∷ tables) filled = omega (arith, tables_count done ps tables filled.1)

any_part : (parts : List Part) → AllByRecursion (λ (p : Part). Unit {0}) parts
any_part [] = tt
any_part (p ∷ parts) = (tt, any_part parts)

digests_are : (siblings : List (List ℕ)) → AllByRecursion IsDigest siblings → AreDigests siblings
digests_are siblings all =
    All-from_recursion (λ (d : List ℕ). length d ≡ 32) siblings (all_weaker IsDigest (λ d. length d ≡ 32) (λ d h. h.size) siblings all)

-- all that is said, by its lists of entries
abbrev said_with : System → List VmInstr → ℕ → List StepRecord → List (List (List ℕ)) → List Touched → List CountEntry → List CountEntry → List CountEntry → List CountEntry → List Event
said_with x program pc done tables pages a b c d =
    connector_events (start_at pc) (point_after (start_at pc) done)
    ++ (all_events x.parts tables
    ++ ((received_on program 1 a ++ (received_on program 3 b ++ (received_on program 4 c ++ received_on program 5 d))) ++ flat_map boundary_events pages))

balanced : (x : System) → Lawful x → (program : List VmInstr) (pc : ℕ) (done : List StepRecord) (c : Contents) (ends : Rattle.std.specs.Prelude.Bool) (start_root end_root : List ℕ) (pages : List Touched) (siblings : List (List ℕ))
    → RisesFrom 0 program → AreRecords x program pc done → SegmentFilled x program done c → PagesOpened done pages siblings start_root end_root
    → Balanced (segment_events x program (filled_segment pc done c ends start_root end_root pages siblings))
balanced x lawful program pc done c ends start_root end_root pages siblings rises records filled opened =
    let tables = rows_by_table c in
    let entries : ℕ → List CountEntry = λ bus. entries_of (uses_of program bus (all_events x.parts tables)) in
    let all = segment_balances x lawful program pc done records tables filled.filled rises pages opened.fit in
    let p = subst (λ es. Balanced (said_with x program pc done tables pages es (entries 3) (entries 4) (entries 5))) (sym filled.program_entries) all in
    let q = subst (λ es. Balanced (said_with x program pc done tables pages c.program es (entries 4) (entries 5))) (sym filled.xor_entries) p in
    let r = subst (λ es. Balanced (said_with x program pc done tables pages c.program c.xor es (entries 5))) (sym filled.range_entries) q in
    subst (λ es. Balanced (said_with x program pc done tables pages c.program c.xor c.range es)) (sym filled.constant_entries) r

slots_below : (bits n slots : ℕ) → 24 ≤ bits → n ≤ 65536 → slots ≤ 128 * n → slots < 2 ^ bits
slots_below bits n slots high few most = let up : 2 ^ 24 ≤ 2 ^ bits = pow_mono high in omega (arith, up, few, most)

made_holds : (x : System) → Lawful x → (program : List VmInstr) (pc : ℕ) (done : List StepRecord) (c : Contents) (ends : Rattle.std.specs.Prelude.Bool) (start_root end_root : List ℕ) (pages : List Touched) (siblings : List (List ℕ))
    → RisesFrom 0 program → AreRecords x program pc done → SegmentFilled x program done c → PagesOpened done pages siblings start_root end_root
    → SegmentHolds x program (filled_segment pc done c ends start_root end_root pages siblings)
made_holds x lawful program pc done c ends start_root end_root pages siblings rises records filled opened =
    let tables = rows_by_table c in
    let good = rows_good x lawful program pc done records tables filled.filled in
    record {
      count = tables_count done x.parts tables filled.filled;
      are_rows = each_with (λ p. Unit {0}) GoodRow IsRow x.parts tables (λ p row o h. h.is_row) (any_part x.parts) good;
      hold = each_with (λ p. Unit {0}) GoodRow RowHolds x.parts tables (λ p row o h. h.holds) (any_part x.parts) good;
      slots = slots_below x.time_bits (length done) _ lawful.fits.bits_low records.few (slots_bound x.time_bits done x.parts tables filled.filled lawful.fits.parts lawful.rows.parts lawful.fits.owners);
      balanced = balanced x lawful program pc done c ends start_root end_root pages siblings rises records filled opened;
      rising = opened.rising;
      pages = opened.machine;
      digests = digests_are siblings opened.digests;
      roots = opened.roots;
    }

pub filled_segments_hold : (x : System) → Lawful x → FilledSegmentsHold x
filled_segments_hold x lawful program done s rises is =
    subst (SegmentHolds x program) (sym is.is)
    (made_holds x lawful program s.pc_start done is.contents s.ends s.start_root s.end_root s.pages s.siblings rises is.records is.filled is.opened)
