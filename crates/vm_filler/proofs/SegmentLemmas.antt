-- What is filled are a segment's tables with their entries.
use Rattle.std.proofs.Common.{◌≡◌, ℕ, ◌<◌, ◌≤◌, true, List, length, slice_index, min, [], Some, refl, sym, ap, ◌∙◌, subst, arith}
use Rattle.std.specs.Prelude.{slice_index_or}
use Rattle.std.proofs.lemmas.List.FromFn.{fill_by_all}
use Rattle.std.proofs.lemmas.Option.{slice_get-get_or}
use Rattle.vm_isa.specs.declared.instr.VmInstr.{VmInstr}
use Rattle.vm_isa.specs.declared.record.StepRecord.{StepRecord}
use Rattle.vm_isa.specs.Instr.{numbers_of}
use Rattle.vm_trace.specs.declared.count.CountList.TheVariants.{Program, Xor, Range, ShaConst}
use Rattle.vm_trace.specs.Contents.{Contents, rows_by_table}
use Rattle.air_core.specs.declared.event.Event.{Event}
use Rattle.air_core.specs.declared.event.Side.TheVariants.{Send}
use Rattle.air_core.specs.Balance.{total}
use Rattle.air_core.specs.Laws.{is_lookup}
use Rattle.air_core.specs.System.{System, all_events}
use Rattle.lookup_tables.specs.Places.{rows_of}
use Rattle.lookup_tables.proofs.PlaceLemmas.{some_row}
use Rattle.vm_executor.specs.Records.{AreRecords}
use Rattle.acceptance.specs.Events.{fixed_row}
use Rattle.vm_filler.specs.Filling.{AllFilled, CountsRows, with_entries}
use Rattle.vm_filler.specs.Lookups.{LookupCounts, CountsSent, CountLookups, most}
use Rattle.vm_filler.specs.Segment.{SegmentFilled}
use Rattle.vm_filler.specs.Tables.{AreFilledTables}
use Rattle.vm_filler.specs.Uses.{fixed_rows, times_sent, uses_of, entries_of}
use Rattle.vm_filler.proofs.Balance.{of, said}
use Rattle.vm_filler.proofs.Exchange.{exchange}
use Rattle.vm_filler.proofs.FixedRows.{lookup_at, program_at}
use Rattle.vm_filler.proofs.Lawful.{Lawful}
use Rattle.vm_filler.proofs.Limits.{counts_few}
use Rattle.vm_filler.proofs.RecordSums.{programs_sent}

-- counts that say how often each row is sent are the uses
uses_are : (program : List VmInstr) (bus : ℕ) (events : List Event) (counts : List ℕ) → length counts ≡ fixed_rows program bus
    → ((k : ℕ) → k < fixed_rows program bus → (row : List ℕ) × (fixed_row program bus k ≡ Some row) × (slice_index counts k ≡ total Send bus row events)) → counts ≡ uses_of program bus events
unfolding uses_of
uses_are program bus events counts size each =
    fill_by_all (λ place. times_sent events bus (fixed_row program bus place)) counts (fixed_rows program bus) 0 size
    (λ k low. let found = each k low in found.2 ∙ sym (ap (times_sent events bus) found.1))

no_row : VmInstr
no_row = record { pc = 0; op = 0; rd = 0; rs1 = 0; rs2 = 0; write = true; use_imm = true; imm = []; target = 0 }

module _ (x : System) (lawful : Lawful x) (program : List VmInstr) (pc : ℕ) (done : List StepRecord) (records : AreRecords x program pc done) (t : Contents) (filled : AreFilledTables done x.parts (rows_by_table t)) where
  abbrev events : List Event
  events = all_events x.parts (rows_by_table t)

  -- no count is so great that it would have stopped
  whole : (bus : ℕ) (tuple : List ℕ) → is_lookup bus ≡ true → min (total Send bus tuple events) most ≡ total Send bus tuple events
  whole bus tuple lookup =
      omega (arith, counts_few x lawful.complete lawful.quiet bus tuple lookup done records.owned records.fillable (rows_by_table t) filled Send, records.few)

  lookup_uses : (bus : ℕ) (counts : List ℕ) → 3 ≤ bus → is_lookup bus ≡ true → fixed_rows program bus ≡ rows_of bus → length counts ≡ rows_of bus → CountsSent bus events counts → counts ≡ uses_of program bus events
  lookup_uses bus counts high lookup rows size sent =
      uses_are program bus events counts (size ∙ sym rows) (λ k low.
      let row = some_row bus k (omega (arith, low, rows)) in
      (row.0, lookup_at program bus k row.0 high row.1, sent.at k row.0 row.1 ∙ whole bus row.0 lookup))

  program_uses : (rows : List ℕ) → length rows ≡ length program → CountsRows program done rows → rows ≡ uses_of program 1 events
  program_uses rows size counted =
      uses_are program 1 events rows size (λ k low.
      let row = slice_index_or program k no_row in
      let at : fixed_row program 1 k ≡ Some (numbers_of row) = program_at program k row (slice_get-get_or program k no_row low) in (
        numbers_of row,
        at,
        counted.at k (numbers_of row) at
            ∙ sym (exchange Send 1 (numbers_of row) done x.parts (rows_by_table t) filled lawful.quiet
            ∙ programs_sent (of x lawful program pc done records (rows_by_table t) filled) done (said x lawful program pc done records (rows_by_table t) filled) (numbers_of row)),
      ))

-- the tables with their entries
pub segment_filled : (x : System) → Lawful x → (program : List VmInstr) (pc : ℕ) (done : List StepRecord) → AreRecords x program pc done → (t : Contents) (before after : LookupCounts) → AllFilled x done t before after
    → (rows : List ℕ) → CountLookups before [] → CountsRows program done rows → length rows ≡ length program → length after.xor ≡ rows_of 3 → length after.range ≡ rows_of 4 → length after.constants ≡ rows_of 5
    → (a b c d : Contents) → a ≡ with_entries t Program (entries_of rows) → b ≡ with_entries a Xor (entries_of after.xor) → c ≡ with_entries b Range (entries_of after.range)
    → d ≡ with_entries c ShaConst (entries_of after.constants) → SegmentFilled x program done d
segment_filled x lawful program pc done records t before after filled rows none counted size xor_size range_size constant_size a b c d first second third fourth =
    let events = all_events x.parts (rows_by_table t) in
    let made : Contents = record { tables = t.tables; program = entries_of rows; xor = entries_of after.xor; range = entries_of after.range; constants = entries_of after.constants } in
    let held : CountLookups after events = filled.handed.lists [] none in
    let is : made ≡ d =
    sym (fourth ∙ ap (λ (s : Contents). with_entries s ShaConst (entries_of after.constants))
    (third ∙ ap (λ (s : Contents). with_entries s Range (entries_of after.range))
    (second ∙ ap (λ (s : Contents). with_entries s Xor (entries_of after.xor))
    (first ∙ ap (λ (s : Contents). with_entries s Program (entries_of rows)) filled.entries)))) in
    subst (SegmentFilled x program done) is
    (record {
      widths = filled.widths;
      filled = filled.filled;
      program_entries = ap entries_of (program_uses x lawful program pc done records t filled.filled rows size counted);
      xor_entries = ap entries_of (lookup_uses x lawful program pc done records t filled.filled 3 after.xor (omega arith) refl refl xor_size held.xor);
      range_entries = ap entries_of (lookup_uses x lawful program pc done records t filled.filled 4 after.range (omega arith) refl refl range_size held.range);
      constant_entries = ap entries_of (lookup_uses x lawful program pc done records t filled.filled 5 after.constants (omega arith) refl refl constant_size held.constants);
    })
