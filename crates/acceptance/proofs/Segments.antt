-- A segment that holds is a run.
use Rattle.std.proofs.Common.{◌≡◌, ℕ, suc, ◌^◌, ◌<◌, ◌≤◌, Bool, true, false, nat_eq, List, [], ◌∷◌, ◌++◌, length, map, refl, sym, ap, ◌∙◌, subst, arith, inl, inr, pow_mono}
use Rattle.std.specs.Prelude.{flat_map, All, count_by, IsPermutation, if◌then◌else◌, AllPairs}
use Rattle.std.specs.List.{AllByRecursion}
use Rattle.std.specs.List.Sorted.{IsStrictlyIncreasing}
use Rattle.std.proofs.lemmas.Grind.{flat_map-append}
use Rattle.std.proofs.lemmas.List.Elements.{recursion_from_All}
use Rattle.std.proofs.lemmas.List.Kept.{AllPairs-from_increasing}
use Rattle.std.proofs.lemmas.List.Sorted.{length_permutation, IsPermutation-sym}
use Rattle.vm_field.specs.Field.{modulus}
use Rattle.vm_isa.specs.declared.instr.VmInstr.{VmInstr}
use Rattle.vm_isa.specs.Blocks.{Blocks, VmGoes, space_size}
use Rattle.vm_isa.specs.Instr.{InRange}
use Rattle.vm_isa.specs.Words.{IsBytes}
use Rattle.air_core.specs.declared.event.Event.{Event}
use Rattle.air_core.specs.declared.hint.HintWord.{HintWord}
use Rattle.air_core.specs.Balance.{Balanced}
use Rattle.air_core.specs.ExtensionLaws.{ExtensionFits, ExtensionBuses, ExtensionTimed, ExtensionSound, PartFits, PartBuses, SoundRow}
use Rattle.air_core.specs.Laws.{Timed}
use Rattle.air_core.specs.ListLemmas.{all_append, all_weaker}
use Rattle.air_core.specs.Orders.{Rises, Distinct}
use Rattle.air_core.specs.Sheet.{Sheet, IsRow, RowHolds, row_events}
use Rattle.air_core.specs.System.{System, Part, EachRow, GoodRow, Whole, times_of}
use Rattle.air_core.proofs.ElementLemmas.{all_both, all_permuted}
use Rattle.exec_path.specs.PathEvents.{connector_events}
use Rattle.air_core.proofs.Ordering.{in_order, in_order-IsPermutation, in_order-Ascends}
use Rattle.vm_trace.specs.declared.page.Touched.{Touched}
use Rattle.vm_trace.specs.PageBlocks.{IsPage, ArePages, HasOldWords}
use Rattle.acceptance.specs.BlockRun.{after_steps}
use Rattle.offline_memory.specs.MemoryEvents.{boundary_events}
use Rattle.vm_trace.specs.Pages.{page_space}
use Rattle.offline_memory.specs.Pages.{DistinctLabels}
use Rattle.acceptance.specs.OneRun.{RowStep, TableRow, OneRun, StepHasBytes, steps_of}
use Rattle.acceptance.proofs.WholeSegment.{whole_run}
use Rattle.acceptance.proofs.BlockRun.{run_meets_blocks}
use Rattle.page_tree.specs.Parts.{labels_of, label_of}
use Rattle.vm_trace.specs.File.{Segment}
use Rattle.acceptance.specs.Events.{counted_events, start_of, end_of, is_valid, valid_rows}
use Rattle.vm_trace.specs.Pages.{IsMachineLabel}
use Rattle.acceptance.specs.Holds.{IsMachinePage, SegmentHolds}
use Rattle.acceptance.specs.Laws.{SegmentRuns, SegmentsAreRuns}
use Rattle.acceptance.specs.Spelled.{AreHints, HintEvent, hint_event, SegmentSpells, hints_before}
use Rattle.acceptance.proofs.EachRow.{all_rows, each_both, each_with, rows_each, events_are, said_are, slots_are}
use Rattle.acceptance.proofs.Lookups.{Looked, rows_look_up, good_row, counted_not_on, private_balanced}
use Rattle.acceptance.proofs.Orders.{differ_in_any, one_order}
use Rattle.acceptance.proofs.Row.{step_hint, slot_word}
use Rattle.acceptance.proofs.Rows.{Reads, row_reads, AllRead, read_all, MeansIfBytes, StandsIn, FourWords, HasMeaning, step_time}
use Rattle.acceptance.proofs.Steps.{IsMachineStep, word_bytes, step_bytes, path_bytes, path_goes, before_words}

-- ---- pages

differ_by : (labels : List ℕ) → AllPairs (λ x y. x < y) labels → Distinct labels
differ_by [] up = tt
differ_by (x ∷ xs) up =
    (recursion_from_All (λ y. x ≡ y → ⊥) xs (λ k d h e. omega (arith, e, up 0 (suc k) d (omega arith) (omega (arith, h)))), differ_by xs (λ i j d le lt. up (suc i) (suc j) d (omega (arith, le)) (omega (arith, lt))))

labels_differ : (pages : List Touched) → IsStrictlyIncreasing (labels_of pages) → DistinctLabels pages
unfolding labels_of
labels_differ pages up = differ_by (map label_of pages) (AllPairs-from_increasing (map label_of pages) up)

page_by : (label : ℕ) → IsMachineLabel label → IsPage label
page_by label (inl e) = subst IsPage (sym e) (omega arith)
page_by label (inr (inl e)) = subst IsPage (sym e) (omega arith)
page_by label (inr (inr (inl h))) =
    let space : page_space label ≡ 2 = omega (arith, h.0, h.1) in
    let size : space_size (page_space label) ≡ 536870912 = ap space_size space in
    omega (arith, size)
page_by label (inr (inr (inr e))) = subst IsPage (sym e) (omega arith)

pub are_pages : (pages : List Touched) → AllByRecursion IsMachinePage pages → ArePages pages
are_pages pages h = all_weaker IsMachinePage (λ (page : Touched). IsPage page.label) (λ page p. page_by page.label p.label) pages h

-- ---- hints along a path

late_by : (t : ℕ) (step : RowStep) (b : Bool) → t < step.time → AllByRecursion (λ (h : HintWord). t < h.time) (if b then record { time = step.time; word = slot_word step.accesses; next = false } ∷ [] else [])
late_by t step true h = (h, tt)
late_by t step false h = tt

later_hints : (t : ℕ) (path : List RowStep) → AllByRecursion (λ (step : RowStep). t < step.time) path → AllByRecursion (λ (h : HintWord). t < h.time) (flat_map step_hint path)
later_hints t [] up = tt
later_hints t (step ∷ more) up =
    all_append (λ (h : HintWord). t < h.time) (step_hint step) (flat_map step_hint more) (late_by t step (nat_eq step.instr.op 37) up.0) (later_hints t more up.1)

rise_by : (step : RowStep) (hints : List HintWord) (b : Bool) → AllByRecursion (λ (h : HintWord). step.time < h.time) hints → Rises (λ (h : HintWord). h.time) hints
    → Rises (λ (h : HintWord). h.time) ((if b then record { time = step.time; word = slot_word step.accesses; next = false } ∷ [] else []) ++ hints)
rise_by step hints true later up = (later, up)
rise_by step hints false later up = up

hints_rise : (path : List RowStep) → Rises (λ (step : RowStep). step.time) path → Rises (λ (h : HintWord). h.time) (flat_map step_hint path)
hints_rise [] up = tt
hints_rise (step ∷ more) up = rise_by step (flat_map step_hint more) (nat_eq step.instr.op 37) (later_hints step.time more up.0) (hints_rise more up.1)

bytes_joined : (path : List RowStep) → flat_map word_bytes (flat_map step_hint path) ≡ path_bytes path
bytes_joined [] = refl
bytes_joined (step ∷ more) = flat_map-append word_bytes (step_hint step) (flat_map step_hint more) ∙ ap (λ (xs : List ℕ). step_bytes step ++ xs) (bytes_joined more)

-- ---- steps along a path

machine_steps : (program : List VmInstr) (path : List RowStep) → AllByRecursion (StandsIn program) path → AllByRecursion MeansIfBytes path → AllByRecursion FourWords path → AllByRecursion StepHasBytes path → AllByRecursion (IsMachineStep program) path
machine_steps program [] stands means four bytes = tt
machine_steps program (step ∷ more) stands means four bytes = (
  record { stands = stands.0; means = means.0 (all_weaker (λ a. IsBytes a.old × IsBytes a.new) (λ a. IsBytes a.old) (λ a h. h.0) step.accesses bytes.0); four = four.0; bytes = bytes.0 },
  machine_steps program more stands.1 means.1 four.1 bytes.1,
)

-- ---- a segment

-- what the laws say of a table
abbrev PartLaws : (ℕ → Bool) → ℕ → Part → Type 0
PartLaws private bits p = (PartFits bits p × PartBuses private p) × Timed p.sheet

-- what is known of a row
abbrev Known : List VmInstr → Sheet → List ℕ → Type 0
Known program sheet row = (IsRow sheet row × RowHolds sheet row) × AllByRecursion (Looked program) (row_events sheet row)

module _ (x : System) (fits : ExtensionFits x) (buses : ExtensionBuses x) (timed : ExtensionTimed x) (sound : ExtensionSound x) (program : List VmInstr) (s : Segment) (ranges : All InRange program) (holds : SegmentHolds x program s) where
  known : EachRow (Known program) x.parts s.tables
  known =
      each_both (λ sheet row. IsRow sheet row × RowHolds sheet row) (λ sheet row. AllByRecursion (Looked program) (row_events sheet row)) (Known program) x.parts s.tables (λ sheet row a b. (a, b))
      (each_both IsRow RowHolds (λ sheet row. IsRow sheet row × RowHolds sheet row) x.parts s.tables (λ sheet row a b. (a, b)) holds.are_rows holds.hold)
      (rows_look_up x program s buses holds.balanced)

  laws : AllByRecursion (PartLaws x.private x.time_bits) x.parts
  laws = all_both (λ p. PartFits x.time_bits p × PartBuses x.private p) (λ p. Timed p.sheet) x.parts (all_both (PartFits x.time_bits) (PartBuses x.private) x.parts fits.parts buses) timed

  reads : EachRow (Reads program (2 ^ x.time_bits)) x.parts s.tables
  reads =
      each_with (PartLaws x.private x.time_bits) (Known program) (Reads program (2 ^ x.time_bits)) x.parts s.tables
      (λ p row o k. row_reads program x.private x.time_bits p row ranges o.0.0 o.0.1 o.1 k.0.0 k.0.1 k.1) laws known

  good : EachRow GoodRow x.parts s.tables
  good =
      each_both (Known program) (Known program) GoodRow x.parts s.tables
      (λ sheet row k l. record { is_row = k.0.0; holds = k.0.1; good = good_row program ranges (row_events sheet row) k.1 }) known known

  pub read : AllRead program (2 ^ x.time_bits) (all_rows x.parts s.tables)
  read = read_all program (2 ^ x.time_bits) (all_rows x.parts s.tables) (rows_each (Reads program (2 ^ x.time_bits)) x.parts s.tables reads)

  pub steps : List RowStep
  steps = steps_of read.rows

  balanced : Balanced (connector_events (start_of s) (end_of s) ++ (flat_map (λ (row : TableRow). row.events) read.rows ++ (counted_events program s ++ flat_map boundary_events s.pages)))
  balanced =
      subst (λ (events : List Event). Balanced (connector_events (start_of s) (end_of s) ++ (events ++ (counted_events program s ++ flat_map boundary_events s.pages))))
      (sym (read.events ∙ events_are x.parts s.tables)) holds.balanced

  distinct : DistinctLabels s.pages
  distinct = labels_differ s.pages holds.rising

  low : 2 ^ x.time_bits < modulus
  low = let most : 2 ^ x.time_bits ≤ 2 ^ 29 = pow_mono fits.bits_high in omega arith

  pub run : OneRun (start_of s) (end_of s) s.pages (steps_of read.rows)
  run =
      whole_run (2 ^ x.time_bits) (start_of s) (end_of s) s.pages read.rows (counted_events program s) read.says
      (counted_not_on 0 program s (λ e fixed h. omega (arith, fixed.0, h)))
      (counted_not_on 2 program s (λ e fixed h. fixed.2 h))
      distinct (omega (arith, read.slots, slots_are x.parts s.tables, holds.slots)) low balanced

  whole : Whole x s.tables
  whole = record {
    count = holds.count;
    rows = good;
    balanced = private_balanced x program s fits.private_high holds.balanced;
    times = subst Distinct (sym (ap times_of (sym (events_are x.parts s.tables)) ∙ read.times)) (differ_in_any step_time (steps_of read.rows) run.path run.same_steps run.rises);
  }

  path_bytes_known : AllByRecursion StepHasBytes run.path
  path_bytes_known = run.bytes (all_weaker IsMachinePage (λ (page : Touched). IsBytes page.old) (λ page p. p.whole.old.bytes) s.pages holds.pages)

  pub on_path : AllByRecursion (IsMachineStep program) run.path
  on_path =
      machine_steps program run.path
      (all_permuted (StandsIn program) (steps_of read.rows) run.path run.same_steps read.stands)
      (all_permuted MeansIfBytes (steps_of read.rows) run.path run.same_steps (read.means (rows_each SoundRow x.parts s.tables (sound s.tables whole))))
      (all_permuted FourWords (steps_of read.rows) run.path run.same_steps read.words)
      path_bytes_known

  steps_number : length run.path ≡ valid_rows x s
  steps_number = length_permutation (steps_of read.rows) run.path run.same_steps ∙ read.number ∙ ap (count_by is_valid) (said_are x.parts s.tables)

  -- what the segment spells is what the path does
  spelled : (hints : List HintEvent) → SegmentSpells x s hints → hints ≡ map hint_event (flat_map step_hint run.path)
  spelled hints spells =
      let found : spells.found ≡ flat_map step_hint (steps_of read.rows) = read.hints spells.found (subst (λ (l : List (List Event)). AreHints l spells.found) (sym (said_are x.parts s.tables)) spells.are_hints) in
      let sorted : spells.sorted ≡ flat_map step_hint run.path =
      one_order step_hint (λ (h : HintWord). h.time) (steps_of read.rows) run.path run.same_steps spells.sorted
      (subst (λ (xs : List HintWord). IsPermutation xs spells.sorted) found spells.same) spells.in_order (hints_rise run.path run.rises) in
      spells.spell ∙ ap (λ (hs : List HintWord). map hint_event hs) sorted

  -- so that the machine has the path's bytes
  spelled_before : (hints : List HintEvent) (rest : List ℕ) → SegmentSpells x s hints → hints_before hints rest ≡ path_bytes run.path ++ rest
  spelled_before hints rest spells =
      ap (λ (es : List HintEvent). hints_before es rest) (spelled hints spells)
      ∙ before_words (flat_map step_hint run.path) rest
      ∙ ap (λ (bytes : List ℕ). bytes ++ rest) (bytes_joined run.path)

  -- so there is one such list
  pub spelled_once : (a b : List HintEvent) → SegmentSpells x s a → SegmentSpells x s b → a ≡ b
  spelled_once a b p q = spelled a p ∙ sym (spelled b q)

  -- and there is one
  pub segment_spells : (hints : List HintEvent) × SegmentSpells x s hints
  segment_spells =
      let found = flat_map step_hint (steps_of read.rows) in
      let meant : AllByRecursion HasMeaning (steps_of read.rows) =
      all_permuted HasMeaning run.path (steps_of read.rows) (IsPermutation-sym (steps_of read.rows) run.path run.same_steps)
      (all_weaker (IsMachineStep program) HasMeaning (λ step m. m.means) run.path on_path) in (
        map hint_event (in_order (λ (h : HintWord). h.time) found),
        record {
          found = found;
          are_hints = subst (λ (l : List (List Event)). AreHints l found) (said_are x.parts s.tables) (read.are_hints meant);
          sorted = in_order (λ (h : HintWord). h.time) found;
          same = in_order-IsPermutation (λ (h : HintWord). h.time) found;
          in_order = in_order-Ascends (λ (h : HintWord). h.time) found;
          spell = refl;
        },
      )

  pub segment_runs : (blocks : Blocks) (hints : List HintEvent) (rest : List ℕ) → SegmentSpells x s hints → HasOldWords s.pages blocks → SegmentRuns program s (valid_rows x s) blocks hints rest
  segment_runs blocks hints rest spells old =
      let met = run_meets_blocks (start_of s) (end_of s) s.pages (steps_of read.rows) run blocks distinct (are_pages s.pages holds.pages) old in
      let goes = path_goes program (start_of s) (end_of s) run.path blocks rest on_path met.0 run.is_path in
      record {
        after = after_steps blocks run.path;
        goes = subst (λ (n : ℕ). VmGoes program (record { pc = s.pc_start; blocks = blocks; hints = hints_before hints rest }) n (record { pc = s.pc_end; blocks = after_steps blocks run.path; hints = rest })) steps_number
            (subst (λ (bytes : List ℕ). VmGoes program (record { pc = s.pc_start; blocks = blocks; hints = bytes }) (length run.path) (record { pc = s.pc_end; blocks = after_steps blocks run.path; hints = rest })) (sym (spelled_before hints rest spells)) goes);
        new = met.1;
      }

pub segments_are_runs : (x : System) → ExtensionFits x → ExtensionBuses x → ExtensionTimed x → ExtensionSound x → SegmentsAreRuns x
segments_are_runs x fits buses timed sound program s blocks hints rest ranges holds spells old = segment_runs x fits buses timed sound program s ranges holds blocks hints rest spells old
