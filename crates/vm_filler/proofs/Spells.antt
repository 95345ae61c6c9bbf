-- The hints that filled rows spell are those that the records take.
use Rattle.std.proofs.Common.{◌≡◌, ℕ, zero, suc, ◌+◌, ◌≤◌, Bool, true, false, ◌&&◌, nat_eq, List, [], ◌∷◌, ◌++◌, map, refl, sym, ap, ◌∙◌, subst, arith, ⊎_elim, inl, inr}
use Rattle.std.specs.Prelude.{flat_map, replicate, if◌then◌else◌}
use Rattle.std.specs.List.{AllByRecursion}
use Rattle.std.specs.Cmp.Lexicographic.{pointwise, same_text}
use Rattle.std.proofs.lemmas.Bool.{cases_Bool, eqb-true, eq-eqb}
use Rattle.std.proofs.lemmas.List.{map-append, append-nil}
use Rattle.vm_isa.specs.declared.record.StepRecord.{StepRecord}
use Rattle.vm_isa.specs.Means.{Fillable}
use Rattle.vm_isa.specs.Slots.{slots_of}
use Rattle.vm_trace.specs.File.{Segment}
use Rattle.air_core.specs.declared.event.Event.{Event}
use Rattle.air_core.specs.declared.hint.HintWord.{HintWord}
use Rattle.air_core.specs.Counts.{weight, once, count_of, IsEquality}
use Rattle.air_core.specs.ExtensionLaws.{PartFits, PartBuses, PartRows, OneOwner, QuietZeros, SaysRecord}
use Rattle.air_core.specs.Hint.{NoHint}
use Rattle.air_core.specs.Laws.{Recorded}
use Rattle.air_core.specs.ListLemmas.{all_append, all_weaker}
use Rattle.air_core.specs.Orders.{Ascends}
use Rattle.air_core.specs.Sheet.{Sheet, row_events}
use Rattle.air_core.specs.System.{System, Part, is_owned, EachRow, rows_of, tables_for}
use Rattle.air_core.proofs.Counting.{weight-append, weight-flat_map, IsPermutation-from_counts}
use Rattle.air_core.proofs.ExtensionLemmas.{no_first, no_second}
use Rattle.exec_path.specs.Path.{Point}
use Rattle.vm_executor.specs.Records.{Chained, start_at}
use Rattle.acceptance.specs.Events.{said_by_rows}
use Rattle.acceptance.specs.Spelled.{AreHints, HintEvent, hint_event}
use Rattle.acceptance.proofs.Row.{IsSilent, silent_is_no_hint}
use Rattle.vm_filler.specs.Hints.{hint_of, hints_of}
use Rattle.vm_filler.specs.Laws.{FilledSegmentsSpell}
use Rattle.vm_filler.specs.Tables.{filled_rows, zero_row, IsFilledTable, AreFilledTables}
use Rattle.vm_filler.proofs.Exchange.{weight_both}
use Rattle.vm_filler.proofs.Lawful.{Lawful}
use Rattle.vm_filler.proofs.Owners.{others_silent, owner_says, second_owns}
use Rattle.vm_filler.proofs.PushLemmas.{same_itself}
use Rattle.vm_filler.proofs.RecordHints.{hint_word, record_no_hint, record_hint}

-- the words that a record takes, and those of them that the rows of a table spell
abbrev taken : StepRecord → List HintWord
taken d = if nat_eq d.instr.op 37 then hint_word d ∷ [] else []

abbrev taken_in : Part → StepRecord → List HintWord
taken_in p d = if p.sheet.owns d.instr.op then taken d else []

-- table by table
abbrev found_in : List Part → List StepRecord → List HintWord
found_in [] done = []
found_in (p ∷ parts) done = flat_map (taken_in p) done ++ found_in parts done

-- ---- hints of lists of rows

hints_both : (xs ys : List (List Event)) (a b : List HintWord) → AreHints xs a → AreHints ys b → AreHints (xs ++ ys) (a ++ b)
hints_both [] ys a b h k = subst (λ (hs : List HintWord). AreHints ys (hs ++ b)) (sym h) k
hints_both (x ∷ xs) ys a b (inl h) k = inl (h.0, hints_both xs ys a b h.1 k)
hints_both (x ∷ xs) ys a b (inr h) k = inr (h.0, h.1 ++ b, h.2, ap (λ (hs : List HintWord). hs ++ b) h.3, hints_both xs ys h.1 b h.4 k)

no_hints : (sheet : Sheet) (rows : List (List ℕ)) → AllByRecursion (λ row. NoHint (row_events sheet row)) rows → AreHints (map (row_events sheet) rows) []
no_hints sheet [] h = refl
no_hints sheet (row ∷ rows) h = inl (h.0, no_hints sheet rows h.1)

nothing_said : NoHint []
nothing_said = record { hint = refl; next = refl }

quiet_hints : (sheet : Sheet) → row_events sheet (zero_row sheet) ≡ [] → (n : ℕ) → AllByRecursion (λ row. NoHint (row_events sheet row)) (replicate n (zero_row sheet))
quiet_hints sheet silent zero = tt
quiet_hints sheet silent (suc n) = (subst NoHint (sym silent) nothing_said, quiet_hints sheet silent n)

module _ (x : System) (lawful : Lawful x) where
  -- ---- the rows of one record

  row_hint : (d : StepRecord) (events : List Event) → Fillable x.time_bits d → Recorded d events → AreHints (events ∷ []) (taken d)
  row_hint d events f said =
      ⊎_elim
      (λ (is : nat_eq d.instr.op 37 ≡ true).
      rw is (inr (hint_word d, [], record_hint x.time_bits d events lawful.fits.bits_high f said (eqb-true d.instr.op 37 is), refl, refl)))
      (λ (other : nat_eq d.instr.op 37 ≡ false). rw other (inl (record_no_hint d events f.in_range said other, refl)))
      (cases_Bool (nat_eq d.instr.op 37))

  record_hints : (p : Part) (d : StepRecord) → PartFits x.time_bits p → PartBuses x.private p → PartRows p → Fillable x.time_bits d → AllByRecursion (SaysRecord d p.sheet) (rows_of d p)
      → AreHints (map (row_events p.sheet) (rows_of d p)) (taken_in p d)
  record_hints p d fits buses rows f says =
      ⊎_elim
      (λ (mine : p.sheet.owns d.instr.op ≡ true).
      let here = owner_says d p rows mine says in
      rw (mine, here.rows) (row_hint d (row_events p.sheet here.row) f here.says))
      (λ (other : p.sheet.owns d.instr.op ≡ false).
      let silent = others_silent x.time_bits x.private d p fits buses rows other in
      rw other (no_hints p.sheet (rows_of d p) (all_weaker (λ row. IsSilent (row_events p.sheet row)) (λ row. NoHint (row_events p.sheet row)) (λ row h. silent_is_no_hint (row_events p.sheet row) h) (rows_of d p) silent)))
      (cases_Bool (p.sheet.owns d.instr.op))

  -- ---- those of a table

  table_hints : (p : Part) → PartFits x.time_bits p → PartBuses x.private p → PartRows p → (done : List StepRecord) → AllByRecursion (λ d. Fillable x.time_bits d) done
      → AllByRecursion (λ d. AllByRecursion (SaysRecord d p.sheet) (rows_of d p)) done → AreHints (map (row_events p.sheet) (filled_rows done p)) (flat_map (taken_in p) done)
  table_hints p fits buses rows [] f says = refl
  table_hints p fits buses rows (d ∷ done) f says =
      subst (λ (es : List (List Event)). AreHints es (taken_in p d ++ flat_map (taken_in p) done)) (sym (map-append (row_events p.sheet) (rows_of d p) (filled_rows done p)))
      (hints_both (map (row_events p.sheet) (rows_of d p)) (map (row_events p.sheet) (filled_rows done p)) (taken_in p d) (flat_map (taken_in p) done)
      (record_hints p d fits buses rows f.0 says.0) (table_hints p fits buses rows done f.1 says.1))

  whole_table : (p : Part) → PartFits x.time_bits p → PartBuses x.private p → PartRows p → QuietZeros p.sheet → (done : List StepRecord) (rows : List (List ℕ)) → AllByRecursion (λ d. Fillable x.time_bits d) done
      → AllByRecursion (λ d. AllByRecursion (SaysRecord d p.sheet) (rows_of d p)) done → IsFilledTable done p rows → AreHints (map (row_events p.sheet) rows) (flat_map (taken_in p) done)
  whole_table p fits buses part_rows quiet done rows f says filled =
      let mine = filled_rows done p in
      let padding = replicate filled.more (zero_row p.sheet) in
      let hints = flat_map (taken_in p) done in
      let both = hints_both (map (row_events p.sheet) mine) (map (row_events p.sheet) padding) hints [] (table_hints p fits buses part_rows done f says) (no_hints p.sheet padding (quiet_hints p.sheet quiet.silent filled.more)) in
      subst (λ (es : List (List Event)). AreHints es hints) (sym (map-append (row_events p.sheet) mine padding) ∙ ap (map (row_events p.sheet)) (sym filled.are))
      (subst (AreHints (map (row_events p.sheet) mine ++ map (row_events p.sheet) padding)) (append-nil hints) both)

  all_hints : (parts : List Part) (tables : List (List (List ℕ))) (done : List StepRecord) → AllByRecursion (PartFits x.time_bits) parts → AllByRecursion (PartBuses x.private) parts → AllByRecursion PartRows parts
      → AllByRecursion (λ p. QuietZeros p.sheet) parts → AllByRecursion (λ d. Fillable x.time_bits d) done → AllByRecursion (λ d. EachRow (SaysRecord d) parts (tables_for d parts)) done
      → AreFilledTables done parts tables → AreHints (said_by_rows parts tables) (found_in parts done)
  all_hints [] [] done fits buses rows quiet f says filled = refl
  all_hints [] (t ∷ tables) done fits buses rows quiet f says filled = elim filled [ ]
  all_hints (p ∷ parts) [] done fits buses rows quiet f says filled = elim filled [ ]
  all_hints (p ∷ parts) (t ∷ tables) done fits buses rows quiet f says filled =
      hints_both (map (row_events p.sheet) t) (said_by_rows parts tables) (flat_map (taken_in p) done) (found_in parts done)
      (whole_table p fits.0 buses.0 rows.0 quiet.0 done t f
      (all_weaker (λ d. EachRow (SaysRecord d) (p ∷ parts) (tables_for d (p ∷ parts))) (λ d. AllByRecursion (SaysRecord d p.sheet) (rows_of d p)) (λ d h. h.0) done says) filled.0)
      (all_hints parts tables done fits.1 buses.1 rows.1 quiet.1 f
      (all_weaker (λ d. EachRow (SaysRecord d) (p ∷ parts) (tables_for d (p ∷ parts))) (λ d. EachRow (SaysRecord d) parts (tables_for d parts)) (λ d h. h.1) done says) filled.1)

-- ---- in the order of the records

abbrev same_flag : Bool → Bool → Bool
same_flag true b = b
same_flag false true = false
same_flag false false = true

abbrev same_hint : HintWord → HintWord → Bool
same_hint a b = nat_eq a.time b.time && (pointwise nat_eq a.word b.word && same_flag a.next b.next)

flag_sound : (a b : Bool) → same_flag a b ≡ true → a ≡ b
flag_sound true b h = sym h
flag_sound false true h = absurd (cc)
flag_sound false false h = refl

flag_itself : (a : Bool) → same_flag a a ≡ true
flag_itself true = refl
flag_itself false = refl

made : ℕ → List ℕ → Bool → HintWord
made time word next = record { time = time; word = word; next = next }

both_true : (a b : Bool) → (a && b) ≡ true → (a ≡ true) × (b ≡ true)
both_true true b h = (refl, h)
both_true false b h = absurd (cc)

hint_sound : (a b : HintWord) → same_hint a b ≡ true → a ≡ b
unfolding made
hint_sound a b h =
    let first = both_true (nat_eq a.time b.time) (pointwise nat_eq a.word b.word && same_flag a.next b.next) h in
    let second = both_true (pointwise nat_eq a.word b.word) (same_flag a.next b.next) first.1 in
    ap (λ (t : ℕ). made t a.word a.next) (eqb-true a.time b.time first.0)
    ∙ ap (λ (w : List ℕ). made b.time w a.next) (same_text a.word b.word (sym second.0))
    ∙ ap (made b.time b.word) (flag_sound a.next b.next second.1)

hint_equality : IsEquality same_hint
hint_equality = record {
  sound = hint_sound;
  itself = λ a. rw (eq-eqb a.time a.time refl, same_itself a.word, flag_itself a.next) refl;
}

module _ (h : HintWord) where
  abbrev counts : List HintWord → ℕ
  counts hs = count_of same_hint h hs

  -- of one record, over all tables
  abbrev over : List Part → StepRecord → ℕ
  over [] d = 0
  over (p ∷ parts) d = counts (taken_in p d) + over parts d

  over_none : (parts : List Part) (d : StepRecord) → is_owned parts d.instr.op ≡ false → over parts d ≡ 0
  over_none [] d none = refl
  over_none (p ∷ parts) d none =
      let other : p.sheet.owns d.instr.op ≡ false = no_first (p.sheet.owns d.instr.op) (is_owned parts d.instr.op) none in
      let nothing : counts (taken_in p d) ≡ 0 = rw other refl in
      omega (arith, nothing, over_none parts d (no_second (p.sheet.owns d.instr.op) (is_owned parts d.instr.op) none))

  over_once : (parts : List Part) (d : StepRecord) → OneOwner parts → is_owned parts d.instr.op ≡ true → over parts d ≡ counts (taken d)
  over_once [] d one owned = absurd (cc)
  over_once (p ∷ parts) d one owned =
      ⊎_elim
      (λ (mine : p.sheet.owns d.instr.op ≡ true). rw mine (omega (arith, over_none parts d (one.0 d.instr.op mine))))
      (λ (other : p.sheet.owns d.instr.op ≡ false).
      let nothing : counts (taken_in p d) ≡ 0 = rw other refl in
      omega (arith, nothing, over_once parts d one.1 (second_owns (p.sheet.owns d.instr.op) (is_owned parts d.instr.op) owned other)))
      (cases_Bool (p.sheet.owns d.instr.op))

  nothing_over : (done : List StepRecord) → weight (λ (d : StepRecord). 0) done ≡ 0
  nothing_over [] = refl
  nothing_over (d ∷ done) = omega (arith, nothing_over done)

  found_counts : (parts : List Part) (done : List StepRecord) → counts (found_in parts done) ≡ weight (over parts) done
  found_counts [] done = sym (nothing_over done)
  found_counts (p ∷ parts) done =
      let v : HintWord → ℕ = λ y. once (same_hint y h) in
      omega (
        arith,
        weight-append v (flat_map (taken_in p) done) (found_in parts done),
        weight-flat_map v (taken_in p) done,
        found_counts parts done,
        weight_both (λ d. counts (taken_in p d)) (over parts) done,
      )

  each_once : (parts : List Part) (done : List StepRecord) → OneOwner parts → AllByRecursion (λ d. is_owned parts d.instr.op ≡ true) done → weight (over parts) done ≡ counts (flat_map taken done)
  each_once parts [] one owned = refl
  each_once parts (d ∷ done) one owned =
      omega (arith, over_once parts d one owned.0, each_once parts done one owned.1, weight-append (λ (y : HintWord). once (same_hint y h)) (taken d) (flat_map taken done))

-- times of records rise
hint_times : (least : ℕ) (d : StepRecord) → least ≤ d.time → AllByRecursion (λ (h : HintWord). least ≤ h.time) (taken d)
hint_times least d low = by_op (nat_eq d.instr.op 37)
  where
    by_op : (b : Bool) → AllByRecursion (λ (h : HintWord). least ≤ h.time) (if b then hint_word d ∷ [] else [])
    by_op true = (low, tt)
    by_op false = tt

later_times : (least : ℕ) (from : Point) (done : List StepRecord) → least ≤ from.time → Chained from done → AllByRecursion (λ (h : HintWord). least ≤ h.time) (flat_map taken done)
unfolding Chained
later_times least from [] low chained = tt
later_times least from (d ∷ done) low chained =
    all_append (λ (h : HintWord). least ≤ h.time) (taken d) (flat_map taken done) (hint_times least d (omega (arith, chained.1, low)))
    (later_times least (record { pc = d.next; time = d.time + slots_of d.instr.op }) done (omega (arith, chained.1, low)) chained.2)

in_order : (from : Point) (done : List StepRecord) → Chained from done → Ascends (λ (h : HintWord). h.time) (flat_map taken done)
unfolding Chained
in_order from [] chained = tt
in_order from (d ∷ done) chained =
    let goes : Point = record { pc = d.next; time = d.time + slots_of d.instr.op } in
    let later : AllByRecursion (λ (h : HintWord). d.time ≤ h.time) (flat_map taken done) = later_times d.time goes done (omega arith) chained.2 in
    let rest : Ascends (λ (h : HintWord). h.time) (flat_map taken done) = in_order goes done chained.2 in
    by_op (nat_eq d.instr.op 37) later rest
  where
    by_op : (b : Bool) → AllByRecursion (λ (h : HintWord). d.time ≤ h.time) (flat_map taken done) → Ascends (λ (h : HintWord). h.time) (flat_map taken done)
        → Ascends (λ (h : HintWord). h.time) ((if b then hint_word d ∷ [] else []) ++ flat_map taken done)
    by_op true later rest = (later, rest)
    by_op false later rest = rest

spelled : (done : List StepRecord) → hints_of done ≡ map hint_event (flat_map taken done)
spelled [] = refl
spelled (d ∷ done) =
    ap (λ (hs : List HintEvent). hint_of d ++ hs) (spelled done) ∙ by_op (nat_eq d.instr.op 37)
    ∙ sym (map-append hint_event (taken d) (flat_map taken done))
  where
    by_op : (b : Bool) → (if b then hint_event (hint_word d) ∷ [] else []) ++ map hint_event (flat_map taken done) ≡ map hint_event (if b then hint_word d ∷ [] else []) ++ map hint_event (flat_map taken done)
    by_op true = refl
    by_op false = refl

pub records_spelled : (x : System) → Lawful x → FilledSegmentsSpell x
records_spelled x lawful program done s is =
    let tables = s.tables in
    let filled : AreFilledTables done x.parts tables = subst (λ (t : Segment). AreFilledTables done x.parts t.tables) (sym is.is) is.filled.filled in
    record {
      found = found_in x.parts done;
      are_hints = all_hints x lawful x.parts tables done lawful.fits.parts lawful.buses lawful.rows.parts lawful.quiet is.records.fillable (each done is.records.owned is.records.fillable) filled;
      sorted = flat_map taken done;
      same = IsPermutation-from_counts same_hint hint_equality (found_in x.parts done) (flat_map taken done) (λ h. found_counts h x.parts done ∙ each_once h x.parts done lawful.fits.owners is.records.owned);
      in_order = in_order (start_at s.pc_start) done is.records.chained;
      spell = spelled done;
    }
  where
    each : (ds : List StepRecord) → AllByRecursion (λ d. is_owned x.parts d.instr.op ≡ true) ds → AllByRecursion (λ d. Fillable x.time_bits d) ds → AllByRecursion (λ d. EachRow (SaysRecord d) x.parts (tables_for d x.parts)) ds
    each [] owned fillable = tt
    each (d ∷ ds) owned fillable = ((lawful.complete d owned.0 fillable.0).says, each ds owned.1 fillable.1)
