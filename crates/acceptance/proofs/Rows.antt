-- The rows of all tables, and the steps of those that are valid.
use Rattle.std.proofs.Common.{◌≡◌, ◌⊎◌, ℕ, ◌+◌, ◌^◌, ◌<◌, ◌≤◌, Bool, true, false, cond, nat_eq, List, [], ◌∷◌, ◌++◌, length, map, refl, sym, ap, ◌∙◌, subst, arith, inl, inr, ⊎_elim, Contains, pow_mono, Some, None}
use Rattle.std.specs.Prelude.{flat_map, All, count_by, if◌then◌else◌}
use Rattle.std.specs.List.{AllByRecursion}
use Rattle.std.proofs.lemmas.Bool.{cases_lt, eqb-true}
use Rattle.std.proofs.lemmas.Grind.{flat_map-append}
use Rattle.std.proofs.lemmas.List.Elements.{All-contains}
use Rattle.std.proofs.lemmas.List.Sums.{sum_by-cons}
use Rattle.vm_isa.specs.declared.instr.VmInstr.{VmInstr}
use Rattle.vm_isa.specs.Instr.{InRange, numbers_of}
use Rattle.vm_isa.specs.Words.{IsBytes}
use Rattle.vm_isa.proofs.InstrLaws.{numbers_of-same}
use Rattle.air_core.specs.declared.bus.TheConstants.{PROGRAM}
use Rattle.air_core.specs.declared.event.Event.{Event}
use Rattle.air_core.specs.declared.hint.HintWord.{HintWord}
use Rattle.air_core.specs.Counts.{weight}
use Rattle.air_core.specs.ExtensionLaws.{PartFits, PartBuses, OnOwnBus, SoundRow}
use Rattle.air_core.specs.Laws.{Timed}
use Rattle.air_core.specs.ListLemmas.{all_weaker}
use Rattle.air_core.specs.Orders.{Member}
use Rattle.air_core.specs.Sheet.{Sheet, OwnsSome, IsRow, RowHolds, row_events, sent}
use Rattle.air_core.specs.Step.{Touched, FourEach, on_bus, IsStep, IsMeaning, TimedStep, SoundStep}
use Rattle.air_core.specs.System.{Part, time_if, times_of}
use Rattle.air_core.proofs.ElementLemmas.{all_at}
use Rattle.air_core.proofs.StepLaws.{step_same}
use Rattle.exec_path.specs.Path.{slot_sum}
use Rattle.acceptance.specs.OneRun.{RowStep, TableRow, RowSays, timed_rows, steps_of}
use Rattle.acceptance.specs.Events.{is_valid}
use Rattle.acceptance.specs.Spelled.{AreHints}
use Rattle.acceptance.proofs.EachRow.{SheetRow, said, slots_of_row}
use Rattle.acceptance.proofs.Hints.{hint_access}
use Rattle.acceptance.proofs.Lookups.{Looked, good_row}
use Rattle.acceptance.proofs.Row.{IsSilent, silent_invalid, silent_times, silent_no_hint, step_hint, slot_word, step_valid, step_times, no_hint_step, hint_step, on_bus_member, silent_is_no_hint, is_no_hint, is_hint}

-- A valid row: a step in time, and its instruction is a row of the program.
pub record IsValidRow (program : List VmInstr) (bound : ℕ) (sheet : Sheet) (row : List ℕ) : Type 0 where
  pub owns : OwnsSome sheet
  pub instr : VmInstr
  pub time : ℕ
  pub next : ℕ
  pub accesses : List Touched
  pub step : IsStep sheet.slots sheet.time_bits instr time next accesses (row_events sheet row)
  pub some : 1 ≤ sheet.slots
  pub few : sheet.slots ≤ 64
  pub far : bound ≤ 2 ^ sheet.time_bits
  pub stands : Contains program instr

abbrev pub Reads : List VmInstr → ℕ → Sheet → List ℕ → Type 0
Reads program bound sheet row = IsSilent (row_events sheet row) ⊎ IsValidRow program bound sheet row

-- ---- one row

-- a table whose row says something below bus 3 owns opcodes
silent_or_owns : (private : ℕ → Bool) (sheet : Sheet) (events : List Event) → AllByRecursion (OnOwnBus private sheet) events → IsSilent events ⊎ OwnsSome sheet
silent_or_owns private sheet [] own = inl tt
silent_or_owns private sheet (e ∷ es) own =
    ⊎_elim
    (λ (low : e.bus < 3). inr (own.0.machine low))
    (λ (high : 3 ≤ e.bus).
    ⊎_elim
    (λ (silent : IsSilent es). inl (high, silent))
    (λ (owns : OwnsSome sheet). inr owns)
    (silent_or_owns private sheet es own.1))
    (cases_lt e.bus 3)

in_program : (program : List VmInstr) (instr : VmInstr) (events : List Event) → All InRange program → InRange instr → AllByRecursion (Looked program) events → on_bus 1 events ≡ sent PROGRAM 1 (numbers_of instr) ∷ [] → Contains program instr
in_program program instr events ranges range looked said =
    let there : Member (sent PROGRAM 1 (numbers_of instr)) (on_bus 1 events) = subst (Member (sent PROGRAM 1 (numbers_of instr))) (sym said) (inl refl) in
    let stands = all_at (Looked program) events (sent PROGRAM 1 (numbers_of instr)) (on_bus_member 1 (sent PROGRAM 1 (numbers_of instr)) events there) looked refl in
    let t = stands.program_row refl in
    let good : InRange t.row = All-contains InRange program t.row ranges t.stands in
    subst (Contains program) (sym (numbers_of-same instr t.row range.imm.four good.imm.four t.is)) t.stands

pub row_reads : (program : List VmInstr) (private : ℕ → Bool) (bits : ℕ) (p : Part) (row : List ℕ) → All InRange program → PartFits bits p → PartBuses private p → Timed p.sheet
    → IsRow p.sheet row → RowHolds p.sheet row → AllByRecursion (Looked program) (row_events p.sheet row) → Reads program (2 ^ bits) p.sheet row
row_reads program private bits p row ranges fits buses timed is holds looked =
    ⊎_elim
    (λ (silent : IsSilent (row_events p.sheet row)). inl silent)
    (λ (owns : OwnsSome p.sheet).
    ⊎_elim
    (λ (none : row_events p.sheet row ≡ []). inl (subst IsSilent (sym none) tt))
    (λ (t : TimedStep p.sheet.owns p.sheet.slots p.sheet.time_bits (row_events p.sheet row)).
    let slots = fits.slots t.instr.op t.owned in
    let far : bits ≤ p.sheet.time_bits = omega (arith, fits.bits_same) in
    inr (record {
      owns = owns;
      instr = t.instr;
      time = t.time;
      next = t.next;
      accesses = t.accesses;
      step = t.step;
      some = slots.some;
      few = slots.few;
      far = pow_mono far;
      stands = in_program program t.instr (row_events p.sheet row) ranges t.step.in_range looked t.step.spoken.program;
    }))
    (timed owns row is holds (good_row program ranges (row_events p.sheet row) looked)))
    (silent_or_owns private p.sheet (row_events p.sheet row) (buses.uses row))

-- where its old words are bytes, the step is its instruction's meaning
abbrev pub MeansIfBytes : RowStep → Type 0
MeansIfBytes step = AllByRecursion (λ a. IsBytes a.old) step.accesses → IsMeaning step.instr step.accesses step.next

abbrev pub row_step : {program : List VmInstr} {bound : ℕ} {sheet : Sheet} {row : List ℕ} → IsValidRow program bound sheet row → RowStep
row_step {sheet = sheet} v = record { slots = sheet.slots; bits = sheet.time_bits; instr = v.instr; time = v.time; next = v.next; accesses = v.accesses }

no_path : (a b : Event) → [] ≡ a ∷ b ∷ [] → ⊥
no_path a b e = absurd (omega (arith, ap length e))

row_means : (program : List VmInstr) (bound : ℕ) (sheet : Sheet) (row : List ℕ) (v : IsValidRow program bound sheet row) → SoundRow sheet row → MeansIfBytes (row_step v)
row_means program bound sheet row v sound bytes =
    ⊎_elim
    (λ (none : row_events sheet row ≡ []). absurd (no_path _ _ (sym (ap (on_bus 0) none) ∙ v.step.spoken.path)))
    (λ (s : SoundStep sheet.owns sheet.slots sheet.time_bits (row_events sheet row)).
    let same = step_same sheet.slots sheet.time_bits s.instr v.instr s.time v.time s.next v.next s.accesses v.accesses (row_events sheet row) v.few s.step v.step in
    let s_bytes = subst (AllByRecursion (λ (a : Touched). IsBytes a.old)) (sym same.accesses_same) bytes in
    let at_instr = subst (λ (i : VmInstr). IsMeaning i s.accesses s.next) same.instr_same (s.means s_bytes) in
    let at_accesses = subst (λ (xs : List Touched). IsMeaning v.instr xs s.next) same.accesses_same at_instr in
    subst (λ (n : ℕ). IsMeaning v.instr v.accesses n) same.next_same at_accesses)
    (sound v.owns)

-- ---- all rows

abbrev pub StandsIn : List VmInstr → RowStep → Type 0
StandsIn program step = Contains program step.instr

abbrev pub FourWords : RowStep → Type 0
FourWords step = AllByRecursion FourEach step.accesses

abbrev pub HasMeaning : RowStep → Type 0
HasMeaning step = IsMeaning step.instr step.accesses step.next

abbrev pub step_time : RowStep → ℕ
step_time step = step.time

-- the steps of the valid ones, in the rows' order
pub record AllRead (program : List VmInstr) (bound : ℕ) (rs : List SheetRow) : Type 0 where
  pub rows : List TableRow
  pub events : flat_map (λ (row : TableRow). row.events) rows ≡ flat_map said rs
  pub says : AllByRecursion (RowSays bound) rows
  pub slots : slot_sum (timed_rows (steps_of rows)) ≤ weight slots_of_row rs
  pub number : length (steps_of rows) ≡ count_by is_valid (map said rs)
  pub stands : AllByRecursion (StandsIn program) (steps_of rows)
  pub words : AllByRecursion FourWords (steps_of rows)
  pub times : times_of (flat_map said rs) ≡ map step_time (steps_of rows)
  pub means : AllByRecursion (λ r. SoundRow r.sheet r.row) rs → AllByRecursion MeansIfBytes (steps_of rows)
  pub hints : (found : List HintWord) → AreHints (map said rs) found → found ≡ flat_map step_hint (steps_of rows)
  pub are_hints : AllByRecursion HasMeaning (steps_of rows) → AreHints (map said rs) (flat_map step_hint (steps_of rows))

times_more : (r : SheetRow) (rs : List SheetRow) → times_of (flat_map said (r ∷ rs)) ≡ times_of (said r) ++ times_of (flat_map said rs)
times_more r rs = flat_map-append time_if (said r) (flat_map said rs)

number_more : (r : SheetRow) (rs : List SheetRow) (b : Bool) → is_valid (said r) ≡ b → count_by is_valid (map said (r ∷ rs)) ≡ cond b 1 0 + count_by is_valid (map said rs)
number_more r rs b is = sum_by-cons (λ es. cond (is_valid es) 1 0) (said r) (map said rs) ∙ ap (λ (t : Bool). cond t 1 0 + count_by is_valid (map said rs)) is

silent_off : (events : List Event) (bus : ℕ) → bus < 3 → IsSilent events → AllByRecursion (λ e. e.bus ≡ bus → ⊥) events
silent_off events bus low silent = all_weaker (λ e. 3 ≤ e.bus) (λ e. e.bus ≡ bus → ⊥) (λ e h is. omega (arith, h, is, low)) events silent

with_silent : (program : List VmInstr) (bound : ℕ) (r : SheetRow) (rs : List SheetRow) → IsSilent (said r) → AllRead program bound rs → AllRead program bound (r ∷ rs)
with_silent program bound r rs silent more = record {
  rows = record { events = said r; step = None } ∷ more.rows;
  events = ap (λ (es : List Event). said r ++ es) more.events;
  says = ((silent_off (said r) 0 (omega arith) silent, silent_off (said r) 2 (omega arith) silent), more.says);
  slots = omega (arith, more.slots);
  number = omega (arith, more.number, number_more r rs false (silent_invalid (said r) silent));
  stands = more.stands;
  words = more.words;
  times = times_more r rs ∙ ap (λ (ts : List ℕ). ts ++ times_of (flat_map said rs)) (silent_times (said r) silent) ∙ more.times;
  means = λ sound. more.means sound.1;
  hints = λ found are. of_hints found are;
  are_hints = λ means. inl (silent_is_no_hint (said r) silent, more.are_hints means);
}
  where
    of_hints : (found : List HintWord) → AreHints (map said (r ∷ rs)) found → found ≡ flat_map step_hint (steps_of more.rows)
    of_hints found (inl none) = more.hints found none.1
    of_hints found (inr is) = absurd (silent_no_hint is.0 (said r) silent is.2)

with_valid : (program : List VmInstr) (bound : ℕ) (r : SheetRow) (rs : List SheetRow) → IsValidRow program bound r.sheet r.row → AllRead program bound rs → AllRead program bound (r ∷ rs)
with_valid program bound r rs v more = record {
  rows = record { events = said r; step = Some (row_step v) } ∷ more.rows;
  events = ap (λ (es : List Event). said r ++ es) more.events;
  says = (record { some = v.some; far = v.far; is_step = v.step }, more.says);
  slots = omega (arith, more.slots);
  number = omega (arith, more.number, number_more r rs true valid);
  stands = (v.stands, more.stands);
  words = (v.step.words, more.words);
  times = times_more r rs ∙ ap (λ (ts : List ℕ). ts ++ times_of (flat_map said rs)) times_here ∙ ap (λ (ts : List ℕ). v.time ∷ ts) more.times;
  means = λ sound. (row_means program bound r.sheet r.row v sound.0, more.means sound.1);
  hints = λ found are. of_hints found are;
  are_hints = λ means. hint_or_none (nat_eq v.instr.op 37) refl means.0 (more.are_hints means.1);
}
  where
    valid : is_valid (said r) ≡ true
    valid = step_valid r.sheet.slots r.sheet.time_bits v.instr v.time v.next v.accesses (said r) v.few v.step

    times_here : times_of (said r) ≡ v.time ∷ []
    times_here = step_times r.sheet.slots r.sheet.time_bits v.instr v.time v.next v.accesses (said r) v.few v.step

    of_hints : (found : List HintWord) → AreHints (map said (r ∷ rs)) found → found ≡ step_hint (row_step v) ++ flat_map step_hint (steps_of more.rows)
    of_hints found (inl none) =
        let other : nat_eq v.instr.op 37 ≡ false = no_hint_step r.sheet.slots r.sheet.time_bits v.instr v.time v.next v.accesses (said r) v.few v.step none.0 in
        rw other (more.hints found none.1)
    of_hints found (inr is) =
        let here = hint_step r.sheet.slots r.sheet.time_bits v.instr v.time v.next v.accesses (said r) v.few v.step is.0 is.2 in
        let rest : is.1 ≡ flat_map step_hint (steps_of more.rows) = more.hints is.1 is.4 in
        is.3 ∙ rw (here.0, here.1, rest) refl

    hint_or_none : (b : Bool) → nat_eq v.instr.op 37 ≡ b → HasMeaning (row_step v) → AreHints (map said rs) (flat_map step_hint (steps_of more.rows))
        → AreHints (map said (r ∷ rs)) ((if b then record { time = v.time; word = slot_word v.accesses; next = false } ∷ [] else []) ++ flat_map step_hint (steps_of more.rows))
    hint_or_none true op means rest =
        let a = hint_access v.instr v.next v.accesses (eqb-true v.instr.op 37 op) means in
        let is = is_hint r.sheet.slots r.sheet.time_bits v.instr v.time v.next v.accesses (said r) v.few v.step op a.access a.stands a.in_memory a.second in
        inr (record { time = v.time; word = slot_word v.accesses; next = false }, flat_map step_hint (steps_of more.rows), is, refl, rest)
    hint_or_none false op means rest = inl (is_no_hint r.sheet.slots r.sheet.time_bits v.instr v.time v.next v.accesses (said r) v.few v.step op, rest)

pub read_all : (program : List VmInstr) (bound : ℕ) (rs : List SheetRow) → AllByRecursion (λ r. Reads program bound r.sheet r.row) rs → AllRead program bound rs
read_all program bound [] reads = record {
  rows = [];
  events = refl;
  says = tt;
  slots = omega arith;
  number = refl;
  stands = tt;
  words = tt;
  times = refl;
  means = λ sound. tt;
  hints = λ found are. are;
  are_hints = λ means. refl;
}
read_all program bound (r ∷ rs) reads =
    ⊎_elim
    (λ (silent : IsSilent (said r)). with_silent program bound r rs silent (read_all program bound rs reads.1))
    (λ (v : IsValidRow program bound r.sheet r.row). with_valid program bound r rs v (read_all program bound rs reads.1))
    reads.0
