-- The laws Timed and Sound of every form, and that its rows are no hints.
use Rattle.std.proofs.Common.{◌≡◌, ℕ, ◌+◌, ◌<◌, ◌≤◌, ◌⊎◌, inl, inr, false, true, nat_eq, List, [], ◌∷◌, length, map, slice_index, refl, sym, ap, subst, ◌∙◌, arith}
use Rattle.std.specs.List.{AllByRecursion}
use Rattle.vm_isa.specs.Opcodes.{HINT, HINT_NEXT}
use Rattle.vm_isa.specs.Instr.{IsInstruction, numbers_of}
use Rattle.air_core.specs.Ring.{field}
use Rattle.air_core.specs.Sheet.{IsRow, RowHolds, AllZero, AllBelow, counted}
use Rattle.air_core.specs.Flags.{flag_constraints, weighted_from, one_hot}
use Rattle.air_core.specs.Hint.{NoHint}
use Rattle.air_core.specs.Lookups.{Good}
use Rattle.vm_isa.specs.Words.{IsBytes}
use Rattle.air_core.specs.Step.{IsStep, IsMeaning, TimedStep, SoundStep}
use Rattle.air_core.specs.ListLemmas.{all_left, all_right, all_weaker, below_at}
use Rattle.air_core.specs.FlagLaws.{flag_cases}
use Rattle.air_core.specs.lemmas.OneHot.{set_at, weighted_one, is_owned, at_place}
use Rattle.air_core.specs.lemmas.Cells.{length-cells, cells_below}
use Rattle.gadget_time.specs.Told.{told_lines, touch_constraint}
use Rattle.gadget_time.specs.Laws.{OffMachine}
use Rattle.gadget_time.specs.Form.{Form, Columns, columns, columns_by, valid_of, op_of, told_by, form_constraints, form_sheet, owns_of}
use Rattle.gadget_time.specs.FormLaws.{FormLaws, IsOther, IsAt, FormHolds, Tells, InstructionAt, NoHints}
use Rattle.gadget_time.specs.lemmas.ToldLaws.{told_silent, told_step, told_no_hint, good_others, good_program}

record IsParts (f : Form) (c : Columns ℕ) : Type 0 where
  flags : AllZero (flag_constraints field c.flags)
  own : AllZero (f.parts.constraints c)
  times : AllZero (map (touch_constraint field c.time) (f.parts.touches c))

parts : (f : Form) (c : Columns ℕ) → AllZero (form_constraints field f.parts c) → IsParts f c
unfolding form_constraints
parts f c h =
    let one = all_right (λ x. x ≡ 0) (flag_constraints field c.flags) _ h in
    record {
      flags = all_left (λ x. x ≡ 0) (flag_constraints field c.flags) _ h;
      own = all_left (λ x. x ≡ 0) (f.parts.constraints c) _ one;
      times = all_right (λ x. x ≡ 0) (f.parts.constraints c) _ one;
    }

-- the columns of a row of elements
record IsElements (f : Form) (c : Columns ℕ) : Type 0 where
  flags_long : length c.flags ≡ length f.opcodes
  flags_below : AllBelow c.flags
  rest_long : length c.rest ≡ f.width
  rest_below : AllBelow c.rest
  pc_below : c.pc < 2013265921
  time_below : c.time < 2013265921

elements : (f : Form) (row : List ℕ) → AllBelow row → IsElements f (columns f row)
unfolding columns_by
elements f row below = record {
  flags_long = length-cells (slice_index row) 2 (length f.opcodes);
  flags_below = cells_below row below 2 (length f.opcodes);
  rest_long = length-cells (slice_index row) (2 + length f.opcodes) f.width;
  rest_below = cells_below row below (2 + length f.opcodes) f.width;
  pc_below = below_at row 0 below;
  time_below = below_at row 1 below;
}

module _ (f : Form) (hi : ℕ) (laws : FormLaws f) where
  pub off : (c : Columns ℕ) → OffMachine (f.parts.others c)
  off c = all_weaker (IsOther f.alone) (λ e. 3 ≤ e.bus) (λ e l. l.off) (f.parts.others c) (laws.bounds.others c)

  pub op_at : (c : Columns ℕ) (k : ℕ) → k < length f.opcodes → c.flags ≡ one_hot (length f.opcodes) k → op_of field f.opcodes c ≡ slice_index f.opcodes k
  op_at c k low at = ap (λ (fs : List ℕ). weighted_from field 0 fs f.opcodes) at ∙ weighted_one (length f.opcodes) k f.opcodes low refl laws.bounds.opcodes_below

  instruction_at : (c : Columns ℕ) (k : ℕ) → IsAt f k c → valid_of field c ≡ 1 → Good (counted (told_lines field hi (told_by f c))) → InstructionAt f k c
  instruction_at c k at v good = subst (λ op. IsInstruction (c.pc ∷ op ∷ f.parts.numbers c)) (op_at c k at.below at.flags) (good_program hi (told_by f c) v good)

  owned : (c : Columns ℕ) (k : ℕ) → IsAt f k c → (i : InstructionAt f k c) → owns_of f i.instr.op ≡ true
  unfolding numbers_of
  owned c k at i = ap (owns_of f) (let e : slice_index f.opcodes k ≡ i.instr.op = ap (λ (xs : List ℕ). slice_index xs 1) i.are in sym e) ∙ is_owned f.opcodes k at.below

  step : hi ≤ 13 → (c : Columns ℕ) (k : ℕ) → (at : IsAt f k c) → valid_of field c ≡ 1 → IsParts f c → Good (counted (told_lines field hi (told_by f c))) → (i : InstructionAt f k c) → (t : Tells f c)
      → IsStep f.slots (16 + hi) i.instr c.time (f.parts.next c) t.accesses (counted (told_lines field hi (told_by f c)))
  unfolding numbers_of
  step top c k at v p good i t =
      let told = told_by f c in
      let pc : c.pc ≡ i.instr.pc = ap (λ (xs : List ℕ). slice_index xs 0) i.are in
      let again : IsInstruction told.numbers = record { instr = i.instr; in_range = i.in_range; are = ap (λ op. c.pc ∷ op ∷ f.parts.numbers c) (op_at c k at.below at.flags) ∙ i.are } in
      told_step hi told t.accesses again top (record {
        valid = v;
        time_below = at.time_below;
        counts = t.counts;
        off = off c;
        times = p.times;
        good = good;
        slots = t.slots;
        are = t.are;
        rising = t.rising;
        new_bytes = t.new_bytes;
      }) pc

  pub silent : (c : Columns ℕ) → valid_of field c ≡ 0 → AllZero c.flags → counted (told_lines field hi (told_by f c)) ≡ []
  silent c v none = told_silent hi (told_by f c) v (laws.bounds.silent_touches c none) (laws.bounds.silent_others c none)

  -- no flag is set, or one is
  record IsSet (c : Columns ℕ) : Type 0 where
    place : ℕ
    valid : valid_of field c ≡ 1
    at : IsAt f place c

  set : (c : Columns ℕ) → IsElements f c → AllZero (flag_constraints field c.flags) → (counted (told_lines field hi (told_by f c)) ≡ []) ⊎ IsSet c
  set c is holds =
      let n = length f.opcodes in
      elim (flag_cases c.flags is.flags_below (omega (arith, is.flags_long, laws.bounds.few_flags)) holds) [
        | inl (v, none) ↦ inl (silent c v none)
        | inr (v, hot) ↦ inr (
            let s = set_at c.flags hot in
            record {
              place = s.place;
              valid = v;
              at = record {
                below = omega (arith, s.below, is.flags_long);
                flags = s.are ∙ ap (λ m. one_hot m s.place) is.flags_long;
                rest_long = is.rest_long;
                rest_below = is.rest_below;
                pc_below = is.pc_below;
                time_below = is.time_below;
              };
            })
      ]

  -- a valid row: the place of its flag, its instruction, and that it is a step in time
  pub record IsValid (c : Columns ℕ) : Type 0 where
    pub place : ℕ
    pub valid : valid_of field c ≡ 1
    pub at : IsAt f place c
    pub own : FormHolds f c
    pub instruction : InstructionAt f place c
    pub owned : owns_of f instruction.instr.op ≡ true
    pub step : IsStep f.slots (16 + hi) instruction.instr c.time (f.parts.next c) (laws.tells place c at own instruction).accesses (counted (told_lines field hi (told_by f c)))

  -- a row that holds, whose lookups are good, says nothing or is valid
  pub form_row : hi ≤ 13 → (row : List ℕ) → IsRow (form_sheet f hi) row → RowHolds (form_sheet f hi) row → Good (counted (told_lines field hi (told_by f (columns f row))))
      → (counted (told_lines field hi (told_by f (columns f row))) ≡ []) ⊎ IsValid (columns f row)
  form_row top row is holds good =
      let c = columns f row in
      let p = parts f c holds in
      elim (set c (elements f row is.below) p.flags) [
        | inl none ↦ inl none
        | inr s ↦ inr (
            let i = instruction_at c s.place s.at s.valid good in
            let own : FormHolds f c = record { zero = p.own; good = good_others hi (told_by f c) good } in
            record {
              place = s.place;
              valid = s.valid;
              at = s.at;
              own = own;
              instruction = i;
              owned = owned c s.place s.at i;
              step = step top c s.place s.at s.valid p good i (laws.tells s.place c s.at own i);
            })
      ]

  timed_step : (c : Columns ℕ) → IsValid c → TimedStep (owns_of f) f.slots (16 + hi) (counted (told_lines field hi (told_by f c)))
  timed_step c v = record { instr = v.instruction.instr; time = c.time; next = f.parts.next c; accesses = (laws.tells v.place c v.at v.own v.instruction).accesses; owned = v.owned; step = v.step }

  -- the meaning of a valid row
  abbrev pub RowMeans : (c : Columns ℕ) → IsValid c → Type 0
  RowMeans c v = AllByRecursion (λ a. IsBytes a.old) (laws.tells v.place c v.at v.own v.instruction).accesses → IsMeaning v.instruction.instr (laws.tells v.place c v.at v.own v.instruction).accesses (f.parts.next c)

  pub sound_step : (c : Columns ℕ) → (v : IsValid c) → RowMeans c v → SoundStep (owns_of f) f.slots (16 + hi) (counted (told_lines field hi (told_by f c)))
  sound_step c v means = record {
    instr = v.instruction.instr;
    time = c.time;
    next = f.parts.next c;
    accesses = (laws.tells v.place c v.at v.own v.instruction).accesses;
    owned = v.owned;
    step = v.step;
    means = means;
  }

  pub form_sound : hi ≤ 13 → f.alone ≡ true → (row : List ℕ) → IsRow (form_sheet f hi) row → RowHolds (form_sheet f hi) row → Good (counted (told_lines field hi (told_by f (columns f row))))
      → (counted (told_lines field hi (told_by f (columns f row))) ≡ []) ⊎ SoundStep (owns_of f) f.slots (16 + hi) (counted (told_lines field hi (told_by f (columns f row))))
  form_sound top alone row is holds good = elim (form_row top row is holds good) [
    | inl none ↦ inl none
    | inr v ↦ inr (sound_step (columns f row) v (laws.means alone v.place (columns f row) v.at v.own v.instruction))
  ]

  pub form_timed : hi ≤ 13 → (row : List ℕ) → IsRow (form_sheet f hi) row → RowHolds (form_sheet f hi) row → Good (counted (told_lines field hi (told_by f (columns f row))))
      → (counted (told_lines field hi (told_by f (columns f row))) ≡ []) ⊎ TimedStep (owns_of f) f.slots (16 + hi) (counted (told_lines field hi (told_by f (columns f row))))
  form_timed top row is holds good = elim (form_row top row is holds good) [
    | inl none ↦ inl none
    | inr v ↦ inr (timed_step (columns f row) v)
  ]

  none_hint : NoHint []
  none_hint = record { hint = refl; next = refl }

  pub form_no_hint : NoHints f → (row : List ℕ) → IsRow (form_sheet f hi) row → RowHolds (form_sheet f hi) row → NoHint (counted (told_lines field hi (told_by f (columns f row))))
  form_no_hint others row is holds =
      let c = columns f row in
      let p = parts f c holds in
      elim (set c (elements f row is.below) p.flags) [
        | inl none ↦ subst NoHint (sym none) none_hint
        | inr s ↦
            let no = at_place (λ op. (nat_eq op HINT ≡ false) × (nat_eq op HINT_NEXT ≡ false)) f.opcodes s.place s.at.below others in
            let is_op = op_at c s.place s.at.below s.at.flags in
            told_no_hint hi (told_by f c) (rw is_op no.0) (rw is_op no.1) (off c)
      ]
