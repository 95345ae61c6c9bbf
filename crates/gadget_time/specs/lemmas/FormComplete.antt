-- The law Complete of every form, and all its laws together.
use Rattle.std.proofs.Common.{◌≡◌, ℕ, ◌+◌, ◌<◌, ◌≤◌, true, [], ◌∷◌, length, slice_index, refl, sym, ap, subst, ◌∙◌, arith, length-append}
use Rattle.vm_field.specs.Field.{modulus}
use Rattle.vm_isa.specs.declared.record.StepRecord.{StepRecord}
use Rattle.vm_isa.specs.Slots.{slots_of}
use Rattle.vm_isa.specs.Means.{Fillable}
use Rattle.air_core.specs.Ring.{field, cells}
use Rattle.air_core.specs.Sheet.{AllZero, AllBelow}
use Rattle.air_core.specs.Flags.{flag_constraints}
use Rattle.air_core.specs.Laws.{Complete}
use Rattle.air_core.specs.ListLemmas.{all_append}
use Rattle.air_core.specs.PathLaws.{time_fits}
use Rattle.air_core.specs.lemmas.OneHot.{sum_one, length-one_hot, one_hot_holds, one_hot_below, of_owned}
use Rattle.air_core.specs.lemmas.Cells.{cells_back, cells_back_last}
use Rattle.gadget_time.specs.Laws.{TellsRecord, SaysRecord}
use Rattle.gadget_time.specs.Form.{Form, Columns, columns, columns_by, op_of, told_by, form_constraints, form_sheet, owns_of, filled_columns, row_of_columns}
use Rattle.gadget_time.specs.FormLaws.{FormLaws, TellsDone, AFormIsATable}
use Rattle.gadget_time.specs.lemmas.Filled.{told_record}
use Rattle.gadget_time.specs.lemmas.FormSound.{op_at, off, form_sound, form_timed, form_no_hint}
use Rattle.gadget_time.specs.lemmas.FormBounds.{form_fits, form_buses, form_quiet}

-- a row of columns is read as these columns
columns_back : (f : Form) (c : Columns ℕ) → length c.flags ≡ length f.opcodes → length c.rest ≡ f.width → columns f (row_of_columns c) ≡ c
unfolding columns_by
columns_back f c flags rest =
    let first : cells (slice_index (row_of_columns c)) 2 (length f.opcodes) ≡ c.flags = cells_back (c.pc ∷ c.time ∷ []) c.flags c.rest 2 (length f.opcodes) refl flags in
    let second : cells (slice_index (row_of_columns c)) (2 + length f.opcodes) f.width ≡ c.rest = cells_back_last (c.pc ∷ c.time ∷ c.flags) c.rest (2 + length f.opcodes) f.width (omega (arith, flags)) rest in
    rw (first, second) refl

module _ (f : Form) (hi : ℕ) (laws : FormLaws f) (top : hi ≤ 13) where
  tells : (done : StepRecord) → Fillable (16 + hi) done → owns_of f done.instr.op ≡ true → (d : TellsDone f hi done) → TellsRecord hi done (told_by f (filled_columns f done)) d.sources
  tells done fillable own d =
      let c = filled_columns f done in
      let op : op_of field f.opcodes c ≡ done.instr.op = op_at f hi laws c (f.place done) d.below refl ∙ d.opcode in
      record {
        valid = sum_one (length f.opcodes) (f.place done) d.below;
        pc = refl;
        time = refl;
        next = d.next;
        slots = sym (of_owned (λ k. slots_of k ≡ f.slots) f.opcodes done.instr.op laws.bounds.slots own);
        ends = fillable.ends;
        in_range = fillable.in_range;
        numbers = ap (λ (x : ℕ). done.instr.pc ∷ x ∷ f.parts.numbers c) op ∙ d.numbers;
        made_by = d.made_by;
        accesses = d.accesses;
        off = off f hi laws c;
        others_small = d.others_small;
        others_good = d.holds.good;
      }

  -- the constraints and events of columns that stand in a row
  record FilledSays (done : StepRecord) (c : Columns ℕ) : Type 0 where
    zero : AllZero (form_constraints field f.parts c)
    said : SaysRecord hi done (told_by f c)

  says : (done : StepRecord) → Fillable (16 + hi) done → owns_of f done.instr.op ≡ true → TellsDone f hi done → FilledSays done (filled_columns f done)
  unfolding form_constraints
  says done fillable own d =
      let c = filled_columns f done in
      let said = told_record hi done (told_by f c) d.sources top (tells done fillable own d) in
      record {
        zero = all_append (λ x. x ≡ 0) (flag_constraints field c.flags) _ (one_hot_holds (length f.opcodes) (f.place done) d.below)
            (all_append (λ x. x ≡ 0) (f.parts.constraints c) _ d.holds.zero said.times);
        said = said;
      }

  row_below : (done : StepRecord) → TellsDone f hi done → done.instr.pc < modulus → done.time < modulus → AllBelow (row_of_columns (filled_columns f done))
  row_below done d pc time = (pc, (time, all_append (λ x. x < modulus) _ _ (one_hot_below (length f.opcodes) (f.place done)) d.rest_below))

  pub form_complete : Complete (form_sheet f hi)
  form_complete done place fillable own here =
      let d = laws.fills hi done top fillable own in
      let c = filled_columns f done in
      let long : length c.flags ≡ length f.opcodes = length-one_hot (length f.opcodes) (f.place done) in
      let row : FilledSays done (columns f (row_of_columns c)) = subst (FilledSays done) (sym (columns_back f c long d.rest_long)) (says done fillable own d) in
      let fits = time_fits hi done.time (slots_of done.instr.op) top fillable.ends in
      record {
        is_row = record {
          wide = omega (arith, length-append c.flags c.rest, long, d.rest_long);
          below = row_below done d (omega (arith, fillable.in_range.low)) (omega (arith, fits));
        };
        holds = row.zero;
        good = row.said.good;
        counts = row.said.counts;
        recorded = λ owns. row.said.recorded;
      }

pub form_table : AFormIsATable
form_table f hi laws low high = record {
  fits = form_fits f hi laws low high;
  buses = form_buses f hi laws;
  timed = λ some. form_timed f hi laws high;
  sound = form_sound f hi laws high;
  complete = form_complete f hi laws high;
  quiet = form_quiet f hi laws;
  hint = form_no_hint f hi laws;
}
