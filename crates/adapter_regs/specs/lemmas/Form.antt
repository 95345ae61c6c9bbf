-- A core with its laws is a form with its laws.
use Rattle.std.proofs.Common.{◌≡◌, ℕ, ◌+◌, ◌<◌, ◌≤◌, Bool, true, false, cond, nat_eq, List, [], ◌++◌, length, map, replicate, slice_index, refl, sym, ap, subst, ◌∙◌, arith, lit≤, length-append}
use Rattle.std.specs.List.{AllByRecursion}
use Rattle.std.proofs.lemmas.Bool.Decides.{nat_tests}
use Rattle.vm_word.specs.Word.{limbs_of}
use Rattle.vm_isa.specs.declared.record.StepRecord.{StepRecord}
use Rattle.vm_isa.specs.Slots.{slots_of}
use Rattle.vm_isa.specs.Opcodes.{is_mul, HINT, HINT_NEXT}
use Rattle.vm_isa.specs.Means.{Fillable}
use Rattle.vm_field.specs.declared.limbs.Limbs.{Limbs}
use Rattle.vm_field.specs.Limbs.{list_of, limbs_from}
use Rattle.vm_field.proofs.LimbLemmas.{limbs_same, length-list_of}
use Rattle.gadget_limbs.proofs.LimbsLaws.{limbs_of-word}
use Rattle.air_core.specs.declared.event.Event.{Event}
use Rattle.air_core.specs.First.{gated_difference}
use Rattle.air_core.specs.Flags.{one_hot}
use Rattle.air_core.specs.Ring.{field, cells}
use Rattle.air_core.specs.Sheet.{AllZero, AllBelow}
use Rattle.air_core.specs.FlagLaws.{sum_none}
use Rattle.air_core.specs.ListLemmas.{all_append, all_weaker, all_right}
use Rattle.air_core.specs.lemmas.Cells.{cells_back, cells_of_zeros, index_zeros, behind}
use Rattle.air_core.specs.lemmas.OneHot.{of_owned, zeros_hold, sum_one}
use Rattle.gadget_time.specs.Told.{touch_constraint, time_constraint}
use Rattle.gadget_time.specs.Form.{valid_of, owns_of, filled_columns, no_columns}
use Rattle.gadget_time.specs.FormLaws.{FormLaws, FormBounds, IsOther, TellsDone, NoHints}
use Rattle.adapter_regs.specs.declared.regs.Regs.{Regs}
use Rattle.adapter_regs.specs.Regs.{regs_of, words_from, limbs_of_zero, regs_touches, first_touch, second_touch, third_touch, immediate_constraints, regs_filled, new_filled, regs_cells, time_cells}
use Rattle.adapter_regs.specs.Core.{Core, CoreLaws, operands, operands_of, registers, regs_form, IsLookup, IsCoreAt, IsResult, no_operands, place_filled, own_filled}
use Rattle.vm_isa.specs.Opcodes.{is_register}
use Rattle.vm_isa.proofs.RegisterForm.{register_slots, apart}
use Rattle.adapter_regs.specs.lemmas.Sound.{touches_quiet, regs_tell, regs_mean}
use Rattle.adapter_regs.specs.lemmas.Filled.{columns_filled, is_instruction, goes_on}

each : {X : Type 0} (P Q : X → Type 0) → ((x : X) → P x → Q x) → (xs : List X) → AllByRecursion P xs → AllByRecursion Q xs
each P Q f xs h = all_weaker P Q f xs h

-- ---- a row of zeros

abbrev no_regs : Regs ℕ
no_regs = record {
  pc = 0;
  time = 0;
  rd = 0;
  rs1 = 0;
  rs2 = 0;
  use_imm = 0;
  imm = limbs_of_zero field;
  left = limbs_of_zero field;
  right = limbs_of_zero field;
  old = limbs_of_zero field;
  first = record { before = 0; lo = 0; hi = 0 };
  second = record { before = 0; lo = 0; hi = 0 };
  third = record { before = 0; lo = 0; hi = 0 };
}

zero_regs : (b immediates : Bool) → immediates ≡ b → (own n : ℕ) → regs_of field immediates own 0 0 (replicate n 0) ≡ no_regs
unfolding regs_of
zero_regs true immediates e own n =
    let at = index_zeros n in
    rw (e, at _, at _, at _, at _, at _, at _, at _, at _, at _, at _, at _, at _, at _, at _, at _, at _, at _, at _, at _, at _, at _, at _, at _, at _, at _, at _, at _, at _, at _) refl
zero_regs false immediates e own n =
    let at = index_zeros n in
    rw (e, at _, at _, at _, at _, at _, at _, at _, at _, at _, at _, at _, at _, at _, at _, at _, at _, at _, at _, at _, at _, at _, at _, at _, at _) refl

immediates_zero : AllZero (immediate_constraints field no_regs)
unfolding immediate_constraints gated_difference
immediates_zero = (refl, (refl, (refl, (refl, tt))))

times_zero : (valid : ℕ) (new : Limbs ℕ) → valid ≡ 0 → AllZero (map (touch_constraint field 0) (regs_touches field no_regs valid new))
unfolding first_touch second_touch third_touch touch_constraint time_constraint
times_zero valid new v = rw v (refl, (refl, (refl, tt)))

no_immediates : (b : Bool) (xs ys : List ℕ) → AllZero xs → AllZero ys → AllZero (cond b xs [] ++ ys)
no_immediates true xs ys h k = all_append (λ x. x ≡ 0) xs ys h k
no_immediates false xs ys h k = k

words_low : (b : Bool) → words_from b ≤ 8
words_low true = lit≤ tt
words_low false = lit≤ tt

-- ---- a record's columns

length-cells_of : (b : Bool) (r : Regs ℕ) → length (regs_cells b r) ≡ words_from b + 12
unfolding regs_cells list_of
length-cells_of true r = refl
length-cells_of false r = refl

length-times : (r : Regs ℕ) → length (time_cells r) ≡ 9
unfolding time_cells
length-times r = refl

-- the columns of the registers, read back
module _ (r : Regs ℕ) (xs : List ℕ) (w : ℕ) (long : length xs ≡ w) where
  gap_cell : (b : Bool) (n m i : ℕ) → words_from b + 12 ≡ n → m ≡ n + w + i → slice_index (regs_cells b r ++ (xs ++ time_cells r)) m ≡ slice_index (time_cells r) i
  gap_cell b n m i e f =
      ap (slice_index (regs_cells b r ++ (xs ++ time_cells r))) (omega (arith, f))
      ∙ behind (regs_cells b r) (xs ++ time_cells r) n (w + i) (length-cells_of b r ∙ e)
      ∙ behind xs (time_cells r) w i long

  regs_back_true : regs_of field true w r.pc r.time (regs_cells true r ++ (xs ++ time_cells r)) ≡ r
  unfolding regs_of regs_cells time_cells list_of
  regs_back_true = rw (
    gap_cell true 20 (8 + 12 + w) 0 refl (omega arith),
    gap_cell true 20 (8 + 12 + w + 1) 1 refl (omega arith),
    gap_cell true 20 (8 + 12 + w + 2) 2 refl (omega arith),
    gap_cell true 20 (8 + 12 + w + 3) 3 refl (omega arith),
    gap_cell true 20 (8 + 12 + w + 3 + 1) 4 refl (omega arith),
    gap_cell true 20 (8 + 12 + w + 3 + 2) 5 refl (omega arith),
    gap_cell true 20 (8 + 12 + w + 6) 6 refl (omega arith),
    gap_cell true 20 (8 + 12 + w + 6 + 1) 7 refl (omega arith),
    gap_cell true 20 (8 + 12 + w + 6 + 2) 8 refl (omega arith),
  ) refl

  regs_back_false : r.use_imm ≡ 0 → r.imm ≡ limbs_of_zero field → regs_of field false w r.pc r.time (regs_cells false r ++ (xs ++ time_cells r)) ≡ r
  unfolding regs_of regs_cells time_cells list_of
  regs_back_false u imm = rw (
    gap_cell false 15 (3 + 12 + w) 0 refl (omega arith),
    gap_cell false 15 (3 + 12 + w + 1) 1 refl (omega arith),
    gap_cell false 15 (3 + 12 + w + 2) 2 refl (omega arith),
    gap_cell false 15 (3 + 12 + w + 3) 3 refl (omega arith),
    gap_cell false 15 (3 + 12 + w + 3 + 1) 4 refl (omega arith),
    gap_cell false 15 (3 + 12 + w + 3 + 2) 5 refl (omega arith),
    gap_cell false 15 (3 + 12 + w + 6) 6 refl (omega arith),
    gap_cell false 15 (3 + 12 + w + 6 + 1) 7 refl (omega arith),
    gap_cell false 15 (3 + 12 + w + 6 + 2) 8 refl (omega arith),
    u,
    imm,
  ) refl

-- a record of a product or a quotient has no immediate
no_imm : (bits : ℕ) (done : StepRecord) → Fillable bits done → is_mul done.instr.op ≡ true → ((regs_filled done).use_imm ≡ 0) × ((regs_filled done).imm ≡ limbs_of_zero field)
unfolding regs_filled limbs_from
no_imm bits done f mul = let none = f.in_range.mul mul in (rw none.1 refl, rw none.2 refl)

regs_back : (bits : ℕ) (b immediates : Bool) (done : StepRecord) (xs : List ℕ) (w : ℕ) → immediates ≡ b → length xs ≡ w → Fillable bits done → (immediates ≡ false → is_mul done.instr.op ≡ true)
    → regs_of field immediates w (regs_filled done).pc (regs_filled done).time (regs_cells immediates (regs_filled done) ++ (xs ++ time_cells (regs_filled done))) ≡ regs_filled done
regs_back bits true immediates done xs w e long f mul = rw e (regs_back_true (regs_filled done) xs w long)
regs_back bits false immediates done xs w e long f mul = let none = no_imm bits done f (mul e) in rw e (regs_back_false (regs_filled done) xs w long none.0 none.1)

filled_pc : (done : StepRecord) → ((regs_filled done).pc ≡ done.instr.pc) × ((regs_filled done).time ≡ done.time)
unfolding regs_filled
filled_pc done = (refl, refl)

cells_below_of : (b : Bool) (r : Regs ℕ) → AllBelow (regs_cells true r) → AllBelow (regs_cells b r)
unfolding regs_cells
cells_below_of true r h = h
cells_below_of false r h = (h.0, (h.1.0, (h.1.1.0, all_right (λ x. x < 2013265921) (list_of r.imm) (list_of r.left ++ (list_of r.right ++ list_of r.old)) h.1.1.1.1)))

register_low : (op : ℕ) → is_register op ≡ true → op < 2013265921
register_low op h = let low = (apart op h).meant in grind (arith, nat_tests)

apart_hints : (op : ℕ) → is_register op ≡ true → (nat_eq op HINT ≡ false) × (nat_eq op HINT_NEXT ≡ false)
apart_hints op h = let a = apart op h in (a.hint, a.next_input)

pub regs_no_hints : (core : Core) → CoreLaws core → NoHints (regs_form core)
regs_no_hints core laws = each (λ op. is_register op ≡ true) (λ op. (nat_eq op HINT ≡ false) × (nat_eq op HINT_NEXT ≡ false)) apart_hints core.opcodes laws.registers

module _ (core : Core) (laws : CoreLaws core) where
  other : (e : Event) → IsLookup e → IsOther true e
  other e l = record { off = l.low; lookup = λ h. l.side; private = λ h. absurd (omega (arith, l.high)) }

  zero_operands : operands_of field core.immediates core.own (no_columns (regs_form core)) ≡ no_operands core
  zero_operands =
      let n = words_from core.immediates + 21 + core.own in
      let left : (registers field core.immediates core.own (no_columns (regs_form core))).left ≡ limbs_of_zero field = ap (λ (r : Regs ℕ). r.left) (zero_regs core.immediates core.immediates refl core.own n) in
      let right : (registers field core.immediates core.own (no_columns (regs_form core))).right ≡ limbs_of_zero field = ap (λ (r : Regs ℕ). r.right) (zero_regs core.immediates core.immediates refl core.own n) in
      rw (left, right, cells_of_zeros n (words_from core.immediates + 12) core.own) refl

  bounds : FormBounds (regs_form core)
  bounds =
      let n = words_from core.immediates + 21 + core.own in
      let zero = zero_regs core.immediates core.immediates refl core.own n in
      record {
        some = laws.some;
        few_flags = laws.few_flags;
        opcodes_below = each (λ op. is_register op ≡ true) (λ op. op < 2013265921) register_low core.opcodes laws.registers;
        slots_some = lit≤ tt;
        slots_few = lit≤ tt;
        slots = each (λ op. is_register op ≡ true) (λ op. slots_of op ≡ 3) register_slots core.opcodes laws.registers;
        narrow = omega (arith, laws.narrow, words_low core.immediates);
        few = λ c. omega (arith, laws.few_lookups (operands_of field core.immediates core.own c));
        others = λ c. each IsLookup (IsOther true) other _ (laws.lookups (operands_of field core.immediates core.own c));
        zeros = rw (zero_operands, zero) (no_immediates core.immediates _ _ immediates_zero laws.zeros);
        zero_touches = rw zero (times_zero (valid_of field (no_columns (regs_form core))) _ (sum_none (replicate (length core.opcodes) 0) (zeros_hold (length core.opcodes))));
        silent_touches = λ c none. touches_quiet _ (valid_of field c) _ (sum_none c.flags none);
        silent_others = λ c none. laws.silent (operands_of field core.immediates core.own c) none;
      }

  -- what a record fills
  fills : (hi : ℕ) (done : StepRecord) → hi ≤ 13 → Fillable (16 + hi) done → owns_of (regs_form core) done.instr.op ≡ true → TellsDone (regs_form core) hi done
  fills hi done top f own =
      let op = done.instr.op in
      let r = regs_filled done in
      let w = filled_pc done in
      let c = filled_columns (regs_form core) done in
      let register = of_owned (λ k. is_register k ≡ true) core.opcodes op laws.registers own in
      let cols = columns_filled hi done top f register in
      let placed = laws.placed op r.left r.right (new_filled done) own cols.own.left cols.own.right cols.own.word in
      let mul : core.immediates ≡ false → is_mul op ≡ true = λ e. of_owned (λ k. is_mul k ≡ true) core.opcodes op (laws.products e) own in
      let back : registers field core.immediates core.own c ≡ r =
      ap (λ (t : ℕ). regs_of field core.immediates core.own t c.time c.rest) (sym w.0) ∙ ap (λ (t : ℕ). regs_of field core.immediates core.own r.pc t c.rest) (sym w.1)
      ∙ regs_back (16 + hi) core.immediates core.immediates done (own_filled core done) core.own refl placed.long f mul in
      let owns : cells (slice_index c.rest) (words_from core.immediates + 12) core.own ≡ own_filled core done =
      cells_back (regs_cells core.immediates r) (own_filled core done) (time_cells r) (words_from core.immediates + 12) core.own (length-cells_of core.immediates r) placed.long in
      let o = operands (one_hot (length core.opcodes) (place_filled core done)) r.left r.right (own_filled core done) in
      let same : operands_of field core.immediates core.own c ≡ o = rw (back, owns) refl in
      let at : IsCoreAt core (place_filled core done) o = record { below = placed.below; flags = refl; own_long = placed.long; own_below = placed.own_below; left = cols.own.left; right = cols.own.right } in
      let good = laws.complete op o (new_filled done) at cols.own.word placed.opcode refl in
      let res : IsResult op o (core.parts.new o) = subst (λ (x : ℕ). IsResult x o (core.parts.new o)) placed.opcode (laws.sound (place_filled core done) o at good.zero good.good) in
      let new : new_filled done ≡ core.parts.new o = limbs_same (new_filled done) (core.parts.new o)
      (cols.own.word.is ∙ sym (sym (limbs_of-word (list_of (core.parts.new o)) (record { four = length-list_of (core.parts.new o); bytes = res.bytes })) ∙ ap limbs_of res.result_is)) in
      record {
        below = placed.below;
        opcode = placed.opcode;
        rest_long = omega (arith, length-append (regs_cells core.immediates r) (own_filled core done ++ time_cells r), length-append (own_filled core done) (time_cells r), length-cells_of core.immediates r, length-times r, placed.long);
        rest_below = all_append (λ x. x < 2013265921) _ _ (cells_below_of core.immediates r cols.own.cells) (all_append (λ x. x < 2013265921) _ _ placed.own_below cols.own.gaps);
        holds = record {
          zero = rw (same, back) (no_immediates core.immediates _ _ cols.own.immediates good.zero);
          good = rw same good.good;
        };
        others_small = rw same good.small;
        next = goes_on done.instr.pc done.next f.in_range.low cols.next;
        numbers = rw back (is_instruction done f.in_range register);
        sources = cols.sources;
        made_by = rw (same, back, sum_one (length core.opcodes) (place_filled core done) placed.below, ← new) cols.made_of;
        accesses = cols.accesses;
      }

  pub core_form : FormLaws (regs_form core)
  core_form = record {
    bounds = bounds;
    tells = λ k c at holds i. regs_tell core laws k c at holds i;
    means = λ alone k c at holds i old. regs_mean core laws k c at holds i old;
    fills = fills;
  }
