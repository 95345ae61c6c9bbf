-- A table of the memory form with its laws is a form with its laws.
use Rattle.std.proofs.Common.{◌≡◌, ◌≢◌, ℕ, ◌+◌, ◌-◌, ◌*◌, ◌/◌, ◌%◌, ◌^◌, ◌<◌, ◌≤◌, true, false, List, [], ◌∷◌, length, map, replicate, slice_index, refl, sym, ap, subst, ◌∙◌, arith, lit≤, length-append}
use Rattle.std.specs.List.{AllByRecursion}
use Rattle.vm_field.specs.Field.{modulus, field_add}
use Rattle.vm_field.specs.Limbs.{list_of, limbs_from}
use Rattle.vm_field.proofs.LimbLemmas.{list_of-from}
use Rattle.vm_word.specs.Word.{word_of_limbs}
use Rattle.vm_word.specs.Arithmetic.{word_sum}
use Rattle.vm_isa.specs.declared.access.TimedAccess.{TimedAccess}
use Rattle.vm_isa.specs.declared.instr.VmInstr.{VmInstr}
use Rattle.vm_isa.specs.declared.record.StepRecord.{StepRecord}
use Rattle.vm_isa.specs.Instr.{numbers_of, bit_of}
use Rattle.vm_isa.specs.Means.{Fillable, address, is_refused}
use Rattle.vm_isa.specs.Results.{width_of}
use Rattle.vm_isa.specs.Words.{IsBytes, IsWord}
use Rattle.vm_isa.proofs.InstrLaws.{four}
use Rattle.vm_isa.proofs.NextLaws.{meant}
use Rattle.air_core.specs.First.{bit}
use Rattle.air_core.specs.FlagLaws.{sum_none}
use Rattle.air_core.specs.Flags.{sum_from, one_hot}
use Rattle.air_core.specs.ListLemmas.{all_left, all_right, all_append, by_zero_test, zero_test}
use Rattle.air_core.specs.Lookups.{GoodEvent}
use Rattle.air_core.specs.Ring.{field}
use Rattle.air_core.specs.Sheet.{AllZero}
use Rattle.air_core.specs.Step.{Rising, NewBytes, IsMeaning}
use Rattle.air_core.specs.lemmas.OneHot.{is_owned, sum_one, zeros_hold}
use Rattle.gadget_limbs.specs.Ranges.{range_lines}
use Rattle.gadget_limbs.proofs.RangeLaws.{ranges_good, good_ranges}
use Rattle.gadget_time.specs.declared.touch.Touch.{Touch}
use Rattle.gadget_time.specs.Access.{access_at}
use Rattle.gadget_time.specs.Told.{touch_constraint, touched_of}
use Rattle.gadget_time.specs.Laws.{CountsSmall}
use Rattle.gadget_time.specs.Form.{Columns, valid_of, owns_of, no_columns}
use Rattle.gadget_time.specs.FormLaws.{FormLaws, FormBounds, IsOther, IsAt, FormHolds, InstructionAt, Tells, TellsDone}
use Rattle.gadget_time.specs.lemmas.Access.{bytes_of}
use Rattle.gadget_time.specs.lemmas.Meant.{olds_of}
use Rattle.adapter_mem.specs.declared.memory.MemoryColumns.{MemoryColumns}
use Rattle.adapter_mem.specs.Pointer.{pointer_constraints, part, pointer, low_half, high_half, half_out}
use Rattle.adapter_mem.specs.Laws.{IsPointer}
use Rattle.adapter_mem.specs.declared.forms.AccessForm.{AccessForm}
use Rattle.adapter_mem.specs.Forms.{form_at, opcodes_of, shift_by}
use Rattle.adapter_mem.specs.Memory.{MemoryTable, memory_form, memory_numbers, pointer_of, address_constraints, address_lines, address_filled, place_filled, no_memory}
use Rattle.adapter_mem.specs.MemoryLaws.{MemoryLaws, IsAddress, MemoryAt, MemoryTells, MemoryPlaced, flags_filled, block_filled}
use Rattle.adapter_mem.proofs.AddressLemmas.{address_is, filled_is, low_where_it_fits, in_word, halves_of}
use Rattle.adapter_mem.proofs.FormLemmas.{map_at, length_map, shift_is, shift_4, at_form, form_aligned, by_4}
use Rattle.adapter_mem.proofs.PointerLaws.{pointer_law, pointer_holds, pointer_is}

-- the program tuple read as an instruction
record IsRow (at op : ℕ) (m : MemoryColumns ℕ) (i : VmInstr) : Type 0 where
  pc : at ≡ i.pc
  op_is : op ≡ i.op
  rd : m.rd ≡ i.rd
  rs1 : m.rs1 ≡ i.rs1
  rs2 : m.rs2 ≡ i.rs2
  write : m.write ≡ bit_of i.write
  imm : list_of m.imm ≡ i.imm

is_row : (at op : ℕ) (m : MemoryColumns ℕ) (i : VmInstr) → length i.imm ≡ 4 → at ∷ op ∷ memory_numbers field m ≡ numbers_of i → IsRow at op m i
unfolding memory_numbers numbers_of list_of
is_row at op m i len e = record {
  pc = cc;
  op_is = cc;
  rd = cc;
  rs1 = cc;
  rs2 = cc;
  write = cc;
  imm = let is : m.imm.x0 ∷ m.imm.x1 ∷ m.imm.x2 ∷ m.imm.x3 ∷ [] ≡ slice_index i.imm 0 ∷ slice_index i.imm 1 ∷ slice_index i.imm 2 ∷ slice_index i.imm 3 ∷ [] = cc in is ∙ four i.imm len;
}

-- what is looked up of the address
lines_silent : (valid shift : ℕ) (m : MemoryColumns ℕ) → valid ≡ 0 → AllByRecursion (λ e. e.count ≡ 0) (address_lines field valid shift m)
lines_silent valid shift m v = (v, (v, tt))

lines_small : (valid shift : ℕ) (m : MemoryColumns ℕ) → valid ≡ 1 → AllByRecursion (λ e. e.count ≤ 1) (address_lines field valid shift m)
lines_small valid shift m v = (omega (arith, v), (omega (arith, v), tt))

lines_others : (valid shift : ℕ) (m : MemoryColumns ℕ) → AllByRecursion (IsOther true) (address_lines field valid shift m)
lines_others valid shift m = (
  record { off = lit≤ tt; lookup = λ h. refl; private = λ h. absurd (omega arith) },
  (record { off = lit≤ tt; lookup = λ h. refl; private = λ h. absurd (omega arith) }, tt),
)

record Looked (shift : ℕ) (m : MemoryColumns ℕ) : Type 0 where
  part : part field 1509949441 m.low shift < 2 ^ 14
  high : m.high < 2 ^ 13

looked : (valid shift : ℕ) (m : MemoryColumns ℕ) → valid ≡ 1 → AllByRecursion (λ e. e.count ≢ 0 → GoodEvent e) (address_lines field valid shift m) → Looked shift m
looked valid shift m v h =
    let some : valid ≢ 0 = λ none. absurd (omega (arith, v, none)) in
    let low = range_lines field valid 14 (part field 1509949441 m.low shift ∷ []) in
    let high = range_lines field valid 13 (m.high ∷ []) in
    record {
      part = (ranges_good valid 14 (part field 1509949441 m.low shift ∷ []) some (all_left (λ e. e.count ≢ 0 → GoodEvent e) low high h)).0;
      high = (ranges_good valid 13 (m.high ∷ []) some (all_right (λ e. e.count ≢ 0 → GoodEvent e) low high h)).0;
    }

lines_good : (valid shift : ℕ) (m : MemoryColumns ℕ) → Looked shift m → AllByRecursion (λ e. e.count ≢ 0 → GoodEvent e) (address_lines field valid shift m)
lines_good valid shift m l =
    all_append (λ e. e.count ≢ 0 → GoodEvent e) (range_lines field valid 14 (part field 1509949441 m.low shift ∷ [])) (range_lines field valid 13 (m.high ∷ []))
    (good_ranges valid 14 (part field 1509949441 m.low shift ∷ []) (lit≤ tt) (l.part, tt)) (good_ranges valid 13 (m.high ∷ []) (lit≤ tt) (l.high, tt))

-- PTR says where the address is
address_by : (m : MemoryColumns ℕ) (i : VmInstr) (f : AccessForm) (shift : ℕ) → m.low < modulus → m.high < modulus → shift ≡ f.shift → shift < 4 → width_of i.op ≡ width_of f.op
    → (address i (word_of_limbs (list_of m.base)) % 4 ≡ f.shift → address i (word_of_limbs (list_of m.base)) % width_of f.op ≡ 0)
    → AllZero (address_constraints field m) → Looked shift m → IsBytes (list_of m.imm) → list_of m.imm ≡ i.imm → IsBytes (list_of m.base) → IsAddress i (word_of_limbs (list_of m.base)) f (pointer_of field shift m)
address_by m i f shift low high is small width aligned zero l imm imm_is base =
    let b = word_of_limbs (list_of m.base) in
    let p = pointer_law 4 1509949441 14 m.base m.imm m.low m.high shift by_4 base imm low small (record { zero = zero; low = l.part; high = l.high }) in
    let same : word_sum b (word_of_limbs (list_of m.imm)) ≡ address i b = ap (λ (xs : List ℕ). word_sum b (word_of_limbs xs)) imm_is ∙ sym (address_is i b) in
    let at_4 : address i b % 4 ≡ shift = ap (λ (n : ℕ). n % 4) (sym same) ∙ p.remainder in
    record {
      below = rw (← same) (omega (arith, p.below));
      aligned = rw width (aligned (at_4 ∙ is));
      shift = at_4 ∙ is;
      block_is = p.is ∙ ap (λ (n : ℕ). word_sum b (word_of_limbs (list_of m.imm)) - n) (sym at_4) ∙ ap (λ (n : ℕ). n - address i b % 4) same;
    }

zero_address : AllZero (address_constraints field no_memory)
unfolding pointer_constraints low_half high_half half_out bit zero_test
zero_address = by_zero_test (address_constraints field no_memory) refl

step_on : (x y : ℕ) → x ≡ y → y < 2 ^ 29 → field_add x 4 ≡ word_sum y 4
step_on x y e h = omega arith

-- ---- a valid row

module _ (t : MemoryTable) (laws : MemoryLaws t) (k : ℕ) (c : Columns ℕ) (at : IsAt (memory_form t) k c) (holds : FormHolds (memory_form t) c) (i : InstructionAt (memory_form t) k c) where
  abbrev m : MemoryColumns ℕ
  m = t.parts.read c.rest

  abbrev f : AccessForm
  f = form_at t.forms k

  abbrev shift : ℕ
  shift = shift_by field t.forms c.flags

  abbrev block : ℕ
  block = pointer_of field shift m

  abbrev touches : ℕ → List (Touch ℕ)
  touches valid = t.parts.touches valid block c.flags m

  low : k < length t.forms
  low = omega (arith, at.below, length_map (λ f. f.op) t.forms)

  hot : c.flags ≡ one_hot (length t.forms) k
  hot = at.flags ∙ ap (λ (n : ℕ). one_hot n k) (length_map (λ f. f.op) t.forms)

  v : valid_of field c ≡ 1
  v = ap (sum_from field 0) hot ∙ sum_one (length t.forms) k low

  is : IsRow c.pc (slice_index (opcodes_of t.forms) k) m i.instr
  is = is_row c.pc (slice_index (opcodes_of t.forms) k) m i.instr i.in_range.imm.four i.are

  op : i.instr.op ≡ f.op
  op = sym is.op_is ∙ map_at (λ f. f.op) t.forms k low

  owned : owns_of (memory_form t) i.instr.op ≡ true
  owned = ap (owns_of (memory_form t)) (sym is.op_is) ∙ is_owned (opcodes_of t.forms) k at.below

  shift_at : shift ≡ f.shift
  shift_at = shift_is t.forms c.flags k laws.forms low hot

  address_at : IsBytes (list_of m.base) → IsAddress i.instr (word_of_limbs (list_of m.base)) f block
  address_at base =
      let below = laws.below c.rest at.rest_below in
      let form = at_form _ t.forms k low laws.forms in
      let lines = address_lines field (valid_of field c) shift m in
      let own = t.parts.lookups (valid_of field c) c.flags m in
      address_by m i.instr f shift below.low below.high shift_at (omega (arith, shift_at, shift_4 f form)) (ap width_of op) (form_aligned f (address i.instr (word_of_limbs (list_of m.base))) form)
      (all_left (λ x. x ≡ 0) (address_constraints field m) (t.parts.constraints c.flags m) holds.zero)
      (looked (valid_of field c) shift m v (all_left (λ e. e.count ≢ 0 → GoodEvent e) lines own holds.good))
      (subst IsBytes (sym is.imm) i.in_range.imm.bytes) is.imm base

  core_at : MemoryAt t k block c.flags m i.instr
  core_at = record {
    below = low;
    flags_are = hot;
    op = op;
    owned = owned;
    rd = is.rd;
    rs1 = is.rs1;
    rs2 = is.rs2;
    write = is.write;
    in_range = i.in_range;
    sign_below = (laws.below c.rest at.rest_below).sign;
    zero = all_right (λ x. x ≡ 0) (address_constraints field m) (t.parts.constraints c.flags m) holds.zero;
    good = subst (λ (n : ℕ). AllByRecursion (λ e. e.count ≢ 0 → GoodEvent e) (t.parts.lookups n c.flags m)) v
        (all_right (λ e. e.count ≢ 0 → GoodEvent e) (address_lines field (valid_of field c) shift m) (t.parts.lookups (valid_of field c) c.flags m) holds.good);
    address_is = address_at;
  }

  told : MemoryTells t block c.flags m i.instr
  told = laws.tells k block c.flags m i.instr core_at

  tells : Tells (memory_form t) c
  tells = record {
    accesses = touched_of (touches (valid_of field c));
    counts = subst (λ (n : ℕ). CountsSmall (touches n)) (sym v) told.counts;
    slots = subst (λ (n : ℕ). AllByRecursion (λ a. a.slot < t.slots) (touches n)) (sym v) told.slots;
    are = refl;
    rising = subst (λ (n : ℕ). Rising 0 t.slots (touched_of (touches n))) (sym v) told.rising;
    new_bytes = subst (λ (n : ℕ). NewBytes (touched_of (touches n))) (sym v) told.new_bytes;
  }

  means : AllByRecursion (λ a. IsBytes a.old) tells.accesses → IsMeaning i.instr tells.accesses ((memory_form t).parts.next c)
  unfolding tells
  means old =
      let now = told.means (subst (λ (n : ℕ). AllByRecursion (λ a. IsBytes a.old) (touched_of (touches n))) v old) in
      subst (λ (n : ℕ). IsMeaning i.instr (touched_of (touches n)) (field_add c.pc 4)) (sym v)
      (subst (λ (n : ℕ). IsMeaning i.instr (touched_of (touches 1)) n) (sym (step_on c.pc i.instr.pc is.pc i.in_range.low)) now)

-- ---- bounds

module _ (t : MemoryTable) (laws : MemoryLaws t) where
  zeros : AllZero ((memory_form t).parts.constraints (no_columns (memory_form t)))
  zeros =
      rw (laws.read_zeros, length_map (λ f. f.op) t.forms) (all_append (λ x. x ≡ 0) (address_constraints field no_memory) (t.parts.constraints (replicate (length t.forms) 0) no_memory) zero_address laws.zeros)

  zero_touches : AllZero (map (touch_constraint field 0) ((memory_form t).parts.touches (no_columns (memory_form t))))
  zero_touches =
      let n = length (opcodes_of t.forms) in
      let none : valid_of field (no_columns (memory_form t)) ≡ 0 = sum_none (replicate n 0) (zeros_hold n) in
      let block = pointer_of field (shift_by field t.forms (replicate n 0)) (t.parts.read (replicate t.width 0)) in
      subst (λ (v : ℕ). AllZero (map (touch_constraint field 0) (t.parts.touches v block (replicate n 0) (t.parts.read (replicate t.width 0))))) (sym none)
      (rw laws.read_zeros (laws.zero_touches _ (replicate n 0)))

  few : (c : Columns ℕ) → 4 * length ((memory_form t).parts.touches c) + length ((memory_form t).parts.others c) ≤ 253
  few c =
      let m = t.parts.read c.rest in
      let shift = shift_by field t.forms c.flags in
      omega (arith, laws.few (valid_of field c) (pointer_of field shift m) c.flags m, length-append (address_lines field (valid_of field c) shift m) (t.parts.lookups (valid_of field c) c.flags m))

  bounds : FormBounds (memory_form t)
  bounds = record {
    some = omega (arith, laws.some, length_map (λ f. f.op) t.forms);
    few_flags = omega (arith, laws.few_flags, length_map (λ f. f.op) t.forms);
    opcodes_below = laws.opcodes_below;
    slots_some = laws.slots_some;
    slots_few = laws.slots_few;
    slots = laws.slots;
    narrow = laws.narrow;
    few = few;
    others = λ c. all_append (IsOther true) (address_lines field (valid_of field c) (shift_by field t.forms c.flags) (t.parts.read c.rest)) (t.parts.lookups (valid_of field c) c.flags (t.parts.read c.rest)) (lines_others (valid_of field c) (shift_by field t.forms c.flags) (t.parts.read c.rest)) (laws.others (valid_of field c) c.flags (t.parts.read c.rest));
    zeros = zeros;
    zero_touches = zero_touches;
    silent_touches = λ c none. laws.silent_touches (valid_of field c) _ c.flags (t.parts.read c.rest) (sum_none c.flags none);
    silent_others = λ c none. all_append (λ e. e.count ≡ 0) (address_lines field (valid_of field c) (shift_by field t.forms c.flags) (t.parts.read c.rest)) (t.parts.lookups (valid_of field c) c.flags (t.parts.read c.rest)) (lines_silent (valid_of field c) (shift_by field t.forms c.flags) (t.parts.read c.rest) (sum_none c.flags none))
        (laws.silent_others (valid_of field c) c.flags (t.parts.read c.rest) (sum_none c.flags none) none);
  }

  -- ---- what a record fills

  placed_by : (hi : ℕ) (done : StepRecord) (xs : List TimedAccess) → done.accesses ≡ xs → Fillable (16 + hi) done → owns_of (memory_form t) done.instr.op ≡ true → MemoryPlaced t done
  placed_by hi done [] e f own =
      let i = done.instr in
      let n = meant i (olds_of done.accesses) f.given f.meaning f.means in
      let some = (laws.memory i own).accesses (olds_of done.accesses) in
      absurd (omega (arith, n.long, some, ap (λ (xs : List TimedAccess). length (olds_of xs)) e))
  placed_by hi done (a ∷ more) e f own =
      let i = done.instr in
      let memory = laws.memory i own in
      let n = meant i (olds_of done.accesses) f.given f.meaning f.means in
      let fits : is_refused i (a.access.old ∷ olds_of more) ≡ false = ap (λ (xs : List TimedAccess). is_refused i (olds_of xs)) (sym e) ∙ n.fits in
      let low = low_where_it_fits i a.access.old (olds_of more) memory fits in
      let first : access_at done.accesses 0 ≡ a = ap (λ (xs : List TimedAccess). access_at xs 0) e in
      let here : address_filled done ≡ address i (word_of_limbs a.access.old) = filled_is done ∙ ap (λ (x : TimedAccess). address i (word_of_limbs x.access.old)) first in
      let words = subst (AllByRecursion (λ (x : TimedAccess). IsWord x.access.old)) e f.words in
      let aligned : address_filled done % width_of i.op ≡ 0 = ap (λ (n : ℕ). n % width_of i.op) here ∙ low.1 in
      record {
        place = laws.place i.op (address_filled done % 4) own (omega arith) (in_word i.op (address_filled done) aligned);
        owned = own;
        below = omega (arith, here, low.0);
        aligned = aligned;
        base_is = rw first (list_of-from a.access.old words.0.four);
        base = rw first (bytes_of a.access.old words.0);
      }

  pointer_by : (done : StepRecord) (shift : ℕ) → MemoryPlaced t done → IsBytes done.instr.imm → length done.instr.imm ≡ 4 → shift ≡ address_filled done % 4
      → IsPointer 4 (word_sum (word_of_limbs (list_of (limbs_from (access_at done.accesses 0).access.old))) (word_of_limbs (list_of (limbs_from done.instr.imm)))) (address_filled done % 65536) (address_filled done / 65536) shift
  pointer_by done shift p bytes long e =
      let n = address_filled done in
      let sum : word_sum (word_of_limbs (list_of (limbs_from (access_at done.accesses 0).access.old))) (word_of_limbs (list_of (limbs_from done.instr.imm))) ≡ n =
      ap (λ (xs : List ℕ). word_sum (word_of_limbs xs) (word_of_limbs (list_of (limbs_from done.instr.imm)))) p.base_is
      ∙ ap (λ (xs : List ℕ). word_sum (word_of_limbs (access_at done.accesses 0).access.old) (word_of_limbs xs)) (list_of-from done.instr.imm long)
      ∙ sym (address_is done.instr (word_of_limbs (access_at done.accesses 0).access.old)) ∙ sym (filled_is done) in
      let whole : n ≡ n % 65536 + 65536 * (n / 65536) = halves_of n (n % 65536) (n / 65536) refl refl in
      let is : pointer field (n % 65536) (n / 65536) shift ≡ n - shift = pointer_is (n % 65536) (n / 65536) shift n (omega arith) (omega (arith, p.below)) (omega (arith, e)) whole in
      record { halves = sum ∙ whole; low = omega arith; below = rw sum p.below; remainder = rw sum (sym e); is = rw sum is }

  fills : (hi : ℕ) (done : StepRecord) → hi ≤ 13 → Fillable (16 + hi) done → owns_of (memory_form t) done.instr.op ≡ true → TellsDone (memory_form t) hi done
  fills hi done top f own =
      let i = done.instr in
      let p = placed_by hi done done.accesses refl f own in
      let k = place_filled t.forms done in
      let s = laws.fills hi done top f p in
      let m = t.filled done in
      let n = address_filled done in
      let flags = flags_filled t done in
      let long : length (opcodes_of t.forms) ≡ length t.forms = length_map (λ f. f.op) t.forms in
      let same : one_hot (length (opcodes_of t.forms)) k ≡ flags = ap (λ (n : ℕ). one_hot n k) long in
      let back : t.parts.read (t.cells m) ≡ m = laws.back done in
      let shift : shift_by field t.forms flags ≡ n % 4 = shift_is t.forms flags k laws.forms p.place.below refl ∙ p.place.shift_is in
      let v : sum_from field 0 flags ≡ 1 = sum_one (length t.forms) k p.place.below in
      let filled = laws.address done in
      let range = f.in_range in
      let pp = pointer_by done (shift_by field t.forms flags) p range.imm.bytes range.imm.four shift in
      let ph = pointer_holds 4 1509949441 14 (limbs_from (access_at done.accesses 0).access.old) (limbs_from i.imm) (n % 65536) (n / 65536) (shift_by field t.forms flags) by_4 p.base (bytes_of i.imm range.imm) (omega (arith, shift)) pp in
      let address_zero : AllZero (address_constraints field m) = rw (filled.base, filled.imm, filled.low, filled.high) ph.zero in
      let l : Looked (shift_by field t.forms flags) m = record { part = rw filled.low ph.low; high = rw filled.high ph.high } in
      let block : pointer_of field (shift_by field t.forms flags) m ≡ block_filled done =
      rw (filled.low, filled.high) (pointer_is (n % 65536) (n / 65536) (shift_by field t.forms flags) n (omega arith) (omega (arith, p.below)) (omega (arith, shift)) (halves_of n (n % 65536) (n / 65536) refl refl) ∙ ap (λ (x : ℕ). n - x) shift) in
      record {
        below = omega (arith, p.place.below, long);
        opcode = map_at (λ f. f.op) t.forms k p.place.below ∙ p.place.op_is;
        rest_long = laws.long m;
        rest_below = s.below;
        holds = record {
          zero = rw (back, long) (all_append (λ x. x ≡ 0) (address_constraints field m) (t.parts.constraints flags m) address_zero s.zero);
          good = rw (back, long, v) (all_append (λ e. e.count ≢ 0 → GoodEvent e) (address_lines field 1 (shift_by field t.forms flags) m) (t.parts.lookups 1 flags m) (lines_good 1 (shift_by field t.forms flags) m l) s.good);
        };
        others_small = rw (back, long, v) (all_append (λ e. e.count ≤ 1) (address_lines field 1 (shift_by field t.forms flags) m) (t.parts.lookups 1 flags m) (lines_small 1 (shift_by field t.forms flags) m refl) s.small);
        next = step_on i.pc i.pc refl range.low ∙ sym s.next;
        numbers = rw back s.numbers;
        sources = s.sources;
        made_by = rw (back, long, v, block) s.made_by;
        accesses = s.accesses;
      }

  pub memory_table_form : FormLaws (memory_form t)
  memory_table_form = record {
    bounds = bounds;
    tells = λ k c at holds i. tells t laws k c at holds i;
    means = λ alone k c at holds i old. means t laws k c at holds i old;
    fills = fills;
  }
