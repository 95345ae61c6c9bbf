-- A condition with its laws is a form with its laws: what a row of a branch tells, bounds, and what a record fills.
use Rattle.std.proofs.Common.{◌≡◌, ℕ, ◌+◌, ◌^◌, ◌≤◌, ◌<◌, true, false, List, [], ◌∷◌, length, slice_index, refl, sym, ap, ◌∙◌, arith, lit<, lit≤, ◌%◌, nat_eq, ◌++◌, Some, map, replicate, subst, length-append}
use Rattle.std.specs.Int.{from_bool}
use Rattle.std.specs.List.{AllByRecursion}
use Rattle.vm_field.specs.Field.{field_mul, modulus}
use Rattle.vm_field.specs.declared.limbs.Limbs.{Limbs}
use Rattle.vm_field.specs.Limbs.{list_of, limbs_by, limbs_from}
use Rattle.vm_field.proofs.Constraints.{gate_off}
use Rattle.vm_field.proofs.LimbLemmas.{list_of-from}
use Rattle.vm_word.specs.Word.{word_of_limbs}
use Rattle.vm_isa.specs.declared.instr.VmInstr.{VmInstr}
use Rattle.vm_isa.specs.Instr.{numbers_of, InRange}
use Rattle.vm_isa.specs.Opcodes.{is_branch, HINT, HINT_NEXT}
use Rattle.vm_isa.specs.Results.{is_taken}
use Rattle.vm_isa.specs.Words.{IsBytes, IsWord}
use Rattle.vm_isa.specs.declared.access.TimedAccess.{TimedAccess}
use Rattle.vm_isa.specs.declared.record.StepRecord.{StepRecord}
use Rattle.vm_isa.specs.Slots.{slots_of}
use Rattle.vm_isa.specs.Means.{Fillable}
use Rattle.air_core.specs.Flags.{sum_from, one_hot}
use Rattle.air_core.specs.Ring.{field, cell, cells}
use Rattle.air_core.specs.Step.{Touched, IsMeaning}
use Rattle.air_core.specs.lemmas.Cells.{cells_below, cells_back, cells_of_zeros, index_zeros, behind}
use Rattle.air_core.specs.lemmas.OneHot.{sum_one, at_place, is_place, of_owned, zeros_hold}
use Rattle.air_core.specs.declared.event.Event.{Event}
use Rattle.air_core.specs.FlagLaws.{sum_none}
use Rattle.air_core.specs.ListLemmas.{all_append, all_weaker}
use Rattle.air_core.specs.Sheet.{AllZero, AllBelow}
use Rattle.gadget_limbs.proofs.LimbsLaws.{bytes_below}
use Rattle.gadget_time.specs.Told.{touched_of, touch_constraint, time_constraint}
use Rattle.gadget_time.specs.Laws.{CountsSmall}
use Rattle.gadget_time.specs.Form.{Columns, valid_of, owns_of, filled_columns, no_columns}
use Rattle.gadget_time.specs.FormLaws.{IsAt, FormHolds, InstructionAt, Tells, FormLaws, FormBounds, IsOther, TellsDone, NoHints}
use Rattle.gadget_time.specs.declared.touch.Gap.{Gap}
use Rattle.adapter_regs.specs.Core.{Operands, operands, IsLookup}
use Rattle.adapter_regs.specs.Next.{next_by}
use Rattle.adapter_regs.specs.lemmas.Access.{pointer, leads_to, filled_access}
use Rattle.adapter_regs.specs.Regs.{gap_of, gap_cells, access_at, register_touch, limbs_of_zero}
use Rattle.chip_branch.specs.Branch.{Condition, ConditionLaws, branch_form, branch_numbers, branch_touches, operands_of, left_of, right_of, taken_at, left_filled, right_filled, place_filled, own_filled, no_operands, AConditionIsAForm}
use Rattle.chip_branch.specs.lemmas.Means.{means_branch, apart, branch_shape, branch_meaning}

-- the program tuple read as an instruction
record IsInstr (at op : ℕ) (rest : List ℕ) (i : VmInstr) : Type 0 where
  pc : at ≡ i.pc
  op_is : op ≡ i.op
  rs1 : cell field rest 0 ≡ i.rs1
  rs2 : cell field rest 1 ≡ i.rs2
  target : cell field rest 2 ≡ i.target

is_instr : (pc op : ℕ) (rest : List ℕ) (i : VmInstr) → pc ∷ op ∷ branch_numbers field rest ≡ numbers_of i → IsInstr pc op rest i
unfolding branch_numbers numbers_of
is_instr pc op rest i e = record { pc = cc; op_is = cc; rs1 = cc; rs2 = cc; target = cc }

touches_quiet : (own valid : ℕ) (rest : List ℕ) → valid ≡ 0 → AllByRecursion (λ a. a.count ≡ 0) (branch_touches field own valid rest)
unfolding branch_touches
touches_quiet own valid rest v = (v, (v, tt))

abbrev touched_by : ℕ → List ℕ → List Touched
touched_by own rest =
    record { slot = 0; space = 1; pointer = field_mul 4 (cell field rest 0); old = list_of (left_of field rest); new = list_of (left_of field rest); before = cell field rest (11 + own) }
    ∷ record { slot = 1; space = 1; pointer = field_mul 4 (cell field rest 1); old = list_of (right_of field rest); new = list_of (right_of field rest); before = cell field rest (14 + own) }
    ∷ []

touched_is : (own valid : ℕ) (rest : List ℕ) → valid ≡ 1 → touched_of (branch_touches field own valid rest) ≡ touched_by own rest
unfolding branch_touches
touched_is own valid rest v = rw v refl

counts_small : (own valid : ℕ) (rest : List ℕ) → valid ≡ 1 → CountsSmall (branch_touches field own valid rest)
unfolding branch_touches
counts_small own valid rest v = (omega (arith, v), (omega (arith, v), tt))

slots_low : (own valid : ℕ) (rest : List ℕ) → AllByRecursion (λ a. a.slot < 2) (branch_touches field own valid rest)
unfolding branch_touches
slots_low own valid rest = (lit< tt, (lit< tt, tt))

module _ (condition : Condition) (laws : ConditionLaws condition) (k : ℕ) (c : Columns ℕ) (at : IsAt (branch_form condition) k c) (holds : FormHolds (branch_form condition) c) (i : InstructionAt (branch_form condition) k c) where
  abbrev o : Operands ℕ
  o = operands_of field condition.own c

  abbrev op : ℕ
  op = slice_index condition.opcodes k

  v : valid_of field c ≡ 1
  v = ap (sum_from field 0) at.flags ∙ sum_one (length condition.opcodes) k at.below

  is : IsInstr c.pc op c.rest i.instr
  is = is_instr c.pc op c.rest i.instr i.are

  branch_tells : Tells (branch_form condition) c
  branch_tells = record {
    accesses = touched_by condition.own c.rest;
    counts = counts_small condition.own (valid_of field c) c.rest v;
    slots = slots_low condition.own (valid_of field c) c.rest;
    are = touched_is condition.own (valid_of field c) c.rest v;
    rising = (lit≤ tt, lit< tt, (lit≤ tt, lit< tt, tt));
    new_bytes = λ x. (x, λ y. (y, tt));
  }

  taken : IsBytes (list_of o.left) → IsBytes (list_of o.right) → condition.parts.taken o ≡ from_bool (is_taken i.instr.op (word_of_limbs (list_of o.left)) (word_of_limbs (list_of o.right)))
  taken left right =
      laws.sound k o (record { below = at.below; flags = at.flags; own_below = cells_below c.rest at.rest_below 11 condition.own; left = left; right = right }) holds.zero holds.good
      ∙ ap (λ (x : ℕ). taken_at x o) is.op_is

  branch_means : AllByRecursion (λ a. IsBytes a.old) branch_tells.accesses → IsMeaning i.instr branch_tells.accesses ((branch_form condition).parts.next c)
  unfolding branch_tells
  branch_means old =
      let range = i.in_range in
      let branch : is_branch i.instr.op ≡ true = ap is_branch (sym is.op_is) ∙ at_place (λ x. is_branch x ≡ true) condition.opcodes k at.below laws.branches in
      let e0 = pointer (cell field c.rest 0) i.instr.rs1 is.rs1 range.rs1 in
      let e1 = pointer (cell field c.rest 1) i.instr.rs2 is.rs2 range.rs2 in
      let n = ap (λ (x : ℕ). next_by field x (cell field c.rest 2) (condition.parts.taken o)) is.pc ∙ ap (λ (x : ℕ). next_by field i.instr.pc x (condition.parts.taken o)) is.target
      ∙ leads_to (is_taken i.instr.op (word_of_limbs (list_of o.left)) (word_of_limbs (list_of o.right))) i.instr.pc i.instr.target (condition.parts.taken o) (taken old.0 old.1.0) range.low range.target in
      ([], means_branch i.instr (list_of o.left) (list_of o.right) [] branch ∙ rw (e0, e1, n) refl)

each : {X : Type 0} (P Q : X → Type 0) → ((x : X) → P x → Q x) → (xs : List X) → AllByRecursion P xs → AllByRecursion Q xs
each P Q f xs h = all_weaker P Q f xs h

apart_hints : (op : ℕ) → is_branch op ≡ true → (nat_eq op HINT ≡ false) × (nat_eq op HINT_NEXT ≡ false)
apart_hints op h = let a = apart op h in (a.hint, a.next_input)

pub branch_no_hints : (condition : Condition) → ConditionLaws condition → NoHints (branch_form condition)
branch_no_hints condition laws = each (λ op. is_branch op ≡ true) (λ op. (nat_eq op HINT ≡ false) × (nat_eq op HINT_NEXT ≡ false)) apart_hints condition.opcodes laws.branches

-- ---- a row of zeros

zero_word : (n at : ℕ) → limbs_by (cell field (replicate n 0)) at ≡ limbs_of_zero field
zero_word n at = let z = index_zeros n in rw (z at, z (at + 1), z (at + 2), z (at + 3)) refl

times_zero : (own valid : ℕ) (rest : List ℕ) → valid ≡ 0 → AllZero (map (touch_constraint field 0) (branch_touches field own valid rest))
unfolding branch_touches touch_constraint time_constraint
times_zero own valid rest v = (gate_off valid _ v, (gate_off valid _ v, tt))

length-touches : (own valid : ℕ) (rest : List ℕ) → length (branch_touches field own valid rest) ≡ 2
unfolding branch_touches
length-touches own valid rest = refl

-- ---- the columns of a record, read back

module _ (r1 r2 t : ℕ) (b c : Limbs ℕ) (xs : List ℕ) (g h : Gap ℕ) (n : ℕ) (long : length xs ≡ n) where
  abbrev words : List ℕ
  words = r1 ∷ r2 ∷ t ∷ (list_of b ++ list_of c)

  abbrev times : List ℕ
  times = gap_cells g ++ gap_cells h

  abbrev row : List ℕ
  row = words ++ (xs ++ times)

  length-words : length words ≡ 11
  unfolding list_of
  length-words = refl

  word_columns : (left_of field row ≡ b) × (right_of field row ≡ c)
  unfolding list_of
  word_columns = (refl, refl)

  own_back : cells (cell field row) 11 n ≡ xs
  own_back = cells_back words xs times 11 n length-words long

  time_at : (m k : ℕ) → m ≡ 11 + (n + k) → slice_index row m ≡ slice_index times k
  time_at m k e = ap (slice_index row) e ∙ behind words (xs ++ times) 11 (n + k) length-words ∙ behind xs times n k long

  touches_back : (valid : ℕ) → branch_touches field n valid row ≡ register_touch field valid 0 r1 b b g ∷ register_touch field valid 1 r2 c c h ∷ []
  unfolding branch_touches list_of
  touches_back valid = rw (
    time_at (11 + n) 0 (omega arith),
    time_at (11 + n + 1) 1 (omega arith),
    time_at (11 + n + 2) 2 (omega arith),
    time_at (14 + n) 3 (omega arith),
    time_at (14 + n + 1) 4 (omega arith),
    time_at (14 + n + 2) 5 (omega arith),
  ) refl

  row_long : length row ≡ 17 + n
  row_long = omega (arith, length-append words (xs ++ times), length-append xs times, length-words, long)

  row_below : r1 < 32 → r2 < 32 → t < 2 ^ 29 → IsBytes (list_of b) → IsBytes (list_of c) → AllBelow xs → AllBelow (gap_cells g) → AllBelow (gap_cells h) → AllBelow row
  row_below p q r pb pc px pg ph = (
    omega (arith, p),
    (
      omega (arith, q),
      (
        omega (arith, r),
        all_append (λ x. x < 2013265921) (list_of b ++ list_of c) (xs ++ times) (all_append (λ x. x < 2013265921) (list_of b) (list_of c) (bytes_below (list_of b) pb) (bytes_below (list_of c) pc))
            (all_append (λ x. x < 2013265921) xs times px (all_append (λ x. x < 2013265921) (gap_cells g) (gap_cells h) pg ph)),
      ),
    ),
  )

numbers_are : (i : VmInstr) (rest : List ℕ) → InRange i → is_branch i.op ≡ true → cell field rest 0 ≡ i.rs1 → cell field rest 1 ≡ i.rs2 → cell field rest 2 ≡ i.target → i.pc ∷ i.op ∷ branch_numbers field rest ≡ numbers_of i
unfolding branch_numbers numbers_of
numbers_are i rest range h p q r = let n = range.branch h in rw (p, q, r, n.0, n.1, n.2, n.3) refl

module _ (condition : Condition) (laws : ConditionLaws condition) where
  other : (e : Event) → IsLookup e → IsOther true e
  other e l = record { off = l.low; lookup = λ h. l.side; private = λ h. absurd (omega (arith, l.high)) }

  zero_operands : operands_of field condition.own (no_columns (branch_form condition)) ≡ no_operands condition
  zero_operands = let n = 17 + condition.own in rw (zero_word n 3, zero_word n 7, cells_of_zeros n 11 condition.own) refl

  bounds : FormBounds (branch_form condition)
  bounds = record {
    some = laws.some;
    few_flags = laws.few_flags;
    opcodes_below = each (λ op. is_branch op ≡ true) (λ op. op < 2013265921) (λ op h. (apart op h).low) condition.opcodes laws.branches;
    slots_some = lit≤ tt;
    slots_few = lit≤ tt;
    slots = each (λ op. is_branch op ≡ true) (λ op. slots_of op ≡ 2) (λ op h. (apart op h).two) condition.opcodes laws.branches;
    narrow = omega (arith, laws.narrow);
    few = λ c. omega (arith, laws.few_lookups (operands_of field condition.own c), length-touches condition.own (valid_of field c) c.rest);
    others = λ c. each IsLookup (IsOther true) other _ (laws.lookups (operands_of field condition.own c));
    zeros = rw zero_operands laws.zeros;
    zero_touches = times_zero condition.own (valid_of field (no_columns (branch_form condition))) (replicate (17 + condition.own) 0) (sum_none (replicate (length condition.opcodes) 0) (zeros_hold (length condition.opcodes)));
    silent_touches = λ c none. touches_quiet condition.own (valid_of field c) c.rest (sum_none c.flags none);
    silent_others = λ c none. laws.silent (operands_of field condition.own c) none;
  }

  -- what a record fills
  fills : (hi : ℕ) (done : StepRecord) → hi ≤ 13 → Fillable (16 + hi) done → owns_of (branch_form condition) done.instr.op ≡ true → TellsDone (branch_form condition) hi done
  fills hi done top f own =
      let i = done.instr in
      let range = f.in_range in
      let place = is_place condition.opcodes i.op own in
      let k = place_filled condition done in
      let branch : is_branch i.op ≡ true = of_owned (λ op. is_branch op ≡ true) condition.opcodes i.op laws.branches own in
      let s = branch_shape (16 + hi) done f branch in
      let first : access_at done.accesses 0 ≡ s.a = ap (λ (xs : List TimedAccess). access_at xs 0) s.are in
      let second : access_at done.accesses 1 ≡ s.b = ap (λ (xs : List TimedAccess). access_at xs 1) s.are in
      let t = i.target % modulus in
      let target : t ≡ i.target = omega (arith, range.target) in
      let b = left_filled done in
      let c = right_filled done in
      let xs = own_filled condition done in
      let g = gap_of (access_at done.accesses 0) in
      let h = gap_of (access_at done.accesses 1) in
      let words = subst (AllByRecursion (λ (x : TimedAccess). IsWord x.access.old)) s.are f.words in
      let before = subst (AllByRecursion (λ (x : TimedAccess). x.before < x.time)) s.are f.earlier in
      let ends : done.time + 2 ≤ 2 ^ (16 + hi) = omega (arith, f.ends, (apart i.op branch).two) in
      let p = filled_access hi done.time 0 i.rs1 1 s.a (limbs_from s.a.access.old) s.a.access.old s.first (list_of-from s.a.access.old words.0.four) top (omega (arith, ends)) range.rs1 refl words.0 before.0 in
      let q = filled_access hi done.time 1 i.rs2 1 s.b (limbs_from s.b.access.old) s.b.access.old s.second (list_of-from s.b.access.old words.1.0.four) top (omega (arith, ends)) range.rs2 refl words.1.0 before.1.0 in
      let left : IsBytes (list_of b) = rw first p.old in
      let right : IsBytes (list_of c) = rw second q.old in
      let filled = laws.complete k b c place.below left right in
      let rest = (branch_form condition).filled done in
      let cols = word_columns i.rs1 i.rs2 t b c xs g h condition.own filled.long in
      let o = operands (one_hot (length condition.opcodes) k) b c xs in
      let same : operands_of field condition.own (filled_columns (branch_form condition) done) ≡ o = rw (cols.0, cols.1, own_back i.rs1 i.rs2 t b c xs g h condition.own filled.long) refl in
      let taken : condition.parts.taken o ≡ taken_at i.op o =
      laws.sound k o (record { below = place.below; flags = refl; own_below = filled.below; left = left; right = right }) filled.good.zero filled.good.good ∙ ap (λ (x : ℕ). taken_at x o) place.is in
      let valid : sum_from field 0 (one_hot (length condition.opcodes) k) ≡ 1 = sum_one (length condition.opcodes) k place.below in
      let olds : (branch_meaning i (list_of b) (list_of c)).next ≡ done.next = rw (first, second, p.old_is, q.old_is) (sym s.next_is) in
      record {
        below = place.below;
        opcode = place.is;
        rest_long = row_long i.rs1 i.rs2 t b c xs g h condition.own filled.long;
        rest_below = row_below i.rs1 i.rs2 t b c xs g h condition.own filled.long range.rs1 range.rs2 (omega (arith, target, range.target)) left right filled.below (rw first p.gap) (rw second q.gap);
        holds = record { zero = rw same filled.good.zero; good = rw same filled.good.good };
        others_small = rw same filled.good.small;
        next = rw (same, target) (leads_to (is_taken i.op (word_of_limbs (list_of b)) (word_of_limbs (list_of c))) i.pc i.target (condition.parts.taken o) taken range.low range.target ∙ olds);
        numbers = numbers_are i rest range branch refl refl target;
        sources = Some s.a ∷ Some s.b ∷ [];
        made_by = rw (touches_back i.rs1 i.rs2 t b c xs g h condition.own filled.long (valid_of field (filled_columns (branch_form condition) done)), valid, first, second) (p.made, (q.made, tt));
        accesses = sym s.are;
      }

  pub condition_form : FormLaws (branch_form condition)
  condition_form = record {
    bounds = bounds;
    tells = λ k c at holds i. branch_tells condition laws k c at holds i;
    means = λ alone k c at holds i old. branch_means condition laws k c at holds i old;
    fills = fills;
  }

pub a_condition_is_a_form : AConditionIsAForm
a_condition_is_a_form = condition_form
