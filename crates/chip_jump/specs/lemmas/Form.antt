-- A core with its laws is a form with its laws.
use Rattle.std.proofs.Common.{◌≡◌, ◌≢◌, ℕ, ◌+◌, ◌*◌, ◌%◌, ◌^◌, ◌<◌, ◌≤◌, Bool, true, false, nat_eq, List, [], ◌∷◌, ◌++◌, Option, Some, None, length, map, replicate, slice_index, refl, sym, ap, subst, ◌∙◌, arith, lit<, lit≤}
use Rattle.std.specs.Prelude.{if◌then◌else◌}
use Rattle.std.specs.List.{AllByRecursion}
use Rattle.vm_field.specs.Field.{modulus, field_mul}
use Rattle.vm_field.specs.declared.limbs.Limbs.{Limbs}
use Rattle.vm_field.specs.Limbs.{list_of, limbs_from}
use Rattle.vm_field.proofs.Constraints.{gate_off}
use Rattle.vm_field.proofs.LimbLemmas.{list_of-from}
use Rattle.vm_word.specs.Arithmetic.{word_sum}
use Rattle.vm_word.specs.Word.{word_of_limbs}
use Rattle.vm_isa.specs.declared.access.TimedAccess.{TimedAccess}
use Rattle.vm_isa.specs.declared.instr.VmInstr.{VmInstr}
use Rattle.vm_isa.specs.declared.record.StepRecord.{StepRecord}
use Rattle.vm_isa.specs.Instr.{InRange, numbers_of, bit_of}
use Rattle.vm_isa.specs.Means.{Fillable, jalr_target, means_of, next_of, placed, placed_at, is_refused, register}
use Rattle.vm_isa.specs.Opcodes.{JAL, LUI, JALR, AUIPC, HINT, HINT_NEXT}
use Rattle.vm_isa.specs.Slots.{slots_of}
use Rattle.vm_isa.specs.Words.{IsBytes, IsWord}
use Rattle.vm_isa.proofs.InstrLaws.{four}
use Rattle.vm_isa.proofs.NextLaws.{meant}
use Rattle.vm_isa.proofs.RegisterForm.{reads, writes}
use Rattle.air_core.specs.declared.bus.TheConstants.{RANGE}
use Rattle.air_core.specs.declared.event.Event.{Event}
use Rattle.air_core.specs.declared.event.Side.TheVariants.{Send}
use Rattle.air_core.proofs.LookupLemmas.{range_good, good_range}
use Rattle.air_core.specs.Flags.{opcode_place, sum_from, one_hot}
use Rattle.air_core.specs.FlagLaws.{sum_none}
use Rattle.air_core.specs.ListLemmas.{all_append, all_weaker, below_at}
use Rattle.air_core.specs.Lookups.{GoodEvent, IsRangeRow}
use Rattle.air_core.specs.Ring.{field}
use Rattle.air_core.specs.Sheet.{AllZero, AllBelow}
use Rattle.air_core.specs.Step.{Touched, Rising, NewBytes, IsMeaning}
use Rattle.air_core.specs.lemmas.OneHot.{is_place, of_owned, at_place, sum_one, zeros_hold}
use Rattle.gadget_limbs.proofs.LimbsLaws.{bytes_below}
use Rattle.gadget_time.specs.Access.{access_at, gap_cells, gap_of}
use Rattle.gadget_time.specs.Told.{touched_of, touch_constraint, time_constraint, gap_filled, MadeByAll, made}
use Rattle.gadget_time.specs.Laws.{CountsSmall}
use Rattle.gadget_time.specs.Form.{Columns, valid_of, owns_of}
use Rattle.gadget_time.specs.FormLaws.{FormLaws, FormBounds, IsOther, IsAt, FormHolds, InstructionAt, Tells, TellsDone, NoHints}
use Rattle.adapter_regs.specs.lemmas.Access.{FilledAccess, filled_access, pointer, bytes_of}
use Rattle.adapter_regs.specs.lemmas.Meant.{olds_of, as_many, recorded}
use Rattle.chip_jump.specs.declared.columns.LinkColumns.{LinkColumns}
use Rattle.chip_jump.specs.declared.columns.Ranged.{Ranged}
use Rattle.chip_jump.specs.Link.{Link, link_form, link_numbers, link_touches, link_filled, filled_by, ranged_lines, all_cells, cells_of, columns_of, four_of, slots_by, write_at, written}
use Rattle.chip_jump.specs.LinkLaws.{LinkLaws, LinkTells, InBits, ALinkIsAForm, is_link}
use Rattle.chip_jump.specs.lemmas.Means.{pick, link_meaning, says, link_means, target_low, written_word}

-- ---- lookups

in_bits : (v n : ℕ) → IsRangeRow (v ∷ n ∷ []) → (n ≤ 16) × (v < 2 ^ n)
in_bits v n r = let same : n ≡ r.n = let e = r.is in cc in (omega (arith, same, r.width), range_good v n r)

lines_good : (count : ℕ) (xs : List (Ranged ℕ)) → count ≢ 0 → AllByRecursion (λ e. e.count ≢ 0 → GoodEvent e) (ranged_lines field count xs) → AllByRecursion InBits xs
lines_good count [] some h = tt
lines_good count (x ∷ xs) some h = (in_bits x.number x.bits ((h.0 some).range refl), lines_good count xs some h.1)

good_lines : (count : ℕ) (xs : List (Ranged ℕ)) → AllByRecursion InBits xs → AllByRecursion (λ e. e.count ≢ 0 → GoodEvent e) (ranged_lines field count xs)
good_lines count [] h = tt
good_lines count (x ∷ xs) h = (λ some. good_range _ refl (record { v = x.number; n = x.bits; width = h.0.0; below = h.0.1; is = refl }), good_lines count xs h.1)

each_line : (P : Event → Type 0) (count : ℕ) (xs : List (Ranged ℕ)) → ((n bits : ℕ) → P (field.event RANGE Send count (n ∷ bits ∷ []))) → AllByRecursion P (ranged_lines field count xs)
each_line P count [] f = tt
each_line P count (x ∷ xs) f = (f x.number x.bits, each_line P count xs f)

length_map : {X Y : Type 0} (f : X → Y) (xs : List X) → length (map f xs) ≡ length xs
length_map f [] = refl
length_map f (x ∷ xs) = omega (arith, length_map f xs)

-- ---- what a row tells, by whether a register is read (r) and one is written (w)

record IsInstr (at op : ℕ) (m : LinkColumns ℕ) (i : VmInstr) : Type 0 where
  pc : at ≡ i.pc
  op_is : op ≡ i.op
  rd : m.rd ≡ i.rd
  rs1 : m.rs1 ≡ i.rs1
  write : m.write ≡ bit_of i.write
  target : m.target ≡ i.target
  imm : list_of m.imm ≡ i.imm

is_instr : (at op : ℕ) (m : LinkColumns ℕ) (i : VmInstr) → length i.imm ≡ 4 → at ∷ op ∷ link_numbers field m ≡ numbers_of i → IsInstr at op m i
unfolding link_numbers numbers_of list_of
is_instr at op m i len e = record {
  pc = cc;
  op_is = cc;
  rd = cc;
  rs1 = cc;
  write = cc;
  target = cc;
  imm = let is : m.imm.x0 ∷ m.imm.x1 ∷ m.imm.x2 ∷ m.imm.x3 ∷ [] ≡ slice_index i.imm 0 ∷ slice_index i.imm 1 ∷ slice_index i.imm 2 ∷ slice_index i.imm 3 ∷ [] = cc in is ∙ four i.imm len;
}

abbrev read_of : LinkColumns ℕ → Touched
read_of m = record { slot = 0; space = 1; pointer = field_mul 4 m.rs1; old = list_of m.word; new = list_of m.word; before = m.read.before }

abbrev write_of : ℕ → LinkColumns ℕ → Touched
write_of slot m = record { slot = slot; space = 1; pointer = field_mul 4 m.rd; old = list_of m.old; new = list_of m.new; before = m.wrote.before }

abbrev touched_by : Bool → Bool → LinkColumns ℕ → List Touched
touched_by r w m = pick r w (read_of m) (write_of (write_at r) m)

record Touches (r w : Bool) (valid : ℕ) (m : LinkColumns ℕ) : Type 0 where
  counts : CountsSmall (link_touches field r valid m)
  slots : AllByRecursion (λ a. a.slot < slots_by r) (link_touches field r valid m)
  are : touched_of (link_touches field r valid m) ≡ touched_by r w m
  rising : Rising 0 (slots_by r) (touched_by r w m)
  new_bytes : ((r ≡ true → IsBytes (list_of m.word)) → IsBytes (list_of m.new)) → NewBytes (touched_by r w m)

touches : (r w : Bool) (valid : ℕ) (m : LinkColumns ℕ) → valid ≡ 1 → m.write ≡ bit_of w → Touches r w valid m
touches true true valid m v e = record {
  counts = (omega (arith, v), (rw (v, e) (lit≤ tt), tt));
  slots = (lit< tt, (lit< tt, tt));
  are = rw (v, e) refl;
  rising = (lit≤ tt, lit< tt, (lit≤ tt, lit< tt, tt));
  new_bytes = λ f b. (b, λ o. (f (λ yes. b), tt));
}
touches true false valid m v e = record {
  counts = (omega (arith, v), (rw (v, e) (lit≤ tt), tt));
  slots = (lit< tt, (lit< tt, tt));
  are = rw (v, e) refl;
  rising = (lit≤ tt, lit< tt, tt);
  new_bytes = λ f b. (b, tt);
}
touches false true valid m v e = record { counts = (rw (v, e) (lit≤ tt), tt); slots = (lit< tt, tt); are = rw (v, e) refl; rising = (lit≤ tt, lit< tt, tt); new_bytes = λ f o. (f (λ no. absurd (cc)), tt) }
touches false false valid m v e = record { counts = (rw (v, e) (lit≤ tt), tt); slots = (lit< tt, tt); are = rw (v, e) refl; rising = tt; new_bytes = λ f. tt }

old_word : (r w : Bool) (m : LinkColumns ℕ) → AllByRecursion (λ a. IsBytes a.old) (touched_by r w m) → r ≡ true → IsBytes (list_of m.word)
old_word true true m old e = old.0
old_word true false m old e = old.0
old_word false w m old e = absurd (cc)

meaning_is : (r w : Bool) (m : LinkColumns ℕ) (i : VmInstr) (next : ℕ) → field_mul 4 m.rs1 ≡ 4 * i.rs1 → field_mul 4 m.rd ≡ 4 * i.rd → list_of m.new ≡ written i → next ≡ next_of i (list_of m.word ∷ [])
    → means_of i (pick r w (list_of m.word) (list_of m.old)) [] ≡ Some (link_meaning r w i (list_of m.word) (list_of m.old)) → IsMeaning i (touched_by r w m) next
meaning_is true true m i next p q new n e = ([], e ∙ rw (p, q, new, n) refl)
meaning_is true false m i next p q new n e = ([], e ∙ rw (p, n) refl)
meaning_is false true m i next p q new n e = ([], e ∙ rw (q, new, n) refl)
meaning_is false false m i next p q new n e = ([], e ∙ rw n refl)

module _ (l : Link) (laws : LinkLaws l) (k : ℕ) (c : Columns ℕ) (at : IsAt (link_form l) k c) (holds : FormHolds (link_form l) c) (i : InstructionAt (link_form l) k c) where
  abbrev m : LinkColumns ℕ
  m = columns_of field l.layout c.rest

  abbrev hot : List ℕ
  hot = one_hot (length l.opcodes) k

  v : valid_of field c ≡ 1
  v = ap (sum_from field 0) at.flags ∙ sum_one (length l.opcodes) k at.below

  is : IsInstr c.pc (slice_index l.opcodes k) m i.instr
  is = is_instr c.pc (slice_index l.opcodes k) m i.instr i.in_range.imm.four i.are

  owned : is_link l.reads i.instr.op ≡ true
  owned = ap (is_link l.reads) (sym is.op_is) ∙ at_place (λ op. is_link l.reads op ≡ true) l.opcodes k at.below laws.opcodes

  own : (l.reads ≡ true → IsBytes (list_of m.word)) → LinkTells l k m i.instr
  own word = laws.sound k m i.instr (record {
    below = at.below;
    op_is = sym is.op_is;
    in_range = i.in_range;
    target = is.target;
    imm = is.imm;
    word = word;
    low = below_at c.rest _ at.rest_below;
    parity = below_at c.rest _ at.rest_below;
    zero = subst (λ (n : ℕ). AllZero (l.parts.constraints n hot m)) is.pc (subst (λ (fs : List ℕ). AllZero (l.parts.constraints c.pc fs m)) at.flags holds.zero);
    ranges = subst (λ (fs : List ℕ). AllByRecursion InBits (l.parts.ranges fs m)) at.flags (lines_good (valid_of field c) (l.parts.ranges c.flags m) (λ none. absurd (omega (arith, v, none))) holds.good);
  })

  bytes : (l.reads ≡ true → IsBytes (list_of m.word)) → IsBytes (list_of m.new)
  bytes word = subst IsBytes (sym (own word).new) (written_word i.instr i.in_range.imm).bytes

  tells : Tells (link_form l) c
  tells =
      let t = touches l.reads i.instr.write (valid_of field c) m v is.write in
      record { accesses = touched_by l.reads i.instr.write m; counts = t.counts; slots = t.slots; are = t.are; rising = t.rising; new_bytes = t.new_bytes bytes }

  next_is : (l.reads ≡ true → IsBytes (list_of m.word)) → (link_form l).parts.next c ≡ next_of i.instr (list_of m.word ∷ [])
  next_is word = ap (λ (n : ℕ). l.parts.next n c.flags m) is.pc ∙ ap (λ (fs : List ℕ). l.parts.next i.instr.pc fs m) at.flags ∙ (own word).next

  means : AllByRecursion (λ a. IsBytes a.old) tells.accesses → IsMeaning i.instr tells.accesses ((link_form l).parts.next c)
  unfolding tells
  means old =
      let r = l.reads in
      let w = i.instr.write in
      let word = old_word r w m old in
      meaning_is r w m i.instr _ (pointer m.rs1 i.instr.rs1 is.rs1 i.in_range.rs1) (pointer m.rd i.instr.rd is.rd i.in_range.rd) (own word).new (next_is word)
      (link_means r w i.instr (list_of m.word) (list_of m.old) [] i.in_range owned refl (own word).low)

-- ---- bounds

apart : (r : Bool) (op : ℕ) → is_link r op ≡ true → (op < modulus) × (slots_of op ≡ slots_by r) × (nat_eq op HINT ≡ false) × (nat_eq op HINT_NEXT ≡ false)
apart true op h = of_owned (λ k. (k < modulus) × (slots_of k ≡ 2) × (nat_eq k HINT ≡ false) × (nat_eq k HINT_NEXT ≡ false)) (JALR ∷ []) op ((lit< tt, refl, refl, refl), tt) h
apart false op h =
    of_owned (λ k. (k < modulus) × (slots_of k ≡ 1) × (nat_eq k HINT ≡ false) × (nat_eq k HINT_NEXT ≡ false)) (JAL ∷ LUI ∷ AUIPC ∷ []) op ((lit< tt, refl, refl, refl), ((lit< tt, refl, refl, refl), ((lit< tt, refl, refl, refl), tt))) h

pub link_no_hints : (l : Link) → LinkLaws l → NoHints (link_form l)
link_no_hints l laws = all_weaker (λ op. is_link l.reads op ≡ true) (λ op. (nat_eq op HINT ≡ false) × (nat_eq op HINT_NEXT ≡ false)) (λ op h. let a = apart l.reads op h in (a.2, a.3)) l.opcodes laws.opcodes

slots_few : (r : Bool) → (1 ≤ slots_by r) × (slots_by r ≤ 64)
slots_few true = (lit≤ tt, lit≤ tt)
slots_few false = (lit≤ tt, lit≤ tt)

-- without a flag there are none
record Silent (r : Bool) (valid : ℕ) (m : LinkColumns ℕ) : Type 0 where
  few : length (link_touches field r valid m) ≤ 2
  none : valid ≡ 0 → AllByRecursion (λ a. a.count ≡ 0) (link_touches field r valid m)
  zero : valid ≡ 0 → AllZero (map (touch_constraint field 0) (link_touches field r valid m))

silent : (r : Bool) (valid : ℕ) (m : LinkColumns ℕ) → Silent r valid m
unfolding touch_constraint time_constraint
silent true valid m = record { few = lit≤ tt; none = λ v. (v, (gate_off valid m.write v, tt)); zero = λ v. (gate_off valid _ v, (gate_off _ _ (gate_off valid m.write v), tt)) }
silent false valid m = record { few = lit≤ tt; none = λ v. (gate_off valid m.write v, tt); zero = λ v. (gate_off _ _ (gate_off valid m.write v), tt) }

bounds : (l : Link) → LinkLaws l → FormBounds (link_form l)
bounds l laws = record {
  some = laws.some;
  few_flags = laws.few_flags;
  opcodes_below = all_weaker (λ op. is_link l.reads op ≡ true) (λ op. op < modulus) (λ op h. (apart l.reads op h).0) l.opcodes laws.opcodes;
  slots_some = (slots_few l.reads).0;
  slots_few = (slots_few l.reads).1;
  slots = all_weaker (λ op. is_link l.reads op ≡ true) (λ op. slots_of op ≡ slots_by l.reads) (λ op h. (apart l.reads op h).1) l.opcodes laws.opcodes;
  narrow = laws.narrow;
  few = λ c.
      let m = columns_of field l.layout c.rest in
      omega (arith, (silent l.reads (valid_of field c) m).few, laws.few c.flags m, length_map (λ (x : Ranged ℕ). field.event RANGE Send (valid_of field c) (x.number ∷ x.bits ∷ [])) (l.parts.ranges c.flags m));
  others = λ c. each_line (IsOther true) (valid_of field c) (l.parts.ranges c.flags (columns_of field l.layout c.rest)) (λ n bits. record { off = lit≤ tt; lookup = λ h. refl; private = λ h. absurd (omega arith) });
  zeros = laws.zeros;
  zero_touches = (silent l.reads _ (columns_of field l.layout (replicate (length l.layout) 0))).zero (sum_none (replicate (length l.opcodes) 0) (zeros_hold (length l.opcodes)));
  silent_touches = λ c none. (silent l.reads (valid_of field c) (columns_of field l.layout c.rest)).none (sum_none c.flags none);
  silent_others = λ c none. each_line (λ e. e.count ≡ 0) (valid_of field c) (l.parts.ranges c.flags (columns_of field l.layout c.rest)) (λ n bits. sum_none c.flags none);
}

-- ---- what a record fills

none_of : (xs : List TimedAccess) → length (olds_of xs) ≡ 0 → xs ≡ []
none_of [] e = refl
none_of (a ∷ xs) e = absurd (omega arith)

one_of : (xs : List TimedAccess) → length (olds_of xs) ≡ 1 → xs ≡ access_at xs 0 ∷ []
one_of [] e = absurd (omega arith)
one_of (a ∷ []) e = refl
one_of (a ∷ b ∷ xs) e = absurd (omega arith)

two_of : (xs : List TimedAccess) → length (olds_of xs) ≡ 2 → xs ≡ access_at xs 0 ∷ access_at xs 1 ∷ []
two_of [] e = absurd (omega arith)
two_of (a ∷ []) e = absurd (omega arith)
two_of (a ∷ b ∷ []) e = refl
two_of (a ∷ b ∷ d ∷ xs) e = absurd (omega arith)

abbrev accesses_by : Bool → Bool → List TimedAccess → List TimedAccess
accesses_by r w xs = pick r w (access_at xs 0) (access_at xs (write_at r))

by_length : {X : Type 0} (r w : Bool) (x y : X) (xs : List TimedAccess) → length (olds_of xs) ≡ length (pick r w x y)
    → (xs ≡ accesses_by r w xs) × (olds_of (accesses_by r w xs) ≡ pick r w (access_at xs 0).access.old (access_at xs (write_at r)).access.old)
by_length true true x y xs e = (two_of xs e, refl)
by_length true false x y xs e = (one_of xs e, refl)
by_length false true x y xs e = (one_of xs e, refl)
by_length false false x y xs e = (none_of xs e, refl)

low_by : (r w : Bool) (i : VmInstr) (b o : List ℕ) → is_link r i.op ≡ true → is_refused i (pick r w b o) ≡ false → r ≡ true → jalr_target i (word_of_limbs b) < 2 ^ 29
low_by true true i b o own fits e = target_low i b (o ∷ []) (of_owned (λ op. op ≡ JALR) (JALR ∷ []) i.op (refl, tt) own) fits
low_by true false i b o own fits e = target_low i b [] (of_owned (λ op. op ≡ JALR) (JALR ∷ []) i.op (refl, tt) own) fits
low_by false w i b o own fits e = absurd (cc)

-- what a record is
record Done (r w : Bool) (done : StepRecord) : Type 0 where
  are : done.accesses ≡ accesses_by r w done.accesses
  low : r ≡ true → jalr_target done.instr (word_of_limbs (access_at done.accesses 0).access.old) < 2 ^ 29
  placed_are : map placed (accesses_by r w done.accesses) ≡ map (placed_at done.time) (link_meaning r w done.instr (access_at done.accesses 0).access.old (access_at done.accesses (write_at r)).access.old).accesses
  next_is : done.next ≡ next_of done.instr ((access_at done.accesses 0).access.old ∷ [])
  words : AllByRecursion (λ (x : TimedAccess). IsWord x.access.old) (accesses_by r w done.accesses)
  earlier : AllByRecursion (λ (x : TimedAccess). x.before < x.time) (accesses_by r w done.accesses)

is_done : (r w : Bool) (bits : ℕ) (done : StepRecord) → Fillable bits done → is_link r done.instr.op ≡ true → done.instr.write ≡ w → Done r w done
is_done r w bits done f own write =
    let i = done.instr in
    let xs = done.accesses in
    let b = (access_at xs 0).access.old in
    let o = (access_at xs (write_at r)).access.old in
    let s = says r w i (olds_of xs) f.given f.in_range own write in
    let e = by_length r w (register 0 i.rs1) (register (write_at r) i.rd) xs (as_many i xs f.given f.meaning f.means ∙ ap (λ (ps : List _). length ps) s.places) in
    let olds : olds_of xs ≡ pick r w b o = ap olds_of e.0 ∙ e.1 in
    let low = low_by r w i b o own (ap (is_refused i) (sym olds) ∙ (meant i (olds_of xs) f.given f.meaning f.means).fits) in
    let known = recorded i done.time done.next xs f.given f.meaning (link_meaning r w i b o) f.means f.next f.accesses
    (ap (λ (os : List (List ℕ)). means_of i os f.given) olds ∙ link_means r w i b o f.given f.in_range own write low) in
    record {
      are = e.0;
      low = low;
      placed_are = ap (map placed) (sym e.0) ∙ known.are;
      next_is = known.next_is;
      words = subst (AllByRecursion (λ (x : TimedAccess). IsWord x.access.old)) e.0 f.words;
      earlier = subst (AllByRecursion (λ (x : TimedAccess). x.before < x.time)) e.0 f.earlier;
    }

-- no access has columns of zeros
quiet_access : (xs : List TimedAccess) (n : ℕ) → access_at xs n ≡ access_at [] 0 → IsBytes (list_of (limbs_from (access_at xs n).access.old)) × AllBelow (gap_cells (gap_of (access_at xs n)))
unfolding limbs_from list_of gap_filled
quiet_access xs n e = rw e ((lit< tt, (lit< tt, (lit< tt, (lit< tt, tt)))), (lit< tt, (lit< tt, (lit< tt, tt))))

-- the columns of its accesses
record Made (r : Bool) (hi : ℕ) (done : StepRecord) (word : Limbs ℕ) : Type 0 where
  sources : List (Option TimedAccess)
  made_of : MadeByAll hi done.time (link_touches field r 1 (filled_by r word done)) sources
  are : made sources ≡ done.accesses
  first_is : r ≡ true → list_of (limbs_from (access_at done.accesses 0).access.old) ≡ (access_at done.accesses 0).access.old
  first : r ≡ true → IsBytes (list_of (limbs_from (access_at done.accesses 0).access.old))
  old : IsBytes (list_of (limbs_from (access_at done.accesses (write_at r)).access.old))
  read : AllBelow (gap_cells (filled_by r word done).read)
  wrote : AllBelow (gap_cells (filled_by r word done).wrote)

module _ (hi : ℕ) (done : StepRecord) (word : Limbs ℕ) (top : hi ≤ 13) (range : InRange done.instr) where
  abbrev i : VmInstr
  i = done.instr

  abbrev a : TimedAccess
  a = access_at done.accesses 0

  abbrev o : TimedAccess
  o = access_at done.accesses 1

  read_at : placed a ≡ placed_at done.time (reads 0 i.rs1 a.access.old) → done.time + 0 < 2 ^ (16 + hi) → IsWord a.access.old → a.before < a.time → FilledAccess hi done.time 0 i.rs1 1 a (limbs_from a.access.old)
  read_at e ends w before = filled_access hi done.time 0 i.rs1 1 a (limbs_from a.access.old) a.access.old e (list_of-from a.access.old w.four) top ends range.rs1 refl w before

  wrote_at : (slot : ℕ) (x : TimedAccess) → placed x ≡ placed_at done.time (writes slot i.rd x.access.old (written i)) → done.time + slot < 2 ^ (16 + hi) → i.write ≡ true → IsWord x.access.old → x.before < x.time
      → FilledAccess hi done.time slot i.rd (field_mul 1 (bit_of i.write)) x (limbs_from (written i))
  wrote_at slot x e ends write w before =
      filled_access hi done.time slot i.rd (field_mul 1 (bit_of i.write)) x (limbs_from (written i)) (written i) e (list_of-from (written i) (written_word i range.imm).four) top ends range.rd (rw write refl) w before

  made_by : (r w : Bool) → (r ≡ true → word ≡ limbs_from a.access.old) → done.time + slots_by r ≤ 2 ^ (16 + hi) → i.write ≡ w → Done r w done → Made r hi done word
  made_by true true is ends write d =
      let at : placed a ∷ placed o ∷ [] ≡ placed_at done.time (reads 0 i.rs1 a.access.old) ∷ placed_at done.time (writes 1 i.rd o.access.old (written i)) ∷ [] = d.placed_are in
      let p = read_at (cc) (omega (arith, ends)) d.words.0 d.earlier.0 in
      let q = wrote_at 1 o (cc) (omega (arith, ends)) write d.words.1.0 d.earlier.1.0 in
      record { sources = Some a ∷ Some o ∷ []; made_of = rw (is refl) (p.made, (q.made, tt)); are = sym d.are; first_is = λ e. p.old_is; first = λ e. p.old; old = q.old; read = p.gap; wrote = q.gap }
  made_by true false is ends write d =
      let at : placed a ∷ [] ≡ placed_at done.time (reads 0 i.rs1 a.access.old) ∷ [] = d.placed_are in
      let p = read_at (cc) (omega (arith, ends)) d.words.0 d.earlier.0 in
      let q = quiet_access done.accesses 1 (ap (λ (xs : List TimedAccess). access_at xs 1) d.are) in
      record { sources = Some a ∷ None ∷ []; made_of = rw (is refl, write) (p.made, (refl, tt)); are = sym d.are; first_is = λ e. p.old_is; first = λ e. p.old; old = q.0; read = p.gap; wrote = q.1 }
  made_by false true is ends write d =
      let at : placed a ∷ [] ≡ placed_at done.time (writes 0 i.rd a.access.old (written i)) ∷ [] = d.placed_are in
      let q = wrote_at 0 a (cc) (omega (arith, ends)) write d.words.0 d.earlier.0 in
      record { sources = Some a ∷ []; made_of = (q.made, tt); are = sym d.are; first_is = λ no. absurd (cc); first = λ no. absurd (cc); old = q.old; read = (lit< tt, (lit< tt, (lit< tt, tt))); wrote = q.gap }
  made_by false false is ends write d =
      let q = quiet_access done.accesses 0 (ap (λ (xs : List TimedAccess). access_at xs 0) d.are) in
      record { sources = None ∷ []; made_of = rw write (refl, tt); are = sym d.are; first_is = λ no. absurd (cc); first = λ no. absurd (cc); old = q.0; read = (lit< tt, (lit< tt, (lit< tt, tt))); wrote = q.1 }

word_below : (w : Limbs ℕ) (rest : List ℕ) → IsBytes (list_of w) → AllBelow rest → AllBelow (four_of w ++ rest)
unfolding list_of
word_below w rest h more = all_append (λ x. x < 2013265921) (four_of w) rest (bytes_below (four_of w) h) more

all_below : (m : LinkColumns ℕ) → m.rd < 32 → m.rs1 < 32 → m.write ≤ 1 → m.target < 2 ^ 29 → IsBytes (list_of m.imm) → IsBytes (list_of m.word) → IsBytes (list_of m.new) → IsBytes (list_of m.old)
    → m.low < 65536 → m.high < 65536 → m.parity < 65536 → AllBelow (gap_cells m.read) → AllBelow (gap_cells m.wrote) → AllBelow (all_cells m)
all_below m d s w t imm word new old p q r read wrote =
    let times = gap_cells m.read ++ gap_cells m.wrote in
    let halves = m.low ∷ m.high ∷ m.parity ∷ times in
    let olds = four_of m.old ++ halves in
    let news = four_of m.new ++ olds in
    let words = four_of m.word ++ news in
    let end : AllBelow halves = (omega (arith, p), (omega (arith, q), (omega (arith, r), all_append (λ x. x < 2013265921) (gap_cells m.read) (gap_cells m.wrote) read wrote))) in
    let four = word_below m.imm words imm (word_below m.word news word (word_below m.new olds new (word_below m.old halves old end))) in
    (omega (arith, d), (omega (arith, s), (omega (arith, w), (omega (arith, t), four))))

cells_below : (layout xs : List ℕ) → AllBelow xs → AllBelow (map (slice_index xs) layout)
cells_below [] xs h = tt
cells_below (n ∷ layout) xs h = (below_at xs n h, cells_below layout xs h)

-- the numbers of a program row that these opcodes leave 0
record Named (r : Bool) (i : VmInstr) : Type 0 where
  rs1 : r ≡ false → i.rs1 ≡ 0
  rs2 : i.rs2 ≡ 0
  use_imm : i.use_imm ≡ false

named : (r : Bool) (i : VmInstr) → InRange i → is_link r i.op ≡ true → Named r i
named true i range own = of_owned (λ op. i.op ≡ op → Named true i) (JALR ∷ []) i.op (λ op. let n = range.jalr op in record { rs1 = λ no. absurd (cc); rs2 = n.0; use_imm = n.1 }, tt) own refl
named false i range own =
    of_owned (λ op. i.op ≡ op → Named false i) (JAL ∷ LUI ∷ AUIPC ∷ []) i.op (
      λ op. let n = range.jal op in record { rs1 = λ e. n.0; rs2 = n.1; use_imm = n.2 },
      (λ op. let n = range.upper (rw op refl) in record { rs1 = λ e. n.0; rs2 = n.1; use_imm = n.3 }, (λ op. let n = range.upper (rw op refl) in record { rs1 = λ e. n.0; rs2 = n.1; use_imm = n.3 }, tt)),
    ) own refl

numbers_are : (r : Bool) (word : Limbs ℕ) (done : StepRecord) → done.instr.target % modulus ≡ done.instr.target → Named r done.instr → done.instr.pc ∷ done.instr.op ∷ link_numbers field (filled_by r word done) ≡ numbers_of done.instr
unfolding link_numbers numbers_of limbs_from
numbers_are r word done t n = rw (t, n.rs2, n.use_imm) refl

bit_small : (b : Bool) → bit_of b ≤ 1
bit_small true = lit≤ tt
bit_small false = lit≤ tt

sum_low : (r : Bool) (x y : ℕ) → (if r then word_sum x y else 0) < 2 ^ 32
sum_low true x y = omega arith
sum_low false x y = lit< tt

module _ (l : Link) (laws : LinkLaws l) where
  fills : (hi : ℕ) (done : StepRecord) → hi ≤ 13 → Fillable (16 + hi) done → owns_of (link_form l) done.instr.op ≡ true → TellsDone (link_form l) hi done
  fills hi done top f own =
      let i = done.instr in
      let range = f.in_range in
      let place = is_place l.opcodes i.op own in
      let k = opcode_place l.opcodes i.op in
      let hot = one_hot (length l.opcodes) k in
      let owned : is_link l.reads i.op ≡ true = of_owned (λ op. is_link l.reads op ≡ true) l.opcodes i.op laws.opcodes own in
      let d = is_done l.reads i.write (16 + hi) done f owned refl in
      let ends : done.time + slots_by l.reads ≤ 2 ^ (16 + hi) = subst (λ (n : ℕ). done.time + n ≤ 2 ^ (16 + hi)) (apart l.reads i.op owned).1 f.ends in
      let s = made_by hi done (l.word done) top range l.reads i.write (λ e. laws.word e done) ends refl d in
      let m = link_filled l done in
      let base = (access_at done.accesses 0).access.old in
      let n = named l.reads i range owned in
      let filled = laws.complete k done (record {
        below = place.below;
        op_is = sym place.is;
        in_range = range;
        rs1 = n.rs1;
        word_is = s.first_is;
        word = s.first;
        low = d.low;
      }) in
      let sum = sum_low l.reads (word_of_limbs base) (word_of_limbs i.imm) in
      let target : i.target % modulus ≡ i.target = omega (arith, range.target) in
      let told = laws.sound k m i (record {
        below = place.below;
        op_is = sym place.is;
        in_range = range;
        target = target;
        imm = list_of-from i.imm range.imm.four;
        word = λ e. filled.word;
        low = omega arith;
        parity = omega arith;
        zero = filled.zero;
        ranges = filled.ranges;
      }) in
      let leads = (says l.reads i.write i (list_of m.word ∷ []) f.given range owned refl).next base (λ e. ap list_of (laws.word e done) ∙ s.first_is e) in
      let valid : sum_from field 0 hot ≡ 1 = sum_one (length l.opcodes) k place.below in
      let back : m ≡ columns_of field l.layout (cells_of l.layout m) = sym filled.back in
      record {
        below = place.below;
        opcode = place.is;
        rest_long = length_map (slice_index (all_cells m)) l.layout;
        rest_below = cells_below l.layout (all_cells m)
            (all_below m range.rd range.rs1 (bit_small i.write) (omega (arith, target, range.target)) (bytes_of i.imm range.imm) filled.word (bytes_of (written i) (written_word i range.imm)) s.old (omega arith) (omega (arith, sum)) (omega arith) s.read s.wrote);
        holds = record {
          zero = subst (λ (x : LinkColumns ℕ). AllZero (l.parts.constraints i.pc hot x)) back filled.zero;
          good = subst (λ (x : LinkColumns ℕ). AllByRecursion (λ e. e.count ≢ 0 → GoodEvent e) (ranged_lines field (sum_from field 0 hot) (l.parts.ranges hot x))) back (good_lines (sum_from field 0 hot) (l.parts.ranges hot m) filled.ranges);
        };
        others_small = each_line (λ e. e.count ≤ 1) (sum_from field 0 hot) (l.parts.ranges hot (columns_of field l.layout (cells_of l.layout m))) (λ x bits. omega (arith, valid));
        next = subst (λ (x : LinkColumns ℕ). l.parts.next i.pc hot x ≡ done.next) back (told.next ∙ leads ∙ sym d.next_is);
        numbers = subst (λ (x : LinkColumns ℕ). i.pc ∷ i.op ∷ link_numbers field x ≡ numbers_of i) back (numbers_are l.reads (l.word done) done target n);
        sources = s.sources;
        made_by = subst (λ (x : LinkColumns ℕ). MadeByAll hi done.time (link_touches field l.reads (sum_from field 0 hot) x) s.sources) back (rw valid s.made_of);
        accesses = s.are;
      }

  pub link_form_laws : FormLaws (link_form l)
  link_form_laws = record {
    bounds = bounds l laws;
    tells = λ k c at holds i. tells l laws k c at holds i;
    means = λ alone k c at holds i old. means l laws k c at holds i old;
    fills = fills;
  }

pub a_link_is_a_form : ALinkIsAForm
a_link_is_a_form = link_form_laws
