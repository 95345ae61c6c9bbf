-- The table of stores is one of the memory form with its laws.
use Rattle.std.proofs.Common.{◌≡◌, ℕ, ◌+◌, ◌-◌, ◌%◌, ◌^◌, ◌<◌, ◌≤◌, true, false, List, [], ◌∷◌, ◌++◌, length, map, replicate, Some, refl, sym, ap, subst, ◌∙◌, arith, lit<, lit≤}
use Rattle.std.specs.List.{AllByRecursion}
use Rattle.std.proofs.lemmas.Bool.Decides.{nat_tests}
use Rattle.vm_field.specs.Field.{modulus}
use Rattle.vm_field.specs.Limbs.{list_of, limbs_from}
use Rattle.vm_field.proofs.LimbLemmas.{list_of-from}
use Rattle.vm_word.specs.Word.{word_of_limbs}
use Rattle.vm_word.specs.Arithmetic.{word_sum}
use Rattle.vm_isa.specs.declared.access.TimedAccess.{TimedAccess}
use Rattle.vm_isa.specs.declared.instr.VmInstr.{VmInstr}
use Rattle.vm_isa.specs.declared.record.StepRecord.{StepRecord}
use Rattle.vm_isa.specs.Instr.{InRange, numbers_of}
use Rattle.vm_isa.specs.Means.{Fillable, address, block_address, in_block, bars_first, bars_second, means_of, new_at, next_of, place, places_by, places_of, register, word_at}
use Rattle.vm_isa.specs.Opcodes.{is_load, is_store}
use Rattle.vm_isa.specs.Results.{width_of, with_low}
use Rattle.vm_isa.specs.Words.{IsBytes}
use Rattle.air_core.specs.Flags.{one_hot}
use Rattle.air_core.specs.ListLemmas.{all_append, below_at}
use Rattle.air_core.specs.Ring.{field}
use Rattle.air_core.specs.Sheet.{AllZero, AllBelow}
use Rattle.air_core.specs.lemmas.OneHot.{of_owned, or_true}
use Rattle.gadget_time.specs.Access.{access_at}
use Rattle.gadget_time.specs.Told.{touch_constraint, time_constraint, MadeByAll}
use Rattle.gadget_time.specs.Form.{owns_of}
use Rattle.gadget_time.specs.FormLaws.{NoHints}
use Rattle.gadget_time.specs.lemmas.Access.{bytes_of, pointer}
use Rattle.gadget_time.specs.lemmas.Meant.{olds_of, as_many}
use Rattle.adapter_mem.specs.declared.memory.MemoryColumns.{MemoryColumns}
use Rattle.adapter_mem.specs.Forms.{form_at}
use Rattle.adapter_mem.specs.Memory.{memory_form, memory_numbers, address_filled, place_filled, memory_filled, memory_cells, write_touches}
use Rattle.adapter_mem.specs.MemoryLaws.{IsForm, IsMemory, MemoryAt, MemoryTells, MemoryPlaced, MemoryFills, MemoryLaws, flags_filled, block_filled}
use Rattle.adapter_mem.proofs.AddressLemmas.{Apart, apart, fits, filled_is}
use Rattle.adapter_mem.specs.SelectLaws.{AreBytes}
use Rattle.adapter_mem.proofs.FormLemmas.{at_form, placed_by, each_shift, has, good_forms, are_good_forms, is_good_form}
use Rattle.adapter_mem.proofs.SelectLemmas.{stores_are_laid}
use Rattle.adapter_mem.proofs.WriteSteps.{write_meaning, write_means, three, three_words, three_gaps, write_filled, cells_below}
use Rattle.chip_store.specs.Store.{store_forms, store_new, store_table, store_filled}

good : are_good_forms store_forms ≡ true
unfolding are_good_forms is_good_form width_of
good = refl

stores_are : AllByRecursion IsForm store_forms
stores_are = good_forms store_forms good

new_is : (k : ℕ) (flags : List ℕ) (m : MemoryColumns ℕ) → k < length store_forms → flags ≡ one_hot (length store_forms) k → IsBytes (list_of m.middle) → IsBytes (list_of m.last)
    → AreBytes (store_new field flags m) (with_low (list_of m.last) (form_at store_forms k).shift (form_at store_forms k).width (list_of m.middle))
new_is k flags m below hot word block = stores_are_laid store_forms k flags (record { are = stores_are; below = below; hot = hot }) m.last block m.middle word

apart_store : (op : ℕ) → is_store op ≡ true → Apart op
apart_store op h = apart op (or_true (is_load op) (is_store op) h)

no_load : (op : ℕ) → is_store op ≡ true → is_load op ≡ false
no_load op h = grind (arith, nat_tests)

is_owned : (op : ℕ) → owns_of (memory_form store_table) op ≡ true → is_store op ≡ true
is_owned op h = of_owned (λ k. is_store k ≡ true) (16 ∷ 16 ∷ 16 ∷ 16 ∷ 17 ∷ 17 ∷ 18 ∷ []) op (refl, (refl, (refl, (refl, (refl, (refl, (refl, tt))))))) h

-- ---- the meaning

places : (i : VmInstr) (b : List ℕ) (more : List (List ℕ)) → is_store i.op ≡ true → places_of i (b ∷ more) ≡ register 0 i.rs1 ∷ register 1 i.rs2 ∷ place 2 2 (block_address i (word_of_limbs b)) ∷ []
unfolding places_by word_at
places i b more h = let n = apart_store i.op h in rw (n.register, no_load i.op h, h) refl

three_places : (i : VmInstr) (olds : List (List ℕ)) → is_store i.op ≡ true → length (places_of i olds) ≡ 3
unfolding places_by
three_places i olds h = let n = apart_store i.op h in rw (n.register, no_load i.op h, h) refl

is_memory : (i : VmInstr) → is_store i.op ≡ true → IsMemory i
unfolding bars_first bars_second
is_memory i h =
    let n = apart_store i.op h in
    record { meant = n.meant; bars = λ b. rw (no_load i.op h, h) refl; second = λ c. rw n.sha refl; accesses = λ olds. omega (arith, three_places i olds h) }

kept : (i : VmInstr) (olds : List (List ℕ)) (given o : List ℕ) → is_store i.op ≡ true → (new_at i olds given 0 o ≡ o) × (new_at i olds given 1 o ≡ o)
unfolding new_at
kept i olds given o h =
    let n = apart_store i.op h in
    (rw (n.register, no_load i.op h, h, n.jal, n.lui, n.jalr, n.auipc, n.hint, n.reveal, n.sha) refl, rw (n.register, no_load i.op h, h, n.jal, n.lui, n.jalr, n.auipc, n.hint, n.reveal, n.sha) refl)

written : (i : VmInstr) (b c x given o : List ℕ) → is_store i.op ≡ true → new_at i (b ∷ c ∷ x ∷ []) given 2 o ≡ with_low o (in_block i (word_of_limbs b)) (width_of i.op) c
unfolding new_at word_at
written i b c x given o h = let n = apart_store i.op h in rw (n.register, no_load i.op h, h) refl

goes_on : (i : VmInstr) (olds : List (List ℕ)) → is_store i.op ≡ true → next_of i olds ≡ word_sum i.pc 4
unfolding next_of
goes_on i olds h = let n = apart_store i.op h in rw (n.branch, n.jal, n.jalr) refl

store_means : (i : VmInstr) (b c x given : List ℕ) → is_store i.op ≡ true → address i (word_of_limbs b) < 2 ^ 29 → address i (word_of_limbs b) % width_of i.op ≡ 0
    → means_of i (b ∷ c ∷ x ∷ []) given ≡ Some (write_meaning i 2 (block_address i (word_of_limbs b)) i.rs1 i.rs2 b c x (with_low x (in_block i (word_of_limbs b)) (width_of i.op) c))
store_means i b c x given h low aligned =
    let olds : List (List ℕ) = b ∷ c ∷ x ∷ [] in
    write_means i 2 (block_address i (word_of_limbs b)) i.rs1 i.rs2 b c x (with_low x (in_block i (word_of_limbs b)) (width_of i.op) c) given (fits i b (c ∷ x ∷ []) (is_memory i h) low aligned) (places i b (c ∷ x ∷ []) h)
    (kept i olds given b h).0 (kept i olds given c h).1 (written i b c x given x h) (goes_on i olds h)

-- ---- a valid row

tells : (k block : ℕ) (flags : List ℕ) (m : MemoryColumns ℕ) (i : VmInstr) → MemoryAt store_table k block flags m i → MemoryTells store_table block flags m i
tells k block flags m i a = record {
  counts = (lit≤ tt, (lit≤ tt, (lit≤ tt, tt)));
  slots = (lit< tt, (lit< tt, (lit< tt, tt)));
  rising = (lit≤ tt, lit< tt, (lit≤ tt, lit< tt, (lit≤ tt, lit< tt, tt)));
  new_bytes = λ b. (b, λ c. (c, λ x. ((new_is k flags m a.below a.flags_are c x).bytes, tt)));
  means = λ old.
      let h = is_owned i.op a.owned in
      let at = a.address_is old.0 in
      let form = at_form IsForm store_forms k a.below stores_are in
      let width : width_of i.op ≡ (form_at store_forms k).width = ap width_of a.op ∙ form.width_is in
      let new : list_of (store_new field flags m) ≡ with_low (list_of m.last) (in_block i (word_of_limbs (list_of m.base))) (width_of i.op) (list_of m.middle)
      = (new_is k flags m a.below a.flags_are old.1.0 old.1.1.0).are ∙ ap (λ (n : ℕ). with_low (list_of m.last) n (form_at store_forms k).width (list_of m.middle)) (sym at.shift)
      ∙ ap (λ (n : ℕ). with_low (list_of m.last) (in_block i (word_of_limbs (list_of m.base))) n (list_of m.middle)) (sym width) in
      let e0 = pointer m.rs1 i.rs1 a.rs1 a.in_range.rs1 in
      let e1 = pointer m.rs2 i.rs2 a.rs2 a.in_range.rs2 in
      ([], store_means i (list_of m.base) (list_of m.middle) (list_of m.last) [] h at.below at.aligned ∙ rw (e0, e1, at.block_is, new) refl);
}

-- ---- a record

numbers : (done : StepRecord) → InRange done.instr → is_store done.instr.op ≡ true → done.instr.pc ∷ done.instr.op ∷ memory_numbers field (store_filled done) ≡ numbers_of done.instr
unfolding memory_numbers numbers_of limbs_from
numbers done range h = let n = range.store h in rw (n.0, n.1, n.2, n.3) refl

row_below : (rs1 rs2 : ℕ) (xs ys : List ℕ) → rs1 < 32 → rs2 < 32 → AllBelow xs → AllBelow ys → AllBelow (rs1 ∷ rs2 ∷ (xs ++ ys))
row_below rs1 rs2 xs ys d s p q = (omega (arith, d), (omega (arith, s), all_append (λ x. x < modulus) xs ys p q))

fills : (hi : ℕ) (done : StepRecord) → hi ≤ 13 → Fillable (16 + hi) done → MemoryPlaced store_table done → MemoryFills store_table hi done
fills hi done top f p =
    let i = done.instr in
    let h : is_store i.op ≡ true = is_owned i.op p.owned in
    let range = f.in_range in
    let m = store_filled done in
    let flags = flags_filled store_table done in
    let s = three done.accesses (as_many i done.accesses f.given f.meaning f.means ∙ three_places i (olds_of done.accesses) h) in
    let words = three_words (16 + hi) done f s in
    let first : access_at done.accesses 0 ≡ s.a = ap (λ (xs : List TimedAccess). access_at xs 0) s.are in
    let second : access_at done.accesses 1 ≡ s.b = ap (λ (xs : List TimedAccess). access_at xs 1) s.are in
    let third : access_at done.accesses 2 ≡ s.c = ap (λ (xs : List TimedAccess). access_at xs 2) s.are in
    let here : address_filled done ≡ address i (word_of_limbs s.a.access.old) = filled_is done ∙ ap (λ (x : TimedAccess). address i (word_of_limbs x.access.old)) first in
    let block : block_filled done ≡ block_address i (word_of_limbs s.a.access.old) = ap (λ (n : ℕ). n - n % 4) here in
    let ends : done.time + 3 ≤ 2 ^ (16 + hi) = subst (λ (n : ℕ). done.time + n ≤ 2 ^ (16 + hi)) (apart_store i.op h).three f.ends in
    let middle = bytes_of (access_at done.accesses 1).access.old words.second in
    let last = bytes_of (access_at done.accesses 2).access.old words.third in
    let word : list_of m.middle ≡ s.b.access.old = list_of-from (access_at done.accesses 1).access.old words.second.four ∙ ap (λ (x : TimedAccess). x.access.old) second in
    let old : list_of m.last ≡ s.c.access.old = list_of-from (access_at done.accesses 2).access.old words.third.four ∙ ap (λ (x : TimedAccess). x.access.old) third in
    let k = place_filled store_forms done in
    let form = at_form IsForm store_forms k p.place.below stores_are in
    let shift : (form_at store_forms k).shift ≡ in_block i (word_of_limbs s.a.access.old) = p.place.shift_is ∙ ap (λ (n : ℕ). n % 4) here in
    let width : (form_at store_forms k).width ≡ width_of i.op = sym form.width_is ∙ ap width_of p.place.op_is in
    let new : list_of (store_new field flags m) ≡ with_low s.c.access.old (in_block i (word_of_limbs s.a.access.old)) (width_of i.op) s.b.access.old
    = (new_is k flags m p.place.below refl middle last).are ∙ rw (shift, width, word, old) refl in
    let means = store_means i s.a.access.old s.b.access.old s.c.access.old f.given h (omega (arith, here, p.below)) (subst (λ (n : ℕ). n % width_of i.op ≡ 0) here p.aligned) in
    let w = write_filled hi done s top f ends 2 (block_address i (word_of_limbs s.a.access.old)) i.rs1 i.rs2 (store_new field flags m) _ range.rs1 range.rs2 new means in
    let cells = cells_below m (bytes_of i.imm range.imm) p.base middle last (omega arith) (omega (arith, p.below)) in
    record {
      below = row_below i.rs1 i.rs2 (memory_cells m) (three_gaps done) range.rs1 range.rs2 cells w.gaps;
      numbers = numbers done range h;
      next = w.next;
      zero = tt;
      small = tt;
      good = tt;
      sources = w.sources;
      made_by = subst (λ (n : ℕ). MadeByAll hi done.time (write_touches field 2 1 n i.rs1 i.rs2 (memory_filled done) (store_new field flags m)) w.sources) (sym block) w.made_by;
      accesses = w.are;
    }

-- ---- the laws

zero_touches : (block : ℕ) (flags : List ℕ) → AllZero (map (touch_constraint field 0) (store_table.parts.touches 0 block flags (store_table.parts.read (replicate 29 0))))
unfolding touch_constraint time_constraint
zero_touches block flags = (refl, (refl, (refl, tt)))

long : (m : MemoryColumns ℕ) → length (store_table.cells m) ≡ 29
unfolding list_of
long m = refl

back : (done : StepRecord) → store_table.parts.read (store_table.cells (store_filled done)) ≡ store_filled done
unfolding list_of
back done = refl

covers : AllByRecursion (λ op. each_shift store_forms op 4 ≡ true) (16 ∷ 16 ∷ 16 ∷ 16 ∷ 17 ∷ 17 ∷ 18 ∷ [])
unfolding each_shift has width_of
covers = (refl, (refl, (refl, (refl, (refl, (refl, (refl, tt)))))))

pub store_laws : MemoryLaws store_table
store_laws = record {
  some = lit≤ tt;
  few_flags = lit≤ tt;
  slots_some = lit≤ tt;
  slots_few = lit≤ tt;
  narrow = lit≤ tt;
  opcodes_below = (lit< tt, (lit< tt, (lit< tt, (lit< tt, (lit< tt, (lit< tt, (lit< tt, tt)))))));
  slots = (refl, (refl, (refl, (refl, (refl, (refl, (refl, tt)))))));
  forms = stores_are;
  memory = λ i own. is_memory i (is_owned i.op own);
  few = λ valid block flags m. lit≤ tt;
  others = λ valid flags m. tt;
  silent_touches = λ valid block flags m v. (v, (v, (v, tt)));
  silent_others = λ valid flags m v none. tt;
  read_zeros = refl;
  zeros = tt;
  zero_touches = zero_touches;
  below = λ rest h. record { low = below_at rest 18 h; high = below_at rest 19 h; sign = lit< tt };
  long = long;
  back = back;
  address = λ done. record { base = refl; imm = refl; low = refl; high = refl };
  place = λ op shift own four aligned. placed_by store_forms op shift (of_owned (λ k. each_shift store_forms k 4 ≡ true) (16 ∷ 16 ∷ 16 ∷ 16 ∷ 17 ∷ 17 ∷ 18 ∷ []) op covers own) four aligned;
  tells = tells;
  fills = fills;
}

pub store_no_hints : NoHints (memory_form store_table)
store_no_hints = ((refl, refl), ((refl, refl), ((refl, refl), ((refl, refl), ((refl, refl), ((refl, refl), ((refl, refl), tt)))))))
