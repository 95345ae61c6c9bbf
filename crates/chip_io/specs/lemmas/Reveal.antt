-- REVEAL is a table of the memory form with its laws.
use Rattle.std.proofs.Common.{◌≡◌, ℕ, zero, suc, ◌+◌, ◌%◌, ◌^◌, ◌<◌, ◌≤◌, true, List, [], ◌∷◌, ◌++◌, length, map, replicate, Some, refl, sym, ap, subst, ◌∙◌, arith, lit<, lit≤}
use Rattle.vm_field.specs.Field.{modulus}
use Rattle.vm_field.specs.Limbs.{list_of, limbs_from}
use Rattle.vm_field.proofs.LimbLemmas.{list_of-from}
use Rattle.vm_word.specs.Word.{word_of_limbs}
use Rattle.vm_word.specs.Arithmetic.{word_sum}
use Rattle.vm_isa.specs.declared.access.TimedAccess.{TimedAccess}
use Rattle.vm_isa.specs.declared.instr.VmInstr.{VmInstr}
use Rattle.vm_isa.specs.declared.record.StepRecord.{StepRecord}
use Rattle.vm_isa.specs.Instr.{InRange, numbers_of}
use Rattle.vm_isa.specs.Means.{Fillable, address, bars_first, bars_second, means_of, new_at, next_of, place, places_by, places_of, register, word_at}
use Rattle.vm_isa.specs.Opcodes.{REVEAL}
use Rattle.vm_isa.specs.Results.{width_of}
use Rattle.vm_isa.specs.Slots.{slots_of}
use Rattle.air_core.specs.ListLemmas.{all_append, below_at}
use Rattle.air_core.specs.Ring.{field}
use Rattle.air_core.specs.Sheet.{AllZero, AllBelow}
use Rattle.air_core.specs.lemmas.OneHot.{of_owned}
use Rattle.gadget_time.specs.Access.{access_at}
use Rattle.gadget_time.specs.Told.{touch_constraint, time_constraint, MadeByAll}
use Rattle.gadget_time.specs.Form.{owns_of}
use Rattle.gadget_time.specs.FormLaws.{NoHints}
use Rattle.gadget_time.specs.lemmas.Access.{bytes_of, pointer}
use Rattle.gadget_time.specs.lemmas.Meant.{olds_of, as_many}
use Rattle.adapter_mem.specs.declared.memory.MemoryColumns.{MemoryColumns}
use Rattle.adapter_mem.specs.Forms.{form_at}
use Rattle.adapter_mem.specs.Memory.{memory_form, memory_numbers, address_filled, memory_filled, memory_cells, write_touches}
use Rattle.adapter_mem.specs.MemoryLaws.{IsMemory, MemoryAt, MemoryPlaced, MemoryFills, MemoryLaws, block_filled}
use Rattle.adapter_mem.proofs.AddressLemmas.{fits, filled_is}
use Rattle.adapter_mem.proofs.FormLemmas.{are_good_forms, is_good_form, good_forms, placed_by, each_shift, has}
use Rattle.adapter_mem.proofs.WriteSteps.{write_meaning, write_means, three, three_words, three_gaps, write_filled, cells_below}
use Rattle.chip_io.specs.Reveal.{reveal_forms, reveal_table, reveal_filled}

owned_is : (op : ℕ) → owns_of (memory_form reveal_table) op ≡ true → op ≡ REVEAL
owned_is op h = of_owned (λ k. k ≡ REVEAL) (REVEAL ∷ []) op (refl, tt) h

-- ---- the meaning

width_is : (op : ℕ) → op ≡ REVEAL → width_of op ≡ 4
unfolding width_of
width_is op e = rw e refl

places : (i : VmInstr) (b c : List ℕ) (more : List (List ℕ)) → i.op ≡ REVEAL → places_of i (b ∷ c ∷ more) ≡ register 0 i.rd ∷ register 1 i.rs1 ∷ place 2 3 (address i (word_of_limbs b)) ∷ []
unfolding places_by word_at
places i b c more op = rw op refl

three_places : (i : VmInstr) (olds : List (List ℕ)) → i.op ≡ REVEAL → length (places_of i olds) ≡ 3
unfolding places_by
three_places i olds op = rw op refl

is_memory : (i : VmInstr) → i.op ≡ REVEAL → IsMemory i
unfolding bars_first bars_second width_of
is_memory i op = record { meant = rw op refl; bars = λ b. rw op refl; second = λ c. rw op refl; accesses = λ olds. omega (arith, three_places i olds op) }

kept : (i : VmInstr) (olds : List (List ℕ)) (given o : List ℕ) → i.op ≡ REVEAL → (new_at i olds given 0 o ≡ o) × (new_at i olds given 1 o ≡ o)
unfolding new_at
kept i olds given o op = (rw op refl, rw op refl)

written : (i : VmInstr) (b c x given o : List ℕ) → i.op ≡ REVEAL → new_at i (b ∷ c ∷ x ∷ []) given 2 o ≡ c
unfolding new_at
written i b c x given o op = rw op refl

goes_on : (i : VmInstr) (olds : List (List ℕ)) → i.op ≡ REVEAL → next_of i olds ≡ word_sum i.pc 4
unfolding next_of
goes_on i olds op = rw op refl

reveal_means : (i : VmInstr) (b c x given : List ℕ) → i.op ≡ REVEAL → address i (word_of_limbs b) < 2 ^ 29 → address i (word_of_limbs b) % width_of i.op ≡ 0
    → means_of i (b ∷ c ∷ x ∷ []) given ≡ Some (write_meaning i 3 (address i (word_of_limbs b)) i.rd i.rs1 b c x c)
reveal_means i b c x given op low aligned =
    let olds : List (List ℕ) = b ∷ c ∷ x ∷ [] in
    write_means i 3 (address i (word_of_limbs b)) i.rd i.rs1 b c x c given (fits i b (c ∷ x ∷ []) (is_memory i op) low aligned) (places i b c (x ∷ []) op)
    (kept i olds given b op).0 (kept i olds given c op).1 (written i b c x given x op) (goes_on i olds op)

-- ---- a valid row

only : (k : ℕ) → k < 1 → (form_at reveal_forms k).shift ≡ 0
only zero h = refl
only (suc k) h = absurd (omega arith)

-- ---- a record

numbers : (done : StepRecord) → InRange done.instr → done.instr.op ≡ REVEAL → done.instr.pc ∷ done.instr.op ∷ memory_numbers field (reveal_filled done) ≡ numbers_of done.instr
unfolding memory_numbers numbers_of limbs_from
numbers done range op = let n = range.reveal op in rw (n.0, n.1, n.2, n.3) refl

row_below : (rd rs1 : ℕ) (xs ys : List ℕ) → rd < 32 → rs1 < 32 → AllBelow xs → AllBelow ys → AllBelow (rd ∷ rs1 ∷ (xs ++ ys))
row_below rd rs1 xs ys d s p q = (omega (arith, d), (omega (arith, s), all_append (λ x. x < modulus) xs ys p q))

fills : (hi : ℕ) (done : StepRecord) → hi ≤ 13 → Fillable (16 + hi) done → MemoryPlaced reveal_table done → MemoryFills reveal_table hi done
fills hi done top f p =
    let i = done.instr in
    let op : i.op ≡ REVEAL = owned_is i.op p.owned in
    let range = f.in_range in
    let s = three done.accesses (as_many i done.accesses f.given f.meaning f.means ∙ three_places i (olds_of done.accesses) op) in
    let words = three_words (16 + hi) done f s in
    let first : access_at done.accesses 0 ≡ s.a = ap (λ (xs : List TimedAccess). access_at xs 0) s.are in
    let second : access_at done.accesses 1 ≡ s.b = ap (λ (xs : List TimedAccess). access_at xs 1) s.are in
    let here : address_filled done ≡ address i (word_of_limbs s.a.access.old) = filled_is done ∙ ap (λ (x : TimedAccess). address i (word_of_limbs x.access.old)) first in
    let four : address_filled done % 4 ≡ 0 = subst (λ (w : ℕ). address_filled done % w ≡ 0) (width_is i.op op) p.aligned in
    let block : block_filled done ≡ address i (word_of_limbs s.a.access.old) = omega (arith, here, four) in
    let ends : done.time + 3 ≤ 2 ^ (16 + hi) = subst (λ (k : ℕ). done.time + slots_of k ≤ 2 ^ (16 + hi)) op f.ends in
    let word : list_of (limbs_from (access_at done.accesses 1).access.old) ≡ s.b.access.old = list_of-from (access_at done.accesses 1).access.old words.second.four ∙ ap (λ (x : TimedAccess). x.access.old) second in
    let means = reveal_means i s.a.access.old s.b.access.old s.c.access.old f.given op (omega (arith, here, p.below)) (subst (λ (n : ℕ). n % width_of i.op ≡ 0) here p.aligned) in
    let w = write_filled hi done s top f ends 3 (address i (word_of_limbs s.a.access.old)) i.rd i.rs1 (limbs_from (access_at done.accesses 1).access.old) s.b.access.old range.rd range.rs1 word means in
    let cells = cells_below (reveal_filled done) (bytes_of i.imm range.imm) p.base (bytes_of (access_at done.accesses 1).access.old words.second) (bytes_of (access_at done.accesses 2).access.old words.third) (omega arith) (omega (arith, p.below)) in
    record {
      below = row_below i.rd i.rs1 (memory_cells (reveal_filled done)) (three_gaps done) range.rd range.rs1 cells w.gaps;
      numbers = numbers done range op;
      next = w.next;
      zero = tt;
      small = tt;
      good = tt;
      sources = w.sources;
      made_by = subst (λ (n : ℕ). MadeByAll hi done.time (write_touches field 3 1 n i.rd i.rs1 (memory_filled done) (limbs_from (access_at done.accesses 1).access.old)) w.sources) (sym block) w.made_by;
      accesses = w.are;
    }

-- ---- the laws

zero_touches : (block : ℕ) (flags : List ℕ) → AllZero (map (touch_constraint field 0) (reveal_table.parts.touches 0 block flags (reveal_table.parts.read (replicate 29 0))))
unfolding touch_constraint time_constraint
zero_touches block flags = (refl, (refl, (refl, tt)))

long : (m : MemoryColumns ℕ) → length (reveal_table.cells m) ≡ 29
unfolding list_of
long m = refl

back : (done : StepRecord) → reveal_table.parts.read (reveal_table.cells (reveal_filled done)) ≡ reveal_filled done
unfolding list_of
back done = refl

good : are_good_forms reveal_forms ≡ true
unfolding are_good_forms is_good_form width_of
good = refl

covers : each_shift reveal_forms REVEAL 4 ≡ true
unfolding each_shift has width_of
covers = refl

pub reveal_laws : MemoryLaws reveal_table
reveal_laws = record {
  some = lit≤ tt;
  few_flags = lit≤ tt;
  slots_some = lit≤ tt;
  slots_few = lit≤ tt;
  narrow = lit≤ tt;
  opcodes_below = (lit< tt, tt);
  slots = (refl, tt);
  forms = good_forms reveal_forms good;
  memory = λ i own. is_memory i (owned_is i.op own);
  few = λ valid block flags m. lit≤ tt;
  others = λ valid flags m. tt;
  silent_touches = λ valid block flags m v. (v, (v, (v, tt)));
  silent_others = λ valid flags m v none. tt;
  read_zeros = refl;
  zeros = tt;
  zero_touches = zero_touches;
  below = λ rest h. record { low = below_at rest 18 h; high = below_at rest 19 h; sign = lit< tt };
  long = long;
  back = back;
  address = λ done. record { base = refl; imm = refl; low = refl; high = refl };
  place = λ op shift own four aligned. placed_by reveal_forms op shift (subst (λ (k : ℕ). each_shift reveal_forms k 4 ≡ true) (sym (owned_is op own)) covers) four aligned;
  tells = λ k block flags m i a. record {
    counts = (lit≤ tt, (lit≤ tt, (lit≤ tt, tt)));
    slots = (lit< tt, (lit< tt, (lit< tt, tt)));
    rising = (lit≤ tt, lit< tt, (lit≤ tt, lit< tt, (lit≤ tt, lit< tt, tt)));
    new_bytes = λ b. (b, λ c. (c, λ x. (c, tt)));
    means = λ old.
        let op = owned_is i.op a.owned in
        let at = a.address_is old.0 in
        let here : block ≡ address i (word_of_limbs (list_of m.base)) = omega (arith, at.block_is, at.shift, only k a.below) in
        let e0 = pointer m.rd i.rd a.rd a.in_range.rd in
        let e1 = pointer m.rs1 i.rs1 a.rs1 a.in_range.rs1 in
        ([], reveal_means i (list_of m.base) (list_of m.middle) (list_of m.last) [] op at.below at.aligned ∙ rw (e0, e1, here) refl);
  };
  fills = fills;
}

pub reveal_no_hints : NoHints (memory_form reveal_table)
reveal_no_hints = ((refl, refl), tt)
