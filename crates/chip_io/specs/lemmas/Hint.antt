-- HINT is a table of the memory form with its laws, and each of its valid rows is a hint.
use Rattle.std.proofs.Common.{◌≡◌, ◌≢◌, ℕ, zero, suc, ◌+◌, ◌*◌, ◌%◌, ◌^◌, ◌<◌, ◌≤◌, true, false, List, [], ◌∷◌, ◌++◌, length, map, replicate, slice_index, Some, refl, sym, ap, subst, ◌∙◌, arith, lit<, lit≤}
use Rattle.std.specs.List.{AllByRecursion}
use Rattle.vm_field.specs.Field.{modulus}
use Rattle.vm_field.specs.Limbs.{list_of, limbs_from}
use Rattle.vm_field.proofs.Constraints.{boolean_at_most}
use Rattle.vm_field.proofs.LimbLemmas.{list_of-from}
use Rattle.vm_word.specs.Word.{word_of_limbs}
use Rattle.vm_word.specs.Arithmetic.{word_sum}
use Rattle.vm_isa.specs.declared.access.TimedAccess.{TimedAccess}
use Rattle.vm_isa.specs.declared.instr.VmInstr.{VmInstr}
use Rattle.vm_isa.specs.declared.record.StepRecord.{StepRecord}
use Rattle.vm_isa.specs.Instr.{InRange, numbers_of}
use Rattle.vm_isa.specs.Means.{Meaning, Placed, Fillable, address, accessed_by, bars_first, bars_second, means_of, memory, new_at, next_of, places_by, places_of, placed, placed_at, register, word_at}
use Rattle.vm_isa.specs.Opcodes.{HINT}
use Rattle.vm_isa.specs.Results.{width_of}
use Rattle.vm_isa.specs.Slots.{slots_of}
use Rattle.vm_isa.specs.Words.{IsBytes, IsWord}
use Rattle.vm_isa.proofs.RegisterForm.{reads}
use Rattle.air_core.specs.First.{bit}
use Rattle.air_core.specs.Flags.{flag_constraints}
use Rattle.air_core.specs.Hint.{IsHint, NoHint}
use Rattle.air_core.specs.ListLemmas.{all_append, below_at}
use Rattle.air_core.specs.Path.{path_lines}
use Rattle.air_core.specs.Ring.{field}
use Rattle.air_core.specs.Sheet.{AllZero, AllBelow, IsRow, RowHolds, counted, row_events}
use Rattle.air_core.specs.lemmas.OneHot.{of_owned}
use Rattle.gadget_limbs.specs.Ranges.{range_lines}
use Rattle.gadget_limbs.proofs.RangeLaws.{ranges_good, good_ranges, ranges_count, ranges_silent}
use Rattle.gadget_time.specs.Access.{access_at, gap_of, gap_cells}
use Rattle.gadget_time.specs.Told.{touch_constraint, time_constraint, touch_lines, told_lines}
use Rattle.gadget_time.specs.Form.{Columns, columns_by, form_constraints, form_sheet, owns_of, told_by}
use Rattle.gadget_time.specs.FormLaws.{IsOther}
use Rattle.gadget_time.specs.lemmas.Access.{bytes_of, filled_access, pointer}
use Rattle.gadget_time.specs.lemmas.Meant.{olds_of, as_many, means_by, recorded}
use Rattle.adapter_mem.specs.declared.memory.MemoryColumns.{MemoryColumns}
use Rattle.adapter_mem.specs.Forms.{form_at}
use Rattle.adapter_mem.specs.Memory.{memory_form, memory_numbers, address_filled, memory_cells}
use Rattle.adapter_mem.specs.MemoryLaws.{IsMemory, MemoryAt, MemoryTells, MemoryPlaced, MemoryFills, MemoryLaws, block_filled}
use Rattle.adapter_mem.proofs.AddressLemmas.{fits, filled_is}
use Rattle.adapter_mem.proofs.FormLemmas.{are_good_forms, is_good_form, good_forms, placed_by, each_shift, has}
use Rattle.adapter_mem.proofs.WriteSteps.{block_access, filled_block, cells_below}
use Rattle.chip_io.specs.Hint.{hint_forms, hint_read, hint_table, hint_filled}

owned_is : (op : ℕ) → owns_of (memory_form hint_table) op ≡ true → op ≡ HINT
owned_is op h = of_owned (λ k. k ≡ HINT) (HINT ∷ []) op (refl, tt) h

-- ---- the meaning

width_is : (op : ℕ) → op ≡ HINT → width_of op ≡ 4
unfolding width_of
width_is op e = rw e refl

places : (i : VmInstr) (b : List ℕ) (more : List (List ℕ)) → i.op ≡ HINT → places_of i (b ∷ more) ≡ register 0 i.rd ∷ memory 1 (address i (word_of_limbs b)) ∷ []
unfolding places_by word_at
places i b more op = rw op refl

two_places : (i : VmInstr) (olds : List (List ℕ)) → i.op ≡ HINT → length (places_of i olds) ≡ 2
unfolding places_by
two_places i olds op = rw op refl

is_memory : (i : VmInstr) → i.op ≡ HINT → IsMemory i
unfolding bars_first bars_second width_of
is_memory i op = record { meant = rw op refl; bars = λ b. rw op refl; second = λ c. rw op refl; accesses = λ olds. omega (arith, two_places i olds op) }

kept : (i : VmInstr) (olds : List (List ℕ)) (given o : List ℕ) → i.op ≡ HINT → new_at i olds given 0 o ≡ o
unfolding new_at
kept i olds given o op = rw op refl

written : (i : VmInstr) (olds : List (List ℕ)) (given o : List ℕ) → i.op ≡ HINT → new_at i olds given 1 o ≡ given
unfolding new_at
written i olds given o op = rw op refl

goes_on : (i : VmInstr) (olds : List (List ℕ)) → i.op ≡ HINT → next_of i olds ≡ word_sum i.pc 4
unfolding next_of
goes_on i olds op = rw op refl

abbrev hint_meaning : VmInstr → List ℕ → List ℕ → List ℕ → Meaning
hint_meaning i b x given = record { accesses = reads 0 i.rd b ∷ block_access 1 2 (address i (word_of_limbs b)) x given ∷ []; next = word_sum i.pc 4 }

two_made : (f : ℕ → List ℕ → List ℕ) (base at : ℕ) (b x new : List ℕ) → f 0 b ≡ b → f 1 x ≡ new → accessed_by f (register 0 base ∷ memory 1 at ∷ []) (b ∷ x ∷ []) ≡ reads 0 base b ∷ block_access 1 2 at x new ∷ []
unfolding accessed_by
two_made f base at b x new p q = rw (p, q) refl

hint_means : (i : VmInstr) (b x given : List ℕ) → i.op ≡ HINT → address i (word_of_limbs b) < 2 ^ 29 → address i (word_of_limbs b) % width_of i.op ≡ 0 → means_of i (b ∷ x ∷ []) given ≡ Some (hint_meaning i b x given)
hint_means i b x given op low aligned =
    let olds : List (List ℕ) = b ∷ x ∷ [] in
    means_by i olds given (register 0 i.rd ∷ memory 1 (address i (word_of_limbs b)) ∷ []) _ _ (fits i b (x ∷ []) (is_memory i op) low aligned) (places i b (x ∷ []) op) refl
    (two_made (new_at i olds given) i.rd (address i (word_of_limbs b)) b x given (kept i olds given b op) (written i olds given x op)) (goes_on i olds op)

-- ---- a valid row

only : (k : ℕ) → k < 1 → (form_at hint_forms k).shift ≡ 0
only zero h = refl
only (suc k) h = absurd (omega arith)

tells : (k block : ℕ) (flags : List ℕ) (m : MemoryColumns ℕ) (i : VmInstr) → MemoryAt hint_table k block flags m i → MemoryTells hint_table block flags m i
tells k block flags m i a =
    let given : IsBytes (list_of m.last) = ranges_good 1 8 (list_of m.last) (λ none. absurd (omega (arith, none))) a.good in
    record {
      counts = (lit≤ tt, (lit≤ tt, tt));
      slots = (lit< tt, (lit< tt, tt));
      rising = (lit≤ tt, lit< tt, (lit≤ tt, lit< tt, tt));
      new_bytes = λ b. (b, λ x. (given, tt));
      means = λ old.
          let op = owned_is i.op a.owned in
          let at = a.address_is old.0 in
          let here : block ≡ address i (word_of_limbs (list_of m.base)) = omega (arith, at.block_is, at.shift, only k a.below) in
          let e0 = pointer m.rd i.rd a.rd a.in_range.rd in
          (list_of m.last, hint_means i (list_of m.base) (list_of m.middle) (list_of m.last) op at.below at.aligned ∙ rw (e0, here) refl);
    }

-- ---- a record

numbers : (done : StepRecord) → InRange done.instr → done.instr.op ≡ HINT → done.instr.pc ∷ done.instr.op ∷ memory_numbers field (hint_filled done) ≡ numbers_of done.instr
unfolding memory_numbers numbers_of limbs_from
numbers done range op = let n = range.hint op in rw (n.0, n.1, n.2, n.3, n.4) refl

row_below : (rd : ℕ) (xs ys zs : List ℕ) → rd < 32 → AllBelow xs → AllBelow ys → AllBelow zs → AllBelow (rd ∷ (xs ++ (ys ++ zs)))
row_below rd xs ys zs d p q r = (omega (arith, d), all_append (λ x. x < modulus) xs (ys ++ zs) p (all_append (λ x. x < modulus) ys zs q r))

-- two accesses
record Two (xs : List TimedAccess) : Type 0 where
  a : TimedAccess
  b : TimedAccess
  are : xs ≡ a ∷ b ∷ []

two : (xs : List TimedAccess) → length (olds_of xs) ≡ 2 → Two xs
two [] e = absurd (omega (arith, e))
two (a ∷ []) e = absurd (omega (arith, e))
two (a ∷ b ∷ []) e = record { a = a; b = b; are = refl }
two (a ∷ b ∷ c ∷ more) e = absurd (omega (arith, e))

fills : (hi : ℕ) (done : StepRecord) → hi ≤ 13 → Fillable (16 + hi) done → MemoryPlaced hint_table done → MemoryFills hint_table hi done
fills hi done top f p =
    let i = done.instr in
    let op : i.op ≡ HINT = owned_is i.op p.owned in
    let range = f.in_range in
    let s = two done.accesses (as_many i done.accesses f.given f.meaning f.means ∙ two_places i (olds_of done.accesses) op) in
    let words = subst (AllByRecursion (λ (x : TimedAccess). IsWord x.access.old)) s.are f.words in
    let before = subst (AllByRecursion (λ (x : TimedAccess). x.before < x.time)) s.are f.earlier in
    let first : access_at done.accesses 0 ≡ s.a = ap (λ (xs : List TimedAccess). access_at xs 0) s.are in
    let second : access_at done.accesses 1 ≡ s.b = ap (λ (xs : List TimedAccess). access_at xs 1) s.are in
    let here : address_filled done ≡ address i (word_of_limbs s.a.access.old) = filled_is done ∙ ap (λ (x : TimedAccess). address i (word_of_limbs x.access.old)) first in
    let four : address_filled done % 4 ≡ 0 = subst (λ (w : ℕ). address_filled done % w ≡ 0) (width_is i.op op) p.aligned in
    let block : block_filled done ≡ address i (word_of_limbs s.a.access.old) = omega (arith, here, four) in
    let ends : done.time + 2 ≤ 2 ^ (16 + hi) = subst (λ (k : ℕ). done.time + slots_of k ≤ 2 ^ (16 + hi)) op f.ends in
    let means : means_of i (s.a.access.old ∷ s.b.access.old ∷ []) f.given ≡ Some f.meaning = ap (λ (xs : List TimedAccess). means_of i (olds_of xs) f.given) (sym s.are) ∙ f.means in
    let r = recorded i done.time done.next (s.a ∷ s.b ∷ []) f.given f.meaning (hint_meaning i s.a.access.old s.b.access.old f.given) means f.next (ap (map placed) (sym s.are) ∙ f.accesses)
    (hint_means i s.a.access.old s.b.access.old f.given op (omega (arith, here, p.below)) (subst (λ (n : ℕ). n % width_of i.op ≡ 0) here p.aligned)) in
    let at : placed s.a ∷ placed s.b ∷ [] ≡ placed_at done.time (reads 0 i.rd s.a.access.old) ∷ placed_at done.time (block_access 1 2 (address i (word_of_limbs s.a.access.old)) s.b.access.old f.given) ∷ [] = r.are in
    let at_b : placed s.b ≡ placed_at done.time (block_access 1 2 (address i (word_of_limbs s.a.access.old)) s.b.access.old f.given) = cc in
    let new_is : s.b.access.new ≡ f.given = ap (λ (x : Placed). x.new) at_b in
    let new : IsWord s.b.access.new = subst IsWord (sym new_is) f.given_word in
    let last : list_of (limbs_from s.b.access.new) ≡ f.given = list_of-from s.b.access.new new.four ∙ new_is in
    let a = filled_access hi done.time 0 i.rd 1 s.a (limbs_from s.a.access.old) s.a.access.old (cc) (list_of-from s.a.access.old words.0.four) top (omega (arith, ends)) range.rd refl words.0 before.0 in
    let b = filled_block hi done.time 1 2 (address i (word_of_limbs s.a.access.old)) 1 s.b (limbs_from s.b.access.new) f.given at_b last top (omega (arith, ends)) refl words.1.0 before.1.0 in
    let middle : IsBytes (list_of (limbs_from (access_at done.accesses 1).access.old)) = rw second (bytes_of s.b.access.old words.1.0) in
    let bytes : IsBytes (list_of (limbs_from (access_at done.accesses 1).access.new)) = rw second (bytes_of s.b.access.new new) in
    let cells = cells_below (hint_filled done) (bytes_of i.imm range.imm) p.base middle bytes (omega arith) (omega (arith, p.below)) in
    record {
      below = row_below i.rd (memory_cells (hint_filled done)) (gap_cells (gap_of (access_at done.accesses 0))) (gap_cells (gap_of (access_at done.accesses 1))) range.rd cells (rw first a.gap) (rw second b.gap);
      numbers = numbers done range op;
      next = r.next_is;
      zero = tt;
      small = ranges_count 1 1 8 (list_of (limbs_from (access_at done.accesses 1).access.new)) (lit≤ tt);
      good = good_ranges 1 8 (list_of (limbs_from (access_at done.accesses 1).access.new)) (lit≤ tt) bytes;
      sources = Some s.a ∷ Some s.b ∷ [];
      made_by = rw (block, first, second) (a.made, (b.made, tt));
      accesses = sym s.are;
    }

-- ---- the laws

zero_touches : (block : ℕ) (flags : List ℕ) → AllZero (map (touch_constraint field 0) (hint_table.parts.touches 0 block flags (hint_table.parts.read (replicate 25 0))))
unfolding touch_constraint time_constraint
zero_touches block flags = (refl, (refl, tt))

long : (m : MemoryColumns ℕ) → length (hint_table.cells m) ≡ 25
unfolding list_of
long m = refl

back : (done : StepRecord) → hint_table.parts.read (hint_table.cells (hint_filled done)) ≡ hint_filled done
unfolding list_of
back done = refl

few : (valid block : ℕ) (flags : List ℕ) (m : MemoryColumns ℕ) → 4 * length (hint_table.parts.touches valid block flags m) + length (hint_table.parts.lookups valid flags m) ≤ 251
unfolding list_of
few valid block flags m = lit≤ tt

looked_up : (valid : ℕ) (xs : List ℕ) → AllByRecursion (IsOther true) (range_lines field valid 8 xs)
looked_up valid [] = tt
looked_up valid (x ∷ xs) = (record { off = lit≤ tt; lookup = λ h. refl; private = λ h. absurd (omega arith) }, looked_up valid xs)

good : are_good_forms hint_forms ≡ true
unfolding are_good_forms is_good_form width_of
good = refl

covers : each_shift hint_forms HINT 4 ≡ true
unfolding each_shift has width_of
covers = refl

pub hint_laws : MemoryLaws hint_table
hint_laws = record {
  some = lit≤ tt;
  few_flags = lit≤ tt;
  slots_some = lit≤ tt;
  slots_few = lit≤ tt;
  narrow = lit≤ tt;
  opcodes_below = (lit< tt, tt);
  slots = (refl, tt);
  forms = good_forms hint_forms good;
  memory = λ i own. is_memory i (owned_is i.op own);
  few = few;
  others = λ valid flags m. looked_up valid (list_of m.last);
  silent_touches = λ valid block flags m v. (v, (v, tt));
  silent_others = λ valid flags m v none. ranges_silent valid 8 (list_of m.last) v;
  read_zeros = refl;
  zeros = tt;
  zero_touches = zero_touches;
  below = λ rest h. record { low = below_at rest 17 h; high = below_at rest 18 h; sign = lit< tt };
  long = long;
  back = back;
  address = λ done. record { base = refl; imm = refl; low = refl; high = refl };
  place = λ op shift own four aligned. placed_by hint_forms op shift (subst (λ (k : ℕ). each_shift hint_forms k 4 ≡ true) (sym (owned_is op own)) covers) four aligned;
  tells = tells;
  fills = fills;
}

-- ---- hints

-- a row whose flag is 1 is a hint, with its time and the word that it writes
says : (hi : ℕ) (c : Columns ℕ) → c.flags ≡ 1 ∷ [] → IsHint (record { time = c.time; word = list_of (hint_read field c.rest).last; next = false }) (counted (told_lines field hi (told_by (memory_form hint_table) c)))
unfolding path_lines touch_lines list_of
says hi c flags = rw flags (record { opcode = refl; time = record { pc = c.pc; received_at = (0, lit< tt, refl) }; word = record { pointer = _; written = (8, lit< tt, refl) } })

says_none : (hi : ℕ) (c : Columns ℕ) → c.flags ≡ 0 ∷ [] → NoHint (counted (told_lines field hi (told_by (memory_form hint_table) c)))
unfolding path_lines touch_lines list_of
says_none hi c flags = rw flags (record { hint = refl; next = refl })

pub is_hint : (hi : ℕ) (row : List ℕ) → slice_index row 2 ≡ 1
    → IsHint (record { time = slice_index row 1; word = slice_index row 16 ∷ slice_index row 17 ∷ slice_index row 18 ∷ slice_index row 19 ∷ []; next = false }) (row_events (form_sheet (memory_form hint_table) hi) row)
unfolding columns_by list_of
is_hint hi row flag = says hi (columns_by 1 25 (slice_index row)) (ap (λ (x : ℕ). x ∷ []) flag)

pub no_hint : (hi : ℕ) (row : List ℕ) → IsRow (form_sheet (memory_form hint_table) hi) row → RowHolds (form_sheet (memory_form hint_table) hi) row → slice_index row 2 ≢ 1 → NoHint (row_events (form_sheet (memory_form hint_table) hi) row)
unfolding columns_by form_constraints flag_constraints bit
no_hint hi row is holds other =
    let small : slice_index row 2 ≤ 1 = boolean_at_most (slice_index row 2) (below_at row 2 is.below) holds.0 in
    let none : slice_index row 2 ≡ 0 = omega (arith, small, other) in
    says_none hi (columns_by 1 25 (slice_index row)) (ap (λ (x : ℕ). x ∷ []) none)
