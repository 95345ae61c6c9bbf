-- The table of loads is one of the memory form with its laws.
use Rattle.std.proofs.Common.{◌≡◌, ℕ, ◌+◌, ◌-◌, ◌%◌, ◌^◌, ◌<◌, ◌≤◌, Bool, true, false, List, [], ◌∷◌, ◌++◌, length, map, replicate, refl, sym, ap, subst, ◌∙◌, arith, lit<, lit≤}
use Rattle.std.specs.List.{AllByRecursion}
use Rattle.vm_field.specs.Field.{modulus}
use Rattle.vm_field.specs.declared.limbs.Limbs.{Limbs}
use Rattle.vm_field.specs.Limbs.{list_of, limbs_from}
use Rattle.vm_field.proofs.Constraints.{gate_off}
use Rattle.vm_field.proofs.LimbLemmas.{list_of-from}
use Rattle.vm_word.specs.Word.{word_of_limbs, limbs_of}
use Rattle.vm_isa.specs.declared.access.TimedAccess.{TimedAccess}
use Rattle.vm_isa.specs.declared.instr.VmInstr.{VmInstr}
use Rattle.vm_isa.specs.declared.record.StepRecord.{StepRecord}
use Rattle.vm_isa.specs.Instr.{InRange, numbers_of, bit_of}
use Rattle.vm_isa.specs.Means.{Fillable, address, in_block, block_address}
use Rattle.vm_isa.specs.Opcodes.{is_load}
use Rattle.vm_isa.specs.Results.{width_of, extended, number_in}
use Rattle.vm_isa.specs.Words.{IsBytes}
use Rattle.air_core.specs.First.{bit}
use Rattle.air_core.specs.Flags.{one_hot}
use Rattle.air_core.specs.ListLemmas.{all_append, below_at}
use Rattle.air_core.proofs.LookupLemmas.{good_xor}
use Rattle.air_core.specs.Ring.{field}
use Rattle.air_core.specs.Sheet.{AllZero, AllBelow}
use Rattle.air_core.specs.lemmas.OneHot.{of_owned}
use Rattle.gadget_limbs.specs.Sign.{sign_constraints}
use Rattle.gadget_limbs.specs.SignLaws.{IsSign}
use Rattle.gadget_limbs.proofs.SignLaws.{sign_says, sign_meets}
use Rattle.gadget_time.specs.Access.{access_at}
use Rattle.gadget_time.specs.Told.{touch_constraint, time_constraint, MadeByAll}
use Rattle.gadget_time.specs.Form.{owns_of}
use Rattle.gadget_time.specs.FormLaws.{NoHints}
use Rattle.gadget_time.specs.lemmas.Access.{bytes_of, pointer}
use Rattle.gadget_time.specs.lemmas.Meant.{olds_of, as_many}
use Rattle.adapter_mem.specs.declared.memory.MemoryColumns.{MemoryColumns}
use Rattle.adapter_mem.specs.Forms.{form_at, signed_by}
use Rattle.adapter_mem.specs.Memory.{memory_form, memory_numbers, address_filled, place_filled, memory_filled, memory_cells, read_touches}
use Rattle.adapter_mem.specs.MemoryLaws.{IsForm, MemoryAt, MemoryTells, MemoryPlaced, MemoryFills, MemoryLaws, flags_filled, block_filled}
use Rattle.adapter_mem.proofs.AddressLemmas.{filled_is}
use Rattle.adapter_mem.specs.Select.{top_by, sign_of}
use Rattle.adapter_mem.specs.SelectLaws.{Extends, AreBytes, SignFilled}
use Rattle.adapter_mem.proofs.FormLemmas.{signed_none, at_form, placed_by, each_shift, has, good_forms, are_good_forms, is_good_form}
use Rattle.adapter_mem.proofs.ReadSteps.{read_accesses, second_word, read_filled}
use Rattle.adapter_mem.proofs.SelectLemmas.{loads_are_read, signs_are_filled}
use Rattle.adapter_mem.proofs.WriteSteps.{three_gaps, cells_below}
use Rattle.chip_load.specs.Load.{load_forms, load_new, load_table, load_filled}
use Rattle.chip_load.specs.lemmas.Means.{apart_load, many_places, is_memory, loaded, load_means}

abbrev opcodes : List ℕ
opcodes = 11 ∷ 11 ∷ 11 ∷ 11 ∷ 12 ∷ 12 ∷ 13 ∷ 14 ∷ 14 ∷ 14 ∷ 14 ∷ 15 ∷ 15 ∷ []

is_owned : (op : ℕ) → owns_of (memory_form load_table) op ≡ true → is_load op ≡ true
is_owned op h = of_owned (λ k. is_load k ≡ true) opcodes op (refl, (refl, (refl, (refl, (refl, (refl, (refl, (refl, (refl, (refl, (refl, (refl, (refl, tt))))))))))))) h

-- ---- forms

good : are_good_forms load_forms ≡ true
unfolding are_good_forms is_good_form width_of
good = refl

loads_are : AllByRecursion IsForm load_forms
loads_are = good_forms load_forms good

loads_extend : AllByRecursion Extends load_forms
unfolding extended
loads_extend = (
  (refl, λ n. refl),
  (
    (refl, λ n. refl),
    (
      (refl, λ n. refl),
      (
        (refl, λ n. refl),
        (
          (refl, λ n. refl),
          (
            (refl, λ n. refl),
            (
              (refl, λ n. refl),
              ((refl, λ n. refl), ((refl, λ n. refl), ((refl, λ n. refl), ((refl, λ n. refl), ((refl, λ n. refl), ((refl, λ n. refl), tt)))))),
            ),
          ),
        ),
      ),
    ),
  ),
)

-- the word is what the opcode of the flag makes of the bytes of its form
abbrev Read : ℕ → List ℕ → MemoryColumns ℕ → Type 0
Read k flags m = let f = form_at load_forms k in AreBytes (load_new field flags m) (limbs_of (extended f.op (number_in (list_of m.middle) f.shift f.width)))

read_at : (k : ℕ) (flags : List ℕ) (m : MemoryColumns ℕ) → k < length load_forms → flags ≡ one_hot (length load_forms) k → IsBytes (list_of m.middle) → IsSign (signed_by field load_forms flags) (top_by field load_forms flags m.middle) m.sign → Read k flags m
read_at k flags m below hot bytes sign = loads_are_read load_forms k flags (record { are = loads_are; below = below; hot = hot }) m.middle bytes loads_extend m.sign sign

-- ---- a valid row

bit_small : (b : Bool) → bit_of b ≤ 1
bit_small true = lit≤ tt
bit_small false = lit≤ tt

module _ (k block : ℕ) (flags : List ℕ) (m : MemoryColumns ℕ) (i : VmInstr) (a : MemoryAt load_table k block flags m i) where
  abbrev new : Limbs ℕ
  new = load_new field flags m

  h : is_load i.op ≡ true
  h = is_owned i.op a.owned

  read : IsBytes (list_of m.middle) → Read k flags m
  read bytes = read_at k flags m a.below a.flags_are bytes (sign_says (signed_by field load_forms flags) (top_by field load_forms flags m.middle) m.sign a.sign_below (record { zero = a.zero; good = λ some. (a.good.0 some).xor refl }))

  new_word : IsBytes (list_of m.base) → IsBytes (list_of m.middle) → list_of new ≡ loaded i (list_of m.base) (list_of m.middle)
  new_word base bytes =
      let f = form_at load_forms k in
      let form = at_form IsForm load_forms k a.below loads_are in
      let at = a.address_is base in
      let width : f.width ≡ width_of i.op = sym form.width_is ∙ ap width_of (sym a.op) in
      (read bytes).are ∙ rw (sym at.shift, width, sym a.op) refl

  tells_by : (b : Bool) → i.write ≡ b → MemoryTells load_table block flags m i
  tells_by true w =
      let one : m.write ≡ 1 = a.write ∙ ap bit_of w in
      record {
        counts = rw one (lit≤ tt, (lit≤ tt, (lit≤ tt, tt)));
        slots = (lit< tt, (lit< tt, (lit< tt, tt)));
        rising = rw one (lit≤ tt, lit< tt, (lit≤ tt, lit< tt, (lit≤ tt, lit< tt, tt)));
        new_bytes = rw one (λ b. (b, λ x. (x, λ o. ((read x).bytes, tt))));
        means = rw one (λ old.
            let at = a.address_is old.0 in
            let e0 = pointer m.rs1 i.rs1 a.rs1 a.in_range.rs1 in
            let e2 = pointer m.rd i.rd a.rd a.in_range.rd in
            ([], load_means i (list_of m.base) (list_of m.middle) [] (list_of m.last ∷ []) h (rw w refl) at.below at.aligned ∙ rw (e0, e2, at.block_is, new_word old.0 old.1.0) refl));
      }
  tells_by false w =
      let none : m.write ≡ 0 = a.write ∙ ap bit_of w in
      record {
        counts = rw none (lit≤ tt, (lit≤ tt, (lit≤ tt, tt)));
        slots = (lit< tt, (lit< tt, (lit< tt, tt)));
        rising = rw none (lit≤ tt, lit< tt, (lit≤ tt, lit< tt, tt));
        new_bytes = rw none (λ b. (b, λ x. (x, tt)));
        means = rw none (λ old.
            let at = a.address_is old.0 in
            let e0 = pointer m.rs1 i.rs1 a.rs1 a.in_range.rs1 in
            ([], load_means i (list_of m.base) (list_of m.middle) [] [] h (rw w refl) at.below at.aligned ∙ rw (e0, at.block_is) refl));
      }

  tells : MemoryTells load_table block flags m i
  tells = tells_by i.write refl

-- ---- a record

numbers : (done : StepRecord) → InRange done.instr → is_load done.instr.op ≡ true → done.instr.pc ∷ done.instr.op ∷ memory_numbers field (load_filled done) ≡ numbers_of done.instr
unfolding memory_numbers numbers_of limbs_from
numbers done range h = let n = range.load h in rw (n.0, n.1, n.2) refl

row_below : (rd rs1 w g : ℕ) (xs ys : List ℕ) → rd < 32 → rs1 < 32 → w ≤ 1 → g < modulus → AllBelow xs → AllBelow ys → AllBelow (rd ∷ rs1 ∷ w ∷ (xs ++ (g ∷ ys)))
row_below rd rs1 w g xs ys d s b q p r = (omega (arith, d), (omega (arith, s), (omega (arith, b), all_append (λ x. x < modulus) xs (g ∷ ys) p (q, r))))

fills : (hi : ℕ) (done : StepRecord) → hi ≤ 13 → Fillable (16 + hi) done → MemoryPlaced load_table done → MemoryFills load_table hi done
fills hi done top f p =
    let i = done.instr in
    let h : is_load i.op ≡ true = is_owned i.op p.owned in
    let range = f.in_range in
    let m = load_filled done in
    let flags = flags_filled load_table done in
    let k = place_filled load_forms done in
    let s = read_accesses i.write done.accesses (as_many i done.accesses f.given f.meaning f.means ∙ many_places i (olds_of done.accesses) h) in
    let b = s.first.access.old in
    let first : access_at done.accesses 0 ≡ s.first = ap (λ (xs : List TimedAccess). access_at xs 0) s.are in
    let second : access_at done.accesses 1 ≡ s.second = ap (λ (xs : List TimedAccess). access_at xs 1) s.are in
    let here : address_filled done ≡ address i (word_of_limbs b) = filled_is done ∙ ap (λ (x : TimedAccess). address i (word_of_limbs x.access.old)) first in
    let block : block_filled done ≡ block_address i (word_of_limbs b) = ap (λ (n : ℕ). n - n % 4) here in
    let ends : done.time + 3 ≤ 2 ^ (16 + hi) = subst (λ (n : ℕ). done.time + n ≤ 2 ^ (16 + hi)) (apart_load i.op h).three f.ends in
    let whole = second_word (16 + hi) done f s in
    let middle : IsBytes (list_of m.middle) = bytes_of (access_at done.accesses 1).access.old whole in
    let word = list_of-from (access_at done.accesses 1).access.old whole.four in
    let g = subst (λ (ys : List ℕ). SignFilled (signed_by field load_forms flags) (top_by field load_forms flags m.middle) (sign_of (form_at load_forms k) ys)) word
    (signs_are_filled load_forms k flags (record { are = loads_are; below = p.place.below; hot = refl }) m.middle middle) in
    let form = at_form IsForm load_forms k p.place.below loads_are in
    let shift : (form_at load_forms k).shift ≡ in_block i (word_of_limbs b) = p.place.shift_is ∙ ap (λ (n : ℕ). n % 4) here in
    let width : (form_at load_forms k).width ≡ width_of i.op = sym form.width_is ∙ ap width_of p.place.op_is in
    let new : list_of (load_new field flags m) ≡ loaded i b s.second.access.old = (read_at k flags m p.place.below refl middle g.is).are ∙ rw (shift, width, p.place.op_is, word, second) refl in
    let means = load_means i b s.second.access.old f.given (olds_of s.more) h s.long (omega (arith, here, p.below)) (subst (λ (n : ℕ). n % width_of i.op ≡ 0) here p.aligned) in
    let w = read_filled hi done s top f ends (block_address i (word_of_limbs b)) (load_new field flags m) (rw new means) in
    let sign = sign_meets (signed_by field load_forms flags) (top_by field load_forms flags m.middle) m.sign g.small g.is in
    let cells = cells_below m (bytes_of i.imm range.imm) p.base middle w.last (omega arith) (omega (arith, p.below)) in
    record {
      below = row_below i.rd i.rs1 (bit_of i.write) m.sign (memory_cells m) (three_gaps done) range.rd range.rs1 (bit_small i.write) g.low cells w.gaps;
      numbers = numbers done range h;
      next = w.next;
      zero = sign.zero;
      small = (g.small, tt);
      good = (λ some. good_xor _ refl (sign.good some), tt);
      sources = w.sources;
      made_by = subst (λ (n : ℕ). MadeByAll hi done.time (read_touches field 1 n (memory_filled done) (load_new field flags m)) w.sources) (sym block) w.made_by;
      accesses = w.are;
    }

-- ---- the laws

zero_touches : (block : ℕ) (flags : List ℕ) → AllZero (map (touch_constraint field 0) (load_table.parts.touches 0 block flags (load_table.parts.read (replicate 31 0))))
unfolding touch_constraint time_constraint
zero_touches block flags = (refl, (refl, (refl, tt)))

zeros : AllZero (load_table.parts.constraints (replicate 13 0) (load_table.parts.read (replicate 31 0)))
unfolding sign_constraints bit
zeros = (refl, (refl, tt))

long : (m : MemoryColumns ℕ) → length (load_table.cells m) ≡ 31
unfolding list_of
long m = refl

back : (done : StepRecord) → load_table.parts.read (load_table.cells (load_filled done)) ≡ load_filled done
unfolding list_of
back done = refl

silent : (valid : ℕ) (flags : List ℕ) (m : MemoryColumns ℕ) → AllZero flags → AllByRecursion (λ e. e.count ≡ 0) (load_table.parts.lookups valid flags m)
silent valid flags m none = (signed_none load_forms flags none, tt)

covers : AllByRecursion (λ op. each_shift load_forms op 4 ≡ true) opcodes
unfolding each_shift has width_of
covers = (refl, (refl, (refl, (refl, (refl, (refl, (refl, (refl, (refl, (refl, (refl, (refl, (refl, tt)))))))))))))

pub load_laws : MemoryLaws load_table
load_laws = record {
  some = lit≤ tt;
  few_flags = lit≤ tt;
  slots_some = lit≤ tt;
  slots_few = lit≤ tt;
  narrow = lit≤ tt;
  opcodes_below = (lit< tt, (lit< tt, (lit< tt, (lit< tt, (lit< tt, (lit< tt, (lit< tt, (lit< tt, (lit< tt, (lit< tt, (lit< tt, (lit< tt, (lit< tt, tt)))))))))))));
  slots = (refl, (refl, (refl, (refl, (refl, (refl, (refl, (refl, (refl, (refl, (refl, (refl, (refl, tt)))))))))))));
  forms = loads_are;
  memory = λ i own. is_memory i (is_owned i.op own);
  few = λ valid block flags m. lit≤ tt;
  others = λ valid flags m. (record { off = lit≤ tt; lookup = λ h. refl; private = λ h. absurd (omega arith) }, tt);
  silent_touches = λ valid block flags m v. (v, (v, (gate_off valid m.write v, tt)));
  silent_others = λ valid flags m v none. silent valid flags m none;
  read_zeros = refl;
  zeros = zeros;
  zero_touches = zero_touches;
  below = λ rest h. record { low = below_at rest 19 h; high = below_at rest 20 h; sign = below_at rest 21 h };
  long = long;
  back = back;
  address = λ done. record { base = refl; imm = refl; low = refl; high = refl };
  place = λ op shift own four aligned. placed_by load_forms op shift (of_owned (λ k. each_shift load_forms k 4 ≡ true) opcodes op covers own) four aligned;
  tells = tells;
  fills = fills;
}

pub load_no_hints : NoHints (memory_form load_table)
load_no_hints = ((refl, refl), ((refl, refl), ((refl, refl), ((refl, refl), ((refl, refl), ((refl, refl), ((refl, refl), ((refl, refl), ((refl, refl), ((refl, refl), ((refl, refl), ((refl, refl), ((refl, refl), tt)))))))))))))
