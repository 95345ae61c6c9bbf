-- Steps that read two registers and write a block, and their rows.
use Rattle.std.proofs.Common.{◌≡◌, ℕ, ◌+◌, ◌^◌, ◌≤◌, ◌<◌, List, [], ◌∷◌, ◌++◌, length, map, false, Option, Some, refl, sym, ap, subst, ◌∙◌, arith, pow_mono}
use Rattle.std.specs.List.{AllByRecursion}
use Rattle.vm_field.specs.Field.{modulus}
use Rattle.vm_field.specs.declared.limbs.Limbs.{Limbs}
use Rattle.vm_field.specs.Limbs.{list_of, limbs_from}
use Rattle.vm_field.proofs.LimbLemmas.{list_of-from}
use Rattle.vm_word.specs.Arithmetic.{word_sum}
use Rattle.vm_isa.specs.declared.access.TimedAccess.{TimedAccess}
use Rattle.vm_isa.specs.declared.instr.VmInstr.{VmInstr}
use Rattle.vm_isa.specs.declared.record.StepRecord.{StepRecord}
use Rattle.vm_isa.specs.Means.{Accessed, Meaning, Fillable, Placed, means_of, is_refused, places_of, accessed_by, new_at, next_of, register, place, placed, placed_at}
use Rattle.vm_isa.specs.Words.{IsBytes, IsWord}
use Rattle.vm_isa.proofs.RegisterForm.{reads}
use Rattle.air_core.specs.Ring.{field}
use Rattle.air_core.specs.Sheet.{AllBelow}
use Rattle.air_core.specs.ListLemmas.{all_append}
use Rattle.gadget_limbs.proofs.LimbsLaws.{bytes_below}
use Rattle.gadget_time.specs.Access.{block_touch, access_at, gap_of, gap_cells}
use Rattle.gadget_time.specs.Told.{MadeBy, MadeByAll, made}
use Rattle.gadget_time.specs.lemmas.Access.{filled_access}
use Rattle.gadget_time.specs.lemmas.Filled.{gap_below}
use Rattle.gadget_time.specs.lemmas.Meant.{olds_of, means_by, recorded}
use Rattle.adapter_mem.specs.declared.memory.MemoryColumns.{MemoryColumns}
use Rattle.adapter_mem.specs.Memory.{write_touches, memory_filled, memory_cells}

-- ---- an access of a block

abbrev pub block_access : ℕ → ℕ → ℕ → List ℕ → List ℕ → Accessed
block_access slot space pointer old new = record { slot = slot; space = space; pointer = pointer; old = old; new = new }

pub record FilledBlock (hi time slot space pointer count : ℕ) (a : TimedAccess) (new : Limbs ℕ) : Type 0 where
  pub made : MadeBy hi time (block_touch field count slot space pointer (limbs_from a.access.old) new (gap_of a)) a
  pub gap : AllBelow (gap_cells (gap_of a))

pub filled_block : (hi time slot space pointer count : ℕ) (a : TimedAccess) (new : Limbs ℕ) (written : List ℕ) → placed a ≡ placed_at time (block_access slot space pointer a.access.old written) → list_of new ≡ written → hi ≤ 13
    → time + slot < 2 ^ (16 + hi) → count ≡ 1 → IsWord a.access.old → a.before < a.time → FilledBlock hi time slot space pointer count a new
filled_block hi time slot space pointer count a new written e is top ends one word before =
    let up : 16 + hi ≤ 29 = omega arith in
    let most : 2 ^ (16 + hi) ≤ 2 ^ 29 = pow_mono up in
    let t : a.time ≡ time + slot = ap (λ (x : Placed). x.time) e in
    record {
      made = record {
        count = one;
        at_time = t;
        space = sym (ap (λ (x : Placed). x.space) e);
        pointer = sym (ap (λ (x : Placed). x.pointer) e);
        old = list_of-from a.access.old word.four;
        new = is ∙ sym (ap (λ (x : Placed). x.new) e);
        gap = refl;
        before = before;
        ends = omega arith;
      };
      gap = gap_below a.time a.before (omega arith);
    }

-- ---- the columns that every table has

pub cells_below : (m : MemoryColumns ℕ) → IsBytes (list_of m.imm) → IsBytes (list_of m.base) → IsBytes (list_of m.middle) → IsBytes (list_of m.last) → m.low < modulus → m.high < modulus → AllBelow (memory_cells m)
cells_below m i b c o l h =
    all_append (λ x. x < modulus) (list_of m.imm) _ (bytes_below (list_of m.imm) i)
    (all_append (λ x. x < modulus) (list_of m.base) _ (bytes_below (list_of m.base) b)
    (all_append (λ x. x < modulus) (list_of m.middle) _ (bytes_below (list_of m.middle) c)
    (all_append (λ x. x < modulus) (list_of m.last) (m.low ∷ m.high ∷ []) (bytes_below (list_of m.last) o) (l, (h, tt)))))

-- ---- two registers are read, and a block is written

abbrev pub write_meaning : VmInstr → ℕ → ℕ → ℕ → ℕ → List ℕ → List ℕ → List ℕ → List ℕ → Meaning
write_meaning i space pointer base other b c x new = record { accesses = reads 0 base b ∷ reads 1 other c ∷ block_access 2 space pointer x new ∷ []; next = word_sum i.pc 4 }

three_made : (f : ℕ → List ℕ → List ℕ) (space pointer base other : ℕ) (b c x new : List ℕ) → f 0 b ≡ b → f 1 c ≡ c → f 2 x ≡ new
    → accessed_by f (register 0 base ∷ register 1 other ∷ place 2 space pointer ∷ []) (b ∷ c ∷ x ∷ []) ≡ reads 0 base b ∷ reads 1 other c ∷ block_access 2 space pointer x new ∷ []
unfolding accessed_by
three_made f space pointer base other b c x new p q r = rw (p, q, r) refl

pub write_means : (i : VmInstr) (space pointer base other : ℕ) (b c x new given : List ℕ) → is_refused i (b ∷ c ∷ x ∷ []) ≡ false → places_of i (b ∷ c ∷ x ∷ []) ≡ register 0 base ∷ register 1 other ∷ place 2 space pointer ∷ []
    → new_at i (b ∷ c ∷ x ∷ []) given 0 b ≡ b → new_at i (b ∷ c ∷ x ∷ []) given 1 c ≡ c → new_at i (b ∷ c ∷ x ∷ []) given 2 x ≡ new → next_of i (b ∷ c ∷ x ∷ []) ≡ word_sum i.pc 4
    → means_of i (b ∷ c ∷ x ∷ []) given ≡ Some (write_meaning i space pointer base other b c x new)
write_means i space pointer base other b c x new given fits places p q r leads =
    means_by i (b ∷ c ∷ x ∷ []) given (register 0 base ∷ register 1 other ∷ place 2 space pointer ∷ []) _ _ fits places refl
    (three_made (new_at i (b ∷ c ∷ x ∷ []) given) space pointer base other b c x new p q r) leads

-- three accesses
pub record Three (xs : List TimedAccess) : Type 0 where
  pub a : TimedAccess
  pub b : TimedAccess
  pub c : TimedAccess
  pub are : xs ≡ a ∷ b ∷ c ∷ []

pub three : (xs : List TimedAccess) → length (olds_of xs) ≡ 3 → Three xs
three [] e = absurd (omega (arith, e))
three (a ∷ []) e = absurd (omega (arith, e))
three (a ∷ b ∷ []) e = absurd (omega (arith, e))
three (a ∷ b ∷ c ∷ []) e = record { a = a; b = b; c = c; are = refl }
three (a ∷ b ∷ c ∷ d ∷ more) e = absurd (omega (arith, e))

-- the words of a record's three accesses
pub record ThreeWords (done : StepRecord) : Type 0 where
  pub first : IsWord (access_at done.accesses 0).access.old
  pub second : IsWord (access_at done.accesses 1).access.old
  pub third : IsWord (access_at done.accesses 2).access.old

pub three_words : (bits : ℕ) (done : StepRecord) → Fillable bits done → (s : Three done.accesses) → ThreeWords done
three_words bits done f s =
    let words = subst (AllByRecursion (λ (x : TimedAccess). IsWord x.access.old)) s.are f.words in
    record {
      first = rw (ap (λ (xs : List TimedAccess). access_at xs 0) s.are) words.0;
      second = rw (ap (λ (xs : List TimedAccess). access_at xs 1) s.are) words.1.0;
      third = rw (ap (λ (xs : List TimedAccess). access_at xs 2) s.are) words.1.1.0;
    }

abbrev pub three_gaps : StepRecord → List ℕ
three_gaps done = gap_cells (gap_of (access_at done.accesses 0)) ++ (gap_cells (gap_of (access_at done.accesses 1)) ++ gap_cells (gap_of (access_at done.accesses 2)))

pub gaps_below : (done : StepRecord) → AllBelow (gap_cells (gap_of (access_at done.accesses 0))) → AllBelow (gap_cells (gap_of (access_at done.accesses 1))) → AllBelow (gap_cells (gap_of (access_at done.accesses 2))) → AllBelow (three_gaps done)
gaps_below done p q r =
    all_append (λ x. x < modulus) (gap_cells (gap_of (access_at done.accesses 0))) (gap_cells (gap_of (access_at done.accesses 1)) ++ gap_cells (gap_of (access_at done.accesses 2))) p
    (all_append (λ x. x < modulus) (gap_cells (gap_of (access_at done.accesses 1))) (gap_cells (gap_of (access_at done.accesses 2))) q r)

-- what a table is given of a record
pub record WriteFilled (hi : ℕ) (done : StepRecord) (space block base other : ℕ) (new : Limbs ℕ) : Type 0 where
  pub sources : List (Option TimedAccess)
  pub made_by : MadeByAll hi done.time (write_touches field space 1 block base other (memory_filled done) new) sources
  pub are : made sources ≡ done.accesses
  pub gaps : AllBelow (three_gaps done)
  pub next : done.next ≡ word_sum done.instr.pc 4

pub write_filled : (hi : ℕ) (done : StepRecord) (s : Three done.accesses) → hi ≤ 13 → (f : Fillable (16 + hi) done) → done.time + 3 ≤ 2 ^ (16 + hi) → (space block base other : ℕ) (new : Limbs ℕ) (written : List ℕ) → base < 32 → other < 32 → list_of new ≡ written
    → means_of done.instr (s.a.access.old ∷ s.b.access.old ∷ s.c.access.old ∷ []) f.given ≡ Some (write_meaning done.instr space block base other s.a.access.old s.b.access.old s.c.access.old written)
    → WriteFilled hi done space block base other new
write_filled hi done s top f ends space block base other new written base_low other_low is whole =
    let i = done.instr in
    let olds : List (List ℕ) = s.a.access.old ∷ s.b.access.old ∷ s.c.access.old ∷ [] in
    let means : means_of i olds f.given ≡ Some f.meaning = ap (λ (xs : List TimedAccess). means_of i (olds_of xs) f.given) (sym s.are) ∙ f.means in
    let r = recorded i done.time done.next (s.a ∷ s.b ∷ s.c ∷ []) f.given f.meaning (write_meaning i space block base other s.a.access.old s.b.access.old s.c.access.old written) means f.next (ap (map placed) (sym s.are) ∙ f.accesses) whole in
    let at : placed s.a ∷ placed s.b ∷ placed s.c ∷ [] ≡ placed_at done.time (reads 0 base s.a.access.old) ∷ placed_at done.time (reads 1 other s.b.access.old) ∷ placed_at done.time (block_access 2 space block s.c.access.old written) ∷ [] = r.are in
    let words = subst (AllByRecursion (λ (x : TimedAccess). IsWord x.access.old)) s.are f.words in
    let before = subst (AllByRecursion (λ (x : TimedAccess). x.before < x.time)) s.are f.earlier in
    let first : access_at done.accesses 0 ≡ s.a = ap (λ (xs : List TimedAccess). access_at xs 0) s.are in
    let second : access_at done.accesses 1 ≡ s.b = ap (λ (xs : List TimedAccess). access_at xs 1) s.are in
    let third : access_at done.accesses 2 ≡ s.c = ap (λ (xs : List TimedAccess). access_at xs 2) s.are in
    let p = filled_access hi done.time 0 base 1 s.a (limbs_from s.a.access.old) s.a.access.old (cc) (list_of-from s.a.access.old words.0.four) top (omega (arith, ends)) base_low refl words.0 before.0 in
    let q = filled_access hi done.time 1 other 1 s.b (limbs_from s.b.access.old) s.b.access.old (cc) (list_of-from s.b.access.old words.1.0.four) top (omega (arith, ends)) other_low refl words.1.0 before.1.0 in
    let w = filled_block hi done.time 2 space block 1 s.c new written (cc) is top (omega (arith, ends)) refl words.1.1.0 before.1.1.0 in
    record {
      sources = Some s.a ∷ Some s.b ∷ Some s.c ∷ [];
      made_by = rw (first, second, third) (p.made, (q.made, (w.made, tt)));
      are = sym s.are;
      gaps = gaps_below done (rw first p.gap) (rw second q.gap) (rw third w.gap);
      next = r.next_is;
    }
