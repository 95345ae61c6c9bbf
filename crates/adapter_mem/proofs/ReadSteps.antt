-- Steps that read a register and a block of memory, and write a register or not, and their rows.
use Rattle.std.proofs.Common.{◌≡◌, ℕ, ◌+◌, ◌^◌, ◌≤◌, ◌<◌, Bool, true, false, List, [], ◌∷◌, length, map, Option, Some, None, refl, sym, ap, subst, ◌∙◌, arith, lit<}
use Rattle.std.specs.Prelude.{if◌then◌else◌}
use Rattle.std.specs.List.{AllByRecursion}
use Rattle.vm_field.specs.Field.{field_mul}
use Rattle.vm_field.specs.declared.limbs.Limbs.{Limbs}
use Rattle.vm_field.specs.Limbs.{list_of, limbs_from}
use Rattle.vm_field.proofs.LimbLemmas.{list_of-from}
use Rattle.vm_word.specs.Arithmetic.{word_sum}
use Rattle.vm_isa.specs.declared.access.TimedAccess.{TimedAccess}
use Rattle.vm_isa.specs.declared.instr.VmInstr.{VmInstr}
use Rattle.vm_isa.specs.declared.record.StepRecord.{StepRecord}
use Rattle.vm_isa.specs.Instr.{bit_of}
use Rattle.vm_isa.specs.Means.{Meaning, Fillable, means_of, is_refused, places_of, accessed_by, new_at, next_of, register, memory, placed, placed_at}
use Rattle.vm_isa.specs.Words.{IsBytes, IsWord}
use Rattle.vm_isa.proofs.RegisterForm.{reads, writes}
use Rattle.air_core.specs.Ring.{field}
use Rattle.air_core.specs.Sheet.{AllBelow}
use Rattle.gadget_time.specs.Access.{register_touch, access_at, gap_of, gap_cells}
use Rattle.gadget_time.specs.Told.{MadeByAll, made, gap_filled}
use Rattle.gadget_time.specs.lemmas.Access.{filled_access}
use Rattle.gadget_time.specs.lemmas.Meant.{olds_of, means_by, recorded}
use Rattle.adapter_mem.specs.Memory.{read_touches, memory_filled}
use Rattle.adapter_mem.proofs.WriteSteps.{block_access, filled_block, three_gaps, gaps_below}

-- ---- the meaning

-- the old word of rd is there where it is written
abbrev pub read_meaning : VmInstr → ℕ → List ℕ → List ℕ → List ℕ → List (List ℕ) → Meaning
read_meaning i pointer b x new old = record { accesses = reads 0 i.rs1 b ∷ block_access 1 2 pointer x x ∷ map (λ o. writes 2 i.rd o new) old; next = word_sum i.pc 4 }

pub third_count : (w : Bool) (rd : ℕ) → length (if w then register 2 rd ∷ [] else []) ≡ bit_of w
third_count true rd = refl
third_count false rd = refl

accessed : (f : ℕ → List ℕ → List ℕ) (w : Bool) (rd : ℕ) (new : List ℕ) (old : List (List ℕ)) → length old ≡ bit_of w → ((o : List ℕ) → f 2 o ≡ new) → accessed_by f (if w then register 2 rd ∷ [] else []) old ≡ map (λ o. writes 2 rd o new) old
unfolding accessed_by
accessed f true rd new (o ∷ []) long r = rw (r o) refl
accessed f false rd new [] long r = refl
accessed f true rd new [] long r = absurd (omega (arith, long))
accessed f true rd new (o ∷ p ∷ more) long r = absurd (omega (arith, long))
accessed f false rd new (o ∷ more) long r = absurd (omega (arith, long))

pub reads_mean : (i : VmInstr) (pointer : ℕ) (b x new given : List ℕ) (old : List (List ℕ)) → length old ≡ bit_of i.write → is_refused i (b ∷ x ∷ old) ≡ false → places_of i (b ∷ x ∷ old) ≡ register 0 i.rs1 ∷ memory 1 pointer ∷ (if i.write then register 2 i.rd ∷ [] else [])
    → new_at i (b ∷ x ∷ old) given 0 b ≡ b → new_at i (b ∷ x ∷ old) given 1 x ≡ x → ((o : List ℕ) → new_at i (b ∷ x ∷ old) given 2 o ≡ new) → next_of i (b ∷ x ∷ old) ≡ word_sum i.pc 4
    → means_of i (b ∷ x ∷ old) given ≡ Some (read_meaning i pointer b x new old)
unfolding accessed_by
reads_mean i pointer b x new given old long fits places p q r leads =
    means_by i (b ∷ x ∷ old) given _ _ _ fits places (omega (arith, long, third_count i.write i.rd))
    (rw (p, q, accessed (new_at i (b ∷ x ∷ old) given) i.write i.rd new old long r) refl) leads

-- ---- the accesses of a record

-- two, and a third where the register is written
pub record ReadAccesses (w : Bool) (xs : List TimedAccess) : Type 0 where
  pub first : TimedAccess
  pub second : TimedAccess
  pub more : List TimedAccess
  pub are : xs ≡ first ∷ second ∷ more
  pub long : length (olds_of more) ≡ bit_of w

pub read_accesses : (w : Bool) (xs : List TimedAccess) → length (olds_of xs) ≡ 2 + bit_of w → ReadAccesses w xs
read_accesses w [] e = absurd (omega (arith, e))
read_accesses w (a ∷ []) e = absurd (omega (arith, e))
read_accesses w (a ∷ x ∷ more) e = record { first = a; second = x; more = more; are = refl; long = omega (arith, e) }

pub second_word : (bits : ℕ) (done : StepRecord) → Fillable bits done → ReadAccesses done.instr.write done.accesses → IsWord (access_at done.accesses 1).access.old
second_word bits done f s =
    let words = subst (AllByRecursion (λ (x : TimedAccess). IsWord x.access.old)) s.are f.words in
    rw (ap (λ (xs : List TimedAccess). access_at xs 1) s.are) words.1.0

-- the third access, or columns of zeros
record Third (hi time rd : ℕ) (w : Bool) (a : TimedAccess) (new : Limbs ℕ) (more : List TimedAccess) : Type 0 where
  source : Option TimedAccess
  made_by : MadeByAll hi time (register_touch field (field_mul 1 (bit_of w)) 2 rd (limbs_from a.access.old) new (gap_of a) ∷ []) (source ∷ [])
  are : made (source ∷ []) ≡ more
  old : IsBytes (list_of (limbs_from a.access.old))
  gap : AllBelow (gap_cells (gap_of a))

third : (hi time rd : ℕ) → hi ≤ 13 → rd < 32 → time + 3 ≤ 2 ^ (16 + hi) → (new : Limbs ℕ) (w : Bool) (more : List TimedAccess) → length (olds_of more) ≡ bit_of w
    → map placed more ≡ map (placed_at time) (map (λ o. writes 2 rd o (list_of new)) (olds_of more))
    → AllByRecursion (λ (t : TimedAccess). IsWord t.access.old) more → AllByRecursion (λ (t : TimedAccess). t.before < t.time) more → Third hi time rd w (access_at more 0) new more
unfolding limbs_from list_of gap_filled
third hi time rd top low ends new true (o ∷ []) long at words before =
    let t = filled_access hi time 2 rd 1 o new (list_of new) (cc) refl top (omega (arith, ends)) low refl words.0 before.0 in
    record { source = Some o; made_by = (t.made, tt); are = refl; old = t.old; gap = t.gap }
third hi time rd top low ends new false [] long at words before =
    record { source = None; made_by = (refl, tt); are = refl; old = (lit< tt, (lit< tt, (lit< tt, (lit< tt, tt)))); gap = (lit< tt, (lit< tt, (lit< tt, tt))) }
third hi time rd top low ends new true [] long at words before = absurd (omega (arith, long))
third hi time rd top low ends new true (o ∷ p ∷ more) long at words before = absurd (omega (arith, long))
third hi time rd top low ends new false (o ∷ more) long at words before = absurd (omega (arith, long))

-- what a table is given of a record
pub record ReadFilled (hi : ℕ) (done : StepRecord) (block : ℕ) (new : Limbs ℕ) : Type 0 where
  pub sources : List (Option TimedAccess)
  pub made_by : MadeByAll hi done.time (read_touches field 1 block (memory_filled done) new) sources
  pub are : made sources ≡ done.accesses
  pub last : IsBytes (list_of (limbs_from (access_at done.accesses 2).access.old))
  pub gaps : AllBelow (three_gaps done)
  pub next : done.next ≡ word_sum done.instr.pc 4

pub read_filled : (hi : ℕ) (done : StepRecord) (s : ReadAccesses done.instr.write done.accesses) → hi ≤ 13 → (f : Fillable (16 + hi) done) → done.time + 3 ≤ 2 ^ (16 + hi) → (block : ℕ) (new : Limbs ℕ)
    → means_of done.instr (olds_of (s.first ∷ s.second ∷ s.more)) f.given ≡ Some (read_meaning done.instr block s.first.access.old s.second.access.old (list_of new) (olds_of s.more)) → ReadFilled hi done block new
read_filled hi done s top f ends block new whole =
    let i = done.instr in
    let a = s.first in
    let x = s.second in
    let means : means_of i (olds_of (a ∷ x ∷ s.more)) f.given ≡ Some f.meaning = ap (λ (xs : List TimedAccess). means_of i (olds_of xs) f.given) (sym s.are) ∙ f.means in
    let r = recorded i done.time done.next (a ∷ x ∷ s.more) f.given f.meaning (read_meaning i block a.access.old x.access.old (list_of new) (olds_of s.more)) means f.next (ap (map placed) (sym s.are) ∙ f.accesses) whole in
    let at : placed a ∷ placed x ∷ map placed s.more ≡ placed_at done.time (reads 0 i.rs1 a.access.old) ∷ placed_at done.time (block_access 1 2 block x.access.old x.access.old)
    ∷ map (placed_at done.time) (map (λ o. writes 2 i.rd o (list_of new)) (olds_of s.more)) = r.are in
    let words = subst (AllByRecursion (λ (t : TimedAccess). IsWord t.access.old)) s.are f.words in
    let before = subst (AllByRecursion (λ (t : TimedAccess). t.before < t.time)) s.are f.earlier in
    let first : access_at done.accesses 0 ≡ a = ap (λ (xs : List TimedAccess). access_at xs 0) s.are in
    let second : access_at done.accesses 1 ≡ x = ap (λ (xs : List TimedAccess). access_at xs 1) s.are in
    let last : access_at done.accesses 2 ≡ access_at s.more 0 = ap (λ (xs : List TimedAccess). access_at xs 2) s.are in
    let p = filled_access hi done.time 0 i.rs1 1 a (limbs_from a.access.old) a.access.old (cc) (list_of-from a.access.old words.0.four) top (omega (arith, ends)) f.in_range.rs1 refl words.0 before.0 in
    let q = filled_block hi done.time 1 2 block 1 x (limbs_from x.access.old) x.access.old (cc) (list_of-from x.access.old words.1.0.four) top (omega (arith, ends)) refl words.1.0 before.1.0 in
    let t = third hi done.time i.rd top f.in_range.rd ends new i.write s.more s.long (cc) words.1.1 before.1.1 in
    record {
      sources = Some a ∷ Some x ∷ t.source ∷ [];
      made_by = rw (first, second, last) (p.made, (q.made, t.made_by));
      are = ap (λ (xs : List TimedAccess). a ∷ x ∷ xs) t.are ∙ sym s.are;
      last = rw last t.old;
      gaps = gaps_below done (rw first p.gap) (rw second q.gap) (rw last t.gap);
      next = r.next_is;
    }
