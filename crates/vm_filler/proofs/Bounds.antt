-- The numbers of records are below the field's modulus: pcs, times of accesses and where the records end.
use Rattle.std.proofs.Common.{◌≡◌, ℕ, ◌+◌, ◌^◌, ◌<◌, ◌≤◌, Bool, true, false, cond, ◌&&◌, ◌||◌, nat_eq, nat_lt, List, [], ◌∷◌, length, map, Option, Some, refl, sym, ap, ◌∙◌, subst, arith}
use Rattle.std.specs.Prelude.{not, if◌then◌else◌}
use Rattle.std.specs.List.{AllByRecursion}
use Rattle.std.proofs.Math.Pow.{pow_mono}
use Rattle.std.proofs.lemmas.Bool.{eqb-true}
use Rattle.std.proofs.lemmas.Bool.Decides.{nat_tests}
use Rattle.vm_field.specs.Field.{modulus}
use Rattle.vm_isa.specs.declared.access.TimedAccess.{TimedAccess}
use Rattle.vm_isa.specs.declared.instr.VmInstr.{VmInstr}
use Rattle.vm_isa.specs.declared.record.StepRecord.{StepRecord}
use Rattle.vm_isa.specs.Instr.{InRange}
use Rattle.vm_isa.specs.Laws.{SlotsRise}
use Rattle.vm_isa.specs.Means.{Accessed, Meaning, Placed, Fillable, after, bars_first, bars_second, is_high, is_refused, jalr_target, known, next_of, places_by, places_of, placed, placed_at, register, word_at}
use Rattle.vm_isa.specs.Opcodes.{has_meaning, is_branch, is_load, is_store, JAL, JALR}
use Rattle.vm_isa.specs.Results.{is_taken}
use Rattle.vm_isa.specs.Slots.{slots_of}
use Rattle.vm_isa.proofs.NextLaws.{meant}
use Rattle.vm_isa.proofs.SlotRises.{meaning_rises}
use Rattle.exec_path.specs.Path.{Point}
use Rattle.offline_memory.specs.Memory.{Access, after_access, after_all, is_cell_at}
use Rattle.air_core.specs.ListLemmas.{all_append}
use Rattle.vm_executor.specs.Records.{accesses_of, access_of, point_after}

-- ---- the next pc

second_false : (a b c : Bool) → (a || (b || c)) ≡ false → b ≡ false
second_false true b c h = absurd (cc)
second_false false true c h = absurd (cc)
second_false false false c h = refl

test_false : (a b : Bool) → (a && b) ≡ false → b ≡ true → a ≡ false
test_false true b h holds = absurd (let z : true ≡ false = sym holds ∙ h in cc)
test_false false b h holds = refl

not_high : (pointer : ℕ) (b : Bool) → nat_lt pointer (2 ^ 29) ≡ b → not b ≡ false → pointer < 2 ^ 29
not_high pointer true e h = grind (arith, nat_tests)
not_high pointer false e h = absurd (cc)

-- a target that isn't refused is low
jalr_bars : (i : VmInstr) (b : ℕ) → i.op ≡ JALR → bars_first i b ≡ is_high (jalr_target i b)
unfolding bars_first
jalr_bars i b h =
    let other : (is_load i.op || is_store i.op) ≡ false = ap (λ (op : ℕ). is_load op || is_store op) h in
    let here : nat_eq i.op JALR ≡ true = ap (λ (op : ℕ). nat_eq op JALR) h in
    rw (other, here) refl

jalr_fits : (i : VmInstr) (word : List ℕ) (more : List (List ℕ)) → i.op ≡ JALR → is_refused i (word ∷ more) ≡ false → is_high (jalr_target i (word_at (word ∷ more) 0)) ≡ false
unfolding is_refused
jalr_fits i word more h fits =
    let olds = word ∷ more in
    let barred = second_false (not (has_meaning i.op)) (known olds 0 (bars_first i (word_at olds 0))) (known olds 1 (bars_second i (word_at olds 1))) fits in
    let some : nat_lt 0 (length olds) ≡ true = grind (arith, nat_tests) in
    sym (jalr_bars i (word_at olds 0) h) ∙ test_false (bars_first i (word_at olds 0)) (nat_lt 0 (length olds)) barred some

jalr_reads : (i : VmInstr) (b c : ℕ) → i.op ≡ JALR → 1 ≤ length (places_by i b c)
unfolding places_by
jalr_reads i b c h = rw h (by_write i.write)
  where
    by_write : (w : Bool) → 1 ≤ length (if w then register 0 i.rs1 ∷ register 1 i.rd ∷ [] else register 0 i.rs1 ∷ [])
    by_write true = omega arith
    by_write false = omega arith

jalr_low : (i : VmInstr) (olds : List (List ℕ)) → i.op ≡ JALR → is_refused i olds ≡ false → length olds ≡ length (places_of i olds) → jalr_target i (word_at olds 0) < 2 ^ 29
jalr_low i [] h fits long = absurd (omega (arith, long, jalr_reads i (word_at [] 0) (word_at [] 1) h))
jalr_low i (word ∷ more) h fits long = not_high (jalr_target i (word_at (word ∷ more) 0)) (nat_lt (jalr_target i (word_at (word ∷ more) 0)) (2 ^ 29)) refl (jalr_fits i word more h fits)

after_low : (i : VmInstr) → InRange i → after i < modulus
after_low i range = let low = range.low in omega (arith, low)

next_low : (i : VmInstr) (olds : List (List ℕ)) → InRange i → is_refused i olds ≡ false → length olds ≡ length (places_of i olds) → next_of i olds < modulus
unfolding next_of
next_low i olds range fits long = by_branch (is_branch i.op)
  where
    by_taken : (b : Bool) → (if b then i.target else after i) < modulus
    by_taken true = omega (arith, range.target)
    by_taken false = after_low i range

    by_jalr : (b : Bool) → nat_eq i.op JALR ≡ b → (if b then jalr_target i (word_at olds 0) else after i) < modulus
    by_jalr true e = omega (arith, jalr_low i olds (eqb-true i.op JALR e) fits long)
    by_jalr false e = after_low i range

    by_jal : (b : Bool) → (if b then i.target else if nat_eq i.op JALR then jalr_target i (word_at olds 0) else after i) < modulus
    by_jal true = omega (arith, range.target)
    by_jal false = by_jalr (nat_eq i.op JALR) refl

    by_branch : (b : Bool) → (if b then (if is_taken i.op (word_at olds 0) (word_at olds 1) then i.target else after i) else if nat_eq i.op JAL then i.target else if nat_eq i.op JALR then jalr_target i (word_at olds 0) else after i) < modulus
    by_branch true = by_taken (is_taken i.op (word_at olds 0) (word_at olds 1))
    by_branch false = by_jal (nat_eq i.op JAL)

record_next : (bits : ℕ) (d : StepRecord) → Fillable bits d → d.next < modulus
record_next bits d f =
    let olds = map (λ (a : TimedAccess). a.access.old) d.accesses in
    let is = meant d.instr olds f.given f.meaning f.means in
    let same : d.next ≡ next_of d.instr olds = f.next ∙ ap (λ (m : Meaning). m.next) is.is in
    omega (arith, same, next_low d.instr olds f.in_range is.fits is.long)

-- where records lead from a point below it
pub record Low (p : Point) : Type 0 where
  pub pc : p.pc < modulus
  pub time : p.time < modulus

below_bits : (bits n : ℕ) → bits ≤ 29 → n ≤ 2 ^ bits → n < modulus
below_bits bits n few low = let up : 2 ^ bits ≤ 2 ^ 29 = pow_mono few in omega (arith, low, up)

pub ends_low : (bits : ℕ) (from : Point) (done : List StepRecord) → bits ≤ 29 → AllByRecursion (λ d. Fillable bits d) done → Low from → Low (point_after from done)
ends_low bits from [] few f low = low
ends_low bits from (d ∷ done) few f low =
    ends_low bits (record { pc = d.next; time = d.time + slots_of d.instr.op }) done few f.1 (record { pc = record_next bits d f.0; time = below_bits bits (d.time + slots_of d.instr.op) few f.0.ends })

-- ---- times of accesses

placed_low : (bits time from slots : ℕ) → bits ≤ 29 → time + slots ≤ 2 ^ bits → (meaning : List Accessed) (accesses : List TimedAccess) → SlotsRise from slots meaning → map placed accesses ≡ map (placed_at time) meaning
    → AllByRecursion (λ a. a.time < modulus) (map access_of accesses)
placed_low bits time from slots few ends meaning [] rises same = tt
placed_low bits time from slots few ends [] (a ∷ accesses) rises same = absurd (cc)
placed_low bits time from slots few ends (m ∷ meaning) (a ∷ accesses) rises same =
    let here : placed a ≡ placed_at time m = cc in
    let rest : map placed accesses ≡ map (placed_at time) meaning = cc in
    let at : a.time ≡ time + m.slot = ap (λ (p : Placed). p.time) here in
    (below_bits bits a.time few (omega (arith, at, rises.1, ends)), placed_low bits time (m.slot + 1) slots few ends meaning accesses rises.2 rest)

pub times_low : (bits : ℕ) (done : List StepRecord) → bits ≤ 29 → AllByRecursion (λ d. Fillable bits d) done → AllByRecursion (λ a. a.time < modulus) (accesses_of done)
times_low bits [] few f = tt
times_low bits (d ∷ done) few f =
    all_append (λ (a : Access). a.time < modulus) (map access_of d.accesses) (accesses_of done)
    (placed_low bits d.time 0 (slots_of d.instr.op) few f.0.ends f.0.meaning.accesses d.accesses
    (meaning_rises d.instr (map (λ (a : TimedAccess). a.access.old) d.accesses) f.0.given f.0.meaning f.0.means) f.0.accesses)
    (times_low bits done few f.1)

-- the last time of a block is that of an access
pub last_low : (accesses : List Access) (lasts : ℕ → ℕ → Option (List ℕ × ℕ)) (s p : ℕ) (c : List ℕ × ℕ) → AllByRecursion (λ a. a.time < modulus) accesses
    → ((s p : ℕ) (c : List ℕ × ℕ) → lasts s p ≡ Some c → c.1 < modulus) → after_all accesses lasts s p ≡ Some c → c.1 < modulus
last_low [] lasts s p c low before is = before s p c is
last_low (a ∷ more) lasts s p c low before is =
    last_low more (after_access a lasts) s p c low.1 (λ s p c h. by_place s p c (is_cell_at a.space a.pointer s p) h) is
  where
    by_place : (s p : ℕ) (c : List ℕ × ℕ) (b : Bool) → cond b (Some (a.new, a.time)) (lasts s p) ≡ Some c → c.1 < modulus
    by_place s p c true h =
        let both : ◌≡◌ {A = List ℕ × ℕ} (a.new, a.time) c = cc in
        subst (λ (t : List ℕ × ℕ). t.1 < modulus) both low.0
    by_place s p c false h = before s p c h
