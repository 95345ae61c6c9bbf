-- The events of a row tell its step: two readings of one row are the same.
use Rattle.std.proofs.Common.{◌≡◌, ℕ, ◌+◌, ◌<◌, ◌≤◌, true, ⊎_elim, List, [], ◌∷◌, ◌++◌, length, flat_map, refl, sym, ap, subst, ◌∙◌, arith, length-append}
use Rattle.std.specs.List.{AllByRecursion}
use Rattle.vm_field.specs.Field.{modulus, field_add}
use Rattle.vm_isa.specs.declared.instr.VmInstr.{VmInstr}
use Rattle.vm_isa.specs.Words.{IsBytes}
use Rattle.vm_isa.proofs.InstrLaws.{numbers_of-same}
use Rattle.air_core.specs.declared.event.Event.{Event}
use Rattle.air_core.specs.Sheet.{Sheet, IsRow, RowHolds, row_events, sent, received}
use Rattle.air_core.specs.Lookups.{Good}
use Rattle.air_core.specs.Laws.{Sound}
use Rattle.air_core.specs.Step.{Touched, touched_events, Rising, on_bus, IsStep, SoundStep, IsMeaning}
use Rattle.air_core.specs.declared.bus.TheConstants.{MEMORY, EXECUTION, PROGRAM}

-- a list of one number more tells that number
pub last_same : (xs ys : List ℕ) (a b : ℕ) → xs ++ (a ∷ []) ≡ ys ++ (b ∷ []) → (xs ≡ ys) × (a ≡ b)
last_same [] [] a b e = (refl, cc)
last_same [] (y ∷ ys) a b e = absurd (omega (arith, ap length e, length-append ys (b ∷ [])))
last_same (x ∷ xs) [] a b e = absurd (omega (arith, ap length e, length-append xs (a ∷ [])))
last_same (x ∷ xs) (y ∷ ys) a b e =
    let tail : xs ++ (a ∷ []) ≡ ys ++ (b ∷ []) = cc in
    let head : x ≡ y = cc in
    let rest = last_same xs ys a b tail in
    (rw (head, rest.0) refl, rest.1)

touched_by : ℕ → ℕ → ℕ → List ℕ → List ℕ → ℕ → Touched
touched_by slot space pointer old new before = record { slot = slot; space = space; pointer = pointer; old = old; new = new; before = before }

touched_by-fields : (a : Touched) → touched_by a.slot a.space a.pointer a.old a.new a.before ≡ a
unfolding touched_by
touched_by-fields a = refl

touched_same : (a b : Touched) → a.slot ≡ b.slot → a.space ≡ b.space → a.pointer ≡ b.pointer → a.old ≡ b.old → a.new ≡ b.new → a.before ≡ b.before → a ≡ b
touched_same a b e f g h i j = let x = touched_by-fields a in let y = touched_by-fields b in cc

-- slots of one row that stand at one time modulo p
slot_same : (time a b slots : ℕ) → time < modulus → slots ≤ 64 → a < slots → b < slots → field_add time a ≡ field_add time b → a ≡ b
slot_same time a b slots below few p q e = omega arith

-- the two events of an access tell the access
access_same : (time slots : ℕ) (a b : Touched) → time < modulus → slots ≤ 64 → a.slot < slots → b.slot < slots
    → a.space ∷ a.pointer ∷ (a.old ++ (a.before ∷ [])) ≡ b.space ∷ b.pointer ∷ (b.old ++ (b.before ∷ []))
    → a.space ∷ a.pointer ∷ (a.new ++ (field_add time a.slot ∷ [])) ≡ b.space ∷ b.pointer ∷ (b.new ++ (field_add time b.slot ∷ [])) → a ≡ b
access_same time slots a b below few p q taken put =
    let old = last_same a.old b.old a.before b.before (let e : a.old ++ (a.before ∷ []) ≡ b.old ++ (b.before ∷ []) = cc in e) in
    let new = last_same a.new b.new (field_add time a.slot) (field_add time b.slot) (let e : a.new ++ (field_add time a.slot ∷ []) ≡ b.new ++ (field_add time b.slot ∷ []) = cc in e) in
    touched_same a b (slot_same time a.slot b.slot slots below few p q new.1) (cc) (cc) old.0 new.0 old.1

accesses_same : (time slots from to : ℕ) (xs ys : List Touched) → time < modulus → slots ≤ 64 → Rising from slots xs → Rising to slots ys
    → flat_map (touched_events time) xs ≡ flat_map (touched_events time) ys → xs ≡ ys
accesses_same time slots from to [] [] below few p q e = refl
accesses_same time slots from to [] (b ∷ ys) below few p q e = absurd (omega (arith, ap length e))
accesses_same time slots from to (a ∷ xs) [] below few p q e = absurd (omega (arith, ap length e))
accesses_same time slots from to (a ∷ xs) (b ∷ ys) below few p q e =
    let taken : received MEMORY 1 (a.space ∷ a.pointer ∷ (a.old ++ (a.before ∷ []))) ≡ received MEMORY 1 (b.space ∷ b.pointer ∷ (b.old ++ (b.before ∷ []))) = cc in
    let put : sent MEMORY 1 (a.space ∷ a.pointer ∷ (a.new ++ (field_add time a.slot ∷ []))) ≡ sent MEMORY 1 (b.space ∷ b.pointer ∷ (b.new ++ (field_add time b.slot ∷ []))) = cc in
    let more : flat_map (touched_events time) xs ≡ flat_map (touched_events time) ys = cc in
    let here = access_same time slots a b below few p.1 q.1 (ap (λ (x : Event). x.tuple) taken) (ap (λ (x : Event). x.tuple) put) in
    let rest = accesses_same time slots (a.slot + 1) (b.slot + 1) xs ys below few p.2 q.2 more in
    rw (here, rest) refl

-- one step
pub record SameStep (instr instr' : VmInstr) (time time' next next' : ℕ) (accesses accesses' : List Touched) : Type 0 where
  pub instr_same : instr ≡ instr'
  pub time_same : time ≡ time'
  pub next_same : next ≡ next'
  pub accesses_same : accesses ≡ accesses'

-- the tuples of the path
path_tuples : (a b c d : List ℕ) → received EXECUTION 1 a ∷ sent EXECUTION 1 b ∷ [] ≡ received EXECUTION 1 c ∷ sent EXECUTION 1 d ∷ [] → (a ≡ c) × (b ≡ d)
path_tuples a b c d e =
    let first : received EXECUTION 1 a ≡ received EXECUTION 1 c = cc in
    let second : sent EXECUTION 1 b ≡ sent EXECUTION 1 d = cc in
    (ap (λ (x : Event). x.tuple) first, ap (λ (x : Event). x.tuple) second)

program_tuple : (a b : List ℕ) → sent PROGRAM 1 a ∷ [] ≡ sent PROGRAM 1 b ∷ [] → a ≡ b
program_tuple a b e =
    let first : sent PROGRAM 1 a ≡ sent PROGRAM 1 b = cc in
    ap (λ (x : Event). x.tuple) first

pub step_same : (slots bits : ℕ) (instr instr' : VmInstr) (time time' next next' : ℕ) (accesses accesses' : List Touched) (events : List Event) → slots ≤ 64
    → IsStep slots bits instr time next accesses events → IsStep slots bits instr' time' next' accesses' events → SameStep instr instr' time time' next next' accesses accesses'
step_same slots bits instr instr' time time' next next' accesses accesses' events few a b =
    let path = path_tuples _ _ _ _ (sym a.spoken.path ∙ b.spoken.path) in
    let time_is : time ≡ time' = let e = path.0 in cc in
    let next_is : next ≡ next' = let e = path.1 in cc in
    let memory : flat_map (touched_events time) accesses ≡ flat_map (touched_events time) accesses'
    = sym a.spoken.memory ∙ b.spoken.memory ∙ ap (λ (t : ℕ). flat_map (touched_events t) accesses') (sym time_is) in
    record {
      instr_same = numbers_of-same instr instr' a.in_range.imm.four b.in_range.imm.four (program_tuple _ _ (sym a.spoken.program ∙ b.spoken.program));
      time_same = time_is;
      next_same = next_is;
      accesses_same = accesses_same time slots 0 0 accesses accesses' a.time_below few a.rising b.rising memory;
    }

no_path : (a b : Event) → [] ≡ a ∷ b ∷ [] → ⊥
no_path a b e = absurd (omega (arith, ap length e))

-- Law Sound, said of any reading of the row: where its old words are bytes, it is the meaning
pub meaning_of_step : (sheet : Sheet) → Sound sheet → sheet.alone ≡ true → sheet.slots ≤ 64 → (row : List ℕ) → IsRow sheet row → RowHolds sheet row → Good (row_events sheet row)
    → (instr : VmInstr) (time next : ℕ) (accesses : List Touched) → IsStep sheet.slots sheet.time_bits instr time next accesses (row_events sheet row)
    → AllByRecursion (λ a. IsBytes a.old) accesses → IsMeaning instr accesses next
meaning_of_step sheet sound alone few row is holds good instr time next accesses step bytes =
    ⊎_elim
    (λ (none : row_events sheet row ≡ []). absurd (no_path _ _ (sym (ap (on_bus 0) none) ∙ step.spoken.path)))
    (λ (s : SoundStep sheet.owns sheet.slots sheet.time_bits (row_events sheet row)).
    let same = step_same sheet.slots sheet.time_bits s.instr instr s.time time s.next next s.accesses accesses (row_events sheet row) few s.step step in
    let s_bytes = subst (AllByRecursion (λ (a : Touched). IsBytes a.old)) (sym same.accesses_same) bytes in
    let at_instr = subst (λ (i : VmInstr). IsMeaning i s.accesses s.next) same.instr_same (s.means s_bytes) in
    let at_accesses = subst (λ (xs : List Touched). IsMeaning instr xs s.next) same.accesses_same at_instr in
    subst (λ (n : ℕ). IsMeaning instr accesses n) same.next_same at_accesses)
    (sound alone row is holds good)
