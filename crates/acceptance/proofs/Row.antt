-- One row: its step, its time and its hint.
use Rattle.std.proofs.Common.{◌≡◌, ℕ, ◌+◌, ◌<◌, ◌≤◌, Bool, true, false, cond, ◌||◌, nat_eq, List, [], ◌∷◌, ◌++◌, refl, sym, ap, ◌∙◌, subst, arith, inl, inr, Contains}
use Rattle.std.specs.Prelude.{flat_map, if◌then◌else◌}
use Rattle.std.specs.List.{AllByRecursion, list_any}
use Rattle.std.proofs.lemmas.Bool.{ne_eqb, eq-eqb, eqb-true}
use Rattle.std.proofs.lemmas.List.Elements.{All-contains, All-from_recursion}
use Rattle.vm_field.specs.Field.{modulus, field_add}
use Rattle.vm_isa.specs.declared.instr.VmInstr.{VmInstr}
use Rattle.vm_isa.specs.Instr.{InRange, numbers_of}
use Rattle.air_core.specs.declared.bus.TheConstants.{EXECUTION, PROGRAM, MEMORY}
use Rattle.air_core.specs.declared.event.Event.{Event}
use Rattle.air_core.specs.declared.event.Side.TheVariants.{Send, Receive}
use Rattle.air_core.specs.declared.hint.HintWord.{HintWord}
use Rattle.air_core.specs.Hint.{is_program, sends_program, NoHint, IsHint, BeginsAt, Writes}
use Rattle.air_core.specs.Orders.{Member}
use Rattle.air_core.specs.Sheet.{sent, received}
use Rattle.air_core.specs.Step.{Touched, touched_events, Rising, on_bus, if_on, IsStep}
use Rattle.air_core.specs.System.{times_of}
use Rattle.air_core.specs.ListLemmas.{all_weaker}
use Rattle.air_core.proofs.ElementLemmas.{all_at, all_from_members, member_left, member_right, member_flat_map, member_piece, member_cases}
use Rattle.air_core.proofs.Only.{times_on_bus}
use Rattle.air_core.proofs.StepLaws.{last_same}
use Rattle.offline_memory.proofs.Members.{contains_from_member}
use Rattle.acceptance.specs.OneRun.{RowStep}
use Rattle.acceptance.specs.Events.{is_valid}

-- ---- lists of events

member_on_bus : (bus : ℕ) (e : Event) (events : List Event) → Member e events → e.bus ≡ bus → Member e (on_bus bus events)
member_on_bus bus e [] h at = h
member_on_bus bus e (x ∷ xs) (inl same) at = member_left e (if_on bus x) (on_bus bus xs) (rw (eq-eqb x.bus bus (ap (λ (y : Event). y.bus) same ∙ at)) (inl same))
member_on_bus bus e (x ∷ xs) (inr h) at = member_right e (if_on bus x) (on_bus bus xs) (member_on_bus bus e xs h at)

-- an event that stands there is on its bus
contained_on_bus : (e : Event) (events : List Event) → Contains events e → Member e (on_bus e.bus events)
contained_on_bus e events h =
    All-contains (λ (x : Event). Member x (on_bus x.bus events)) events e
    (All-from_recursion (λ (x : Event). Member x (on_bus x.bus events)) events (all_from_members (λ (x : Event). Member x (on_bus x.bus events)) events (λ x k. member_on_bus x.bus x events k refl)))
    h

member_if : (y e : Event) (b : Bool) → Member y (cond b (e ∷ []) []) → e ≡ y
member_if y e true (inl same) = same
member_if y e true (inr h) = elim h [ ]
member_if y e false h = elim h [ ]

pub on_bus_member : (bus : ℕ) (y : Event) (events : List Event) → Member y (on_bus bus events) → Member y events
on_bus_member bus y [] h = h
on_bus_member bus y (e ∷ es) h =
    elim (member_cases y (if_on bus e) (on_bus bus es) h) [
      | inl a ↦ inl (member_if y e (nat_eq e.bus bus) a)
      | inr b ↦ inr (on_bus_member bus y es b)
    ]

-- what a test of events on one bus finds
module _ (bus : ℕ) (test : Event → Bool) (only : (e : Event) → nat_eq e.bus bus ≡ false → test e ≡ false) where
  any_by : (e : Event) (es : List Event) (b : Bool) → nat_eq e.bus bus ≡ b → list_any test es ≡ list_any test (on_bus bus es) → list_any test (e ∷ es) ≡ list_any test (cond b (e ∷ []) [] ++ on_bus bus es)
  any_by e es true at more = ap (λ (t : Bool). test e || t) more
  any_by e es false at more = rw (only e at) more

  pub any_on_bus : (events : List Event) → list_any test events ≡ list_any test (on_bus bus events)
  any_on_bus [] = refl
  any_on_bus (e ∷ es) = any_by e es (nat_eq e.bus bus) refl (any_on_bus es)

program_only : (op : ℕ) (e : Event) → nat_eq e.bus 1 ≡ false → is_program op e ≡ false
program_only op e h = rw h refl

pub path_only : (e : Event) → nat_eq e.bus 0 ≡ false → nat_eq e.bus 0 ≡ false
path_only e h = h

or_false : (b : Bool) → (b || false) ≡ b
or_false true = refl
or_false false = refl

sends_of_row : (op : ℕ) (instr : VmInstr) → list_any (is_program op) (sent PROGRAM 1 (numbers_of instr) ∷ []) ≡ nat_eq instr.op op
unfolding numbers_of
sends_of_row op instr = or_false (nat_eq instr.op op)

pub sends_by : (op : ℕ) (instr : VmInstr) (events : List Event) → on_bus 1 events ≡ sent PROGRAM 1 (numbers_of instr) ∷ [] → sends_program op events ≡ nat_eq instr.op op
sends_by op instr events e = any_on_bus 1 (is_program op) (program_only op) events ∙ ap (list_any (is_program op)) e ∙ sends_of_row op instr

-- ---- a row that says nothing below bus 3

abbrev pub IsSilent : List Event → Type 0
IsSilent events = AllByRecursion (λ e. 3 ≤ e.bus) events

pub silent_invalid : (events : List Event) → IsSilent events → is_valid events ≡ false
silent_invalid [] h = refl
silent_invalid (e ∷ es) h = rw (ne_eqb e.bus 0 (λ z. omega (arith, h.0, z))) (silent_invalid es h.1)

pub silent_times : (events : List Event) → IsSilent events → times_of events ≡ []
silent_times [] h = refl
silent_times (e ∷ es) h = rw (ne_eqb e.bus 0 (λ z. omega (arith, h.0, z))) (silent_times es h.1)

pub silent_sends : (op : ℕ) (events : List Event) → IsSilent events → sends_program op events ≡ false
silent_sends op [] h = refl
silent_sends op (e ∷ es) h = rw (ne_eqb e.bus 1 (λ z. omega (arith, h.0, z))) (silent_sends op es h.1)

pub silent_is_no_hint : (events : List Event) → IsSilent events → NoHint events
silent_is_no_hint events silent = record { hint = silent_sends 37 events silent; next = silent_sends 42 events silent }

-- so it is no hint
pub silent_no_hint : (h : HintWord) (events : List Event) → IsSilent events → IsHint h events → ⊥
silent_no_hint h events silent is =
    let none : sends_program (if h.next then 42 else 37) events ≡ false = silent_sends (if h.next then 42 else 37) events silent in
    let some = is.opcode in
    absurd (cc)

-- ---- a valid row

pub path_any : (a b : List ℕ) → list_any (λ e. nat_eq e.bus 0) (received EXECUTION 1 a ∷ sent EXECUTION 1 b ∷ []) ≡ true
path_any a b = refl

-- the new word of the access in slot 1
abbrev pub slot_word : List Touched → List ℕ
slot_word [] = []
slot_word (a ∷ more) = if nat_eq a.slot 1 then a.new else slot_word more

-- what a step takes of the host's words
abbrev pub step_hint : RowStep → List HintWord
step_hint step = if nat_eq step.instr.op 37 then record { time = step.time; word = slot_word step.accesses; next = false } ∷ [] else []

rising_low : (from slots : ℕ) (xs : List Touched) → Rising from slots xs → AllByRecursion (λ a. (from ≤ a.slot) × (a.slot < slots)) xs
rising_low from slots [] r = tt
rising_low from slots (a ∷ more) r =
    ((r.0, r.1), all_weaker (λ b. (a.slot + 1 ≤ b.slot) × (b.slot < slots)) (λ b. (from ≤ b.slot) × (b.slot < slots)) (λ b h. (omega (arith, h.0, r.0), h.1)) more (rising_low (a.slot + 1) slots more r.2))

slot_word_of : (from slots : ℕ) (a : Touched) (xs : List Touched) → Rising from slots xs → Member a xs → a.slot ≡ 1 → slot_word xs ≡ a.new
slot_word_of from slots a [] r h is = elim h [ ]
slot_word_of from slots a (x ∷ xs) r (inl same) is = rw (eq-eqb x.slot 1 (ap (λ (y : Touched). y.slot) same ∙ is)) (ap (λ (y : Touched). y.new) same)
slot_word_of from slots a (x ∷ xs) r (inr h) is =
    let later = all_at (λ b. (x.slot + 1 ≤ b.slot) × (b.slot < slots)) xs a h (rising_low (x.slot + 1) slots xs r.2) in
    rw (ne_eqb x.slot 1 (λ e. omega (arith, e, is, later.0))) (slot_word_of (x.slot + 1) slots a xs r.2 h is)

slot_one : (time slot : ℕ) → time < modulus → slot < 64 → field_add time slot ≡ field_add time 1 → slot ≡ 1
slot_one time slot below few e = omega arith

begins_at : (pc time from_pc from_time to_pc to_time : ℕ) → Member (received EXECUTION 1 (pc ∷ time ∷ [])) (received EXECUTION 1 (from_pc ∷ from_time ∷ []) ∷ sent EXECUTION 1 (to_pc ∷ to_time ∷ []) ∷ []) → time ≡ from_time
begins_at pc time from_pc from_time to_pc to_time (inl e) =
    let tuple : from_pc ∷ from_time ∷ [] ≡ pc ∷ time ∷ [] = ap (λ (y : Event). y.tuple) e in
    cc
begins_at pc time from_pc from_time to_pc to_time (inr (inl e)) = let side : Send ≡ Receive = ap (λ (y : Event). y.side) e in absurd (cc)
begins_at pc time from_pc from_time to_pc to_time (inr (inr h)) = elim h [ ]

-- an access that writes a word one slot after the row's time
written_by : (time pointer : ℕ) (word : List ℕ) (a : Touched) → time < modulus → a.slot < 64 → Member (sent MEMORY 1 (2 ∷ pointer ∷ (word ++ (field_add time 1 ∷ [])))) (touched_events time a) → (a.slot ≡ 1) × (a.new ≡ word)
written_by time pointer word a below few (inl e) = let side : Receive ≡ Send = ap (λ (y : Event). y.side) e in absurd (cc)
written_by time pointer word a below few (inr (inl e)) =
    let tuple : a.space ∷ a.pointer ∷ (a.new ++ (field_add time a.slot ∷ [])) ≡ 2 ∷ pointer ∷ (word ++ (field_add time 1 ∷ [])) = ap (λ (y : Event). y.tuple) e in
    let tail : a.new ++ (field_add time a.slot ∷ []) ≡ word ++ (field_add time 1 ∷ []) = cc in
    let same = last_same a.new word (field_add time a.slot) (field_add time 1) tail in
    (slot_one time a.slot below few same.1, same.0)
written_by time pointer word a below few (inr (inr h)) = elim h [ ]

hint_made : ℕ → List ℕ → Bool → HintWord
hint_made time word next = record { time = time; word = word; next = next }

hint_made-fields : (h : HintWord) → hint_made h.time h.word h.next ≡ h
unfolding hint_made
hint_made-fields h = refl

pub no_opcode : (instr : VmInstr) → InRange instr → instr.op ≡ 42 → ⊥
no_opcode instr range is = let low = range.opcode in let high : false ≡ true = rw is at low in absurd (cc)

module _ (slots bits : ℕ) (instr : VmInstr) (time next : ℕ) (accesses : List Touched) (events : List Event) (few : slots ≤ 64) (step : IsStep slots bits instr time next accesses events) where
  pub step_valid : is_valid events ≡ true
  step_valid = any_on_bus 0 (λ (e : Event). nat_eq e.bus 0) path_only events ∙ ap (list_any (λ (e : Event). nat_eq e.bus 0)) step.spoken.path

  pub step_times : times_of events ≡ time ∷ []
  step_times = times_on_bus events ∙ ap times_of step.spoken.path

  sends : (op : ℕ) → sends_program op events ≡ nat_eq instr.op op
  sends op = sends_by op instr events step.spoken.program

  -- a row that is no hint has another opcode
  pub no_hint_step : NoHint events → nat_eq instr.op 37 ≡ false
  no_hint_step none = sym (sends 37) ∙ none.hint

  hint_time : (t : ℕ) → BeginsAt t events → t ≡ time
  hint_time t begins =
      begins_at begins.pc t instr.pc time next (field_add time slots)
      (subst (Member (received EXECUTION 1 (begins.pc ∷ t ∷ []))) step.spoken.path (contained_on_bus (received EXECUTION 1 (begins.pc ∷ t ∷ [])) events begins.received_at))

  hint_word : (word : List ℕ) → Writes time word events → slot_word accesses ≡ word
  hint_word word writes =
      let event = sent MEMORY 1 (2 ∷ writes.pointer ∷ (word ++ (field_add time 1 ∷ []))) in
      let there : Member event (flat_map (touched_events time) accesses) = subst (Member event) step.spoken.memory (contained_on_bus event events writes.written) in
      let piece = member_flat_map (touched_events time) event accesses there in
      let low = all_at (λ b. (0 ≤ b.slot) × (b.slot < slots)) accesses piece.of piece.stands (rising_low 0 slots accesses step.rising) in
      let is = written_by time writes.pointer word piece.of step.time_below (omega (arith, low.1, few)) piece.inside in
      slot_word_of 0 slots piece.of accesses step.rising piece.stands is.0 ∙ is.1

  -- a row that is one has this opcode, its time and the word of its second access
  pub hint_step : (h : HintWord) → IsHint h events → (nat_eq instr.op 37 ≡ true) × (h ≡ record { time = time; word = slot_word accesses; next = false })
  hint_step h is = by_next h.next refl
    where
      by_next : (b : Bool) → h.next ≡ b → (nat_eq instr.op 37 ≡ true) × (h ≡ record { time = time; word = slot_word accesses; next = false })
      by_next true n =
          let opcode : sends_program 42 events ≡ true = rw n at is.opcode in
          absurd (no_opcode instr step.in_range (eqb-true instr.op 42 (sym (sends 42) ∙ opcode)))
      by_next false n =
          let opcode : sends_program 37 events ≡ true = rw n at is.opcode in
          let at : h.time ≡ time = hint_time h.time is.time in
          let writes : Writes h.time h.word events = rw n at is.word in
          let word : slot_word accesses ≡ h.word = hint_word h.word (subst (λ (t : ℕ). Writes t h.word events) at writes) in
          let made : hint_made h.time h.word h.next ≡ hint_made time (slot_word accesses) false = rw (at, word, n) refl in
          (sym (sends 37) ∙ opcode, sym (hint_made-fields h) ∙ made ∙ hint_made-fields (record { time = time; word = slot_word accesses; next = false }))

  -- ---- that a valid row is a hint, or none

  on_path_bus : (e : Event) → Member e (on_bus 0 events) → Contains events e
  on_path_bus e h = contains_from_member e events (on_bus_member 0 e events h)

  begins : BeginsAt time events
  begins = record {
    pc = instr.pc;
    received_at = on_path_bus (received EXECUTION 1 (instr.pc ∷ time ∷ [])) (subst (Member (received EXECUTION 1 (instr.pc ∷ time ∷ []))) (sym step.spoken.path) (inl refl));
  }

  writes_by : (a : Touched) → Member a accesses → a.space ≡ 2 → a.slot ≡ 1 → Writes time a.new events
  writes_by a h space slot =
      let event = sent MEMORY 1 (a.space ∷ a.pointer ∷ (a.new ++ (field_add time a.slot ∷ []))) in
      let there : Member event (on_bus 2 events) = subst (Member event) (sym step.spoken.memory) (member_piece (touched_events time) a event accesses h (inr (inl refl))) in
      let contained : Contains events event = contains_from_member event events (on_bus_member 2 event events there) in
      record {
        pointer = a.pointer;
        written = subst (λ (n : ℕ). Contains events (sent MEMORY 1 (2 ∷ a.pointer ∷ (a.new ++ (field_add time n ∷ []))))) slot
            (subst (λ (n : ℕ). Contains events (sent MEMORY 1 (n ∷ a.pointer ∷ (a.new ++ (field_add time a.slot ∷ []))))) space contained);
      }

  pub is_no_hint : nat_eq instr.op 37 ≡ false → NoHint events
  is_no_hint other = record { hint = sends 37 ∙ other; next = sends 42 ∙ ne_eqb instr.op 42 (no_opcode instr step.in_range) }

  pub is_hint : nat_eq instr.op 37 ≡ true → (a : Touched) → Member a accesses → a.space ≡ 2 → a.slot ≡ 1 → IsHint (record { time = time; word = slot_word accesses; next = false }) events
  is_hint op a h space slot = record {
    opcode = sends 37 ∙ op;
    time = begins;
    word = subst (λ (w : List ℕ). Writes time w events) (sym (slot_word_of 0 slots a accesses step.rising h slot)) (writes_by a h space slot);
  }
