-- What the row of a record says of the execution bus and of the host's words.
use Rattle.std.proofs.Common.{◌≡◌, ℕ, ◌+◌, ◌^◌, ◌≤◌, true, false, nat_eq, List, [], ◌∷◌, ◌++◌, length, map, refl, sym, ap, ◌∙◌, subst, arith, inl, inr, Contains}
use Rattle.std.specs.Prelude.{flat_map, slice_index_or}
use Rattle.std.specs.List.{list_any}
use Rattle.std.proofs.Math.Pow.{pow_mono}
use Rattle.std.proofs.lemmas.Bool.{ne_eqb}
use Rattle.vm_field.specs.Field.{field_add}
use Rattle.vm_isa.specs.declared.access.TimedAccess.{TimedAccess}
use Rattle.vm_isa.specs.declared.instr.VmInstr.{VmInstr}
use Rattle.vm_isa.specs.declared.record.StepRecord.{StepRecord}
use Rattle.vm_isa.specs.Instr.{InRange}
use Rattle.vm_isa.specs.Means.{Meaning, Placed, Fillable, accessed_by, placed, placed_at, places_by, word_at}
use Rattle.vm_isa.specs.Slots.{slots_of}
use Rattle.vm_isa.proofs.MeansLaws.{whole}
use Rattle.vm_isa.proofs.NextLaws.{meant}
use Rattle.air_core.specs.declared.bus.TheConstants.{EXECUTION, MEMORY}
use Rattle.air_core.specs.declared.event.Event.{Event}
use Rattle.air_core.specs.declared.hint.HintWord.{HintWord}
use Rattle.air_core.specs.Hint.{NoHint, IsHint, Writes}
use Rattle.air_core.specs.Laws.{Recorded, record_events}
use Rattle.air_core.specs.Orders.{Member}
use Rattle.air_core.specs.Sheet.{sent, received}
use Rattle.air_core.specs.Step.{on_bus}
use Rattle.air_core.proofs.ElementLemmas.{member_piece}
use Rattle.offline_memory.proofs.Members.{contains_from_member}
use Rattle.acceptance.specs.Events.{is_valid}
use Rattle.acceptance.proofs.Hints.{hint_places}
use Rattle.acceptance.proofs.Row.{any_on_bus, path_any, path_only, sends_by, on_bus_member, no_opcode}
use Rattle.vm_filler.specs.Hints.{word_left}

-- the row is valid
pub record_valid : (d : StepRecord) (events : List Event) → Recorded d events → is_valid events ≡ true
record_valid d events said =
    any_on_bus 0 (λ (e : Event). nat_eq e.bus 0) path_only events ∙ ap (list_any (λ (e : Event). nat_eq e.bus 0)) said.path ∙ path_any (d.instr.pc ∷ d.time ∷ []) (d.next ∷ (d.time + slots_of d.instr.op) ∷ [])

-- ---- hints

-- the host's word that a record takes
abbrev pub hint_word : StepRecord → HintWord
hint_word d = record { time = d.time; word = word_left d 1; next = false }

pub record_no_hint : (d : StepRecord) (events : List Event) → InRange d.instr → Recorded d events → nat_eq d.instr.op 37 ≡ false → NoHint events
record_no_hint d events range said other = record {
  hint = sends_by 37 d.instr events said.program ∙ other;
  next = sends_by 42 d.instr events said.program ∙ ne_eqb d.instr.op 42 (no_opcode d.instr range);
}

stands : (bus : ℕ) (e : Event) (events xs : List Event) → on_bus bus events ≡ xs → Member e xs → Contains events e
stands bus e events xs is h = contains_from_member e events (on_bus_member bus e events (subst (Member e) (sym is) h))

abbrev time_space : Placed → ℕ × ℕ
time_space p = (p.time, p.space)

-- the accesses of a HINT: a register, and one slot later a word of memory
hint_slots : (i : VmInstr) (x y given : List ℕ) (time : ℕ) → i.op ≡ 37 → map time_space (map (placed_at time) ((whole i (x ∷ y ∷ []) given).accesses)) ≡ (time + 0, 1) ∷ (time + 1, 2) ∷ []
unfolding places_by accessed_by
hint_slots i x y given time h = rw h refl

-- the second access of a record
pub record Second (d : StepRecord) : Type 0 where
  pub access : TimedAccess
  pub stands : Member access d.accesses
  pub later : access.time ≡ d.time + 1
  pub in_memory : access.access.space ≡ 2
  pub left : word_left d 1 ≡ access.access.new

second_by : (d : StepRecord) (accesses : List TimedAccess) (given : List ℕ) (meaning : Meaning) → d.accesses ≡ accesses → d.instr.op ≡ 37 → length (map (λ (a : TimedAccess). a.access.old) accesses) ≡ 2
    → meaning ≡ whole d.instr (map (λ (a : TimedAccess). a.access.old) accesses) given → map placed accesses ≡ map (placed_at d.time) meaning.accesses → Second d
second_by d [] given meaning are h two is same = absurd (omega (arith, two))
second_by d (a ∷ []) given meaning are h two is same = absurd (omega (arith, two))
second_by d (a ∷ b ∷ []) given meaning are h two is same =
    let all : map time_space (map placed (a ∷ b ∷ [])) ≡ (d.time + 0, 1) ∷ (d.time + 1, 2) ∷ [] =
    ap (λ (ps : List Placed). map time_space ps) same ∙ ap (λ (m : Meaning). map time_space (map (placed_at d.time) m.accesses)) is ∙ hint_slots d.instr a.access.old b.access.old given d.time h in
    let second : (b.time, b.access.space) ≡ (d.time + 1, 2) = cc in
    record {
      access = b;
      stands = subst (Member b) (sym are) (inr (inl refl));
      later = ap (λ (t : ℕ × ℕ). t.0) second;
      in_memory = ap (λ (t : ℕ × ℕ). t.1) second;
      left = ap (λ (xs : List TimedAccess). slice_index_or (map (λ (a : TimedAccess). a.access.new) xs) 1 []) are;
    }
second_by d (a ∷ b ∷ c ∷ more) given meaning are h two is same = absurd (omega (arith, two))

second_of : (bits : ℕ) (d : StepRecord) → Fillable bits d → d.instr.op ≡ 37 → Second d
second_of bits d f h =
    let olds = map (λ (a : TimedAccess). a.access.old) d.accesses in
    let is = meant d.instr olds f.given f.meaning f.means in
    second_by d d.accesses f.given f.meaning refl h (is.long ∙ hint_places d.instr (word_at olds 0) (word_at olds 1) h) is.is f.accesses

one_later : (bits time slots : ℕ) → bits ≤ 29 → time + slots ≤ 2 ^ bits → field_add time 1 ≡ time + 1
one_later bits time slots few low = let up : 2 ^ bits ≤ 2 ^ 29 = pow_mono few in omega (arith, low, up)

writes : (d : StepRecord) (events : List Event) → Recorded d events → (a : Second d) → field_add d.time 1 ≡ d.time + 1 → Writes d.time (word_left d 1) events
writes d events said a later =
    let b = a.access in
    let event = sent MEMORY 1 (b.access.space ∷ b.access.pointer ∷ (b.access.new ++ (b.time ∷ []))) in
    let there : Contains events event = stands MEMORY event events (flat_map record_events d.accesses) said.memory (member_piece record_events b event d.accesses a.stands (inr (inl refl))) in
    let made : ℕ → List ℕ → ℕ → Event = λ space word time. sent MEMORY 1 (space ∷ b.access.pointer ∷ (word ++ (time ∷ []))) in
    record {
      pointer = b.access.pointer;
      written = subst (λ (e : Event). Contains events e)
          (ap (λ (n : ℕ). made n b.access.new b.time) a.in_memory ∙ ap (λ (w : List ℕ). made 2 w b.time) (sym a.left) ∙ ap (made 2 (word_left d 1)) (a.later ∙ sym later)) there;
    }

pub record_hint : (bits : ℕ) (d : StepRecord) (events : List Event) → bits ≤ 29 → Fillable bits d → Recorded d events → d.instr.op ≡ 37 → IsHint (hint_word d) events
record_hint bits d events few f said h = record {
  opcode = sends_by 37 d.instr events said.program ∙ ap (λ (op : ℕ). nat_eq op 37) h;
  time = record { pc = d.instr.pc; received_at = stands EXECUTION (received EXECUTION 1 (d.instr.pc ∷ d.time ∷ [])) events _ said.path (inl refl) };
  word = writes d events said (second_of bits d f h) (one_later bits d.time (slots_of d.instr.op) few f.ends);
}
