-- Which rows take a word of the host's, and which word they write.
use Rattle.std.specs.Prelude.{◌≡◌, ℕ, Bool, true, false, ◌&&◌, nat_eq, if◌then◌else◌, MatchBool, List, [], ◌∷◌, ◌++◌, Contains, slice_index}
use Rattle.std.specs.List.{list_any}
use Rattle.vm_field.specs.Field.{field_add}
use Rattle.air_core.specs.declared.event.Event.{Event}
use Rattle.air_core.specs.declared.hint.HintWord.{HintWord}
use Rattle.air_core.specs.Sheet.{sent, received}
use Rattle.air_core.specs.declared.bus.TheConstants.{EXECUTION, MEMORY, PROGRAM}

-- the event sends a program tuple of this opcode, with count 1
abbrev pub is_program : ℕ → Event → Bool
is_program op e = nat_eq e.bus PROGRAM && (nat_eq e.count 1 && nat_eq (slice_index e.tuple 1) op)

abbrev pub sends_program : ℕ → List Event → Bool
sends_program op events = list_any (is_program op) events

-- neither a HINT nor a row that asks for the next input
pub record NoHint (events : List Event) : Type 0 where
  pub hint : sends_program 37 events ≡ false
  pub next : sends_program 42 events ≡ false

-- the row begins at this time
pub record BeginsAt (time : ℕ) (events : List Event) : Type 0 where
  pub pc : ℕ
  pub received_at : Contains events (received EXECUTION 1 (pc ∷ time ∷ []))

-- the row writes this word to memory, one slot after this time
pub record Writes (time : ℕ) (word : List ℕ) (events : List Event) : Type 0 where
  pub pointer : ℕ
  pub written : Contains events (sent MEMORY 1 (2 ∷ pointer ∷ (word ++ (field_add time 1 ∷ []))))

-- a HINT, with its time and the word that it writes; or a row that asks for the next input, with its time and a word of zeros
pub record IsHint (h : HintWord) (events : List Event) : Type 0 where
  pub opcode : sends_program (if h.next then 42 else 37) events ≡ true
  pub time : BeginsAt h.time events
  pub word : MatchBool h.next (h.word ≡ 0 ∷ 0 ∷ 0 ∷ 0 ∷ []) (Writes h.time h.word events)
