-- What a check keeps of the rows of a segment: the balance of their events, their hints, and how many are valid.
use Rattle.std.specs.Prelude.{◌≡◌, ℕ, ◌+◌, count_by, flat_map, map, List, [], ◌++◌, if◌then◌else◌, IsPermutation, slice_index_or, false}
use Rattle.vm_isa.specs.declared.instr.VmInstr.{VmInstr}
use Rattle.air_core.specs.declared.bus.TheConstants.{PROGRAM, XOR, RANGE, SHA_CONSTANTS}
use Rattle.air_core.specs.declared.event.Event.{Event}
use Rattle.air_core.specs.declared.hint.HintWord.{HintWord}
use Rattle.air_core.specs.Orders.{Ascends}
use Rattle.air_core.specs.Sink.{Handed}
use Rattle.exec_path.specs.declared.order.PathRow.{PathRow}
use Rattle.acceptance.specs.Events.{is_valid, received_on}
use Rattle.acceptance.specs.Spelled.{AreHints, low_byte}
use Rattle.table_format.specs.Order.{Counts}
use Rattle.vm_checker.specs.declared.tally.Tally.{Tally}
use Rattle.vm_checker.specs.Heard.{Hears, room_left}

-- ---- rows

abbrev pub joined : List (List Event) → List Event
joined said = flat_map (λ events. events) said

-- What each of some rows says was heard, and the valid ones counted; and, where they are rows of field elements, their
-- hints were kept.
pub record Tallied (AreRows : Type 0) (said : List (List Event)) (old new : Tally) : Type 0 where
  pub heard : Handed Hears room_left old.said new.said (joined said)
  pub valid : new.valid ≡ old.valid + count_by is_valid said
  pub found : List HintWord
  pub kept : new.hints.items ≡ old.hints.items ++ found
  pub hints : AreRows → AreHints said found

-- ---- hints

-- a hint as a row that begins at its time
abbrev pub timed_hint : HintWord → PathRow
timed_hint hint = record { from_pc = 0; from_time = hint.time; to_pc = 0; to_time = 0 }

-- the low bytes of the word that it writes
abbrev pub bytes_of : HintWord → List ℕ
bytes_of hint = if hint.next then [] else map low_byte hint.word

-- what stands at no place
abbrev pub no_hint : HintWord
no_hint = record { time = 0; word = []; next = false }

abbrev pub hint_at : List HintWord → ℕ → HintWord
hint_at hints place = slice_index_or hints place no_hint

-- the same hints in the order of their times
pub record IsSorted (found sorted : List HintWord) : Type 0 where
  pub same : IsPermutation found sorted
  pub in_order : Ascends (λ (hint : HintWord). hint.time) sorted

-- ---- fixed tables

abbrev pub counts_said : List VmInstr → Counts → List Event
counts_said program lists =
    received_on program PROGRAM lists.0 ++ (received_on program XOR lists.1.0 ++ (received_on program RANGE lists.1.1.0 ++ received_on program SHA_CONSTANTS lists.1.1.1))
