-- The hints that a file's rows spell.
use Rattle.std.specs.Prelude.{◌≡◌, ℕ, ◌%◌, ◌⊎◌, IsPermutation, if◌then◌else◌, List, [], ◌∷◌, ◌++◌, map}
use Rattle.vm_trace.specs.File.{Segment}
use Rattle.air_core.specs.declared.event.Event.{Event}
use Rattle.air_core.specs.declared.hint.HintWord.{HintWord}
use Rattle.air_core.specs.Hint.{NoHint, IsHint}
use Rattle.air_core.specs.Orders.{Ascends}
use Rattle.air_core.specs.System.{System}
use Rattle.acceptance.specs.Events.{said_by_rows}

-- these are the hints of the rows, in their order
abbrev pub AreHints : List (List Event) → List HintWord → Type 0
AreHints [] found = found ≡ []
AreHints (events ∷ more) found =
    (NoHint events × AreHints more found)
    ⊎ ((h : HintWord) × (rest : List HintWord) × IsHint h events × (found ≡ h ∷ rest) × AreHints more rest)

-- what a row does with the hints: it takes a word, or goes on to the next frame of them
pub data HintEvent : Type 0 where
  Word : List ℕ → HintEvent
  NextFrame : HintEvent

abbrev pub hint_event : HintWord → HintEvent
hint_event h = if h.next then NextFrame else Word h.word

-- what the rows of a segment do with the hints, in the order of their times
pub record SegmentSpells (x : System) (s : Segment) (hints : List HintEvent) : Type 0 where
  pub found : List HintWord
  pub are_hints : AreHints (said_by_rows x.parts s.tables) found
  pub sorted : List HintWord
  pub same : IsPermutation found sorted
  pub in_order : Ascends (λ (h : HintWord). h.time) sorted
  pub spell : hints ≡ map hint_event sorted

-- and those of one segment after the other
abbrev pub Spell : System → List Segment → List HintEvent → Type 0
Spell x [] hints = hints ≡ []
Spell x (s ∷ ss) hints = (here : List HintEvent) × (rest : List HintEvent) × SegmentSpells x s here × (hints ≡ here ++ rest) × Spell x ss rest

-- ---- what the machine has

abbrev pub low_byte : ℕ → ℕ
low_byte n = n % 256

-- The machine's hints before these events, where it has the rest behind them: of each word the low bytes. Its hints are
-- bytes without frames, so that going on to the next frame takes none.
abbrev pub hints_before : List HintEvent → List ℕ → List ℕ
hints_before [] rest = rest
hints_before (Word word ∷ more) rest = map low_byte word ++ hints_before more rest
hints_before (NextFrame ∷ more) rest = hints_before more rest
