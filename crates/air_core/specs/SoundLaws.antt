-- Law Timed is part of law Sound.
use Rattle.std.specs.Prelude.{◌≡◌, ℕ, Bool, true, List, []}
use Rattle.std.proofs.Common.{inl, inr, ⊎_elim}
use Rattle.air_core.specs.declared.event.Event.{Event}
use Rattle.air_core.specs.Sheet.{Sheet, row_events}
use Rattle.air_core.specs.Step.{TimedStep, SoundStep}
use Rattle.air_core.specs.Laws.{Timed, Sound}

timed_step : (owns : ℕ → Bool) (slots bits : ℕ) (events : List Event) → SoundStep owns slots bits events → TimedStep owns slots bits events
timed_step owns slots bits events s = record { instr = s.instr; time = s.time; next = s.next; accesses = s.accesses; owned = s.owned; step = s.step }

pub timed_of_sound : (sheet : Sheet) → sheet.alone ≡ true → Sound sheet → Timed sheet
timed_of_sound sheet alone sound owns row is holds good =
    ⊎_elim
    (λ (none : row_events sheet row ≡ []). inl none)
    (λ (s : SoundStep sheet.owns sheet.slots sheet.time_bits (row_events sheet row)). inr (timed_step sheet.owns sheet.slots sheet.time_bits (row_events sheet row) s))
    (sound alone row is holds good)
