-- How often rows of the fixed tables are sent, and the entries that tell it.
use Rattle.std.specs.Prelude.{ℕ, ◌+◌, nat_eq, if◌then◌else◌, List, [], ◌∷◌, map, length, Option, Some, None}
use Rattle.std.specs.List.{range_with_len}
use Rattle.vm_isa.specs.declared.instr.VmInstr.{VmInstr}
use Rattle.vm_trace.specs.declared.count.CountEntry.{CountEntry}
use Rattle.air_core.specs.declared.bus.TheConstants.{PROGRAM}
use Rattle.air_core.specs.declared.event.Event.{Event}
use Rattle.air_core.specs.declared.event.Side.TheVariants.{Send}
use Rattle.air_core.specs.Balance.{total}
use Rattle.lookup_tables.specs.Places.{rows_of}
use Rattle.acceptance.specs.Events.{fixed_row}

-- how many rows the fixed table of a bus has: the program on its bus, and the lookup tables on theirs
abbrev pub fixed_rows : List VmInstr → ℕ → ℕ
fixed_rows program bus = if nat_eq bus PROGRAM then length program else rows_of bus

-- how often events send a row on a bus; where there is none, not at all
abbrev pub times_sent : List Event → ℕ → Option (List ℕ) → ℕ
times_sent events bus None = 0
times_sent events bus (Some row) = total Send bus row events

-- how often they send each row of the fixed table of a bus, by its place
unfoldable pub uses_of : List VmInstr → ℕ → List Event → List ℕ
uses_of program bus events = map (λ place. times_sent events bus (fixed_row program bus place)) (range_with_len 0 (fixed_rows program bus))

-- the counts that are not 0, with their places from one on
abbrev pub entries_from : ℕ → List ℕ → List CountEntry
entries_from place [] = []
entries_from place (n ∷ counts) =
    if nat_eq n 0 then entries_from (place + 1) counts else (record { place = place; count = n } ∷ entries_from (place + 1) counts)

-- the entries of a list of counts
abbrev pub entries_of : List ℕ → List CountEntry
entries_of counts = entries_from 0 counts
