-- The events of the execution bus.
use Rattle.std.specs.Prelude.{ℕ, List, [], ◌∷◌, ◌++◌, flat_map}
use Rattle.air_core.specs.declared.event.Event.{Event}
use Rattle.air_core.specs.Sheet.{sent, received}
use Rattle.exec_path.specs.Path.{Point, TimedRow, row_from, row_to}
use Rattle.air_core.specs.declared.bus.TheConstants.{EXECUTION}

-- the tuple of a point
abbrev pub point_tuple : Point → List ℕ
point_tuple x = x.pc ∷ x.time ∷ []

-- a valid row receives where it begins and sends where it goes
abbrev pub path_events : TimedRow → List Event
path_events row = received EXECUTION 1 (point_tuple (row_from row)) ∷ sent EXECUTION 1 (point_tuple (row_to row)) ∷ []

-- the connector sends the start and receives the end
abbrev pub connector_events : Point → Point → List Event
connector_events start end = sent EXECUTION 1 (point_tuple start) ∷ received EXECUTION 1 (point_tuple end) ∷ []

-- all that is said on the execution bus
abbrev pub execution_events : Point → Point → List TimedRow → List Event
execution_events start end rows = connector_events start end ++ flat_map path_events rows
