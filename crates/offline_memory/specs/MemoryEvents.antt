-- The events of the memory bus.
use Rattle.std.specs.Prelude.{List, [], ◌∷◌, ◌++◌, flat_map}
use Rattle.air_core.specs.declared.bus.TheConstants.{MEMORY}
use Rattle.air_core.specs.declared.event.Event.{Event}
use Rattle.air_core.specs.Sheet.{sent, received}
use Rattle.vm_trace.specs.declared.page.Touched.{Touched}
use Rattle.offline_memory.specs.Memory.{Access, Block, cell_tuple, met_cell, left_cell, first_cell, last_cell}
use Rattle.offline_memory.specs.Pages.{page_blocks}

-- an access receives the cell that it meets and sends the cell that it leaves
abbrev pub access_events : Access → List Event
access_events a = received MEMORY 1 (cell_tuple (met_cell a)) ∷ sent MEMORY 1 (cell_tuple (left_cell a)) ∷ []

-- a block's first cell is sent, its last cell received
abbrev pub block_events : Block → List Event
block_events b = sent MEMORY 1 (cell_tuple (first_cell b)) ∷ received MEMORY 1 (cell_tuple (last_cell b)) ∷ []

-- the events of a page, block by block
abbrev pub boundary_events : Touched → List Event
boundary_events page = flat_map block_events (page_blocks page)

-- all that is said on the memory bus
abbrev pub memory_events : List Touched → List Access → List Event
memory_events pages accesses = flat_map boundary_events pages ++ flat_map access_events accesses
