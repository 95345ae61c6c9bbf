-- What is kept of a segment behind its codes.
use Rattle.std.specs.Prelude.{◌≡◌, count_by}
use Rattle.air_core.specs.Sheet.{IsRow}
use Rattle.air_core.specs.System.{System, EachRow}
use Rattle.acceptance.specs.Events.{is_valid, said_by_rows}
use Rattle.acceptance.specs.Spelled.{AreHints}
use Rattle.vm_checker.specs.declared.segment.Taken.{Taken}
use Rattle.vm_checker.specs.Items.{Inside}

-- the pages and the siblings as they are; of the rows how many are valid, and their hints
pub record IsInside (x : System) (v : Inside) (k : Taken) : Type 0 where
  pub pages : k.pages.items ≡ v.1.1.0
  pub siblings : k.siblings.items ≡ v.1.1.1
  pub valid : k.tally.valid ≡ count_by is_valid (said_by_rows x.parts v.0)
  pub hints : EachRow IsRow x.parts v.0 → AreHints (said_by_rows x.parts v.0) k.tally.hints.items
