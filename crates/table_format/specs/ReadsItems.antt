-- What the calls of a reader do.
use Rattle.std.specs.Prelude.{◌≡◌, ℕ, Bool, [], Option, Some, None, Result, Ok, Err}
use Rattle.std.specs.Result.{result_err}
use Rattle.vm_host.specs.State.{HostState}
use Rattle.readings.specs.Readings.{Reading}
use Rattle.readings.specs.declared.Stop.{Stop}
use Rattle.table_format.specs.declared.item.Item.{Item}
use Rattle.table_format.specs.declared.stage.Stage.{Stage}
use Rattle.table_format.specs.declared.stage.Stage.TheVariants as stage
use Rattle.table_format.specs.declared.reason.Reason.{Reason}
use Rattle.table_format.specs.declared.table_reader.Shape.{Shape as Given}
use Rattle.table_format.specs.declared.table_reader.TableReader.{TableReader}
use Rattle.table_format.specs.Stream.{ReadsBy, TellsEnd}
use Rattle.table_format.specs.Reader.{Form, Spot, Step, item_at}

abbrev pub form_of : TableReader → Form
form_of r = record { version = r.version; shape = record { widths = r.shape.widths.items; program_len = r.shape.program_len } }

abbrev pub spot_of : TableReader → Spot
spot_of r = record { stage = r.stage; segments = r.segments; heights = r.heights.items; row = r.row.items }

-- it has given nothing, stands at this stage and place, and has answered no error
pub record IsNew (version : ℕ) (shape : Given) (s : Stage) (at : ℕ) (r : TableReader) : Type 0 where
  pub form : form_of r ≡ record { version = version; shape = record { widths = shape.widths.items; program_len = shape.program_len } }
  pub spot : spot_of r ≡ record { stage = s; segments = 0; heights = []; row = [] }
  pub stream : r.stream ≡ record { at = at; ahead = [] }
  pub error : r.error ≡ None

-- an item was read, or the reading's reason found
pub record StepsBy (r : Reading Reason Step) (a b : TableReader) (s t : HostState) (result : Result Item (Stop Reason)) : Type 0 where
  pub reads : ReadsBy r (λ v it. v ≡ (it, spot_of b)) a.stream b.stream s t result
  pub form : form_of b ≡ form_of a
  pub error : b.error ≡ a.error

-- what `next` does
pub data Advances (a b : TableReader) (s t : HostState) (result : Result Item (Stop Reason)) : Type 0 where
  -- it has answered an error before, which it answers again
  again : (e : Stop Reason) → a.error ≡ Some e → result ≡ Err e → b ≡ a → t ≡ s → Advances a b s t result
  -- the item that comes next was read, or the reading's reason found; after the End nothing was read
  first : a.error ≡ None → ReadsBy (item_at (form_of a) (spot_of a)) (λ v it. v ≡ (it, spot_of b)) a.stream b.stream s t result → form_of b ≡ form_of a → b.error ≡ result_err result
      → (a.stage ≡ stage.Done → (b ≡ a) × (t ≡ s)) → Advances a b s t result

-- what `at_end` does
pub data TellsEndOnce (a b : TableReader) (s t : HostState) (result : Result Bool (Stop Reason)) : Type 0 where
  again : (e : Stop Reason) → a.error ≡ Some e → result ≡ Err e → b ≡ a → t ≡ s → TellsEndOnce a b s t result
  first : a.error ≡ None → TellsEnd a.stream b.stream s t result → form_of b ≡ form_of a → spot_of b ≡ spot_of a → b.error ≡ result_err result → TellsEndOnce a b s t result
