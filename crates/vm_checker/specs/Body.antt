-- What stands behind the head of a file, read and kept.
use Rattle.std.specs.Prelude.{◌≡◌, ℕ, List, [], length, Ok, Err, Result, IfOk, IfErr, IfSome, OnOk, Some}
use Rattle.std.specs.List.{AllByRecursion}
use Rattle.vm_host.specs.declared.Slot.TheVariants.{Second}
use Rattle.vm_host.specs.State.{HostState}
use Rattle.vm_host.specs.Calls.{AtEnd, Rose}
use Rattle.elf_image.specs.Loaded.{Loaded}
use Rattle.readings.specs.Readings.{Reading, rest_at, reason_in}
use Rattle.readings.specs.Told.{IfFault, IfRefused}
use Rattle.readings.specs.declared.Stop.{Stop}
use Rattle.readings.specs.declared.Stop.TheVariants.{Refused, Fault, OutOfMemory}
use Rattle.vm_host.specs.declared.HostError.{HostError}
use Rattle.vm_host.specs.declared.HostError.TheVariants.{Failed, OutOfMemory as NoMemory}
use Rattle.vm_checker.specs.declared.Verdict.{Verdict}
use Rattle.vm_checker.specs.declared.Verdict.TheVariants.{Accepted, Rejected}
use Rattle.vm_trace.specs.File.{File}
use Rattle.air_core.specs.System.{System}
use Rattle.acceptance.specs.Spelled.{HintEvent, Spell, hints_before}
use Rattle.table_format.specs.Order.{first_stand, stand_after}
use Rattle.table_format.specs.Stream.{Held, Draws, told_by}
use Rattle.table_format.specs.declared.reason.Reason.{Reason}
use Rattle.table_format.specs.declared.reason.Reason.TheVariants.{Trailing}
use Rattle.vm_checker.specs.declared.Accepted.{Accepted as Acceptance}
use Rattle.vm_checker.specs.Chain.{HasRows}
use Rattle.vm_checker.specs.FirstReason.{start_behind}

-- what is told of a file that passes the tests
pub record TellsFile (x : System) (image : Loaded) (f : File) (a : Acceptance) : Type 0 where
  pub code : a.code ≡ f.code
  pub public : a.public ≡ f.public_bytes
  pub root : a.root ≡ (start_behind image (stand_after first_stand f.segments).before).root
  pub segments : a.segments ≡ length f.segments
  pub hints : AllByRecursion (HasRows x) f.segments → (events : List HintEvent) × Spell x f.segments events × (a.hints ≡ hints_before events [])

-- All that follows was read, and no byte stands behind it. A refusal is the first test that fails, of the reading, or
-- that a byte follows.
pub record ReadsAll {V K : Type 0} (r : Reading Reason V) (Stands : V → K → Type 0) (a b : Held) (s t : HostState) (result : Result K (Stop Reason)) : Type 0 where
  pub draws : Draws a b s t
  pub fault : IfErr result (λ e. IfFault e (Rose s.faults t.faults))
  pub ok : IfOk result (λ k. IfSome (told_by a s).rest (λ bytes. (v : V) × Stands v k × ((at : ℕ) × (r (rest_at a.at bytes) ≡ Ok (v, rest_at at [])))))
  pub end : OnOk result (AtEnd (t.input Second).rest)
  pub refused : IfErr result (λ e. IfRefused e (λ reason. IfSome (told_by a s).rest (λ bytes. reason_in Trailing (r (rest_at a.at bytes)) ≡ Some reason)))

-- a refusal is a verdict
abbrev pub verdict_of : Stop Reason → Result Verdict HostError
verdict_of (Refused reason) = Ok (Rejected reason)
verdict_of Fault = Err Failed
verdict_of OutOfMemory = Err NoMemory

abbrev pub answer_to : Result Acceptance (Stop Reason) → Result Verdict HostError
answer_to (Ok a) = Ok (Accepted a)
answer_to (Err stop) = verdict_of stop
