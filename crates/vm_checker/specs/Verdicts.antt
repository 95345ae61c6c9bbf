-- What a check answers.
use Rattle.std.specs.Prelude.{◌≡◌, ℕ, List, [], length, Option, Some, None, Result, Ok, IsErrOf, IfOk, IfSome, ◌⊎◌}
use Rattle.vm_host.specs.declared.Slot.TheVariants.{Second}
use Rattle.vm_host.specs.declared.HostError.{HostError}
use Rattle.vm_host.specs.declared.HostError.TheVariants.{Failed}
use Rattle.vm_host.specs.State.{HostState}
use Rattle.vm_host.specs.Calls.{AtEnd, Rose}
use Rattle.vm_host.specs.ReadUpTo.{Took}
use Rattle.elf_image.specs.Loaded.{Loaded}
use Rattle.rv_run.specs.Run.{Ends}
use Rattle.vm_trace.specs.File.{File}
use Rattle.air_core.specs.System.{System}
use Rattle.page_tree.specs.Tree.{root}
use Rattle.page_tree.specs.Start.{start_map}
use Rattle.acceptance.specs.Accepts.{Accepts, Collides, last_root, steps_in}
use Rattle.acceptance.specs.Spelled.{HintEvent, Spell, hints_before}
use Rattle.table_format.specs.Texts.{body_text}
use Rattle.table_format.specs.declared.reason.Reason.{Reason}
use Rattle.vm_checker.specs.declared.Accepted.{Accepted as Acceptance}
use Rattle.vm_checker.specs.declared.Verdict.{Verdict}
use Rattle.vm_checker.specs.declared.Verdict.TheVariants.{Accepted, Rejected}
use Rattle.vm_checker.specs.Exactly.{IsAcceptedFile}
use Rattle.vm_checker.specs.FirstReason.{body_rejection, rejection}

-- what an accepted file states: its claim, its last root, its segments, and the bytes of the hints that it spells
pub record States (x : System) (image : Loaded) (f : File) (a : Acceptance) : Type 0 where
  pub code : a.code ≡ f.code
  pub public : a.public ≡ f.public_bytes
  pub root : a.root ≡ last_root (root (start_map image)) f.segments
  pub segments : a.segments ≡ length f.segments
  pub events : List HintEvent
  pub spell : Spell x f.segments events
  pub only : (other : List HintEvent) → Spell x f.segments other → other ≡ events
  pub hints : a.hints ≡ hints_before events []

-- On these hints the manual's machine ends as the file states, after as many steps as it has valid rows; or two
-- different nodes that image and file hold have one digest.
abbrev pub RunsOrCollides : System → Loaded → File → List ℕ → Type 0
RunsOrCollides x image f hints = Ends image hints (steps_in x f.segments) f.code f.public_bytes ⊎ Collides image f

-- A verdict on bytes. They are accepted where no test fails, and are such a file then, which states a run. They are
-- rejected for the first test that fails.
pub data Judges (why : Option Reason) (Is : File → Type 0) (x : System) (image : Loaded) (verdict : Verdict) : Type 0 where
  accepted : (f : File) → Is f → (a : Acceptance) → States x image f a → RunsOrCollides x image f a.hints → why ≡ None → verdict ≡ Accepted a → Judges why Is x image verdict
  rejected : (reason : Reason) → why ≡ Some reason → verdict ≡ Rejected reason → Judges why Is x image verdict

-- these bytes stand behind the head of an accepted file of a version
pub record IsAcceptedBody (x : System) (image : Loaded) (version : ℕ) (bytes : List ℕ) (f : File) : Type 0 where
  pub version_is : f.version ≡ version
  pub accepts : Accepts x image f
  pub text : bytes ≡ body_text f

-- the verdict on what stands behind the head
abbrev pub JudgesBody : System → Loaded → ℕ → List ℕ → Verdict → Type 0
JudgesBody x image version bytes verdict = Judges (body_rejection x image version bytes) (IsAcceptedBody x image version bytes) x image verdict

-- the verdict on a whole file of version 1
abbrev pub JudgesFile : System → Loaded → List ℕ → Verdict → Type 0
JudgesFile x image bytes verdict = Judges (rejection (λ version. x) image 1 bytes) (IsAcceptedFile (λ version. x) image 1 bytes) x image verdict

-- What a call did whose verdict on bytes is this. Whatever the answer, the input lost what was read, and nothing else
-- changed. The verdict is that on the bytes of the input's rest, where a host tells them.
pub record Checks (Verdicts : List ℕ → Verdict → Type 0) (s t : HostState) (result : Result Verdict HostError) : Type 0 where
  pub took : (bytes : List ℕ) × Took Second s t bytes
  pub judged : IfOk result (λ verdict. IfSome (s.input Second).rest (λ bytes. Verdicts bytes verdict))
  -- an accepted file was read to its end
  pub end : (a : Acceptance) → result ≡ Ok (Accepted a) → AtEnd (t.input Second).rest
  pub fault : IsErrOf result Failed → Rose s.faults t.faults

-- bytes have one verdict
abbrev pub VerdictIsOne : Type 0
VerdictIsOne = (x : System) (image : Loaded) (bytes : List ℕ) (a b : Verdict) → JudgesFile x image bytes a → JudgesFile x image bytes b → a ≡ b
