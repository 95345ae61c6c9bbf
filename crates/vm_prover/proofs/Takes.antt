-- The records of a segment, one more with each step.
use Rattle.std.proofs.Common.{◌≡◌, ℕ, ◌+◌, ◌≤◌, ◌<◌, List, [], ◌∷◌, ◌++◌, length, length-append, refl, sym, ap, ◌∙◌, subst, arith}
use Rattle.vm_isa.specs.declared.instr.VmInstr.{VmInstr}
use Rattle.vm_isa.specs.declared.record.StepRecord.{StepRecord}
use Rattle.air_core.specs.System.{System}
use Rattle.vm_transpile.specs.Program.{program_of}
use Rattle.vm_executor.specs.declared.machine.Machined.{Machined}
use Rattle.vm_executor.specs.declared.machine.Machined.TheVariants.{Went, Ended, Stuck}
use Rattle.vm_executor.specs.Machine.{Machine, Goes}
use Rattle.vm_executor.specs.Runs.{IsWent}
use Rattle.vm_executor.specs.State.{IsStep}
use Rattle.vm_prover.specs.Progress.{UnderWay}
use Rattle.vm_prover.specs.Segments.{AreTaken, GoesOnFor, Run}
use Rattle.vm_prover.proofs.EndLemmas.{ending_runs_go_on}
use Rattle.vm_prover.proofs.StepLemmas.{records_go_on}

-- what the machine answers, over the program that it keeps
pub record Answers (program : List VmInstr) (s t : Machine) (answer : Machined) : Type 0 where
  pub here : List VmInstr
  pub same : here ≡ program
  pub step : IsStep here s t answer

step_over : (program image : List VmInstr) (s t : Machine) (answer : Machined) → Answers program s t answer → program ≡ image → IsStep image s t answer
step_over program image s t answer a over = subst (λ p. IsStep p s t answer) (a.same ∙ over) a.step

pub answers : (here program : List VmInstr) (s t : Machine) (answer : Machined) → here ≡ program → IsStep here s t answer → Answers program s t answer
answers here program s t answer same step = record { here = here; same = same; step = step }

-- a step on the way goes on
pub goes_on : (x : System) (run : Run x) (program : List VmInstr) (from s t : Machine) (steps count number : ℕ) (done : List StepRecord) (answer : Machined) → GoesOnFor run program from steps count → AreTaken run from steps number done s
    → number < count → Answers program s t answer → IsWent answer
goes_on x run program from s t steps count number done answer g a more step =
    let both = ending_runs_go_on run.image run.hints run.steps run.code run.public_bytes (steps + length done) s t answer run.can.file run.can.bytes run.ends a.under.ran (step_over program (program_of run.image) s t answer step g.over) in
    both.0 (omega (arith, a.count_is, more, g.within))

pub taken_more : (x : System) (run : Run x) (program : List VmInstr) (from s t : Machine) (steps count number : ℕ) (done more : List StepRecord) (d : StepRecord) (answer : Machined) → GoesOnFor run program from steps count
    → AreTaken run from steps number done s → number < count → Answers program s t answer → answer ≡ Went d → more ≡ done ++ d ∷ [] → AreTaken run from steps (number + 1) more t
taken_more x run program from s t steps count number done more d answer g a less step went is =
    let goes : Goes (program_of run.image) s t d = subst (λ w. IsStep (program_of run.image) s t w) went (step_over program (program_of run.image) s t answer step g.over) in
    record {
      under = subst (λ ds. UnderWay x run.image run.hints from steps ds t) (sym is) (records_go_on x run.fits run.version run.image run.hints from s t steps done d run.can a.under (omega (arith, a.count_is, less, g.few)) goes);
      count_is = ap length is ∙ length-append done (d ∷ []) ∙ ap (λ n. n + 1) a.count_is;
    }

-- an answer that is no completed step doesn't come
no_other : (answer : Machined) → IsWent answer → ((d : StepRecord) → answer ≡ Went d → ⊥) → ⊥
no_other (Went d) w other = other d refl
no_other (Ended code) w other = w
no_other Stuck w other = w

pub always_goes : (x : System) (run : Run x) (program : List VmInstr) (from s t : Machine) (steps count number : ℕ) (done : List StepRecord) (answer : Machined) → GoesOnFor run program from steps count → AreTaken run from steps number done s
    → number < count → Answers program s t answer → ((d : StepRecord) → answer ≡ Went d → ⊥) → ⊥
always_goes x run program from s t steps count number done answer g a less step other = no_other answer (goes_on x run program from s t steps count number done answer g a less step) other

-- and a step may be done: the time is early
pub early : (x : System) (run : Run x) (program : List VmInstr) (from s : Machine) (steps count number : ℕ) (done : List StepRecord) → GoesOnFor run program from steps count → AreTaken run from steps number done s → number < count → s.time ≤ 536870848
early x run program from s steps count number done g a more = omega (arith, a.under.in_time, a.count_is, more, g.few)
