-- Whole runs of the machine beside those of the manual's.
use Rattle.std.proofs.Common.{◌≡◌, ℕ, zero, suc, inl, inr, true, List, Some, refl, sym, ap, ◌∙◌, subst}
use Rattle.std.proofs.lemmas.Bool.{both_ways}
use Rattle.elf_image.specs.Loaded.{Loaded}
use Rattle.elf_image.specs.Image.{HasImage}
use Rattle.rv_run.specs.Machine.{Machine as Manual, start}
use Rattle.rv_run.specs.Step.{goes, ends, step_of}
use Rattle.vm_isa.specs.declared.instr.VmInstr.{VmInstr}
use Rattle.vm_isa.specs.Blocks.{VmState, VmStep, Terminates}
use Rattle.vm_isa.specs.Means.{Meaning, is_refused, means_of}
use Rattle.vm_isa.proofs.NextLaws.{meant}
use Rattle.vm_transpile.specs.Order.{RisesFrom}
use Rattle.vm_transpile.specs.Program.{program_of}
use Rattle.vm_transpile.specs.Refines.{HasText}
use Rattle.vm_transpile.specs.Same.{IsMachine, Same}
use Rattle.vm_transpile.proofs.Lookups.{finds}
use Rattle.vm_transpile.proofs.Refinement.{goes_forth, ends_by_row, state_is_kept, went_text, ended_text}
use Rattle.vm_transpile.proofs.Texts.{program_rises}
use Rattle.vm_transpile.proofs.Starts.{starts_are_same}
use Rattle.vm_executor.specs.declared.machine.Machined.{Machined}
use Rattle.vm_executor.specs.declared.machine.Machined.TheVariants.{Went, Ended, Stuck}
use Rattle.vm_executor.specs.Laws.{RunsAreRunsOnBlocks, RunsAreTheManuals, RunsGoAlong}
use Rattle.vm_executor.specs.Machine.{Machine, vm_state}
use Rattle.vm_executor.specs.Runs.{IsWent, StaysOrBegins, starting}
use Rattle.vm_executor.specs.State.{IsStep}
use Rattle.vm_executor.proofs.OneStep.{one_step, some_row}
use Rattle.vm_executor.proofs.VmSteps.{vm_step}

same_state : (m n : Machine) → StaysOrBegins m n → vm_state n ≡ vm_state m
same_state m n (inl e) = ap vm_state e
same_state m n (inr e) = ap vm_state e

pub runs_are_runs_on_blocks : RunsAreRunsOnBlocks
runs_are_runs_on_blocks program from zero m ran = same_state from m ran
runs_are_runs_on_blocks program from (suc n) m (before, after, done, ran, step, stays) = (
  vm_state before,
  runs_are_runs_on_blocks program from n before ran,
  subst (VmStep program (vm_state before)) (sym (same_state after m stays)) (vm_step program before after done step),
)

pub runs_are_the_manuals : RunsAreTheManuals
runs_are_the_manuals hints loaded are file zero m t reached ran text =
    let same = starts_are_same hints loaded are file in (
      subst IsMachine (sym reached) same.0,
      subst (λ (x : Manual). Same x (vm_state t)) (sym reached) (subst (Same (start loaded hints)) (sym (same_state (starting loaded hints) t ran)) same.1),
    )
runs_are_the_manuals hints loaded are file (suc n) m t reached (before, after, done, ran, step, stays) text =
    let program = program_of loaded in
    let was = runs_are_the_manuals hints loaded are file n reached.0 before reached.1 ran (went_text loaded reached.0 m reached.2) in
    let next = goes_forth file.bytes loaded file.has_image reached.0 m (vm_state before) was.0 was.1 reached.2 text in
    let one = one_step program (vm_state before) next.0 (vm_state after) (program_rises loaded) next.1 (vm_step program before after done step) in (
      state_is_kept loaded reached.0 m was.0 reached.2,
      subst (Same m) (one ∙ sym (same_state after t stays)) next.2,
    )

-- a TERMINATE has no meaning
refused : (i : VmInstr) (olds : List (List ℕ)) → i.op ≡ 41 → is_refused i olds ≡ true
unfolding is_refused
refused i olds e = rw e refl

pub no_end : (i : VmInstr) (olds : List (List ℕ)) (given : List ℕ) (m : Meaning) → i.op ≡ 41 → means_of i olds given ≡ Some m → ⊥
no_end i olds given m e h = both_ways (is_refused i olds) (meant i olds given m h).fits (refused i olds e)

ends_stuck : (program : List VmInstr) (m : Machine) (t : VmState) (code : ℕ) → RisesFrom 0 program → Terminates program m.pc code → VmStep program (vm_state m) t → ⊥
ends_stuck program m t code rises end step =
    let row : step.instr ≡ end.row = some_row step.instr end.row (sym (finds program m.pc step.instr rises (record { stands = step.stands; here = step.here })) ∙ finds program m.pc end.row rises (record { stands = end.stands; here = end.here })) in
    no_end step.instr _ _ step.meaning (ap (λ (r : VmInstr). r.op) row ∙ end.is_end) step.means

moved : (loaded : Loaded) (m : Manual) (t : Machine) (code : ℕ) → Same m (vm_state t) → Terminates (program_of loaded) t.pc code → Terminates (program_of loaded) m.pc code
moved loaded m t code same end = record { row = end.row; stands = end.stands; here = end.here ∙ same.pc; is_end = end.is_end; states = end.states }

moved_back : (loaded : Loaded) (m : Manual) (t : Machine) (code : ℕ) → Same m (vm_state t) → Terminates (program_of loaded) m.pc code → Terminates (program_of loaded) t.pc code
moved_back loaded m t code same end = record { row = end.row; stands = end.stands; here = end.here ∙ sym same.pc; is_end = end.is_end; states = end.states }

goes_by : (loaded : Loaded) (bytes : List ℕ) → HasImage bytes loaded → (m next : Manual) (t u : Machine) (answer : Machined) → IsMachine m → Same m (vm_state t) → step_of loaded m ≡ goes next → HasText loaded next.pc → IsStep (program_of loaded) t u answer → IsWent answer
goes_by loaded bytes image m next t u (Went done) is same step text h = tt
goes_by loaded bytes image m next t u (Ended code) is same step text h =
    let end = (ends_by_row bytes loaded image m code).1 (moved loaded m t code same h.1) in
    absurd (let no : goes next ≡ ends code = sym step ∙ end in cc)
goes_by loaded bytes image m next t u Stuck is same step text h = let forth = goes_forth bytes loaded image m next (vm_state t) is same step text in h.no_step forth.0 forth.1

ends_so : (loaded : Loaded) (bytes : List ℕ) → HasImage bytes loaded → (m : Manual) (t u : Machine) (answer : Machined) (code : ℕ) → Same m (vm_state t) → step_of loaded m ≡ ends code → IsStep (program_of loaded) t u answer → answer ≡ Ended code
ends_so loaded bytes image m t u (Went done) code same step h =
    absurd (ends_stuck (program_of loaded) t (vm_state u) code (program_rises loaded) (moved_back loaded m t code same ((ends_by_row bytes loaded image m code).0 step)) (vm_step (program_of loaded) t u done h))
ends_so loaded bytes image m t u (Ended other) code same step h =
    let end = (ends_by_row bytes loaded image m other).1 (moved loaded m t other same h.1) in
    let one : ends other ≡ ends code = sym end ∙ step in
    let codes : other ≡ code = cc in
    ap Ended codes
ends_so loaded bytes image m t u Stuck code same step h = absurd (h.no_end code (moved_back loaded m t code same ((ends_by_row bytes loaded image m code).0 step)))

pub runs_go_along : RunsGoAlong
runs_go_along hints loaded are file n m t u answer reached ran h = (
  (λ next step text. let same = runs_are_the_manuals hints loaded are file n m t reached ran (went_text loaded m next step) in goes_by loaded file.bytes file.has_image m next t u answer same.0 same.1 step text h),
  (λ code step. let same = runs_are_the_manuals hints loaded are file n m t reached ran (ended_text loaded m code step) in ends_so loaded file.bytes file.has_image m t u answer code same.1 step h),
)
