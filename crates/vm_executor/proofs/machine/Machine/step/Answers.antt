use Rattle.std.proofs.Common.{◌≡◌, ℕ, List, Some, refl, sym, ◌∙◌, subst, arith}
use Rattle.vm_isa.specs.Blocks.{Blocks, Meets}
use Rattle.vm_isa.specs.Means.{Meaning, means_of}
use Rattle.vm_executor.specs.declared.block.Reached.{Reached}
use Rattle.vm_executor.specs.Write.{AreAt}
use Rattle.vm_executor.proofs.WriteLemmas.{planned_at}
use Rattle.vm_executor.specs.Machine.{IsStuck, Machine}
use Rattle.vm_executor.specs.State.{machine_of, program_of}
use Rattle.vm_executor.proofs.StepWords.{stuck_off, stuck_by, same_machine, ends_by, goes_by}
use Rattle.vm_executor.proofs.machine.Machine.step.Goals as goal

pub returns-in_default-clause-step : goal.returns-in_default-clause-step
returns-in_default-clause-step c = stuck_off (program_of c.args.self.now) (machine_of c.args.self.now) c.rows_rise.ensures (sym c.lookup.ensures ∙ c.in_default.is)

pub returns-then-instr-eq-TERMINATE-clause-step : goal.returns-then-instr-eq-TERMINATE-clause-step
returns-then-instr-eq-TERMINATE-clause-step c = (refl, ends_by (program_of c.args.self.now) c.args.self.now.pc c.in-Some.instr (sym c.lookup.ensures ∙ c.in-Some.is) (omega (arith, c.if-instr-eq-TERMINATE.true)))

pub returns-in_default-given-clause-step : goal.returns-in_default-given-clause-step
returns-in_default-given-clause-step c =
    stuck_by (program_of c.args.self.now) (machine_of c.args.self.now) c.in-Some.instr c.rows_rise.ensures (sym c.lookup.ensures ∙ c.in-Some.is) (λ e. omega (arith, e, c.if-instr-eq-TERMINATE.false))
    (λ olds given m h meets enough. c.in_default-given.ensures enough)

pub returns-then-not-branch-clause-step : goal.returns-then-not-branch-clause-step
returns-then-not-branch-clause-step c =
    let program = program_of c.args.self.now in
    let m = machine_of c.args.self.now in
    subst (λ (n : Machine). IsStuck program m n) (sym (same_machine m.pc m.time m.hints c.args.self.now.memory c.read.new.memory c.read.ensures.keeps))
    (stuck_by program m c.in-Some.instr c.rows_rise.ensures (sym c.lookup.ensures ∙ c.in-Some.is) (λ e. omega (arith, e, c.if-instr-eq-TERMINATE.false))
    (λ olds given m h meets enough. (rw c.if-not-branch.true at c.in_ok-read.ensures.words) olds given m h meets))

pub make-requires : goal.make-requires
make-requires c =
    let i = c.in-Some.instr in
    let mid = c.read.new.memory in
    let words = c.read.new.self.words.items in
    let read = rw c.if-not-branch.false at c.in_ok-read.ensures.words in
    subst (λ (blocks : List Reached). AreAt mid blocks c.in_ok-accesses.accesses) (sym c.as_slice.ensures.value)
    (planned_at i mid words c.in-Some-given.given c.args.self.now.time c.read.new.self.blocks.items c.in_ok-accesses.accesses read.0
    (λ word m h. subst (λ (b : Blocks). Meets b m.accesses) (sym c.read.ensures.keeps.now) (read.1 word m h))
    (c.in_ok-read.ensures.blocks c.if-not-branch.false) c.args.self.now.begun c.in_ok-accesses.ensures.planned)

pub returns-clause-step : goal.returns-clause-step
returns-clause-step c =
    goes_by (program_of c.args.self.now) c.args.self.now.pc c.args.self.now.time c.args.self.now.hints c.take_hints.new.hints c.args.self.now.memory c.read.new.memory c.make.new.memory c.in-Some.instr c.read.new.self.words.items c.in-Some-given.given
    c.in_ok-accesses.accesses c.next_pc-next.result c.slots.result
    (sym c.lookup.ensures ∙ c.in-Some.is)
    (rw c.if-not-branch.false at c.in_ok-read.ensures.words)
    c.in-Some-given.ensures.0 c.in-Some-given.ensures.1 c.read.ensures.keeps c.in_ok-accesses.ensures.planned c.make.ensures c.in_ok-accesses.ensures.words
    (subst (λ (ws : List (List ℕ)). (word : List ℕ) → (m : Meaning) × (means_of c.in-Some.instr ws word ≡ Some m) × (m.next ≡ c.next_pc-next.result)) c.as_slice-2.ensures.value c.next_pc-next.ensures)
    c.take_hints.ensures c.slots.ensures
