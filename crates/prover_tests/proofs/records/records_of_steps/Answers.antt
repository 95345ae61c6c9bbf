use Rattle.std.proofs.Common.{List, ◌+◌, sym, ap, ◌∙◌, subst, arith}
use Rattle.vm_isa.specs.declared.instr.VmInstr.{VmInstr}
use Rattle.vm_isa.specs.declared.record.StepRecord.{StepRecord}
use Rattle.vm_executor.specs.Machine.{Machine, begun, Goes}
use Rattle.vm_executor.specs.State.{IsStep, machine_of, program_of}
use Rattle.prover_tests.specs.TookSteps.{TookSteps}
use Rattle.prover_tests.proofs.Taking.{stays, taken_none, taken_more, taken_same, taken_records}
use Rattle.prover_tests.proofs.records.records_of_steps.Goals as goal
use Rattle.prover_tests.proofs.records.records_of_steps.Goals.{in-Went+in_ok-push, in_default}

pub loop-step-init : goal.loop-step-init
loop-step-init c =
    let program = program_of c.args.machine.now in
    let pc = c.args.machine.now.pc in
    let none = taken_none program (machine_of c.args.machine.now) c.requires.bytes in
    record {
      taken =
          subst (λ (m : Machine). TookSteps program pc 0 c.new-records.result.items m) (sym c.start_segment.ensures.begun)
          (subst (λ (done : List StepRecord). TookSteps program pc 0 done (begun (machine_of c.args.machine.now))) (sym c.new-records.ensures.items) none);
      same = c.start_segment.ensures.program;
    }

pub loop-step-preserved : goal.loop-step-preserved
loop-step-preserved c =
    let program = program_of c.args.machine.now in
    let pc = c.args.machine.now.pc in
    let old = machine_of c.loop-step.machine in
    let new = machine_of c.step.new.self in
    let step : IsStep program old new c.in_ok-record.field-0 = subst (λ (p : List VmInstr). IsStep p old new c.in_ok-record.field-0) c.loop-step.invariant.same c.in_ok-record.ensures.step in
    let number = c.loop-step.step in
    record {
      taken = elim c.match-branch-2.branch [
        | in-Went+in_ok-push w ↦
            let goes : Goes program old new w.in-Went.record = subst (IsStep program old new) w.in-Went.is step in
            subst (λ (done : List StepRecord). TookSteps program pc (number + 1) done new) (sym (ap (λ v. v.items) w.records-is ∙ w.in_ok-push.ensures.items))
            (taken_more program pc number c.loop-step.records.items old new w.in-Went.record c.requires.range (omega (arith, c.loop-step-test.true, c.requires.few)) c.loop-step.invariant.taken goes)
        | in_default w ↦
            subst (λ (done : List StepRecord). TookSteps program pc (number + 1) done new) (sym (ap (λ v. v.items) w.records-is))
            (taken_same program pc number c.loop-step.records.items old new (stays program old new c.in_ok-record.field-0 step w.in_default.not-Went) c.loop-step.invariant.taken)
      ];
      same = c.step.ensures.program ∙ c.loop-step.invariant.same;
    }

pub returns : goal.returns
returns c =
    let few = c.loop-step.auto.step-end in
    (c.args.machine.now.pc, taken_records (program_of c.args.machine.now) c.args.machine.now.pc c.loop-step.step c.loop-step.records.items (machine_of c.loop-step.machine) (omega (arith, few, c.requires.few)) c.loop-step.invariant.taken)
