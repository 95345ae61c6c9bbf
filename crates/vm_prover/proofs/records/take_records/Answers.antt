use Rattle.std.proofs.Common.{◌≡◌, ◌∙◌, subst, arith, rules}
use Rattle.std.proofs.lemmas.Grind.{common_steps}
use Rattle.vm_executor.specs.State.{machine_of, program_of}
use Rattle.vm_prover.specs.Segments.{AreTaken}
use Rattle.vm_prover.proofs.Takes.{always_goes, answers, early, taken_more}
use Rattle.vm_prover.proofs.records.take_records.Goals as goal
use Rattle.vm_prover.proofs.records.take_records.Goals.{in-Went+in_ok-map_err, in_default}

pub step-requires : goal.step-requires
step-requires c =
    let r = c.requires in
    early r.0 r.1.0 _ _ (machine_of c.loop-number.machine) r.1.1.0 _ _ _ r.1.1.1 (c.loop-number.invariant.taken r.0 r.1.0 r.1.1.0 r.1.1.1) c.loop-number-test.true

pub loop-number-preserved : goal.loop-number-preserved
loop-number-preserved c =
    let i = c.loop-number.invariant in
    let step = answers _ (program_of c.args.machine.now) (machine_of c.loop-number.machine) (machine_of c.step.new.self) c.in_ok-record.field-0 i.same c.in_ok-record.ensures.step in
    elim c.match-branch-3.branch [
      | in-Went+in_ok-map_err w ↦ record {
        taken = λ x run steps g. taken_more x run _ _ (machine_of c.loop-number.machine) (machine_of c.step.new.self) steps _ _ _ _ w.in-Went.record c.in_ok-record.field-0 g (i.taken x run steps g) c.loop-number-test.true step w.in-Went.is (first_of (search rules, grind (arith, common_steps)));
        same = c.in_ok-record.ensures.program ∙ i.same;
      }
      | in_default w ↦
          let r = c.requires in
          absurd (always_goes r.0 r.1.0 _ _ (machine_of c.loop-number.machine) (machine_of c.step.new.self) r.1.1.0 _ _ _ c.in_ok-record.field-0 r.1.1.1 (i.taken r.0 r.1.0 r.1.1.0 r.1.1.1) c.loop-number-test.true step w.in_default.not-Went)
    ]

pub returns-clause-taken : goal.returns-clause-taken
returns-clause-taken c = λ x run steps g.
    let all : c.loop-number.number ≡ c.args.count = omega (arith, c.loop-number-test.false, c.loop-number.auto.number-end) in
    subst (λ n. AreTaken run (machine_of c.args.machine.now) steps n c.loop-number.records.items (machine_of c.loop-number.machine)) all (c.loop-number.invariant.taken x run steps g)
