use Rattle.std.proofs.Common.{[], sym, subst, Ok, Err}
use Rattle.air_core.specs.System.{System}
use Rattle.vm_transpile.specs.Program.{program_of}
use Rattle.vm_prover.specs.Progress.{OwnsRows}
use Rattle.vm_prover.specs.Proving.{Proves}
use Rattle.vm_tool.specs.SampleCommand.{sample_image, sample_per_segment}
use Rattle.vm_tool.proofs.Owners.{tables_own}
use Rattle.vm_tool.proofs.Samples.{sample_found, sample_fails, sample_without_memory}
use Rattle.vm_tool.proofs.sample_command.find_sample.Goals as goal

pub returns-in-Err : goal.returns-in-Err
returns-in-Err g c = rw c.in-Err.ensures.memory (sample_without_memory _ _ _)

pub prove_as-requires-clause-owns : goal.prove_as-requires-clause-owns
prove_as-requires-clause-owns g c = subst (λ (x : System). OwnsRows x (program_of c.in-Ok.image)) (sym c.program_tables.ensures) (tables_own c.in-Ok.image c.is_of_a_file.ensures)

pub returns-in-Ok-prove_as : goal.returns-in-Ok-prove_as
returns-in-Ok-prove_as g c =
    let p = subst (λ (x : System). Proves x 1 (sample_image c.args.number) [] sample_per_segment c.args.out.now (g.H.Host.state c.args.host.now) (g.H.Host.state c.prove_as.new.host) (Ok c.in-Ok-prove_as.proving))
    c.program_tables.ensures (rw (c.in-Ok.ensures.image, c.new.ensures.items) at c.in-Ok-prove_as.ensures) in
    rw (c.answer_of.ensures) (sample_found _ _ _ _ c.in-Ok-prove_as.proving p)

pub returns : goal.returns
returns g c =
    let p = subst (λ (x : System). Proves x 1 (sample_image c.args.number) [] sample_per_segment c.args.out.now (g.H.Host.state c.args.host.now) (g.H.Host.state c.prove_as.new.host) (Err c.in-Err-prove_as.error))
    c.program_tables.ensures (rw (c.in-Err-prove_as.is, c.in-Ok.ensures.image, c.new.ensures.items) at c.prove_as.ensures) in
    sample_fails _ _ _ _ c.in-Err-prove_as.error p
