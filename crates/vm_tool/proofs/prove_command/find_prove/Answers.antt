use Rattle.std.proofs.Common.{List, ℕ, sym, subst, Ok, Err}
use Rattle.std.proofs.lemmas.Result.{err_from_is_err_and}
use Rattle.air_core.specs.System.{System}
use Rattle.vm_transpile.specs.Program.{program_of}
use Rattle.vm_prover.specs.Progress.{OwnsRows}
use Rattle.vm_prover.specs.Proving.{Proves}
use Rattle.vm_tool.specs.Tables.{program_tables}
use Rattle.vm_tool.proofs.Owners.{tables_own}
use Rattle.vm_tool.proofs.Proves.{prove_elf, prove_known, prove_found, prove_fails}
use Rattle.vm_tool.proofs.Stages.{elf_halts, hints_halt}
use Rattle.vm_tool.proofs.prove_command.find_prove.Goals as goal

pub returns-in_err-image : goal.returns-in_err-image
returns-in_err-image g c =
    let p = err_from_is_err_and c.from_residual.result c.from_residual.ensures.1 in
    rw (p.1, p.2) (elf_halts _ _ _ (prove_elf _ _ _ _) _ _ _ c.in_err-image.ensures)

pub returns-in_err-given : goal.returns-in_err-given
returns-in_err-given g c =
    let p = err_from_is_err_and c.from_residual-in_err-given.result c.from_residual-in_err-given.ensures.1 in
    let elf = c.in_ok-image.ensures in
    rw (p.1, p.2) (hints_halt _ _ _ _ (prove_known _ _ _ _) _ _ _ _ _ elf.1 elf.2 _ c.in_err-given.ensures)

pub prove_as-requires-clause-owns : goal.prove_as-requires-clause-owns
prove_as-requires-clause-owns g c = subst (λ (x : System). OwnsRows x (program_of c.in_ok-image.image)) (sym c.program_tables.ensures) (tables_own c.in_ok-image.image c.is_of_a_file.ensures)

pub returns-in-Ok : goal.returns-in-Ok
returns-in-Ok g c =
    let elf = c.in_ok-image.ensures in
    let hints = c.in_ok-given.ensures in
    let proves = subst (λ (x : System). Proves x 1 c.in_ok-image.image c.in_ok-given.given.items c.args.per_segment c.args.out.now (g.H.Host.state c.read_hints.new.host) (g.H.Host.state c.prove_as.new.host) (Ok c.in-Ok.proving))
    c.program_tables.ensures c.in-Ok.ensures in
    let over = subst (λ (h : List ℕ). Proves program_tables 1 c.in_ok-image.image h c.args.per_segment c.args.out.now (g.H.Host.state c.read_hints.new.host) (g.H.Host.state c.prove_as.new.host) (Ok c.in-Ok.proving))
    (sym hints.2.0) proves in
    rw (c.answer_of.ensures) (prove_found _ _ _ _ _ _ _ _ _ elf.1 elf.2 _ hints.1 hints.2.1 _ c.in-Ok.proving over)

pub returns : goal.returns
returns g c =
    let elf = c.in_ok-image.ensures in
    let hints = c.in_ok-given.ensures in
    let proves = subst (λ (x : System). Proves x 1 c.in_ok-image.image c.in_ok-given.given.items c.args.per_segment c.args.out.now (g.H.Host.state c.read_hints.new.host) (g.H.Host.state c.prove_as.new.host) (Err c.in-Err.error))
    c.program_tables.ensures (rw c.in-Err.is at c.prove_as.ensures) in
    let over = subst (λ (h : List ℕ). Proves program_tables 1 c.in_ok-image.image h c.args.per_segment c.args.out.now (g.H.Host.state c.read_hints.new.host) (g.H.Host.state c.prove_as.new.host) (Err c.in-Err.error))
    (sym hints.2.0) proves in
    prove_fails _ _ _ _ _ _ _ _ _ elf.1 elf.2 _ hints.1 hints.2.1 _ c.in-Err.error over
