use Rattle.std.proofs.Common.{ap, subst, Ok, Err}
use Rattle.std.proofs.lemmas.Result.{err_from_is_err_and}
use Rattle.air_core.specs.System.{System}
use Rattle.vm_checker.specs.Verdicts.{Checks, JudgesFile}
use Rattle.vm_tool.proofs.Checks.{check_known, tables_halt, check_found, check_fails}
use Rattle.vm_tool.proofs.Stages.{elf_halts}
use Rattle.vm_tool.proofs.check_command.find_check.Goals as goal

pub check-requires-clause-times : goal.check-requires-clause-times
check-requires-clause-times g c = ap (λ (x : System). x.time_bits) c.program_tables.ensures

pub returns-in_err-image : goal.returns-in_err-image
returns-in_err-image g c =
    let p = err_from_is_err_and c.from_residual.result c.from_residual.ensures.1 in
    rw (p.1, p.2) (elf_halts _ _ _ (check_known _ _) _ _ _ c.in_err-image.ensures)

pub returns-in_err-open : goal.returns-in_err-open
returns-in_err-open g c =
    let p = err_from_is_err_and c.from_residual-in_err-open.result c.from_residual-in_err-open.ensures.1 in
    let elf = c.in_ok-image.ensures in
    rw (p.1, p.2) (tables_halt _ _ _ _ _ _ elf.1 elf.2 _ _ c.in_err-open.ensures.refused)

pub returns-in-Ok : goal.returns-in-Ok
returns-in-Ok g c =
    let elf = c.in_ok-image.ensures in
    let checks = subst (λ (x : System). Checks (JudgesFile x c.in_ok-image.image) (g.H.Host.state c.open.new.host) (g.H.Host.state c.check.new.host) (Ok c.in-Ok.verdict)) c.program_tables.ensures c.in-Ok.ensures in
    rw (c.answer_of.ensures) (check_found _ _ _ _ _ _ elf.1 elf.2 _ _ c.in_ok-open.ensures.opened c.in-Ok.verdict checks)

pub returns : goal.returns
returns g c =
    let elf = c.in_ok-image.ensures in
    let checks = subst (λ (x : System). Checks (JudgesFile x c.in_ok-image.image) (g.H.Host.state c.open.new.host) (g.H.Host.state c.check.new.host) (Err c.in-Err.error)) c.program_tables.ensures (rw c.in-Err.is at c.check.ensures) in
    check_fails _ _ _ _ _ _ elf.1 elf.2 _ _ c.in_ok-open.ensures.opened c.in-Err.error checks
