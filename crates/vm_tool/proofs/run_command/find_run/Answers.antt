use Rattle.std.proofs.lemmas.Result.{err_from_is_err_and}
use Rattle.vm_tool.proofs.Runs.{run_elf, run_known, run_found, run_without_memory}
use Rattle.vm_tool.proofs.Stages.{elf_halts, hints_halt}
use Rattle.vm_tool.proofs.run_command.find_run.Goals as goal

pub returns-in_err-image : goal.returns-in_err-image
returns-in_err-image g c =
    let p = err_from_is_err_and c.from_residual.result c.from_residual.ensures.1 in
    rw (p.1, p.2) (elf_halts _ _ _ (run_elf _ _ _) _ _ _ c.in_err-image.ensures)

pub returns-in_err-given : goal.returns-in_err-given
returns-in_err-given g c =
    let p = err_from_is_err_and c.from_residual-in_err-given.result c.from_residual-in_err-given.ensures.1 in
    let elf = c.in_ok-image.ensures in
    rw (p.1, p.2) (hints_halt _ _ _ _ (run_known _ _ _) _ _ _ _ _ elf.1 elf.2 _ c.in_err-given.ensures)

pub returns-in-Ok : goal.returns-in-Ok
returns-in-Ok g c =
    let elf = c.in_ok-image.ensures in
    let hints = c.in_ok-given.ensures in
    rw (c.answer_of.ensures)
    (run_found _ _ _ _ _ _ _ _ elf.1 elf.2 _ hints.1 _ hints.2.1 (rw (← hints.2.0) at c.in-Ok.ensures))

pub returns : goal.returns
returns g c =
    let elf = c.in_ok-image.ensures in
    let hints = c.in_ok-given.ensures in
    run_without_memory _ _ _ _ _ _ _ _ elf.1 elf.2 _ hints.1
