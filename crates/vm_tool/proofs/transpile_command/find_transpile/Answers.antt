use Rattle.std.proofs.lemmas.Result.{err_from_is_err_and}
use Rattle.vm_tool.proofs.Transpiles.{transpile_known, transpile_found, transpile_without_memory}
use Rattle.vm_tool.proofs.Stages.{elf_halts}
use Rattle.vm_tool.proofs.transpile_command.find_transpile.Goals as goal

pub returns-in_err-image : goal.returns-in_err-image
returns-in_err-image g c =
    let p = err_from_is_err_and c.from_residual.result c.from_residual.ensures.1 in
    rw (p.1, p.2) (elf_halts _ _ _ (transpile_known _) _ _ _ c.in_err-image.ensures)

pub returns-in-Ok : goal.returns-in-Ok
returns-in-Ok g c =
    let elf = c.in_ok-image.ensures in
    rw (c.in-Ok.ensures.rows) (transpile_found _ _ _ _ _ elf.1 elf.2)

pub returns : goal.returns
returns g c =
    let elf = c.in_ok-image.ensures in
    transpile_without_memory _ _ _ _ _ elf.1 elf.2
