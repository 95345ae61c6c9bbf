use Rattle.std.proofs.Common.{refl, ap, Err}
use Rattle.std.proofs.lemmas.Result.{err_from_is_err_and}
use Rattle.vm_tool.proofs.Files.{file_too_long, opened_for_nothing, no_refusal, rose_after}
use Rattle.vm_host.specs.declared.ReadError.TheVariants.{Host}
use Rattle.vm_tool.proofs.inputs.read_file.Goals as goal

pub returns-in_err-open : goal.returns-in_err-open
returns-in_err-open g c =
    let p = err_from_is_err_and c.from_residual.result c.from_residual.ensures.1 in
    rw (p.1, p.2) (no_refusal _ _ _ _ _ _ c.in_err-open.ensures.refused)

pub returns-in-Err-TooLong : goal.returns-in-Err-TooLong
returns-in-Err-TooLong g c =
    let long = file_too_long _ _ _ _ _ _ c.in_ok-open.ensures.opened (rw c.in-Err-TooLong.field-0-is at c.in-Err-TooLong.ensures) in
    (long.0, long.1, (long.2, refl))

pub returns-in-Err-Host : goal.returns-in-Err-Host
returns-in-Err-Host g c =
    let fault = (rw c.in-Err-Host.field-0-is at c.in-Err-Host.ensures).fault in
    (opened_for_nothing _ _ _ _ _ _ c.in_ok-open.ensures.opened c.read_up_to.ensures.took.1, λ failed. rose_after _ _ _ c.in_ok-open.ensures.opened.quiet.later (fault (ap (λ e. Err (Host e)) failed)))
