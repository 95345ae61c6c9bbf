use Rattle.std.proofs.Common.{[], arith}
use Rattle.vm_host.proofs.Reading.{took_none, answers_memory}
use Rattle.vm_host.proofs.read_up_to.Goals as goal

pub returns-in_err-buffer : goal.returns-in_err-buffer
returns-in_err-buffer g c =
    answers_memory _ _ _ _ _ [] _ (took_none _ _ c.requires.open) (omega arith) c.from_residual.ensures.1
