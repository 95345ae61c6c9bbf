use Rattle.std.proofs.lemmas.Result.{err_from_is_err_and}
use Rattle.vm_prover.proofs.Whole.{file_written, not_begun}
use Rattle.vm_prover.proofs.file.write_file.Goals as goal

pub returns-in_err-writer : goal.returns-in_err-writer
returns-in_err-writer g c =
    let p = err_from_is_err_and c.from_residual-in_err-writer.result c.from_residual-in_err-writer.ensures.1 in
    rw (p.1, p.2) (not_begun _ _ _ _ _ _ _ _ _ c.in_err-writer.ensures)

pub returns : goal.returns
returns g c = file_written _ _ _ _ c.args.ending.now _ _ _ _ c.in_ok-writer.writer _ c.in_ok-writer.ensures c.write_run.ensures.writes c.write_run.ensures.whole
