use Rattle.std.proofs.Common.{◌∙◌, refl, rules}
use Rattle.std.proofs.lemmas.Result.{err_from_is_err_and}
use Rattle.vm_prover.proofs.Whole.{not_wrote, nothing_written, planned, surveyed, wrote}
use Rattle.vm_prover.proofs.prove_as.Goals as goal

pub write_file-requires-clause-ends : goal.write_file-requires-clause-ends
write_file-requires-clause-ends g c =
    let ends = surveyed _ _ _ _ _ _ c.in_ok-ending.ensures (c.in_ok-copied.ensures ∙ c.deref.ensures.value) c.in-Ended.is in
    record { ends = ends.ends; plan = planned _ _ _ _ _ _ _ c.requires.least c.requires.most ends }

pub returns-in_err-write_file-in-Ended : goal.returns-in_err-write_file-in-Ended
returns-in_err-write_file-in-Ended g c =
    let ends = surveyed _ _ _ _ _ _ c.in_ok-ending.ensures (c.in_ok-copied.ensures ∙ c.deref.ensures.value) c.in-Ended.is in
    let p = err_from_is_err_and c.from_residual-in_err-write_file-in-Ended.result c.from_residual-in_err-write_file-in-Ended.ensures.1 in
    rw (p.1, p.2) (not_wrote _ _ _ _ _ c.in-Ended.ending _ _ _ _ ends c.in_err-write_file-in-Ended.ensures)

pub returns-in_ok-write_file-in-Ended : goal.returns-in_ok-write_file-in-Ended
returns-in_ok-write_file-in-Ended g c =
    let ends = surveyed _ _ _ _ _ _ c.in_ok-ending.ensures (c.in_ok-copied.ensures ∙ c.deref.ensures.value) c.in-Ended.is in
    wrote _ _ _ _ _ c.in-Ended.ending _ _ _ _ ends refl refl (search rules) refl c.in_ok-write_file-in-Ended.ensures

pub returns-in-Trapped : goal.returns-in-Trapped
returns-in-Trapped g c =
    nothing_written _ _ _ _ _ _ _ _ (surveyed _ _ _ _ _ _ c.in_ok-ending.ensures (c.in_ok-copied.ensures ∙ c.deref.ensures.value) c.in-Trapped.is) refl

pub returns-in-TooManySegments : goal.returns-in-TooManySegments
returns-in-TooManySegments g c =
    nothing_written _ _ _ _ _ _ _ _ (surveyed _ _ _ _ _ _ c.in_ok-ending.ensures (c.in_ok-copied.ensures ∙ c.deref.ensures.value) c.in-TooManySegments.is) refl
