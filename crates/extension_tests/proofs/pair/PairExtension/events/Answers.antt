use Rattle.extension_tests.proofs.pair.PairExtension.events.Goals as goal

pub returns-in-1-clause-ok : goal.returns-in-1-clause-ok
returns-in-1-clause-ok g c = rw c.in-1.is c.emit_answer.ensures.ok

pub returns-in-1-clause-err : goal.returns-in-1-clause-err
returns-in-1-clause-err g c = rw c.in-1.is c.emit_answer.ensures.err
