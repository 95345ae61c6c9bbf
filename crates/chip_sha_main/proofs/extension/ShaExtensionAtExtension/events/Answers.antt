use Rattle.chip_sha_main.proofs.extension.ShaExtensionAtExtension.events.Goals as goal

pub returns-in-1-clause-ok : goal.returns-in-1-clause-ok
returns-in-1-clause-ok g c = rw c.in-1.is c.events-in-1.ensures.ok

pub returns-in-1-clause-err : goal.returns-in-1-clause-err
returns-in-1-clause-err g c = rw c.in-1.is c.events-in-1.ensures.err
