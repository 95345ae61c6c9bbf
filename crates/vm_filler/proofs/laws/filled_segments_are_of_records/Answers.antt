use Rattle.vm_filler.proofs.Counting.{records_counted}
use Rattle.vm_filler.proofs.Spells.{records_spelled}
use Rattle.vm_filler.proofs.laws.filled_segments_are_of_records.Goals as goal

pub returns-clause-count : goal.returns-clause-count
returns-clause-count g c = λ ext.
    records_counted (g.E.Extension.system ext) (record { fits = g.met.E.Extension.fits ext; buses = g.met.E.Extension.buses ext; rows = g.met.E.Extension.rows ext; complete = g.met.E.Extension.complete ext; quiet = g.met.E.Extension.quiet ext })

pub returns-clause-spell : goal.returns-clause-spell
returns-clause-spell g c = λ ext.
    records_spelled (g.E.Extension.system ext) (record { fits = g.met.E.Extension.fits ext; buses = g.met.E.Extension.buses ext; rows = g.met.E.Extension.rows ext; complete = g.met.E.Extension.complete ext; quiet = g.met.E.Extension.quiet ext })
