use Rattle.air_core.proofs.ExtensionLemmas.{owner_rows, other_rows, few_rows, no_rows}
use Rattle.air_core.proofs.laws.rows_of_a_record.Goals as goal

pub returns-clause-owner : goal.returns-clause-owner
returns-clause-owner g c = λ ext. owner_rows (g.E.Extension.system ext) (g.met.E.Extension.rows ext)

pub returns-clause-others : goal.returns-clause-others
returns-clause-others g c = λ ext. other_rows (g.E.Extension.system ext) (g.met.E.Extension.fits ext) (g.met.E.Extension.rows ext)

pub returns-clause-few : goal.returns-clause-few
returns-clause-few g c = λ ext. few_rows (g.E.Extension.system ext) (g.met.E.Extension.rows ext)

pub returns-clause-none : goal.returns-clause-none
returns-clause-none g c = λ ext. no_rows (g.E.Extension.system ext) (g.met.E.Extension.rows ext)
