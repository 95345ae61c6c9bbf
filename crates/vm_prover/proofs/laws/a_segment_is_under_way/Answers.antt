use Rattle.vm_prover.proofs.StepLemmas.{comes_under_way, records_go_on, records_can_be_filled}
use Rattle.vm_prover.proofs.laws.a_segment_is_under_way.Goals as goal

pub returns-clause-begins : goal.returns-clause-begins
returns-clause-begins g c = λ ext. comes_under_way _

pub returns-clause-goes_on : goal.returns-clause-goes_on
returns-clause-goes_on g c = λ ext. records_go_on _ (g.met.E.Extension.fits ext)

pub returns-clause-fillable : goal.returns-clause-fillable
returns-clause-fillable g c = λ ext. records_can_be_filled _
