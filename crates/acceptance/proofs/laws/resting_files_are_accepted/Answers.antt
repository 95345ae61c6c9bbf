use Rattle.acceptance.proofs.Example.{resting_accepted, resting_claim}
use Rattle.acceptance.proofs.laws.resting_files_are_accepted.Goals as goal

pub returns-clause-accepted : goal.returns-clause-accepted
returns-clause-accepted g c = λ ext. resting_accepted _

pub returns-clause-claim : goal.returns-clause-claim
returns-clause-claim g c = λ ext. resting_claim _
