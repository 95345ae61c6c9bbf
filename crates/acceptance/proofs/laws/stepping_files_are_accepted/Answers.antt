use Rattle.acceptance.proofs.Example.{stepping_accepted}
use Rattle.acceptance.proofs.laws.stepping_files_are_accepted.Goals as goal

pub returns : goal.returns
returns c = stepping_accepted
