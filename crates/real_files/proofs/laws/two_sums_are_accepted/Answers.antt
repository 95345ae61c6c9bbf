use Rattle.real_files.proofs.TwoSums.{two_sums_accepted}
use Rattle.real_files.proofs.laws.two_sums_are_accepted.Goals as goal

pub returns : goal.returns
returns c = two_sums_accepted
