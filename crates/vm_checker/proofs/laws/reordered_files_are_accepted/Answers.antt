use Rattle.vm_checker.proofs.Reorders.{reordered_files_are_accepted}
use Rattle.vm_checker.proofs.laws.reordered_files_are_accepted.Goals as goal

pub returns : goal.returns
returns c = reordered_files_are_accepted
