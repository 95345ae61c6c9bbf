use Rattle.table_format.proofs.FollowingFile.{items_given}
use Rattle.table_format.proofs.laws.items_are_the_file.Goals as goal

pub returns : goal.returns
returns c = items_given
