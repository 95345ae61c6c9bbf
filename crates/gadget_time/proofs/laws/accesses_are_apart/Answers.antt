use Rattle.gadget_time.specs.lemmas.ToldLaws.{times_apart}
use Rattle.gadget_time.proofs.laws.accesses_are_apart.Goals as goal

pub returns : goal.returns
returns c = times_apart
