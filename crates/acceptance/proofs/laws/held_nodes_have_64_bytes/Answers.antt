use Rattle.acceptance.proofs.Held.{held_64}
use Rattle.acceptance.proofs.laws.held_nodes_have_64_bytes.Goals as goal

pub returns : goal.returns
returns g c = λ ext. held_64 _
