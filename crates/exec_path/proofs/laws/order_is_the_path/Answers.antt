use Rattle.exec_path.proofs.OrderLemmas.{order_is_path}
use Rattle.exec_path.proofs.laws.order_is_the_path.Goals as goal

pub returns : goal.returns
returns c = order_is_path
