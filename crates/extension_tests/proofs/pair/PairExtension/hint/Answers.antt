use Rattle.extension_tests.proofs.PairHint.{pair_no_hint}
use Rattle.extension_tests.proofs.pair.PairExtension.hint.Goals as goal

pub returns : goal.returns
returns c = pair_no_hint c.args.table c.args.row.now
