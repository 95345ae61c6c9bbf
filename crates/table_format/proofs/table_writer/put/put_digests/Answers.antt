use Rattle.std.proofs.Common.{ap}
use Rattle.std.specs.List.{flat_map}
use Rattle.std.proofs.lemmas.List.{take_all}
use Rattle.table_format.proofs.Putting.{puts_none, puts_more, puts_stops, puts_as}
use Rattle.table_format.specs.Texts.{raw_text}
use Rattle.std.proofs.Common.{[]}
use Rattle.table_format.proofs.table_writer.put.put_digests.Goals as goal

pub digests-init : goal.digests-init
digests-init g c = puts_none _ _

pub returns-in_err-put : goal.returns-in_err-put
returns-in_err-put g c = puts_stops raw_text c.args.digests.now c.digests.digest-index [] _ c.from_residual.result c.from_residual.ensures.1 c.digests-test.true c.digests.invariant c.in_err-put.ensures

pub digests-preserved : goal.digests-preserved
digests-preserved g c = puts_more raw_text c.args.digests.now c.digests.digest-index [] c.digests-test.true c.digests.invariant c.in_ok-put.ensures

pub returns : goal.returns
returns g c = puts_as (ap (flat_map raw_text) (take_all c.digests.digest-index c.args.digests.now c.digests-test.false)) c.digests.invariant
