use Rattle.std.proofs.Common.{ap}
use Rattle.std.specs.List.{flat_map}
use Rattle.std.proofs.lemmas.List.{take_all}
use Rattle.table_format.proofs.Putting.{puts_none, puts_more, puts_stops, puts_as}
use Rattle.table_format.specs.Texts.{entry_text}
use Rattle.table_format.proofs.table_writer.parts.put_each_entry.Goals as goal

pub entries-init : goal.entries-init
entries-init g c = puts_none _ _

pub returns-in_err-put_entry : goal.returns-in_err-put_entry
returns-in_err-put_entry g c = puts_stops entry_text c.args.entries.now c.entries.entry-index _ _ c.from_residual.result c.from_residual.ensures.1 c.entries-test.true c.entries.invariant c.in_err-put_entry.ensures

pub entries-preserved : goal.entries-preserved
entries-preserved g c = puts_more entry_text c.args.entries.now c.entries.entry-index _ c.entries-test.true c.entries.invariant c.in_ok-put_entry.ensures

pub returns : goal.returns
returns g c = puts_as (ap (flat_map entry_text) (take_all c.entries.entry-index c.args.entries.now c.entries-test.false)) c.entries.invariant
