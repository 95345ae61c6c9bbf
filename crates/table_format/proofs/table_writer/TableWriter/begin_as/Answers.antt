use Rattle.table_format.proofs.Closing.{begins_nothing, begins_refused, begins_part, begins_whole}
use Rattle.std.proofs.Common.{refl, sym, ◌∙◌}
use Rattle.table_format.proofs.table_writer.TableWriter.begin_as.Goals as goal

pub returns-in_err-waiting : goal.returns-in_err-waiting
returns-in_err-waiting g c = begins_nothing c.from_residual.result c.from_residual.ensures.1

pub returns-in_err-create : goal.returns-in_err-create
returns-in_err-create g c = begins_refused _ c.from_residual-in_err-create.result c.from_residual-in_err-create.ensures.1 c.in_err-create.ensures

pub returns-in_err-write_head : goal.returns-in_err-write_head
returns-in_err-write_head g c = begins_part _ c.from_residual-in_err-write_head.result c.from_residual-in_err-write_head.ensures.1 c.in_ok-create.ensures c.in_err-write_head.ensures.wrote

pub returns : goal.returns
returns g c = begins_whole _ c.in_ok-create.ensures c.in_ok-write_head.ensures.wrote (c.in_ok-create.ensures.empty.0 ∙ sym c.in_ok-write_head.ensures.creating) (refl, refl, refl)
