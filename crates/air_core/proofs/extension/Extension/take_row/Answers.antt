use Rattle.std.proofs.Common.{refl, sym}
use Rattle.air_core.proofs.Counted.{if_err_at}
use Rattle.air_core.proofs.extension.Extension.take_row.Goals as goal

pub returns-in-Some-clause-err : goal.returns-in-Some-clause-err
returns-in-Some-clause-err g c = (sym c.in-Some.ensures, refl)

pub returns-in_err-events-clause-err : goal.returns-in_err-events-clause-err
returns-in_err-events-clause-err g c = if_err_at _ c.from_residual.result c.from_residual.ensures.1 (sym c.in_default.ensures, c.in_err-events.ensures.err)
