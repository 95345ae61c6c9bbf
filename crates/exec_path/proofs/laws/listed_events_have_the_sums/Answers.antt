use Rattle.air_core.proofs.Totals.{SameTotals-listed}
use Rattle.exec_path.proofs.laws.listed_events_have_the_sums.Goals as goal

pub returns : goal.returns
returns c = SameTotals-listed
