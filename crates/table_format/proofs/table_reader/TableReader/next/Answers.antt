use Rattle.std.proofs.Common.{refl}
use Rattle.table_format.specs.ReadsItems.Advances.{again}
use Rattle.table_format.proofs.table_reader.TableReader.next.Goals as goal

pub returns-in-Some-clause-advances : goal.returns-in-Some-clause-advances
returns-in-Some-clause-advances g c = again c.in-Some.error c.in-Some.is refl refl refl
