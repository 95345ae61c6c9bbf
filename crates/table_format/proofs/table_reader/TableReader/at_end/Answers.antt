use Rattle.std.proofs.Common.{refl}
use Rattle.table_format.specs.ReadsItems.TellsEndOnce.{again}
use Rattle.table_format.proofs.table_reader.TableReader.at_end.Goals as goal

pub returns-in-Some-clause-tells : goal.returns-in-Some-clause-tells
returns-in-Some-clause-tells g c = again c.in-Some.error c.in-Some.is refl refl refl
