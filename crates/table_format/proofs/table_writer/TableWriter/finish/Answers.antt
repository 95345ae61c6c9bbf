use Rattle.std.proofs.Common.{refl}
use Rattle.table_format.specs.Writing.Appends.{again}
use Rattle.table_format.proofs.table_writer.TableWriter.finish.Goals as goal

pub returns-in-Some : goal.returns-in-Some
returns-in-Some g c = again c.in-Some.error c.in-Some.is refl refl refl
