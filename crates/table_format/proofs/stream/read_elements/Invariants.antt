use Rattle.std.proofs.Common.{take}
use Rattle.std.specs.Prelude.{IsTrue}
use Rattle.table_format.specs.Stream.{AreElements}
use Rattle.table_format.proofs.stream.read_elements.Given as goal

-- those so far are the numbers of the first bytes, if all were elements
abbrev pub invariant-values : goal.invariant-values
invariant-values l = IsTrue l.are_elements → AreElements l.place l.text (take l.place l.values)
