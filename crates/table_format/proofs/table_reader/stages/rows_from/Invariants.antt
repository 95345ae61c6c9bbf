use Rattle.std.proofs.Common.{◌≡◌, ◌-◌, length}
use Rattle.table_format.specs.Reader.{rows_from}
use Rattle.table_format.proofs.table_reader.stages.rows_from.Given as goal

-- no row stands between the first table and this one
abbrev pub invariant-tables : goal.invariant-tables
invariant-tables l = rows_from l.heights l.table ≡ rows_from l.heights l.at

abbrev pub decreases-tables : goal.decreases-tables
decreases-tables l = length l.heights - l.at
