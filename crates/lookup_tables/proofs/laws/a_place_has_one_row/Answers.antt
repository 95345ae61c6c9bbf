use Rattle.lookup_tables.proofs.PlaceLemmas.{some_row, one_row, rows_below, row_of_place}
use Rattle.lookup_tables.proofs.RowsAt.{row_at-is}
use Rattle.lookup_tables.proofs.laws.a_place_has_one_row.Goals as goal

pub returns-clause-some : goal.returns-clause-some
returns-clause-some c = some_row

pub returns-clause-one : goal.returns-clause-one
returns-clause-one c = one_row

pub returns-clause-below : goal.returns-clause-below
returns-clause-below c = rows_below

pub returns-clause-row : goal.returns-clause-row
returns-clause-row c = row_of_place

pub returns-clause-function : goal.returns-clause-function
returns-clause-function c = row_at-is
