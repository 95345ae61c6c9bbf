use Rattle.table_format.proofs.ExactFile.{no_reason, no_reason_in_a_piece}
use Rattle.table_format.proofs.laws.no_test_fails_exactly.Goals as goal

pub returns-clause-file : goal.returns-clause-file
returns-clause-file c = no_reason

pub returns-clause-piece : goal.returns-clause-piece
returns-clause-piece c = no_reason_in_a_piece
