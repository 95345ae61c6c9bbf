use Rattle.vm_checker.proofs.FileTests.{rejected_exactly, accepted_file_is_one}
use Rattle.vm_checker.proofs.laws.a_file_is_rejected_exactly.Goals as goal

pub returns-clause-exactly : goal.returns-clause-exactly
returns-clause-exactly c = rejected_exactly

pub returns-clause-one : goal.returns-clause-one
returns-clause-one c = accepted_file_is_one
