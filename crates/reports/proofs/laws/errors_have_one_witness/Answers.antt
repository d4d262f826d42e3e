use Rattle.reports.proofs.FirstErrors.{some_error_is_first, first_errors_are_errors, first_error_is_one, witness_is_one}
use Rattle.reports.proofs.laws.errors_have_one_witness.Goals as goal

pub returns-clause-some : goal.returns-clause-some
returns-clause-some c = some_error_is_first

pub returns-clause-only : goal.returns-clause-only
returns-clause-only c = first_errors_are_errors

pub returns-clause-one : goal.returns-clause-one
returns-clause-one c = first_error_is_one

pub returns-clause-witness : goal.returns-clause-witness
returns-clause-witness c = witness_is_one
