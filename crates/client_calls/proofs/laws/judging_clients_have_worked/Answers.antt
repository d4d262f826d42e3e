use Rattle.client_calls.proofs.Worked.{judging_clients_have_worked}
use Rattle.client_calls.proofs.laws.judging_clients_have_worked.Goals as goal

pub returns : goal.returns
returns c = judging_clients_have_worked
