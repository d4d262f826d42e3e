use Rattle.residue_laws.proofs.PendingCalls.{pending_calls_settle}
use Rattle.residue_laws.proofs.laws.pending_calls_settle.Goals as goal

pub returns : goal.returns
returns c = pending_calls_settle
