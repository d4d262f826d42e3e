use Rattle.world_laws.proofs.NoFalseErrors.{runs_have_their_histories}
use Rattle.world_laws.proofs.linearizing.runs_have_their_histories.Goals as goal

pub returns : goal.returns
returns c = runs_have_their_histories
