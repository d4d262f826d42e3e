use Rattle.test_objects.proofs.Together.{one_tally}
use Rattle.test_objects.proofs.tally.IncrementsWordCalls.tells_together.Goals as goal

pub returns : goal.returns
returns c n cap history transcripts one = one_tally n history transcripts one
