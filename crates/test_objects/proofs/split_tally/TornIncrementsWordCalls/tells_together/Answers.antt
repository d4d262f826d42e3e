use Rattle.test_objects.proofs.FaultyTogether.{one_split}
use Rattle.test_objects.proofs.split_tally.TornIncrementsWordCalls.tells_together.Goals as goal

pub returns : goal.returns
returns c n cap history transcripts one = one_split n history transcripts one
