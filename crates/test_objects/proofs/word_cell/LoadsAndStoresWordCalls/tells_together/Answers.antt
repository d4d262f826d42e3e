use Rattle.test_objects.proofs.Together.{one_cell}
use Rattle.test_objects.proofs.word_cell.LoadsAndStoresWordCalls.tells_together.Goals as goal

pub returns : goal.returns
returns c n cap history transcripts one = one_cell n history transcripts one
