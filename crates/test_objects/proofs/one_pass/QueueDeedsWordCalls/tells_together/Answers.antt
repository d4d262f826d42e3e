use Rattle.std.proofs.Common.{◌*◌}
use Rattle.test_objects.proofs.FaultyTogether.{one_queue}
use Rattle.test_objects.proofs.one_pass.QueueDeedsWordCalls.tells_together.Goals as goal

pub returns : goal.returns
returns c n cap history transcripts one = one_queue (n * cap) n history transcripts one
