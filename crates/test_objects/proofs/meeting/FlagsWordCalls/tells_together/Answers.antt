use Rattle.test_objects.proofs.FaultyTogether.{one_meeting}
use Rattle.test_objects.proofs.meeting.FlagsWordCalls.tells_together.Goals as goal

pub returns : goal.returns
returns c n cap history transcripts one = one_meeting n history transcripts one
