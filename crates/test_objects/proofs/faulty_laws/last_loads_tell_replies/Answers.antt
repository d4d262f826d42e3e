use Rattle.test_objects.proofs.FaultyForming.{last_loads_tell_replies}
use Rattle.test_objects.proofs.faulty_laws.last_loads_tell_replies.Goals as goal

pub returns : goal.returns
returns c = last_loads_tell_replies
