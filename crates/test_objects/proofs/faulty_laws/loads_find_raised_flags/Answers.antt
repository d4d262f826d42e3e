use Rattle.test_objects.proofs.FaultyTogether.{meetings_find_raised_flags}
use Rattle.test_objects.proofs.faulty_laws.loads_find_raised_flags.Goals as goal

pub returns : goal.returns
returns c = meetings_find_raised_flags
