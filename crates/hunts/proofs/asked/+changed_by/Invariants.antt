use Rattle.std.proofs.Common.{length}
use Rattle.hunts.proofs.asked.+changed_by.Given as goal

abbrev pub decreases-changed_by : goal.decreases-changed_by
decreases-changed_by l = length l.words.now
