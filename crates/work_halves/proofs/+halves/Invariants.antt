use Rattle.std.proofs.Common.{◌+◌, ◌*◌, ◌-◌, length}
use Rattle.work_halves.proofs.+halves.Given as goal

abbrev pub decreases-work_beside-in_prefix : goal.decreases-work_beside-in_prefix
decreases-work_beside-in_prefix g l = 3 * length l.prefix.now + 1

abbrev pub decreases-work_beside-from_suffix : goal.decreases-work_beside-from_suffix
decreases-work_beside-from_suffix g l = 3 * length l.suffix.now + 1

abbrev pub decreases-work_beside : goal.decreases-work_beside
decreases-work_beside g l = 3 * (length l.prefix.now + length l.suffix.now) - 1

abbrev pub decreases-work_all : goal.decreases-work_all
decreases-work_all g l = 3 * length l.all.now
