use Rattle.std.proofs.Common.{ℕ, ◌<◌, ◌≤◌, List, length, arith, rules}
use Rattle.seq_objects.specs.declared.kind.Kind.{Kind}
use Rattle.seq_objects.specs.Objects.{kind_next, length-kind_next}
use Rattle.hunt_trials.proofs.locked.Locked.answer.Goals as goal

next_fits : (kind : Kind) (list : List ℕ) (op room : ℕ) → length list < room
    → length (kind_next kind list op).0 ≤ room
next_fits kind list op room few = omega (arith, few, length-kind_next kind list op)

pub step-requires : goal.step-requires
step-requires c = next_fits c.args.self.now.kind _ c.args.op _ (search rules)
