use Rattle.std.proofs.Common.{◌≡◌, vec_len}
use Rattle.std.specs.List.{All}
use Rattle.test_objects.specs.Equipment.{AreReady}
use Rattle.test_objects.proofs.log_pass.Tools.for_all.Given as goal

abbrev pub invariant-loop-caller : goal.invariant-loop-caller
invariant-loop-caller l = (vec_len l.all ≡ l._caller) × All (AreReady l.n l.cap) l.all.items
