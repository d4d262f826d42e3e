use Rattle.search_hints.specs.Marks.{IsMarkedWithin}
use Rattle.told_models.proofs.walk.Walk.pick.Given as goal

abbrev pub invariant-loop-other : goal.invariant-loop-other
invariant-loop-other l = IsMarkedWithin l.left l.self.waiting
