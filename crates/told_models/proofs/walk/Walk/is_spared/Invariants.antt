use Rattle.told_models.proofs.walk.Walk.is_spared.Given as goal

abbrev pub invariant-loop-other : goal.invariant-loop-other
invariant-loop-other l = Unit {0}
