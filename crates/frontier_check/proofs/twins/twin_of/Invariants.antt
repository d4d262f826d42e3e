use Rattle.frontier_check.proofs.twins.twin_of.Given as goal

abbrev pub invariant-loop-index : goal.invariant-loop-index
invariant-loop-index l = Unit {0}
