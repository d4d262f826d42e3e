use Rattle.own_objects.specs.Told.{IsToldOf}
use Rattle.own_objects.proofs.telling.promise_reads.Given as goal

abbrev pub invariant-loop-number : goal.invariant-loop-number
invariant-loop-number g l = IsToldOf g.O.OwnObject.value (g.O.OwnObject.initial l.object)
    (g.O.OwnObject.next l.object) l.states.keys l.table

abbrev pub invariant-loop-caller : goal.invariant-loop-caller
invariant-loop-caller g l = IsToldOf g.O.OwnObject.value (g.O.OwnObject.initial l.object)
    (g.O.OwnObject.next l.object) l.states.keys l.table
