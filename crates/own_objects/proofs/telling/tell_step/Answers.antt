use Rattle.own_objects.proofs.Truths.{told_with_step}
use Rattle.own_objects.proofs.telling.tell_step.Goals as goal

pub returns-in-Ok-clause-told : goal.returns-in-Ok-clause-told
returns-in-Ok-clause-told g c =
    told_with_step g.O.OwnObject.value (g.O.OwnObject.initial c.args.object.now)
    (g.O.OwnObject.next c.args.object.now) c.transition_to.new.states.keys c.args.table.now
    c.tell.new.self c.args.state c.args.op c.in_ok-transition.transition c.in-Ok.ensures.told
    c.in_ok-transition.ensures.made c.in_ok-transition.ensures.told
