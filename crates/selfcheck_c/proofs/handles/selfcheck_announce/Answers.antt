use Rattle.std.proofs.Common.{ℕ, refl, subst}
use Rattle.call_handles.specs.Slots.{handle_in, Begins}
use Rattle.selfcheck_c.proofs.handles.selfcheck_announce.Goals as goal

pub returns-then-announce-clause-when : goal.returns-then-announce-clause-when
returns-then-announce-clause-when c = (λ _. c.announce.ensures.when.0 c.if-announce.true, λ _. refl)

pub returns-then-announce-clause-begun : goal.returns-then-announce-clause-begun
returns-then-announce-clause-begun c = λ _.
    subst (λ (op : ℕ). Begins op (handle_in c.args.slot.now) (handle_in c.announce.new.slot))
    c.join.ensures
    (c.announce.ensures.begun c.if-announce.true)
