use Rattle.std.proofs.Common.{◌∙◌, refl, inl, inr}
use Rattle.test_objects.proofs.FaultyTogether.{given}
use Rattle.test_objects.proofs.one_pass.dequeue.Goals as goal

pub returns-then-found-ne0-clause-given : goal.returns-then-found-ne0-clause-given
returns-then-found-ne0-clause-given c =
    inr (given _ _ _ _ _ _ _ _ c.swap-found.ensures.seat.lawful c.swap-found.ensures.history
    (c.loop-place.invariant.caller ∙ c.load-counter.ensures.caller) refl c.if-found-ne0.true
    c.wrapping_value_reply.ensures)

pub returns-clause-given : goal.returns-clause-given
returns-clause-given c = inl refl
