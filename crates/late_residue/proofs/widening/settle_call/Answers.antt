use Rattle.std.proofs.Common.{inr}
use Rattle.late_residue.specs.Reached.{description_of}
use Rattle.late_residue.specs.Placing.{AreOf}
use Rattle.late_residue.proofs.Items.{not_true, on_ok}
use Rattle.late_residue.proofs.Meanings.{allowed_wider}
use Rattle.late_residue.proofs.Reaching.{settled_sound}
use Rattle.late_residue.proofs.widening.settle_call.Goals as goal

pub returns-clause-wider : goal.returns-clause-wider
returns-clause-wider g c =
    let one = description_of c.args.one.now in
    let lacks : AreOf one.placed c.args.call.now.call → ⊥ =
    λ (is : AreOf one.placed c.args.call.now.call).
    not_true c.places.result c.if-places.false (c.places.ensures.1 is) in
    on_ok c.allow.result (λ allowed. allowed_wider one (description_of c.allow.new.self)
    (record { call = c.args.call.now.call; reply = c.in_ok-reply.reply }) allowed lacks)
    c.allow.ensures

pub returns-clause-optional : goal.returns-clause-optional
returns-clause-optional g c = on_ok c.allow.result
    (λ allowed place among. (allowed.optional place).1 (inr among)) c.allow.ensures

pub returns-clause-sound : goal.returns-clause-sound
returns-clause-sound g c =
    let spec = g.O.SeqObject.spec c.args.object.now in
    let one = description_of c.args.one.now in
    let lacks : AreOf one.placed c.args.call.now.call → ⊥ =
    λ (is : AreOf one.placed c.args.call.now.call).
    not_true c.places.result c.if-places.false (c.places.ensures.1 is) in
    on_ok c.allow.result (λ allowed stream are sound. settled_sound spec stream c.args.calls.now are
    one (description_of c.allow.new.self) c.args.call.now c.in_ok-reply.reply c.requires.is_open
    allowed lacks c.in_ok-reply.ensures.reply (c.in_ok-reply.ensures.stays c.if-not-stays.false)
    (c.may_have.ensures.0 c.if-not-may_have.false) sound) c.allow.ensures
