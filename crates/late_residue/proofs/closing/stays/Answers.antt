use Rattle.std.proofs.Common.{ℕ, subst}
use Rattle.streams.specs.StreamOrder.{IsAmong}
use Rattle.late_residue.specs.Reached.{description_of}
use Rattle.late_residue.proofs.Meanings.{stays_means}
use Rattle.late_residue.proofs.closing.stays.Goals as goal

pub returns-then-stays : goal.returns-then-stays
returns-then-stays g c holds at means lacks =
    let next = (g.O.SeqObject.spec c.args.object.now).next in
    let one = description_of c.args.one.now in
    let call = c.args.call.now in
    stays_means next one call at means lacks
    (subst (λ (r : ℕ). IsAmong one.optional (record { call = call.call; reply = r }))
    c.in_ok-reply.ensures.reply (c.may_have.ensures.0 holds))
    (c.in_ok-reply.ensures.stays c.if-stays.true)
