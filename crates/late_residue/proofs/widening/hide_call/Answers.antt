use Rattle.std.proofs.Common.{◌∙◌, ℕ, sym, subst, inl, inr}
use Rattle.late_residue.specs.Reached.{description_of}
use Rattle.late_residue.specs.Placing.{AreOf}
use Rattle.late_residue.proofs.Items.{not_true, on_ok}
use Rattle.late_residue.proofs.Meanings.{same_place, allowed_wider}
use Rattle.late_residue.proofs.Hiding.{written_one}
use Rattle.late_residue.proofs.Reaching.{hidden_sound}
use Rattle.late_residue.proofs.widening.hide_call.Goals.{then-call-last-via-then-call-last, then-call-last-via-else-call-last+then-not-overwrites, then-call-last-via-else-call-last+else-not-overwrites+then-places}
use Rattle.late_residue.proofs.widening.hide_call.Goals as goal

pub returns-clause-wider : goal.returns-clause-wider
returns-clause-wider g c =
    let one = description_of c.args.one.now in
    let lacks : AreOf one.placed c.args.call.now.call → ⊥ =
    λ (is : AreOf one.placed c.args.call.now.call).
    not_true c.places.result c.if-places.false (c.places.ensures.1 is) in
    on_ok c.allow.result (λ allowed. allowed_wider one (description_of c.allow.new.self)
    (record { call = c.args.call.now.call; reply = c.in_ok-reply.reply }) allowed lacks)
    c.allow.ensures

pub returns-then-call-last-clause-hidden : goal.returns-then-call-last-clause-hidden
returns-then-call-last-clause-hidden g c place written apart lacks =
    let it = written_one (g.O.SeqObject.spec c.args.object.now).next
    (g.O.Overwriting.writes c.args.object.now) c.args.call.now place written in
    absurd (elim c.then-call-last.branch [
      | then-call-last-via-then-call-last w ↦ apart (sym it.0 ∙ w.if-call-last.true)
      | then-call-last-via-else-call-last+then-not-overwrites w ↦
          not_true w.overwrites.result w.if-not-overwrites.true (w.overwrites.ensures ∙ it.1)
      | then-call-last-via-else-call-last+else-not-overwrites+then-places w ↦
          lacks (subst (λ (n : ℕ). AreOf (description_of c.args.one.now).placed n) it.0
          (w.places.ensures.0 w.if-places.true))
    ])

pub returns-clause-optional : goal.returns-clause-optional
returns-clause-optional g c = on_ok c.allow.result
    (λ allowed place among. (allowed.optional place).1 (inr among)) c.allow.ensures

pub returns-clause-hidden : goal.returns-clause-hidden
returns-clause-hidden g c = on_ok c.allow.result
    (λ allowed place written apart lacks.
    let it = written_one (g.O.SeqObject.spec c.args.object.now).next
    (g.O.Overwriting.writes c.args.object.now) c.args.call.now place written in
    (allowed.optional place).1 (inl (same_place _ place it.0
    (c.in_ok-reply.ensures.reply ∙ it.2 c.args.from.now.list.items)))) c.allow.ensures

pub returns-clause-sound : goal.returns-clause-sound
returns-clause-sound g c =
    let spec = g.O.SeqObject.spec c.args.object.now in
    let one = description_of c.args.one.now in
    let lacks : AreOf one.placed c.args.call.now.call → ⊥ =
    λ (is : AreOf one.placed c.args.call.now.call).
    not_true c.places.result c.if-places.false (c.places.ensures.1 is) in
    on_ok c.allow.result (λ allowed stream are sound. hidden_sound spec stream c.args.calls.now are
    c.args.last.now c.args.call.now one (description_of c.allow.new.self) c.in_ok-reply.reply
    c.args.from.now.list.items c.requires.is_open
    (g.met.O.Overwriting.they_overwrite c.args.object.now c.args.last.now.op c.requires.last)
    (g.met.O.Overwriting.they_overwrite c.args.object.now c.args.call.now.op
    (sym c.overwrites.ensures ∙ c.if-not-overwrites.false)) c.if-call-last.false allowed lacks
    c.in_ok-reply.ensures.reply (c.may_have.ensures.0 c.if-not-may_have.false) sound)
    c.allow.ensures
