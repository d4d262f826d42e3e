use Rattle.std.proofs.Common.{◌∙◌, sym, inl, inr}
use Rattle.std.proofs.lemmas.Result.{IfOk-weaker}
use Rattle.late_residue.specs.Reached.{description_of}
use Rattle.late_residue.proofs.Items.{not_true}
use Rattle.late_residue.proofs.Hiding.{hides_next, hides_resting}
use Rattle.late_residue.proofs.closing.adds_nothing.Goals as goal

pub returns-then-overwrites : goal.returns-then-overwrites
returns-then-overwrites g c = IfOk-weaker c.is_unseen.result _ _
    (λ unseen all holds at covered may. inr (
      c.if-call-returning.false,
      hides_next (g.O.SeqObject.spec c.args.object.now).next
          (g.O.Overwriting.writes c.args.object.now) c.args.calls.now
          (g.met.O.Overwriting.they_overwrite c.args.object.now) c.args.returning.now.call
          (description_of c.args.one.now) c.args.call.now (sym c.overwrites.ensures ∙ c.if-overwrites.true) (all holds) at covered may,
    )) c.is_unseen.ensures

pub returns : goal.returns
returns g c = IfOk-weaker c.stays.result _ _
    (λ stays means holds at covered may. elim covered [
      | inl meant ↦ inl (means holds at meant may.unplaced)
      | inr hides ↦ elim (hides.unseen c.args.call.now may) [
        | inl write ↦ absurd (not_true c.overwrites.result c.if-overwrites.false
            (c.overwrites.ensures ∙ write))
        | inr rests ↦ inr (
          rests.0,
          hides_resting (g.O.SeqObject.spec c.args.object.now).next
              (g.O.Overwriting.writes c.args.object.now) c.args.calls.now
              (g.met.O.Overwriting.they_overwrite c.args.object.now) c.args.returning.now.call
              (description_of c.args.one.now) c.args.call.now at hides may rests,
        )
      ]
    ]) c.stays.ensures
