use Rattle.std.proofs.Common.{◌≡◌, ℕ, Some, slice_get, subst, inl, inr, arith}
use Rattle.std.proofs.lemmas.Bool.{cases_lt}
use Rattle.std.proofs.lemmas.Option.{get_or_from_slice_get, slice_get_within}
use Rattle.late_residue.specs.declared.open_call.OpenCall.{OpenCall}
use Rattle.late_residue.specs.Reached.{description_of}
use Rattle.late_residue.specs.Placing.{IsUnseenBy}
use Rattle.late_residue.proofs.Items.{some_of}
use Rattle.late_residue.proofs.Hiding.{unseen_by}
use Rattle.late_residue.proofs.closing.is_unseen.Goals as goal

pub loop-other-preserved : goal.loop-other-preserved
loop-other-preserved g c =
    let next = (g.O.SeqObject.spec c.args.object.now).next in
    let writes = g.O.Overwriting.writes c.args.object.now in
    let one = description_of c.args.one.now in
    record {
      unseen = λ j other less is. elim (cases_lt j c.loop-other.other-index) [
        | inl earlier ↦ c.loop-other.invariant.unseen j other earlier is
        | inr later ↦
            let same : j ≡ c.loop-other.other-index = omega (arith, less, later) in
            subst (λ (o : OpenCall). IsUnseenBy next writes c.args.returning.now.call one c.args.call.now o)
            (get_or_from_slice_get c.args.calls.now c.loop-other.other-index other _
            (subst (λ (i : ℕ). slice_get c.args.calls.now i ≡ Some other) same is))
            (unseen_by next writes c.args.calls.now
            (g.met.O.Overwriting.they_overwrite c.args.object.now) c.args.returning.now.call one
            (description_of c.in-Some.after) c.args.call.now _
            (some_of _ c.in_ok-after.field-0 c.in-Some.after c.in-Some.is
            c.in_ok-after.ensures.after) (c.in_ok-sees.ensures c.if-branch.false))
      ];
    }

pub returns : goal.returns
returns g c holds other (j, is) =
    let within = slice_get_within c.args.calls.now j other is in
    c.loop-other.invariant.unseen j other (omega (arith, within, c.loop-other-test.false)) is
