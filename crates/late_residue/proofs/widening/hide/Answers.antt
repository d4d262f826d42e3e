use Rattle.std.proofs.Common.{◌≡◌, ◌∙◌, ℕ, List, [], ◌∷◌, Some, slice_get, refl, sym, subst, inl, inr, arith}
use Rattle.std.proofs.lemmas.Bool.{cases_lt}
use Rattle.std.proofs.lemmas.Option.{get_or_from_slice_get, slice_get-get_or, slice_get_within}
use Rattle.streams.specs.StreamOrder.{StreamPlace}
use Rattle.late_residue.specs.declared.open_call.OpenCall.{OpenCall}
use Rattle.late_residue.specs.Reached.{description_of}
use Rattle.late_residue.specs.Placing.{AreOf, IsWritten}
use Rattle.late_residue.proofs.Items.{not_true}
use Rattle.late_residue.proofs.Meanings.{wider_none, wider_on}
use Rattle.late_residue.proofs.widening.hide.Goals as goal

pub returns-then-not-overwrites-clause-wider : goal.returns-then-not-overwrites-clause-wider
returns-then-not-overwrites-clause-wider g c = wider_none (description_of c.args.one.now)

pub returns-then-not-overwrites-clause-hidden : goal.returns-then-not-overwrites-clause-hidden
returns-then-not-overwrites-clause-hidden g c write =
    absurd (not_true c.overwrites.result c.if-not-overwrites.true (c.overwrites.ensures ∙ write))

pub loop-call-init : goal.loop-call-init
loop-call-init g c = record {
  wider = wider_none (description_of c.args.one.now);
  optional = λ place among. among;
  hidden = λ j call less. absurd (omega (arith, less));
  sound = λ stream are sound. sound;
}

pub hide_call-requires : goal.hide_call-requires
hide_call-requires g c = record {
  is_open = (
    c.loop-call.call-index,
    slice_get-get_or c.args.calls.now c.loop-call.call-index _ c.loop-call-test.true,
  );
  short = c.requires.short;
  last = sym c.overwrites.ensures ∙ c.if-not-overwrites.false;
}

pub loop-call-preserved : goal.loop-call-preserved
loop-call-preserved g c =
    let next = (g.O.SeqObject.spec c.args.object.now).next in
    let writes = g.O.Overwriting.writes c.args.object.now in
    record {
      wider = wider_on (description_of c.args.one.now) (description_of c.loop-call.one)
          (description_of c.hide_call.new.one) c.loop-call.invariant.wider
          c.in_ok-hide_call.ensures.wider;
      optional = λ place among. c.in_ok-hide_call.ensures.optional place
          (c.loop-call.invariant.optional place among);
      hidden = λ j call less is place written apart lacks. elim (cases_lt j c.loop-call.call-index) [
        | inl earlier ↦ c.in_ok-hide_call.ensures.optional place
            (c.loop-call.invariant.hidden j call earlier is place written apart lacks)
        | inr later ↦
            let same : j ≡ c.loop-call.call-index = omega (arith, less, later) in
            let item = get_or_from_slice_get c.args.calls.now c.loop-call.call-index call _
            (subst (λ (i : ℕ). slice_get c.args.calls.now i ≡ Some call) same is) in
            c.in_ok-hide_call.ensures.hidden place
            (subst (λ (o : OpenCall). IsWritten next writes (o ∷ []) place) (sym item) written) apart
            (λ of. lacks (subst (λ (ps : List StreamPlace). AreOf ps place.call)
            c.loop-call.invariant.wider.placed of))
      ];
      sound = λ stream are sound. c.in_ok-hide_call.ensures.sound stream are
          (c.loop-call.invariant.sound stream are sound);
    }

pub returns-clause-wider : goal.returns-clause-wider
returns-clause-wider g c = c.loop-call.invariant.wider

pub returns-clause-optional : goal.returns-clause-optional
returns-clause-optional g c = c.loop-call.invariant.optional

pub returns-clause-hidden : goal.returns-clause-hidden
returns-clause-hidden g c write place (one, (j, is), number, does, replies, may) =
    let within = slice_get_within c.args.calls.now j one is in
    c.loop-call.invariant.hidden j one (omega (arith, within, c.loop-call-test.false)) is place
    (one, (0, refl), number, does, replies, may)

pub returns-clause-sound : goal.returns-clause-sound
returns-clause-sound g c = c.loop-call.invariant.sound
