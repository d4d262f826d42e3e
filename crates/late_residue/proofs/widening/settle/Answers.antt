use Rattle.std.proofs.Common.{◌<◌, length, sym, subst}
use Rattle.std.proofs.lemmas.Option.{slice_get-get_or}
use Rattle.book_base.specs.declared.TheConstants.{MAX_ROOM}
use Rattle.late_residue.specs.Reached.{description_of}
use Rattle.late_residue.proofs.Meanings.{wider_none, wider_on}
use Rattle.late_residue.proofs.widening.settle.Goals as goal

pub returns-then-not-is_short-clause-wider : goal.returns-then-not-is_short-clause-wider
returns-then-not-is_short-clause-wider g c = wider_none (description_of c.args.one.now)

pub loop-call-init : goal.loop-call-init
loop-call-init g c = record {
  short = c.is_short.ensures.0 c.if-not-is_short.false;
  wider = wider_none (description_of c.args.one.now);
  optional = λ place among. among;
  sound = λ stream are sound. sound;
}

pub settle_call-requires : goal.settle_call-requires
settle_call-requires g c = record {
  is_open = (
    c.loop-call.call-index,
    slice_get-get_or c.args.calls.now c.loop-call.call-index _ c.loop-call-test.true,
  );
  short = c.loop-call.invariant.short;
}

pub loop-call-preserved : goal.loop-call-preserved
loop-call-preserved g c = record {
  short = subst (λ l. length l < MAX_ROOM) (sym c.in_ok-settle_call.ensures.wider.list)
      c.loop-call.invariant.short;
  wider = wider_on (description_of c.args.one.now) (description_of c.loop-call.one)
      (description_of c.settle_call.new.one) c.loop-call.invariant.wider
      c.in_ok-settle_call.ensures.wider;
  optional = λ place among. c.in_ok-settle_call.ensures.optional place
      (c.loop-call.invariant.optional place among);
  sound = λ stream are sound. c.in_ok-settle_call.ensures.sound stream are
      (c.loop-call.invariant.sound stream are sound);
}

pub returns-clause-wider : goal.returns-clause-wider
returns-clause-wider g c = c.loop-call.invariant.wider

pub returns-clause-optional : goal.returns-clause-optional
returns-clause-optional g c = c.loop-call.invariant.optional

pub returns-clause-sound : goal.returns-clause-sound
returns-clause-sound g c = c.loop-call.invariant.sound
