use Rattle.residue_laws.specs.Residue.{IsInResidue}
use Rattle.late_residue.specs.Reached.{description_of}
use Rattle.late_residue.specs.Placing.{IsReachedBy}
use Rattle.late_residue.proofs.Items.{some_of}
use Rattle.late_residue.proofs.Meanings.{sound_for, placed_means}
use Rattle.late_residue.proofs.Hiding.{hidden_means}
use Rattle.late_residue.proofs.Reaching.{placed_sound, last_is_reached}
use Rattle.late_residue.proofs.widening.expanded.Goals as goal

pub returns-clause-means : goal.returns-clause-means
returns-clause-means g c at means lacks =
    c.in_ok-hide.ensures.wider.means _
    (placed_means (g.O.SeqObject.spec c.args.object.now).next (description_of c.args.from.now)
    (description_of c.in-Some.after) c.args.call.now
    (some_of _ c.in_ok-after.field-0 c.in-Some.after c.in-Some.is c.in_ok-after.ensures.after) at
    means lacks)

pub returns-clause-hidden : goal.returns-clause-hidden
returns-clause-hidden g c =
    let on = description_of c.in-Some.after in
    hidden_means (g.O.SeqObject.spec c.args.object.now).next
    (g.O.Overwriting.writes c.args.object.now) c.args.calls.now
    (g.met.O.Overwriting.they_overwrite c.args.object.now) (description_of c.args.from.now) on
    (description_of c.hide.new.one) c.args.call.now
    (some_of _ c.in_ok-after.field-0 c.in-Some.after c.in-Some.is c.in_ok-after.ensures.after)
    c.in_ok-hide.ensures.wider c.in_ok-hide.ensures.optional c.in_ok-hide.ensures.hidden

pub returns-clause-sound : goal.returns-clause-sound
returns-clause-sound g c stream are sound =
    let spec = g.O.SeqObject.spec c.args.object.now in
    let call = c.args.call.now in
    sound_for (IsReachedBy spec stream call) (IsInResidue spec stream) c.args.calls.now
    (description_of c.hide.new.one)
    (last_is_reached spec stream c.args.calls.now are call c.requires.is_open)
    (c.in_ok-hide.ensures.sound stream are
    (placed_sound spec stream c.args.calls.now are (description_of c.args.from.now)
    (description_of c.in-Some.after) call c.requires.is_open
    (some_of _ c.in_ok-after.field-0 c.in-Some.after c.in-Some.is c.in_ok-after.ensures.after)
    c.requires.lacking
    (some_of _ c.in_ok-after.field-0 c.in-Some.after c.in-Some.is c.in_ok-after.ensures.reply)
    sound))
