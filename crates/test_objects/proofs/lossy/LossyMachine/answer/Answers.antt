use Rattle.std.proofs.Common.{◌-◌, length, ap, arith}
use Rattle.std.proofs.lemmas.List.{length-take}
use Rattle.book_base.specs.State.{Contents}
use Rattle.test_objects.proofs.Replaying.{fits_longer}
use Rattle.test_objects.proofs.lossy.LossyMachine.answer.Goals as goal

pub step-requires : goal.step-requires
step-requires g c =
    let small = g.met.S.GrowsByOne.begins_small c.args.self.now.object in
    let begun = ap (λ (s : Contents). length s.words) c.reset.ensures in
    let room = ap (λ (s : Contents). s.room) c.reset.ensures in
    let same = ap (λ (s : Contents). s.room) c.replay.ensures.list in
    let few = c.replay.ensures.few in
    let most = c.requires.room.state in
    let some = c.requires.some in
    fits_longer (g.S.SeqObject.spec c.args.self.now.object).next
    (g.met.S.GrowsByOne.grows_by_one c.args.self.now.object) _ _ _
    (omega (arith, length-take (length c.args.log.now - 1) c.args.log.now))
