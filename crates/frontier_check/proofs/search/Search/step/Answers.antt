use Rattle.std.proofs.Common.{arith}
use Rattle.frontier_check.proofs.Leading.{standing}
use Rattle.frontier_check.proofs.search.Search.step.Goals as goal

pub copy_from-requires : goal.copy_from-requires
copy_from-requires g c =
    let object = c.args.self.now.object.now in
    let w = c.requires.walk in
    let s = standing c.args.self.now.book.now c.args.self.now.prefix.now
    (g.S.SeqObject.spec object) c.args.walk.now.frames.items c.args.walk.now.counts.items
    c.args.walk.now.here.words c.args.place
    w.begins w.leads w.here.sound.0.may_come in
    (s.fits c.args.spare.now.room c.requires.room).here

pub step-reply-requires : goal.step-reply-requires
step-reply-requires g c =
    let object = c.args.self.now.object.now in
    let w = c.requires.walk in
    let s = standing c.args.self.now.book.now c.args.self.now.prefix.now
    (g.S.SeqObject.spec object) c.args.walk.now.frames.items c.args.walk.now.counts.items
    c.args.walk.now.here.words c.args.place
    w.begins w.leads w.here.sound.0.may_come in
    (s.fits c.args.walk.now.here.room w.room).after c.op-op.result

pub set_count-requires : goal.set_count-requires
set_count-requires g c =
    let object = c.args.self.now.object.now in
    let w = c.requires.walk in
    let s = standing c.args.self.now.book.now c.args.self.now.prefix.now
    (g.S.SeqObject.spec object) c.args.walk.now.frames.items c.args.walk.now.counts.items
    c.args.walk.now.here.words c.args.place
    w.begins w.leads w.here.sound.0.may_come in
    record { caller = s.caller; number = omega (arith, s.number) }
