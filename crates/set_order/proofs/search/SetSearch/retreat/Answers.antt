use Rattle.std.proofs.Common.{◌∙◌, length, refl, ap, arith, rules}
use Rattle.std.proofs.lemmas.List.{nil_from_length}
use Rattle.book_base.specs.State.{Contents}
use Rattle.set_order.specs.declared.walk.SetWalk.{SetWalk}
use Rattle.set_order.proofs.Walking.{walk-back, walk-none, last_level}
use Rattle.set_order.proofs.search.SetSearch.retreat.Goals as goal

pub returns-in_default : goal.returns-in_default
returns-in_default g c =
    let object = c.args.self.now.object.now in
    walk-none (g.O.SetObject.init object) (g.O.SetObject.served object) c.args.self.now.book.now
    c.args.walk.now c.requires.walk c.requires.left
    (nil_from_length c.args.walk.now.frames.items
    (let e = c.in_default.ensures.cases.0 in search rules))

pub load-requires : goal.load-requires
load-requires g c =
    let object = c.args.self.now.object.now in
    let fits = last_level (g.O.SetObject.init object) (g.O.SetObject.served object)
    c.args.self.now.book.now c.args.walk.now c.pop.new.self.items c.in-Some.frame c.requires.small
    c.requires.walk c.in-Some.ensures.items c.args.walk.now.here.room c.requires.walk.room in
    omega (arith, fits, ap length c.deref.ensures.value)

pub returns : goal.returns
returns g c =
    let object = c.args.self.now.object.now in
    let frame = c.in-Some.frame in
    let new : SetWalk = record {
      frames = c.pop.new.self;
      counts = frame.counts;
      here = c.load.new.state;
      callers = frame.callers;
      left = frame.left;
      memo = c.args.walk.now.memo;
    } in
    walk-back (g.O.SetObject.init object) (g.O.SetObject.served object) c.args.self.now.book.now
    c.args.walk.now new frame c.requires.walk c.requires.left c.in-Some.ensures.items
    refl (ap (λ (s : Contents). s.words) c.load.ensures ∙ c.deref.ensures.value)
    (ap (λ (s : Contents). s.room) c.load.ensures) refl refl refl
