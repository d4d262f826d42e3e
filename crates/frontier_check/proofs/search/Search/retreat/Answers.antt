use Rattle.std.proofs.Common.{◌∙◌, length, refl, ap, arith, rules}
use Rattle.std.proofs.lemmas.List.{nil_from_length}
use Rattle.book_base.specs.State.{Contents}
use Rattle.frontier_check.specs.declared.walk.Walk.{Walk}
use Rattle.frontier_check.proofs.Walking.{walk-back, walk-none, last_level}
use Rattle.frontier_check.proofs.search.Search.retreat.Goals as goal

pub returns-in_default : goal.returns-in_default
returns-in_default g c =
    let object = c.args.self.now.object.now in
    walk-none c.args.self.now.book.now c.args.self.now.prefix.now
    (g.S.SeqObject.spec object) c.args.walk.now c.requires.walk
    (nil_from_length c.args.walk.now.frames.items
    (let e = c.in_default.ensures.cases.0 in search rules))

pub set_count-requires : goal.set_count-requires
set_count-requires g c =
    let object = c.args.self.now.object.now in
    let last =
    last_level c.args.self.now.book.now c.args.self.now.prefix.now
    (g.S.SeqObject.spec object) c.args.walk.now c.pop.new.self.items c.in-Some.frame
    c.requires.walk c.in-Some.ensures.items in
    record { caller = last.caller; number = last.number }

pub load-requires : goal.load-requires
load-requires g c =
    let object = c.args.self.now.object.now in
    let last =
    last_level c.args.self.now.book.now c.args.self.now.prefix.now
    (g.S.SeqObject.spec object) c.args.walk.now c.pop.new.self.items c.in-Some.frame
    c.requires.walk c.in-Some.ensures.items in
    let fits = last.words c.args.walk.now.here.room c.requires.walk.room in
    omega (arith, fits, ap length c.deref.ensures.value)

pub returns : goal.returns
returns g c =
    let object = c.args.self.now.object.now in
    let new : Walk = record {
      frames = c.pop.new.self;
      counts = c.set_count.new.counts;
      here = c.load.new.state;
      choices = c.in-Some.frame.choices;
      memo = c.args.walk.now.memo;
    } in
    walk-back c.args.self.now.book.now c.args.self.now.prefix.now
    (g.S.SeqObject.spec object) c.args.walk.now new c.in-Some.frame c.requires.walk
    c.in-Some.ensures.items
    c.set_count.ensures (ap (λ (s : Contents). s.words) c.load.ensures ∙ c.deref.ensures.value)
    (ap (λ (s : Contents). s.room) c.load.ensures) refl refl
