use Rattle.std.proofs.Common.{◌≡◌, ◌∙◌, [], List, length, replicate, refl, sym, ap, subst, arith, rules}
use Rattle.std.proofs.lemmas.List.{nil_from_length, length-set}
use Rattle.book_base.specs.Order.{call_at}
use Rattle.told_models.specs.declared.walk.Frame.{Frame}
use Rattle.told_models.specs.Closed.{number_of_calls}
use Rattle.told_models.specs.Walking.{FramesLead}
use Rattle.told_models.specs.Weighing.{number_marked, weigh}
use Rattle.told_models.proofs.Walks.{walk_wide, walk_counts, walk_from, walk_back, walk_ends, walk_retreats, lighter_back}
use Rattle.told_models.proofs.walk.Walk.retreat.Goals as goal

pub returns-in_default : goal.returns-in_default
returns-in_default c =
    let table = c.args.table.now in
    let book = c.args.book.now in
    let h = c.requires.walk in
    let none = c.requires.none in
    let old = c.args.self.now in
    let empty : old.frames.items ≡ [] =
    nil_from_length old.frames.items (let e = c.in_default.ensures.cases.0 in search rules) in
    let still : c.pop.new.self.items ≡ [] =
    nil_from_length c.pop.new.self.items (let e = c.in_default.ensures.cases.1 in search rules) in (
      walk_from table book old _ h refl refl
          (subst (λ (fs : List Frame). FramesLead table book (replicate (length book) 0) table.init
          fs old.counts.items old.state) (empty ∙ sym still) h.leads) h.here,
      walk_ends table book old h empty none,
      omega (
        arith,
        ap (λ (fs : List Frame). weigh (number_of_calls book) fs (number_marked old.waiting))
            (empty ∙ sym still),
      ),
    )

pub set_count-requires-clause-caller : goal.set_count-requires-clause-caller
set_count-requires-clause-caller c =
    let back = walk_back c.args.table.now c.args.book.now c.args.self.now c.pop.new.self.items
    c.in-Some.frame c.requires.walk c.in-Some.ensures.items in
    walk_counts c.args.table.now c.args.book.now c.args.self.now (call_at c.in-Some.frame.place)
    c.requires.walk back.enters.may.is_call

pub set_count-requires-clause-number : goal.set_count-requires-clause-number
set_count-requires-clause-number c =
    let back = walk_back c.args.table.now c.args.book.now c.args.self.now c.pop.new.self.items
    c.in-Some.frame c.requires.walk c.in-Some.ensures.items in
    omega (
      arith,
      back.enters.may.is_call,
      c.requires.walk.small.calls c.in-Some.frame.place.caller,
    )

pub without-self-requires : goal.without-self-requires
without-self-requires c =
    let back = walk_back c.args.table.now c.args.book.now c.args.self.now c.pop.new.self.items
    c.in-Some.frame c.requires.walk c.in-Some.ensures.items in
    omega (
      arith,
      walk_counts c.args.table.now c.args.book.now c.args.self.now (call_at c.in-Some.frame.place)
          c.requires.walk back.enters.may.is_call,
      walk_wide c.args.table.now c.args.book.now c.args.self.now c.requires.walk,
      c.requires.walk.small.callers,
    )

pub returns : goal.returns
returns c =
    let table = c.args.table.now in
    let book = c.args.book.now in
    let h = c.requires.walk in
    let none = c.requires.none in (
      walk_retreats table book c.args.self.now _ c.pop.new.self.items c.in-Some.frame h none
          c.in-Some.ensures.items refl c.set_count.ensures refl c.without-self.ensures refl refl,
      tt,
      lighter_back table book c.args.self.now c.pop.new.self.items c.in-Some.frame
          c.without-self.result h c.in-Some.ensures.items c.without-self.ensures,
    )

pub turn_of-requires-clause-wide : goal.turn_of-requires-clause-wide
turn_of-requires-clause-wide c =
    ap length (c.deref.ensures.value ∙ c.set_count.ensures)
    ∙ (length-set c.args.self.now.counts.items c.in-Some.frame.place.caller
    c.in-Some.frame.place.number
    ∙ walk_wide c.args.table.now c.args.book.now c.args.self.now c.requires.walk)

pub turn_of-requires-clause-caller : goal.turn_of-requires-clause-caller
turn_of-requires-clause-caller c =
    let back = walk_back c.args.table.now c.args.book.now c.args.self.now c.pop.new.self.items
    c.in-Some.frame c.requires.walk c.in-Some.ensures.items in
    omega (
      arith,
      walk_counts c.args.table.now c.args.book.now c.args.self.now (call_at c.in-Some.frame.place)
          c.requires.walk back.enters.may.is_call,
      walk_wide c.args.table.now c.args.book.now c.args.self.now c.requires.walk,
    )

pub bounds-self-place : goal.bounds-self-place
bounds-self-place c =
    let back = walk_back c.args.table.now c.args.book.now c.args.self.now c.pop.new.self.items
    c.in-Some.frame c.requires.walk c.in-Some.ensures.items in
    omega (
      arith,
      walk_counts c.args.table.now c.args.book.now c.args.self.now (call_at c.in-Some.frame.place)
          c.requires.walk back.enters.may.is_call,
      walk_wide c.args.table.now c.args.book.now c.args.self.now c.requires.walk,
      c.requires.walk.small.callers,
    )
