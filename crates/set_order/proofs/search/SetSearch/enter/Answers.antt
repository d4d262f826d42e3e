use Rattle.std.proofs.Common.{◌≡◌, ◌-◌, ◌∙◌, ℕ, List, length, refl, ap, arith}
use Rattle.set_order.specs.declared.walk.SetWalk.{SetWalk}
use Rattle.set_order.specs.Search.{raised_by}
use Rattle.set_order.proofs.Raising.{raised-length}
use Rattle.set_order.proofs.Leading.{standing}
use Rattle.set_order.proofs.Walking.{set_fits, walk-skip, nowhere-from_memo, nowhere-from_lost}
use Rattle.set_order.proofs.search.SetSearch.enter.Goals as goal

pub raised-requires-clause-callers : goal.raised-requires-clause-callers
raised-requires-clause-callers g c =
    let object = c.args.self.now.object.now in
    (set_fits (g.O.SetObject.init object) (g.O.SetObject.served object) c.args.self.now.book.now
    c.args.walk.now c.args.set c.args.spare.now.words c.requires.small
    c.requires.walk
    c.requires.stands c.deref.result.now c.places.result.now
    c.deref.ensures.value c.places.ensures).callers

pub raised-requires-clause-numbers : goal.raised-requires-clause-numbers
raised-requires-clause-numbers g c =
    let object = c.args.self.now.object.now in
    (set_fits (g.O.SetObject.init object) (g.O.SetObject.served object) c.args.self.now.book.now
    c.args.walk.now c.args.set c.args.spare.now.words c.requires.small
    c.requires.walk
    c.requires.stands c.deref.result.now c.places.result.now
    c.deref.ensures.value c.places.ensures).numbers

pub returns-then-remembers : goal.returns-then-remembers
returns-then-remembers g c =
    let object = c.args.self.now.object.now in
    let book = c.args.self.now.book.now in
    let init = g.O.SetObject.init object in
    let served = g.O.SetObject.served object in
    let old = c.args.walk.now in
    let new : SetWalk = record old { left = old.left - 1 } in
    let cut : c.deref-2.result.now ≡ raised_by old.counts.items c.args.set =
    c.deref-2.ensures.value
    ∙ (c.in_ok-counts.ensures ∙ (ap (λ (x : List ℕ). raised_by x c.places.result.now)
    c.deref.ensures.value ∙ ap (raised_by old.counts.items) c.places.ensures)) in
    let nowhere = nowhere-from_memo init served book old c.args.set c.args.spare.now.words
    c.deref-2.result.now c.words.result.now c.requires.walk c.requires.callers c.requires.stands cut
    c.words.ensures (c.remembers.ensures c.if-remembers.true) in
    record {
      outcome = walk-skip init served book old new c.requires.walk nowhere
          (record { frames = refl; counts = refl; here = refl; callers = refl }) refl
          (omega (arith, c.requires.left));
    }

pub is_lost-requires : goal.is_lost-requires
is_lost-requires g c =
    let object = c.args.self.now.object.now in
    let old = c.args.walk.now in
    let s = standing (g.O.SetObject.init object) (g.O.SetObject.served object)
    c.args.self.now.book.now old.frames.items old.counts.items old.here.words c.requires.small
    c.requires.walk.leads in
    let cut : c.deref-3.result.now ≡ raised_by old.counts.items c.args.set =
    c.deref-3.ensures.value
    ∙ (c.in_ok-counts.ensures ∙ (ap (λ (x : List ℕ). raised_by x c.places.result.now)
    c.deref.ensures.value ∙ ap (raised_by old.counts.items) c.places.ensures)) in
    ap length cut ∙ (raised-length old.counts.items c.args.set ∙ s.wide)

pub returns-then-is_lost : goal.returns-then-is_lost
returns-then-is_lost g c =
    let object = c.args.self.now.object.now in
    let book = c.args.self.now.book.now in
    let init = g.O.SetObject.init object in
    let served = g.O.SetObject.served object in
    let old = c.args.walk.now in
    let new : SetWalk = record old { left = old.left - 1 } in
    let cut : c.deref-3.result.now ≡ raised_by old.counts.items c.args.set =
    c.deref-3.ensures.value
    ∙ (c.in_ok-counts.ensures ∙ (ap (λ (x : List ℕ). raised_by x c.places.result.now)
    c.deref.ensures.value ∙ ap (raised_by old.counts.items) c.places.ensures)) in
    let nowhere = nowhere-from_lost init served book old c.args.set c.args.spare.now.words
    c.deref-3.result.now c.args.spare.now.words c.requires.callers c.requires.stands cut
    refl (c.is_lost.ensures c.if-is_lost.true) in
    record {
      outcome = walk-skip init served book old new c.requires.walk nowhere
          (record { frames = refl; counts = refl; here = refl; callers = refl }) refl
          (omega (arith, c.requires.left));
    }
