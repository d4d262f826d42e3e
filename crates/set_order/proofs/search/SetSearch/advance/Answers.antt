use Rattle.std.proofs.Common.{◌-◌, ◌∙◌, ℕ, List, length, refl, sym, ap, subst, inl, inr, arith}
use Rattle.std.specs.Option.{IfNone}
use Rattle.frontier_check.specs.Memo.{Remembers}
use Rattle.set_order.specs.declared.walk.SetWalk.{SetWalk}
use Rattle.set_order.specs.Search.{picked, CannotStand}
use Rattle.set_order.proofs.Trying.{nowhere-from_cannot}
use Rattle.set_order.proofs.Leading.{standing}
use Rattle.set_order.proofs.Walking.{walk-skip, walk-remember}
use Rattle.set_order.proofs.search.SetSearch.advance.Goals as goal

pub remember-requires-clause-wide : goal.remember-requires-clause-wide
remember-requires-clause-wide g c =
    let object = c.args.self.now.object.now in
    let old = c.args.walk.now in
    let s = standing (g.O.SetObject.init object) (g.O.SetObject.served object)
    c.args.self.now.book.now old.frames.items old.counts.items old.here.words c.requires.small
    c.requires.walk.leads in
    ap length c.deref.ensures.value ∙ (s.wide ∙ sym c.requires.walk.callers)

pub retreat-requires-clause-walk : goal.retreat-requires-clause-walk
retreat-requires-clause-walk g c =
    let object = c.args.self.now.object.now in
    let old = c.args.walk.now in
    let new : SetWalk = record old { memo = c.remember.new.self } in
    let made = c.in_ok-remember.ensures in
    (walk-remember (g.O.SetObject.init object) (g.O.SetObject.served object)
    c.args.self.now.book.now old new c.requires.walk c.if-walk-eq0.true
    (record { frames = refl; counts = refl; here = refl; callers = refl }) refl made.memo
    made.callers
    (λ (cut list : List ℕ) (there : Remembers new.memo cut list). elim (made.only cut list there) [
      | inl before ↦ inl before
      | inr now ↦ inr (now.0 ∙ c.deref.ensures.value, now.1 ∙ c.words.ensures)
    ])).0

pub returns-in-None-clause-outcome : goal.returns-in-None-clause-outcome
returns-in-None-clause-outcome g c =
    let object = c.args.self.now.object.now in
    let book = c.args.self.now.book.now in
    let init = g.O.SetObject.init object in
    let served = g.O.SetObject.served object in
    let old = c.args.walk.now in
    let new : SetWalk = record old { left = old.left - 1 } in
    let cannot : CannotStand served book old.counts.items old.here.words
    (picked old.left old.callers.items) =
    subst (λ o. IfNone o (CannotStand served book old.counts.items old.here.words
    (picked old.left old.callers.items))) c.in-None.is c.in_ok-next_set.ensures.none in
    walk-skip init served book old new c.requires.walk (nowhere-from_cannot served book
    old.counts.items old.here.words (picked old.left old.callers.items) cannot)
    (record { frames = refl; counts = refl; here = refl; callers = refl }) refl
    (omega (arith, c.if-walk-eq0.false))
