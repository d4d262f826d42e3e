use Rattle.std.proofs.Common.{◌≡◌, ◌∙◌, [], ℕ, List, length, refl, sym, ap, subst, inl, inr, rules}
use Rattle.std.proofs.lemmas.List.{nil_from_length}
use Rattle.frontier_check.specs.declared.choice.Choice.{Choice}
use Rattle.frontier_check.specs.declared.walk.Walk.{Walk}
use Rattle.frontier_check.specs.Memo.{Remembers}
use Rattle.frontier_check.specs.Search.{IsWalk, places_of}
use Rattle.frontier_check.proofs.Leading.{leads-wide}
use Rattle.frontier_check.proofs.Walking.{walk-choose, walk-remember}
use Rattle.frontier_check.proofs.search.Search.advance.Goals as goal

pub enter-requires-clause-walk : goal.enter-requires-clause-walk
enter-requires-clause-walk g c =
    let object = c.args.self.now.object.now in
    let old = c.args.walk.now in
    let new : Walk = record old { choices = c.pop.new.self } in
    (walk-choose c.args.self.now.book.now c.args.self.now.prefix.now
    (g.S.SeqObject.spec object) old new c.in-Some.choice c.requires.walk c.in-Some.ensures.items
    refl refl refl refl).0

pub remember-requires-clause-wide : goal.remember-requires-clause-wide
remember-requires-clause-wide g c =
    let object = c.args.self.now.object.now in
    let w = c.requires.walk in
    ap length c.deref.ensures.value
    ∙ (leads-wide c.args.self.now.book.now c.args.self.now.prefix.now
    (g.S.SeqObject.spec object) c.args.walk.now.frames.items c.args.walk.now.counts.items
    c.args.walk.now.here.words w.begins w.leads
    ∙ sym w.callers)

pub retreat-requires : goal.retreat-requires
retreat-requires g c =
    let book = c.args.self.now.book.now in
    let object = c.args.self.now.object.now in
    let spec = g.S.SeqObject.spec object in
    let old = c.args.walk.now in
    let new : Walk = record old { choices = c.pop.new.self; memo = c.remember.new.self } in
    let none : old.choices.items ≡ [] =
    nil_from_length old.choices.items (let e = c.in-None.ensures.cases.0 in search rules) in
    let walk : IsWalk book c.args.self.now.prefix.now spec old [] = subst
    (λ (cs : List Choice). IsWalk book c.args.self.now.prefix.now spec old (places_of cs)) none
    c.requires.walk in
    let made = c.in_ok-remember-in-None.ensures in
    record {
      walk = walk-remember book c.args.self.now.prefix.now spec old new walk refl refl refl
          made.memo made.callers
          (λ (cut list : List ℕ) (there : Remembers new.memo cut list).
          elim (made.only cut list there) [
            | inl before ↦ inl before
            | inr now ↦ inr (now.0 ∙ c.deref.ensures.value, now.1 ∙ c.words.ensures)
          ]);
    }
