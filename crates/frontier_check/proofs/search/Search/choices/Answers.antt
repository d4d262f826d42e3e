use Rattle.std.proofs.Common.{◌≡◌, ◌∙◌, ℕ, List, [], ◌∷◌, ◌++◌, length, sym, ap, subst, arith}
use Rattle.book_base.specs.declared.call.Place.{Place}
use Rattle.book_base.specs.Next.{next_call, MayComeNext}
use Rattle.search_hints.specs.Marks.{IsMarked, MarksSuffice}
use Rattle.frontier_check.specs.declared.choice.Choice.{Choice}
use Rattle.frontier_check.specs.Search.{AreChosen, IsOpen, MayGrow, places_of}
use Rattle.frontier_check.proofs.Choosing.{chosen-next, unmarked-skip, open-from_chosen, open-from_once}
use Rattle.frontier_check.proofs.search.Search.choices.Goals as goal
use Rattle.frontier_check.proofs.search.Search.choices.Goals.{then-has+in_ok-consider, else-has}

pub returns-in-Some-clause-open : goal.returns-in-Some-clause-open
returns-in-Some-clause-open g c =
    let book = c.args.self.now.book.now in
    let next = (g.S.SeqObject.spec c.args.self.now.object.now).next in
    let cut = c.args.counts.now in
    let list = c.args.here.now.words in
    let one : Choice = record { turn = 0; place = c.in-Some.place } in
    let items : c.push.new.self.items ≡ one ∷ [] = c.in_ok-push.ensures.items
    ∙ ap (λ (cs : List Choice). cs ++ one ∷ []) c.new-choices.ensures.items in
    subst (λ (ps : List Place). IsOpen book next cut list ps) (sym (ap places_of items))
    (open-from_once book next cut list c.args.first c.in-Some.place c.requires.first
    c.in-Some.ensures.some)

pub consider-requires-clause-may : goal.consider-requires-clause-may
consider-requires-clause-may g c =
    let book = c.args.self.now.book.now in
    let caller = c.loop-caller.caller in
    let marked : IsMarked c.to_try-marks.result caller = c.has.ensures.0 c.if-has.true in
    subst (λ (cut : List ℕ). MayComeNext book cut (next_call cut caller)) c.cut_of-cut.ensures
    (c.to_try-marks.ensures.may caller marked)

pub consider-requires-clause-fits : goal.consider-requires-clause-fits
consider-requires-clause-fits g c =
    subst (λ (n : ℕ). MayGrow (g.S.SeqObject.spec c.args.self.now.object.now).next
    c.args.here.now.words n) (sym c.loop-caller.invariant.room) c.requires.fits

pub loop-caller-preserved : goal.loop-caller-preserved
loop-caller-preserved g c =
    let book = c.args.self.now.book.now in
    let object = c.args.self.now.object.now in
    let spec = g.S.SeqObject.spec object in
    let cut = c.args.counts.now in
    let list = c.args.here.now.words in
    let marks = c.to_try-marks.result in
    let caller = c.loop-caller.caller in
    let before = places_of c.loop-caller.choices.items in
    let i = c.loop-caller.invariant in
    elim c.if-has.branch [
      | then-has+in_ok-consider w ↦ record {
        room = rw w.spare-is (w.consider.ensures.room ∙ i.room);
        chosen = rw w.choices-is (chosen-next book spec.next cut list marks caller before
            (places_of w.consider.new.choices.items) i.chosen w.in_ok-consider.ensures.more);
        few = rw w.choices-is (omega (arith, i.few, w.consider.ensures.few));
      }
      | else-has w ↦ record {
        room = rw w.spare-is i.room;
        chosen = rw w.choices-is (unmarked-skip book spec.next cut list marks before caller i.chosen
            (λ (marked : IsMarked marks caller).
            absurd (let yes = c.has.ensures.1 marked in let untrue = w.if-has.false in cc)));
        few = rw w.choices-is (omega (arith, i.few));
      }
    ]

pub returns-clause-open : goal.returns-clause-open
returns-clause-open g c =
    let book = c.args.self.now.book.now in
    let next = (g.S.SeqObject.spec c.args.self.now.object.now).next in
    let cut = c.args.counts.now in
    let list = c.args.here.now.words in
    let marks = c.to_try-marks.result in
    let places = places_of c.loop-caller.choices.items in
    let end : c.loop-caller.caller ≡ length book =
    omega (arith, c.callers-caller-end.ensures.count) in
    let suffice : MarksSuffice book next cut list marks =
    subst (λ (counts : List ℕ). MarksSuffice book next counts list marks) c.cut_of-cut.ensures
    c.to_try-marks.ensures.suffice in
    open-from_chosen book next cut list marks c.args.first places c.requires.first suffice
    (subst (λ (n : ℕ). AreChosen book next cut list marks n places) end
    c.loop-caller.invariant.chosen)
