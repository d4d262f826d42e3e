use Rattle.std.proofs.Common.{ℕ, ◌⊎◌, refl, sym, subst, arith}
use Rattle.search_hints.specs.Marks.{IsMarked}
use Rattle.list_pruning.specs.HoldsLast.{IsNeedless, WritesUnread}
use Rattle.list_pruning.proofs.Writing.{unread_write_suffices, needed_suffice}
use Rattle.list_pruning.proofs.holds_last.narrow_holds_last.Goals as goal

pub returns-in-Some-clause-suffice : goal.returns-in-Some-clause-suffice
returns-in-Some-clause-suffice g c held_in next list is same =
    let reading = g.R.Reader.reading c.args.reader.now in
    let book = c.args.book.now in
    let cut = c.args.cut.now in
    let caller : ℕ = c.in-Some.caller in
    unread_write_suffices reading held_in next is book cut list caller c.only.result
    (omega (arith, c.requires.wide)) ((c.requires.marks caller).0 c.in-Some.ensures.marked)
    (subst (λ (h : ℕ). WritesUnread reading book cut h caller) (sym same) c.in-Some.ensures.write)
    ((c.only.ensures caller).1 refl)

pub returns-in-None-clause-suffice : goal.returns-in-None-clause-suffice
returns-in-None-clause-suffice g c held_in next list is same =
    let reading = g.R.Reader.reading c.args.reader.now in
    let book = c.args.book.now in
    let cut = c.args.cut.now in
    let all = c.args.marks in
    needed_suffice reading held_in next is book cut list c.args.forced all c.without_needless.result
    (omega (arith, c.requires.wide)) c.requires.open c.requires.forced c.requires.marks
    (subst (λ (h : ℕ). (i : ℕ) → IsMarked all i → IsMarked c.without_needless.result i
    ⊎ IsNeedless reading book cut h i) (sym same) c.without_needless.ensures.needless)
