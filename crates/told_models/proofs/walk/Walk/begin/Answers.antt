use Rattle.std.proofs.Common.{◌≡◌, ◌∙◌, ℕ, List, length, replicate, ap, subst, arith}
use Rattle.std.proofs.lemmas.List.{length-replicate}
use Rattle.book_base.specs.Pruning.{IsForced}
use Rattle.search_hints.specs.Marks.{MarksAllNext}
use Rattle.told_models.specs.Closed.{number_of_calls}
use Rattle.told_models.proofs.Walks.{walk_begins}
use Rattle.told_models.proofs.Weighing.{weigh-first}
use Rattle.told_models.proofs.walk.Walk.begin.Goals as goal

pub returns-clause-walk : goal.returns-clause-walk
returns-clause-walk c =
    let book = c.args.book.now in
    let counts : c.in_ok-counts.counts.items ≡ replicate (length book) 0 =
    c.in_ok-counts.ensures.items_if_clones_equal (λ y h. h)
    ∙ ap (λ (n : ℕ). replicate n 0) c.callers.ensures.count in
    walk_begins c.args.table.now book _ c.in-Some.first c.callers.ensures.valid
    c.callers.ensures.small c.new.ensures.items counts c.init.ensures.init
    (subst (λ (cut : List ℕ). IsForced book cut c.in-Some.first) c.deref.ensures.value
    c.in-Some.ensures.least)
    (subst (λ (cut : List ℕ). MarksAllNext book cut c.next_callers-waiting.result)
    c.deref-2.ensures.value c.next_callers-waiting.ensures)
    c.new-memo.ensures.memo
    (omega (
      arith,
      c.new-memo.ensures.callers,
      c.len.ensures,
      c.in_ok-counts.counts.ok.0,
      ap length counts,
      length-replicate {A = ℕ} (length book) 0,
    ))
    c.new-memo.ensures.empty c.has_one_open.ensures.one

pub returns-clause-weight : goal.returns-clause-weight
returns-clause-weight c = weigh-first (number_of_calls c.args.book.now) _
    c.next_callers-waiting.result c.new.ensures.items
