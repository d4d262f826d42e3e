use Rattle.std.proofs.Common.{List, ℕ, Option, IfSome, subst}
use Rattle.book_base.specs.Book.{Page}
use Rattle.book_base.specs.BookAt.{book_at}
use Rattle.book_base.specs.Order.{IsLegalOrder}
use Rattle.world_core.specs.Calls.{book_in}
use Rattle.frontier_check.specs.declared.kept_order.KeptOrder.{KeptOrder}
use Rattle.row_gather.specs.declared.gathered.Gathered.{Gathered}
use Rattle.row_gather.specs.Gathered.{TicksForNew}
use Rattle.enforcer.proofs.judging.judge_seen.Goals as goal

pub returns-in-Some-clause-verdict : goal.returns-in-Some-clause-verdict
returns-in-Some-clause-verdict g c = λ locals together is.
    let spec = g.S.SeqObject.spec c.args.object.now in
    let order = c.in-Some.order in
    let legal = subst (λ (after : Option KeptOrder).
    IfSome after (λ s. IsLegalOrder spec c.in-Ok.found.book s.order.items)) c.in-Some.is
    c.in-Ok.ensures.legal in
    subst (λ (cut : List ℕ). IsLegalOrder spec (book_at cut (book_in locals)) order.order.items)
    c.decide-decided.ensures.cut
    (subst (λ (book : List Page). IsLegalOrder spec book order.order.items)
    (c.in-Ok.ensures.exact locals together is) legal)

pub returns-in-None-clause-new_words : goal.returns-in-None-clause-new_words
returns-in-None-clause-new_words g c =
    let n = c.args.rows.now.callers in
    let before = c.args.steps.now in
    let after = c.decide-decided.new.steps in
    let book = c.in-Ok.found.book in
    subst (λ (cut : List ℕ). TicksForNew n c.args.gathered.now
    (record { book = book; cut = cut }) before after) c.decide-decided.ensures.cut
    (subst (λ (cut : List ℕ). TicksForNew n c.args.gathered.now
    (record { book = book; cut = cut }) before after) c.in-Ok.ensures.at
    (subst (λ (kept : Option Gathered). TicksForNew n kept c.in-Ok.found before after)
    c.take.ensures.value c.in-Ok.ensures.ticks))
