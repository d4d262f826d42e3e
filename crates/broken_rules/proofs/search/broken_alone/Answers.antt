use Rattle.std.proofs.Common.{◌≡◌, sym, subst}
use Rattle.std.proofs.lemmas.Bool.{iff_false}
use Rattle.book_base.specs.declared.call.Call.{Call}
use Rattle.broken_rules.specs.Rules.{Breaks}
use Rattle.broken_rules.proofs.Searching.{of_one_call}
use Rattle.broken_rules.proofs.search.broken_alone.Goals as goal

pub returns-else-is_broken-clause-none : goal.returns-else-is_broken-clause-none
returns-else-is_broken-clause-none c second breaks =
    let rule = c.args.rule in
    let only = c.args.only in
    let same : only ≡ second = of_one_call rule c.args.kind c.args.book.now only second
    c.requires.rule breaks.related in
    iff_false c.is_broken.ensures c.if-is_broken.false
    (subst (λ (other : Call). Breaks c.args.kind c.args.book.now
    (record { rule = rule; first = only; second = other })) (sym same) breaks)
