use Rattle.std.proofs.Common.{ℕ, ◌<◌, length, subst, arith}
use Rattle.std.specs.Prelude.{IfNone}
use Rattle.book_base.specs.declared.call.Call.{Call}
use Rattle.book_base.proofs.PageLemmas.{caller_from_call}
use Rattle.broken_rules.specs.Rules.{Breaks}
use Rattle.broken_rules.proofs.Searching.{callers_more}
use Rattle.broken_rules.proofs.search.broken_by.Goals as goal

pub loop-caller-preserved : goal.loop-caller-preserved
loop-caller-preserved c =
    let P : Call → Type 0 = λ first. (second : Call) → Breaks c.args.kind c.args.book.now
    (record { rule = c.args.rule; first = first; second = second }) → ⊥ in
    callers_more P c.loop-caller.caller c.loop-caller.invariant
    (subst
    (λ o. IfNone o ((number : ℕ) → P (record { caller = c.loop-caller.caller; number = number })))
    c.in-None.is c.broken_by_caller.ensures.none)

pub returns-clause-none : goal.returns-clause-none
returns-clause-none c first second breaks =
    let inside : first.caller < length c.args.book.now =
    caller_from_call c.args.book.now first.caller first.number breaks.first in
    c.loop-caller.invariant first
    (omega (arith, inside, c.callers-caller-end.ensures.count)) second breaks
