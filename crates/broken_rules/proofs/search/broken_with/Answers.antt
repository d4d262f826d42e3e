use Rattle.std.proofs.Common.{ℕ, ◌<◌, length, subst, arith}
use Rattle.std.specs.Prelude.{IfNone}
use Rattle.book_base.specs.declared.call.Call.{Call}
use Rattle.book_base.proofs.PageLemmas.{caller_from_call}
use Rattle.broken_rules.specs.Rules.{Breaks}
use Rattle.broken_rules.proofs.Searching.{callers_more}
use Rattle.broken_rules.proofs.search.broken_with.Goals as goal

pub loop-caller-preserved : goal.loop-caller-preserved
loop-caller-preserved c =
    let P : Call → Type 0 = λ second. Breaks c.args.kind c.args.book.now
    (record { rule = c.args.rule; first = c.args.first; second = second }) → ⊥ in
    callers_more P c.loop-caller.caller c.loop-caller.invariant
    (subst
    (λ o. IfNone o ((number : ℕ) → P (record { caller = c.loop-caller.caller; number = number })))
    c.in-None.is c.broken_with_caller.ensures.none)

pub returns-clause-none : goal.returns-clause-none
returns-clause-none c second breaks =
    let inside : second.caller < length c.args.book.now =
    caller_from_call c.args.book.now second.caller second.number breaks.second in
    c.loop-caller.invariant second
    (omega (arith, inside, c.callers-caller-end.ensures.count)) breaks
