use Rattle.std.proofs.Common.{ℕ, ◌<◌, below_more, subst, arith}
use Rattle.std.specs.Prelude.{IfNone}
use Rattle.book_base.specs.declared.call.Call.{Call}
use Rattle.book_base.specs.Book.{calls_of}
use Rattle.broken_rules.specs.Rules.{Breaks}
use Rattle.broken_rules.proofs.search.broken_by_caller.Goals as goal

pub loop-number-preserved : goal.loop-number-preserved
loop-number-preserved c =
    let P : ℕ → Type 0
    = λ number. (second : Call) → Breaks c.args.kind c.args.book.now (record {
      rule = c.args.rule;
      first = record { caller = c.args.caller; number = number };
      second = second;
    }) → ⊥ in
    below_more P c.loop-number.number c.loop-number.invariant
    (subst (λ o. IfNone o (P c.loop-number.number)) c.in-None.is c.broken_at.ensures.none)

pub returns-clause-none : goal.returns-clause-none
returns-clause-none c number second breaks =
    let made : number < calls_of c.args.book.now c.args.caller = breaks.first in
    c.loop-number.invariant number (omega (arith, made, c.calls-number-end.ensures)) second breaks
