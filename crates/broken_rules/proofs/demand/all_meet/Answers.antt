use Rattle.std.proofs.Common.{◌<◌, length, refl, arith}
use Rattle.std.proofs.lemmas.Bool.{false≢true, iff_false}
use Rattle.book_base.specs.declared.call.Call.{Call}
use Rattle.book_base.specs.Book.{IsCall}
use Rattle.book_base.proofs.PageLemmas.{caller_from_call}
use Rattle.broken_rules.specs.Demands.{Meets}
use Rattle.broken_rules.proofs.Searching.{callers_more}
use Rattle.broken_rules.proofs.demand.all_meet.Goals as goal

pub loop-caller-preserved : goal.loop-caller-preserved
loop-caller-preserved c =
    let book = c.args.book.now in
    callers_more (λ (call : Call). IsCall book call
    → Meets c.args.kind book c.args.demand c.args.first c.args.second call) c.loop-caller.caller
    c.loop-caller.invariant
    (λ number made. c.caller_meets.ensures.0 c.if-not-caller_meets.false number made)

pub returns-then-not-caller_meets : goal.returns-then-not-caller_meets
returns-then-not-caller_meets c = (
  λ e. absurd (false≢true e),
  λ all. absurd (iff_false c.caller_meets.ensures c.if-not-caller_meets.true
      (λ number made. all (record { caller = c.loop-caller.caller; number = number }) made)),
)

pub returns : goal.returns
returns c = (
  λ e call made.
      let inside : call.caller < length c.args.book.now =
      caller_from_call c.args.book.now call.caller call.number made in
      c.loop-caller.invariant call (omega (arith, inside, c.callers-caller-end.ensures.count)) made,
  λ all. refl,
)
