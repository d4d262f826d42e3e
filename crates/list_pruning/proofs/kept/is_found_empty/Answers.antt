use Rattle.std.proofs.Common.{◌≡◌, ℕ, ◌<◌, ◌≤◌, get_or, inl, inr, subst, arith}
use Rattle.std.proofs.lemmas.Bool.{cases_lt}
use Rattle.std.proofs.lemmas.Option.{slice_get_within}
use Rattle.book_base.specs.Book.{answers_of}
use Rattle.book_base.proofs.PageLemmas.{caller_from_answer}
use Rattle.legal_orders.specs.Calls.{FindsNothing}
use Rattle.list_pruning.proofs.kept.is_found_empty.Goals as goal

pub loop-caller-preserved : goal.loop-caller-preserved
loop-caller-preserved g c i number below low finds =
    let reading = g.R.Reader.reading c.args.reader.now in
    let caller : ℕ = c.loop-caller.caller in
    elim (cases_lt i caller) [
      | inl early ↦ c.loop-caller.invariant i number early low finds
      | inr here ↦
          let same : i ≡ caller = omega (arith, below, here) in
          c.caller_finds_nothing.ensures c.if-caller_finds_nothing.false number
          (subst (λ (n : ℕ). get_or c.args.cut.now n 0 ≤ number) same low)
          (subst (λ (n : ℕ).
          FindsNothing reading c.args.book.now (record { caller = n; number = number })) same finds)
    ]

pub returns : goal.returns
returns g c _ call finds out =
    let answered : call.number < answers_of c.args.book.now call.caller =
    slice_get_within _ call.number finds.1 finds.3 in
    let there = caller_from_answer c.args.book.now call.caller call.number answered in
    c.loop-caller.invariant call.caller call.number
    (omega (arith, there, c.loop-caller-test.false, c.callers-caller-end.ensures.count)) out finds
