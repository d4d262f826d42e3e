use Rattle.std.proofs.Common.{◌≡◌, ℕ, ◌<◌, ◌≤◌, Some, get_or, inl, inr, sym, subst, arith}
use Rattle.std.proofs.lemmas.Bool.{cases_lt}
use Rattle.std.proofs.lemmas.Option.{slice_get_within}
use Rattle.book_base.specs.declared.call.Record.{Record}
use Rattle.book_base.specs.Book.{calls_of, record_of}
use Rattle.book_base.specs.Cut.{IsWithin}
use Rattle.book_base.proofs.PageLemmas.{caller_from_call}
use Rattle.legal_orders.specs.Calls.{TakesOut}
use Rattle.list_pruning.proofs.LeastViews.{least_view}
use Rattle.list_pruning.proofs.takes.has_least_view.Goals as goal

pub loop-caller-preserved : goal.loop-caller-preserved
loop-caller-preserved g c i n below low less takes =
    let caller : ℕ = c.loop-caller.caller in
    elim (cases_lt i caller) [
      | inl early ↦ c.loop-caller.invariant i n early low less takes
      | inr here ↦
          let same : i ≡ caller = omega (arith, below, here) in
          subst (λ (j : ℕ). get_or c.args.cut.now j 0 ≤ n → n < get_or c.view-view.result.now j 0
          → TakesOut (g.R.Reader.reading c.args.reader.now) c.args.book.now
          (record { caller = j; number = n }) c.args.value
          → (s : Record) → record_of c.args.book.now (record { caller = j; number = n }) ≡ Some s
          → IsWithin c.view-view.result.now s.view) (sym same)
          (λ its_low its_less its_takes. c.takes_sooner.ensures c.if-takes_sooner.false n
          (omega (arith, its_low, c.get.ensures)) its_less its_takes) low less takes
    ]

pub returns : goal.returns
returns g c _ other takes outside =
    let book = c.args.book.now in
    let called : other.number < calls_of book other.caller =
    slice_get_within _ other.number takes.0 takes.2 in
    let there = caller_from_call book other.caller other.number called in
    least_view book c.callers-caller-end.ensures.valid c.args.take other c.view-view.result.now
    c.view-view.ensures.view
    (λ s at less. c.loop-caller.invariant other.caller other.number
    (omega (arith, there, c.loop-caller-test.false, c.callers-caller-end.ensures.count))
    outside less takes s at)
