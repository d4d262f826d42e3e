use Rattle.std.proofs.Common.{◌≡◌, ℕ, ◌<◌, ◌≤◌, IsSomeAnd, get_or, inl, inr, sym, subst, arith}
use Rattle.std.proofs.lemmas.Bool.{cases_lt}
use Rattle.std.proofs.lemmas.Option.{slice_get_within}
use Rattle.book_base.specs.declared.call.Record.{Record}
use Rattle.book_base.specs.Book.{calls_of, record_of}
use Rattle.book_base.specs.Next.{next_call}
use Rattle.search_hints.specs.Marks.{IsMarked}
use Rattle.book_base.proofs.PageLemmas.{caller_from_call}
use Rattle.legal_orders.specs.Calls.{PutsIn}
use Rattle.list_pruning.proofs.NextOrLater.{view_below_calls, next_or_later}
use Rattle.list_pruning.proofs.again.puts_are_next_or_later.Goals as goal

pub puts_below-requires-clause-below : goal.puts_below-requires-clause-below
puts_below-requires-clause-below g c =
    let caller : ℕ = c.loop-caller.caller in
    omega (
      arith,
      c.get-in-loop-caller.ensures,
      view_below_calls c.args.book.now c.callers-caller-end.ensures.valid
          (record { caller = c.args.taker; number = c.get.result }) c.view-view.result.now
          c.view-view.ensures.view caller,
    )

pub loop-caller-preserved : goal.loop-caller-preserved
loop-caller-preserved g c i n below low less puts =
    let caller : ℕ = c.loop-caller.caller in
    elim (cases_lt i caller) [
      | inl early ↦ c.loop-caller.invariant i n early low less puts
      | inr here ↦
          let same : i ≡ caller = omega (arith, below, here) in
          subst (λ (j : ℕ). get_or c.args.cut.now j 0 ≤ n → n < get_or c.view-view.result.now j 0
          → PutsIn (g.R.Reader.reading c.args.reader.now) c.args.book.now
          (record { caller = j; number = n }) c.args.value
          → IsMarked c.args.marks j × (n ≡ get_or c.args.cut.now j 0)) (sym same)
          (λ its_low its_less its_puts. c.puts_below.ensures c.if-puts_below.false n its_low
          (omega (arith, its_less, c.get-in-loop-caller.ensures)) its_puts) low less puts
    ]

pub returns : goal.returns
returns g c _ put writes =
    let book = c.args.book.now in
    let called : put.number < calls_of book put.caller =
    slice_get_within _ put.number writes.0.0 writes.0.1 in
    let there = caller_from_call book put.caller put.number called in
    next_or_later book c.args.cut.now (next_call c.args.cut.now c.args.taker) put
    c.view-view.result.now c.args.marks c.requires.marks
    (subst (λ (n : ℕ). IsSomeAnd (record_of book (record { caller = c.args.taker; number = n }))
    (λ (r : Record). c.view-view.result.now ≡ r.view)) c.get.ensures c.view-view.ensures.view)
    (λ (held : put.number < get_or c.view-view.result.now put.caller 0).
    c.loop-caller.invariant put.caller put.number
    (omega (arith, there, c.loop-caller-test.false, c.callers-caller-end.ensures.count))
    writes.1 held writes.0)
