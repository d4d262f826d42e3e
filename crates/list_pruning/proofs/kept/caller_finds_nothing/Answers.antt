use Rattle.std.proofs.Common.{◌≡◌, ℕ, ◌<◌, inl, inr, subst, arith}
use Rattle.std.proofs.lemmas.Bool.{cases_lt}
use Rattle.std.proofs.lemmas.Option.{slice_get_within}
use Rattle.book_base.specs.Book.{answers_of}
use Rattle.legal_orders.specs.Calls.{FindsNothing}
use Rattle.list_pruning.proofs.kept.caller_finds_nothing.Goals as goal

pub loop-number-preserved : goal.loop-number-preserved
loop-number-preserved g c n low below finds =
    let reading = g.R.Reader.reading c.args.reader.now in
    let number : ℕ = c.loop-number.number in
    elim (cases_lt n number) [
      | inl early ↦ c.loop-number.invariant n low early finds
      | inr here ↦
          let same : n ≡ number = omega (arith, below, here) in
          c.finds_nothing.ensures c.if-finds_nothing.false
          (subst (λ (m : ℕ). FindsNothing reading c.args.book.now
          (record { caller = c.args.caller; number = m })) same finds)
    ]

pub returns : goal.returns
returns g c _ number low finds =
    let answered : number < answers_of c.args.book.now c.args.caller =
    slice_get_within _ number finds.1 finds.3 in
    c.loop-number.invariant number low
    (omega (arith, answered, c.loop-number-test.false, c.answers-number-end.ensures)) finds
