use Rattle.std.proofs.Common.{◌≡◌, ℕ, Some, inl, inr, sym, subst, arith}
use Rattle.std.proofs.lemmas.Bool.{cases_lt}
use Rattle.book_base.specs.declared.call.Record.{Record}
use Rattle.book_base.specs.Book.{record_of}
use Rattle.book_base.specs.Cut.{IsWithin}
use Rattle.legal_orders.specs.Calls.{TakesOut}
use Rattle.list_pruning.proofs.takes.takes_sooner.Goals as goal

pub loop-number-preserved : goal.loop-number-preserved
loop-number-preserved g c n low below takes =
    let number : ℕ = c.loop-number.number in
    elim (cases_lt n number) [
      | inl early ↦ c.loop-number.invariant n low early takes
      | inr here ↦
          let same : n ≡ number = omega (arith, below, here) in
          subst (λ (m : ℕ). (s : Record)
          → record_of c.args.book.now (record { caller = c.args.caller; number = m }) ≡ Some s
          → IsWithin c.args.view.now s.view) (sym same)
          (c.is_sooner.ensures c.if-is_sooner.false
          (subst (λ (m : ℕ). TakesOut (g.R.Reader.reading c.args.reader.now) c.args.book.now
          (record { caller = c.args.caller; number = m }) c.args.value) same takes))
    ]

pub returns : goal.returns
returns g c _ number low below takes = c.loop-number.invariant number low
    (omega (arith, below, c.loop-number-test.false, c.get-number-end.ensures)) takes
