use Rattle.std.proofs.Common.{◌≡◌, ℕ, get_or, inl, inr, sym, subst, arith}
use Rattle.std.proofs.lemmas.Bool.{cases_lt}
use Rattle.search_hints.specs.Marks.{IsMarked}
use Rattle.legal_orders.specs.Calls.{PutsIn}
use Rattle.list_pruning.proofs.again.puts_below.Goals as goal

pub loop-number-preserved : goal.loop-number-preserved
loop-number-preserved g c n low below puts =
    let number : ℕ = c.loop-number.number in
    elim (cases_lt n number) [
      | inl early ↦ c.loop-number.invariant n low early puts
      | inr here ↦
          let same : n ≡ number = omega (arith, below, here) in
          subst (λ (m : ℕ). IsMarked c.args.marks c.args.caller
          × (m ≡ get_or c.args.cut.now c.args.caller 0)) (sym same)
          (c.puts_past.ensures c.if-puts_past.false
          (subst (λ (m : ℕ). PutsIn (g.R.Reader.reading c.args.reader.now) c.args.book.now
          (record { caller = c.args.caller; number = m }) c.args.value) same puts))
    ]

pub returns : goal.returns
returns g c _ number low below puts = c.loop-number.invariant number low
    (omega (arith, below, c.loop-number-test.false)) puts
