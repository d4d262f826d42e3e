use Rattle.std.proofs.Common.{ℕ, ◌≡◌, subst}
use Rattle.legal_orders.specs.Calls.{PutsIn}
use Rattle.list_pruning.proofs.least_first.is_unwanted.Goals as goal

pub returns : goal.returns
returns g c _ =
    let reading = g.R.Reader.reading c.args.reader.now in
    let book = c.args.book.now in
    let caller : ℕ = c.args.caller in
    record {
      apart = λ (same : caller ≡ c.args.forced). c.if-caller-forced.false same;
      value = c.in-Some.value;
      puts = subst (λ (n : ℕ). PutsIn reading book (record { caller = caller; number = n })
          c.in-Some.value) c.get.ensures c.in-Some.ensures.some;
      never = c.is_wanted.ensures c.if-is_wanted.false;
    }
