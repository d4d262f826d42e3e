use Rattle.std.proofs.Common.{ℕ, sym, subst, ◌∙◌}
use Rattle.legal_orders.specs.Calls.{PutsIn}
use Rattle.list_pruning.proofs.Pairing.{puts_paired}
use Rattle.list_pruning.proofs.last_first.puts_paired.Goals as goal

pub returns : goal.returns
returns g c is =
    let reading = g.R.Reader.reading c.args.reader.now in
    let book = c.args.book.now in
    let caller : ℕ = c.args.caller in
    puts_paired reading book c.args.cut.now c.args.words.now c.args.sight.now c.args.marks caller
    c.in-Some.value c.next_least_take.result c.requires.sight c.requires.marks
    (subst (λ (n : ℕ). PutsIn reading book (record { caller = caller; number = n }) c.in-Some.value)
    c.get.ensures c.in-Some.ensures.some)
    (c.holds.ensures c.if-holds.false) (c.is_put_once.ensures c.if-not-is_put_once.false)
    (sym c.is_some.ensures ∙ is) c.next_least_take.ensures.marked c.next_least_take.ensures.take
