use Rattle.std.proofs.Common.{Bool, arith}
use Rattle.book_base.specs.declared.call.Call.{Call}
use Rattle.broken_rules.specs.Deeds.{did}
use Rattle.broken_rules.specs.Tallies.{is_tallied}
use Rattle.broken_rules.proofs.Ranking.{own_few}
use Rattle.broken_rules.proofs.tally.tally_of_caller.Goals as goal

pub overflow_add-count : goal.overflow_add-count
overflow_add-count c =
    let book = c.args.book.now in
    let test : Call → Bool =
    is_tallied (did c.args.kind book) book c.args.tally c.args.value c.args.last in
    omega
    (arith, c.loop-number.invariant, own_few test c.args.caller c.loop-number.number)
