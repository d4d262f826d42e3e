use Rattle.std.proofs.Common.{Bool, arith}
use Rattle.book_base.specs.declared.call.Call.{Call}
use Rattle.book_base.specs.Book.{calls_of}
use Rattle.broken_rules.specs.Deeds.{did}
use Rattle.broken_rules.specs.Tallies.{is_tallied}
use Rattle.broken_rules.proofs.Ranking.{own_few, below_few}
use Rattle.broken_rules.proofs.tally.tally_of.Goals as goal

pub overflow_add-count : goal.overflow_add-count
overflow_add-count c =
    let book = c.args.book.now in
    let caller = c.loop-caller.caller in
    let small = c.callers-caller-end.ensures.small in
    let test : Call → Bool =
    is_tallied (did c.args.kind book) book c.args.tally c.args.value c.args.last in
    omega (
      arith,
      c.loop-caller.invariant,
      c.tally_of_caller-count.ensures,
      below_few test book small.calls caller,
      own_few test caller (calls_of book caller),
      small.calls caller,
      small.callers,
      c.loop-caller-test.true,
      c.callers-caller-end.ensures.count,
    )
