use Rattle.std.proofs.Common.{◌≡◌, Bool}
use Rattle.book_base.specs.declared.call.Call.{Call}
use Rattle.broken_rules.specs.Deeds.{did}
use Rattle.broken_rules.specs.Tallies.{count_of_caller, is_tallied}
use Rattle.broken_rules.proofs.tally.tally_of_caller.Given as goal

abbrev pub invariant-loop-number : goal.invariant-loop-number
invariant-loop-number l =
    let test : Call → Bool = is_tallied (did l.kind l.book) l.book l.tally l.value l.last in
    l.count ≡ count_of_caller test l.caller l.number
