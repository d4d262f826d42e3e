use Rattle.std.proofs.Common.{◌≡◌}
use Rattle.broken_rules.specs.Deeds.{did}
use Rattle.broken_rules.specs.Tallies.{count_below, is_tallied}
use Rattle.broken_rules.proofs.tally.tally_of.Given as goal

abbrev pub invariant-loop-caller : goal.invariant-loop-caller
invariant-loop-caller l = l.count
    ≡ count_below (is_tallied (did l.kind l.book) l.book l.tally l.value l.last) l.book l.caller
