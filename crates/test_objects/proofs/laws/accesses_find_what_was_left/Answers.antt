use Rattle.test_objects.proofs.Together.{tallies_are_counted, cells_are_read}
use Rattle.test_objects.proofs.laws.accesses_find_what_was_left.Goals as goal

pub returns-clause-tallies : goal.returns-clause-tallies
returns-clause-tallies c = tallies_are_counted

pub returns-clause-cells : goal.returns-clause-cells
returns-clause-cells c = cells_are_read
