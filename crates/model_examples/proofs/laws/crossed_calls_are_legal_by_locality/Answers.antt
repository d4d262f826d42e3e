use Rattle.std.proofs.Common.{arith}
use Rattle.locality.proofs.Merging.{locality}
use Rattle.model_examples.specs.Counters.{side_key, side_list, side_counter, both_counters}
use Rattle.model_examples.specs.OpenCalls.{crossed_calls, crossed_names, crossed_part}
use Rattle.model_examples.proofs.Counters.{counters_product}
use Rattle.model_examples.proofs.CrossedParts.{crossed_valid, crossed_one_open, crossed_parts}
use Rattle.model_examples.proofs.CrossedOrders.{held_parts_are_legal}
use Rattle.model_examples.proofs.laws.crossed_calls_are_legal_by_locality.Goals as goal

pub returns-clause-valid : goal.returns-clause-valid
returns-clause-valid c = crossed_valid 1 0 1 (omega arith)

pub returns-clause-one_open : goal.returns-clause-one_open
returns-clause-one_open c = crossed_one_open

pub returns-clause-parts : goal.returns-clause-parts
returns-clause-parts c = crossed_parts 1 0 1

pub returns-clause-parts_legal : goal.returns-clause-parts_legal
returns-clause-parts_legal c = held_parts_are_legal

pub returns-clause-legal : goal.returns-clause-legal
returns-clause-legal c =
    (locality side_key side_list side_counter both_counters (crossed_calls 1 0 1) crossed_names
    (crossed_part 1 0 1) counters_product (crossed_valid 1 0 1 (omega arith)) crossed_one_open
    (crossed_parts 1 0 1)).1 held_parts_are_legal
