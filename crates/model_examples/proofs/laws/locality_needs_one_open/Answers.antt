use Rattle.std.proofs.Common.{arith}
use Rattle.model_examples.proofs.CrossedParts.{crossed_valid, crossed_parts}
use Rattle.model_examples.proofs.CrossedOrders.{open_parts_are_legal, open_whole_is_illegal, open_has_several}
use Rattle.model_examples.proofs.laws.locality_needs_one_open.Goals as goal

pub returns-clause-valid : goal.returns-clause-valid
returns-clause-valid c = crossed_valid 2 1 0 (omega arith)

pub returns-clause-several : goal.returns-clause-several
returns-clause-several c = open_has_several

pub returns-clause-parts : goal.returns-clause-parts
returns-clause-parts c = crossed_parts 2 1 0

pub returns-clause-parts_legal : goal.returns-clause-parts_legal
returns-clause-parts_legal c = open_parts_are_legal

pub returns-clause-illegal : goal.returns-clause-illegal
returns-clause-illegal c = open_whole_is_illegal
