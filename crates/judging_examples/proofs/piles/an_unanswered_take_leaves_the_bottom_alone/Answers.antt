use Rattle.judging_examples.proofs.ClosedTables.{take_leaves_bottom, take_leaves_no_item, put_leaves_nothing, answered_is_another}
use Rattle.judging_examples.proofs.piles.an_unanswered_take_leaves_the_bottom_alone.Goals as goal

pub returns-clause-bottom : goal.returns-clause-bottom
returns-clause-bottom c = take_leaves_bottom

pub returns-clause-item : goal.returns-clause-item
returns-clause-item c = take_leaves_no_item

pub returns-clause-put : goal.returns-clause-put
returns-clause-put c = put_leaves_nothing

pub returns-clause-answered : goal.returns-clause-answered
returns-clause-answered c = answered_is_another
