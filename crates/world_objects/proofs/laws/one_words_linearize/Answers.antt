use Rattle.world_objects.proofs.OneWords.{one_words_linearize, one_word_orders_are_of_steps}
use Rattle.world_objects.proofs.laws.one_words_linearize.Goals as goal

pub returns-clause-linearizable : goal.returns-clause-linearizable
returns-clause-linearizable c = one_words_linearize

pub returns-clause-order : goal.returns-clause-order
returns-clause-order c = one_word_orders_are_of_steps
