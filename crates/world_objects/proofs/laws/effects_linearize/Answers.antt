use Rattle.world_objects.proofs.EffectOrders.{effects_linearize, the_order_is_of_effects}
use Rattle.world_objects.proofs.laws.effects_linearize.Goals as goal

pub returns-clause-linearizable : goal.returns-clause-linearizable
returns-clause-linearizable c = effects_linearize

pub returns-clause-order : goal.returns-clause-order
returns-clause-order c = the_order_is_of_effects
