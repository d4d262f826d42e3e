use Rattle.std.proofs.Common.{refl}
use Rattle.model_examples.specs.Locks.{two_places}
use Rattle.model_examples.specs.Counters.{both_counters}
use Rattle.model_examples.proofs.Counters.{counters_product, counters_part}
use Rattle.model_examples.proofs.TwoCalls.{two_calls_are_legal}
use Rattle.model_examples.proofs.laws.two_counters_are_a_product.Goals as goal

pub returns-clause-product : goal.returns-clause-product
returns-clause-product c = counters_product

pub returns-clause-part : goal.returns-clause-part
returns-clause-part c = counters_part

pub returns-clause-legal : goal.returns-clause-legal
returns-clause-legal c = (two_places 0 0, two_calls_are_legal both_counters 0 0 1 0 refl refl)
