use Rattle.std.proofs.Common.{arith}
use Rattle.pinned_numbers.proofs.laws.phases_of_a_call.Goals as goal

pub returns-clause-made : goal.returns-clause-made
returns-clause-made c = λ calls more lt. omega (arith, lt)
