use Rattle.std.proofs.Common.{◌∙◌}
use Rattle.core_objects.proofs.OneWordCalls.{known_is_inc}
use Rattle.core_objects.proofs.tally.CoreTally.makes_step.Goals as goal

pub returns : goal.returns
returns c = c.known.ensures ∙ known_is_inc c.args.op
