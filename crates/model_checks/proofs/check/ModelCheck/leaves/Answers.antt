use Rattle.model_checks.proofs.Sound.{sound-promised}
use Rattle.model_checks.proofs.check.ModelCheck.leaves.Goals as goal

pub returns-clause-sound : goal.returns-clause-sound
returns-clause-sound c = sound-promised c.args.self.now c.promise.new.self c.operation_word.result
    c.wrapping_value_reply.result c.promise.result c.requires.sound c.promise.ensures.kept
    c.promise.ensures.promised c.promise.ensures.refused
