use Rattle.model_callers.proofs.Staying.{sound-promised}
use Rattle.model_callers.proofs.model_caller.ModelCaller.leaves.Goals as goal

pub returns-in-Ok-clause-sound : goal.returns-in-Ok-clause-sound
returns-in-Ok-clause-sound c = sound-promised c.args.self.now c.promise.new.self
    c.operation_word.result c.wrapping_value_reply-reply.result c.promise.result c.requires.sound
    c.promise.ensures.kept c.promise.ensures.promised c.promise.ensures.refused
