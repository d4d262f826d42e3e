use Rattle.std.proofs.Common.{arith}
use Rattle.model_callers.proofs.Staying.{sound-told}
use Rattle.model_callers.proofs.model_caller.ModelCaller.tell.Goals as goal

pub returns-in-Ok-clause-sound : goal.returns-in-Ok-clause-sound
returns-in-Ok-clause-sound c = sound-told c.args.self.now c.tell.new.self c.from-3.result
    c.operation_word.result
    (record { next = c.from.result; reply = c.wrapping_value_reply.result }) c.tell.result
    c.requires.sound (omega (arith, c.from.ensures, c.ranges.next.fits)) c.tell.ensures.kept
    c.tell.ensures.told c.tell.ensures.refused
