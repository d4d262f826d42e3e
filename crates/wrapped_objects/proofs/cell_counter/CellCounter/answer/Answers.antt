use Rattle.std.proofs.Common.{◌∙◌, sym, subst}
use Rattle.seq_objects.specs.declared.kind.Kind.TheVariants.{Counter}
use Rattle.wrapped_objects.specs.Replies.{IsPossible}
use Rattle.wrapped_objects.proofs.Possible.{increment-possible, no_counter-possible}
use Rattle.wrapped_objects.proofs.cell_counter.CellCounter.answer.Goals as goal

pub returns-in-Some-Increment : goal.returns-in-Some-Increment
returns-in-Some-Increment c =
    subst (IsPossible Counter c.args.op) (sym c.wrapping_value_reply.ensures)
    (increment-possible c.from.result c.args.op c.in-Some-Increment.field-0
    (sym c.from_word.ensures ∙ c.in-Some-Increment.is))

pub returns-in-None : goal.returns-in-None
returns-in-None c = no_counter-possible c.args.op (sym c.from_word.ensures ∙ c.in-None.is)
