use Rattle.std.proofs.Common.{Some, ◌∙◌, sym, ap, subst}
use Rattle.seq_objects.specs.declared.kind.Kind.TheVariants.{Register}
use Rattle.wrapped_objects.specs.Replies.{IsPossible}
use Rattle.wrapped_objects.proofs.Possible.{write-possible, read-possible, no_register-possible}
use Rattle.wrapped_objects.proofs.cell_register.CellRegister.answer.Goals as goal

pub returns-in-Some-Write : goal.returns-in-Some-Write
returns-in-Some-Write c =
    write-possible c.in-Some-Write.value c.args.op
    (sym c.from_word.ensures ∙ (c.in-Some-Write.is ∙ ap Some c.in-Some-Write.field-0-is))

pub returns-in-Some-Read : goal.returns-in-Some-Read
returns-in-Some-Read c =
    subst (IsPossible Register c.args.op) (sym c.wrapping_value_reply.ensures)
    (read-possible c.from.result c.args.op
    (sym c.from_word.ensures ∙ (c.in-Some-Read.is ∙ ap Some c.in-Some-Read.field-0-is)))

pub returns-in-None : goal.returns-in-None
returns-in-None c = no_register-possible c.args.op (sym c.from_word.ensures ∙ c.in-None.is)
