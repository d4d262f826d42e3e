use Rattle.std.proofs.Common.{◌∙◌}
use Rattle.core_objects.proofs.core_object.CoreObject.ask.Goals as goal

pub returns-clause-caller : goal.returns-clause-caller
returns-clause-caller g c =
    let made = c.reply-reply.ensures.made.0 in
    let same = c.answer.ensures.caller in
    (same.rows g.Self.P.Program.meaning c.args.rows.now made.still.0, same.who ∙ made.still.1)
