use Rattle.std.proofs.Common.{◌∙◌, ap, Option}
use Rattle.model_text.specs.declared.told_line.ToldLine.{ToldLine}
use Rattle.model_text.specs.Told.{comes_after}
use Rattle.model_text.proofs.steps.rises_after.Goals as goal

pub returns-in-Some : goal.returns-in-Some
returns-in-Some c = c.comes_before.ensures
    ∙ ap (λ (o : Option ToldLine). comes_after o c.args.line.now) c.in-Some.ensures.value
