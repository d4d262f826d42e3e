use Rattle.std.proofs.Common.{sym, ◌∙◌, rules}
use Rattle.history_text.proofs.moment.Moment.of.Goals as goal

pub returns-in-None : goal.returns-in-None
returns-in-None c =
    (c.in-Some.item.now, search rules, λ n low is. c.in-None.ensures.none n low (is ∙ sym c.plain.ensures))
