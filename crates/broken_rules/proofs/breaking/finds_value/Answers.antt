use Rattle.broken_rules.specs.Deeds.{took, deal_of_act}
use Rattle.broken_rules.proofs.Acts.{takes_same}
use Rattle.broken_rules.proofs.breaking.finds_value.Goals as goal

pub returns : goal.returns
returns c =
    takes_same c.took.result (deal_of_act c.taking_of-2.result) (deal_of_act c.taking_of.result)
    (took c.args.kind c.args.book.now c.args.call) (took c.args.kind c.args.book.now c.args.taker)
    c.value-value.result c.took.ensures c.value-value.ensures c.taking_of-2.ensures
    c.taking_of.ensures
