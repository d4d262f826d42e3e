use Rattle.broken_rules.specs.Deeds.{did, deal_of_act}
use Rattle.broken_rules.proofs.Acts.{takes_same}
use Rattle.broken_rules.proofs.demand.takes_value.Goals as goal

pub returns : goal.returns
returns c =
    takes_same c.took.result (deal_of_act c.act_of-2.result) (deal_of_act c.act_of.result)
    (did c.args.kind c.args.book.now c.args.call) (did c.args.kind c.args.book.now c.args.valued)
    c.value-value.result c.took.ensures c.value-value.ensures c.act_of-2.ensures c.act_of.ensures
