use Rattle.broken_rules.specs.Deeds.{did, deal_of_act}
use Rattle.broken_rules.proofs.Acts.{may_take_same}
use Rattle.broken_rules.proofs.demand.may_take_value.Goals as goal

pub returns : goal.returns
returns c =
    may_take_same c.may_take.result (deal_of_act c.act_of-2.result) (deal_of_act c.act_of.result)
    (did c.args.kind c.args.book.now c.args.call) (did c.args.kind c.args.book.now c.args.valued)
    c.value-value.result c.may_take.ensures c.value-value.ensures c.act_of-2.ensures
    c.act_of.ensures
