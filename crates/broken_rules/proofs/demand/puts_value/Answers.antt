use Rattle.broken_rules.specs.Deeds.{did, took, deal_of_act}
use Rattle.broken_rules.proofs.Acts.{puts_same}
use Rattle.broken_rules.proofs.demand.puts_value.Goals as goal

pub returns : goal.returns
returns c =
    puts_same c.puts.result (deal_of_act c.act_of.result) (deal_of_act c.taking_of.result)
    (did c.args.kind c.args.book.now c.args.call) (took c.args.kind c.args.book.now c.args.taker)
    c.value-value.result c.puts.ensures c.value-value.ensures c.act_of.ensures c.taking_of.ensures
