use Rattle.broken_rules.specs.Deeds.{did, absence_by, deal_of_act}
use Rattle.broken_rules.proofs.Acts.{takes_same}
use Rattle.broken_rules.proofs.demand.misses_key_of.Goals as goal

pub returns : goal.returns
returns c =
    takes_same c.took.result (deal_of_act c.absence_of.result) (deal_of_act c.act_of.result)
    (absence_by c.args.kind c.args.book.now c.args.call)
    (did c.args.kind c.args.book.now c.args.keyed)
    c.value-key.result c.took.ensures c.value-key.ensures c.absence_of.ensures c.act_of.ensures
