use Rattle.legal_prefixes.proofs.Adding.{item_has}
use Rattle.legal_prefixes.proofs.layer.is_listed.Goals as goal

pub returns-then-leads_to-clause-listed : goal.returns-then-leads_to-clause-listed
returns-then-leads_to-clause-listed c _ =
    let same = c.leads_to.ensures.0 c.if-leads_to.true in (
      c.loop-prefix.prefix-index,
      c.prefix-item.result,
      item_has c.args.prefixes.now c.loop-prefix.prefix-index c.prefix-item.result
          c.loop-prefix-test.true c.prefix-item.is,
      same.0,
      same.1,
    )
