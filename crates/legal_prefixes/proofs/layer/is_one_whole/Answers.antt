use Rattle.legal_prefixes.proofs.Adding.{item_has}
use Rattle.legal_prefixes.proofs.layer.is_one_whole.Goals as goal

pub returns-then-holds_answered-clause-whole : goal.returns-then-holds_answered-clause-whole
returns-then-holds_answered-clause-whole c _ = (
  c.loop-prefix.prefix-index,
  c.prefix-item.result,
  item_has c.args.layer.now c.loop-prefix.prefix-index c.prefix-item.result c.loop-prefix-test.true
      c.prefix-item.is,
  c.holds_answered.ensures.0 c.if-holds_answered.true,
)
