use Rattle.book_base.proofs.PageLemmas.{caller_from_call}
use Rattle.legal_prefixes.proofs.Adding.{item_has, list_more}
use Rattle.legal_prefixes.proofs.layer.next_layer.Goals as goal

pub push_next-requires-clause-prefix : goal.push_next-requires-clause-prefix
push_next-requires-clause-prefix c =
    c.requires.layer c.loop-prefix.prefix-index c.prefix-item.result
    (item_has c.args.layer.now c.loop-prefix.prefix-index c.prefix-item.result
    c.loop-prefix-test.true c.prefix-item.is)

pub loop-prefix-preserved : goal.loop-prefix-preserved
loop-prefix-preserved c = record {
  room = c.push_next.ensures.room;
  right = c.in_ok-push_next.ensures.right;
  apart = c.in_ok-push_next.ensures.apart;
  adds = list_more c.args.kind c.args.book.now c.args.layer.now c.loop-prefix.prefix-index
      c.prefix-item.result c.loop-prefix.next.items c.push_next.new.next.items
      c.loop-prefix.invariant.adds
      (item_has c.args.layer.now c.loop-prefix.prefix-index c.prefix-item.result
      c.loop-prefix-test.true c.prefix-item.is)
      c.in_ok-push_next.ensures.added
      (λ place may. caller_from_call c.args.book.now place.caller place.number
      may.may_come.is_call);
}
