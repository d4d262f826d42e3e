use Rattle.std.proofs.Common.{refl, inl, inr}
use Rattle.shared_words.proofs.Histories.{prefix_through, prefix_after}
use Rattle.test_objects.proofs.FaultyForming.{loaded_and_stored, torn_reply}
use Rattle.test_objects.proofs.split_tally.TornIncrementsWordCalls.reply.Goals as goal

pub load-found-requires-clause-may : goal.load-found-requires-clause-may
load-found-requires-clause-may c found = inr (found, refl)

pub store-requires-clause-may : goal.store-requires-clause-may
store-requires-clause-may c = inl (_, refl)

pub returns-clause-call : goal.returns-clause-call
returns-clause-call c = loaded_and_stored c.args.op _ _ _ _ _ _ c.if-op-ne-INCREMENT.false
    c.load-found.ensures.step c.store.ensures.step refl c.wrapping_value_reply.ensures

pub returns-clause-history : goal.returns-clause-history
returns-clause-history c = prefix_through _ _ _ (prefix_after _ _ _ _ c.load-found.ensures.history)
    (prefix_after _ _ _ _ c.store.ensures.history)

pub returns-clause-known : goal.returns-clause-known
returns-clause-known c is =
    torn_reply _ _ _ _ _ _ _ _ c.load-found.ensures.seat.lawful c.load-found.ensures.history
    c.load-found.ensures.caller c.store.ensures.history refl c.wrapping_value_reply.ensures
