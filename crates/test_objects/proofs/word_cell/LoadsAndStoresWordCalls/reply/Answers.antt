use Rattle.std.proofs.Common.{refl, inl, inr, arith}
use Rattle.test_objects.proofs.Forming.{stored_is_kept, cell_form}
use Rattle.test_objects.proofs.Counting.{read_reply}
use Rattle.test_objects.proofs.word_cell.LoadsAndStoresWordCalls.reply.Goals as goal

pub load-requires-clause-may : goal.load-requires-clause-may
load-requires-clause-may c found = inr (found, refl)

pub store-requires-clause-may : goal.store-requires-clause-may
store-requires-clause-may c = inl (_, refl)

pub returns-clause-call : goal.returns-clause-call
returns-clause-call c = stored_is_kept c.args.op _ _ _ (omega arith) c.if-op-eq-READ.false
    (omega arith) refl c.store.ensures.step

pub returns-then-op-eq-READ-clause-known : goal.returns-then-op-eq-READ-clause-known
returns-then-op-eq-READ-clause-known c is =
    read_reply _ _ _ _ _ c.load.ensures.seat.lawful c.load.ensures.history
    c.wrapping_value_reply.ensures

pub returns-clause-form : goal.returns-clause-form
returns-clause-form c = cell_form _ _ _ _ (returns-clause-call c)
