use Rattle.std.proofs.Common.{arith}
use Rattle.shared_words.proofs.Learning.{learnt_low, caller_low, finds_entry}
use Rattle.shared_words.proofs.shared_log.SharedLog.next_entry.Goals as goal

pub overflow_cast-caller : goal.overflow_cast-caller
overflow_cast-caller c =
    let low =
    caller_low _ _ _ _ _ _ _ (c.ticket_at-found.ensures.hand.filled c.if-found-eq0.false).2 in
    let few = c.args.self.now.few in
    omega arith

pub operation-op-requires-clause-number : goal.operation-op-requires-clause-number
operation-op-requires-clause-number c =
    learnt_low _ _ _ _ _ _ _ (c.ticket_at-found.ensures.hand.filled c.if-found-eq0.false).2

pub returns-clause-hand : goal.returns-clause-hand
returns-clause-hand c =
    let learnt = c.ticket_at-found.ensures.hand.filled c.if-found-eq0.false in
    finds_entry _ _ _ _ _ _ _ learnt.2 _ c.args.op _ _ learnt.1 c.operation-op.ensures.hand
    c.operation-op.ensures.operation
