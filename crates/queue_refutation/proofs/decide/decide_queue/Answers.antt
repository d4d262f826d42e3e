use Rattle.legal_orders.proofs.QueueRuns.{queue_is_container}
use Rattle.queue_refutation.proofs.decide.decide_queue.Goals as goal

pub returns-then-branch : goal.returns-then-branch
returns-then-branch g c has =
    c.in_ok-refute_by_counts.ensures.refuted c.if-branch.true _ _ _ c.in_ok-table.ensures
    (queue_is_container _ _ c.requires.queue) c.requires.empty has
