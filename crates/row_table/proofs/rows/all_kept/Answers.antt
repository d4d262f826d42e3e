use Rattle.row_table.proofs.Moving.{push_fresh}
use Rattle.row_table.proofs.rows.all_kept.Goals as goal

pub loop-i-preserved : goal.loop-i-preserved
loop-i-preserved c = push_fresh _ _ _ _ _ c.in_ok-push.ensures.items c.loop-i.invariant
    (c.fresh.ensures 0 0) c.fresh-in-loop-i.ensures
