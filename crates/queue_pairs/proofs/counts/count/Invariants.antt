use Rattle.std.proofs.Common.{◌≡◌, take, count_by, sum_by}
use Rattle.queue_pairs.specs.Tables.{rows_of}
use Rattle.queue_pairs.specs.Counts.{is_counted}
use Rattle.queue_pairs.proofs.counts.count.Given as goal

abbrev pub invariant-loop-caller : goal.invariant-loop-caller
invariant-loop-caller l =
    l.all ≡ sum_by (count_by (is_counted l.what l.values l.moment))
    (take l.caller (rows_of l.table))
