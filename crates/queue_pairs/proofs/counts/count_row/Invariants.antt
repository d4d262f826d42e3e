use Rattle.std.proofs.Common.{◌≡◌, take, count_by}
use Rattle.queue_pairs.specs.Counts.{is_counted}
use Rattle.queue_pairs.proofs.counts.count_row.Given as goal

abbrev pub invariant-loop-number : goal.invariant-loop-number
invariant-loop-number l =
    l.all ≡ count_by (is_counted l.what l.values l.moment) (take l.number l.row)
