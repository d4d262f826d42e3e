use Rattle.std.proofs.Common.{◌≡◌, replicate, Some}
use Rattle.row_table.specs.Benches.{fresh_kept}
use Rattle.row_table.proofs.rows.all_kept.Given as goal

abbrev pub invariant-loop-i : goal.invariant-loop-i
invariant-loop-i l = l.places.items ≡ replicate l._i (Some fresh_kept)
