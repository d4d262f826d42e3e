use Rattle.std.proofs.Common.{◌≡◌, ◌*◌, ◌≤◌, sum, take}
use Rattle.book_base.specs.declared.TheConstants.{MAX_CALLS}
use Rattle.queue_pairs.proofs.spans.view_moment.Given as goal

abbrev pub invariant-loop-count : goal.invariant-loop-count
invariant-loop-count l = record {
  moment : l.moment ≡ sum (take l.count-index l.view);
  few : l.moment ≤ l.count-index * MAX_CALLS;
}
