use Rattle.std.proofs.Common.{ℕ, List, get_or, length, ap, arith}
use Rattle.queue_pairs.proofs.spans.view_moment.Goals as goal

pub overflow_add-moment : goal.overflow_add-moment
overflow_add-moment c =
    let i = c.loop-count.count-index in
    omega (
      arith,
      c.requires.small i,
      c.requires.few,
      ap (λ (xs : List ℕ). get_or xs i 0) c.counts-count-items.ensures,
      ap length c.counts-count-items.ensures,
    )

pub returns-clause-few : goal.returns-clause-few
returns-clause-few c = omega (
  arith,
  c.loop-count.invariant.few,
  c.requires.few,
  ap length c.counts-count-items.ensures,
  c.loop-count.auto.count-index-end,
)
