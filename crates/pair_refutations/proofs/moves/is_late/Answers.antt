use Rattle.pair_refutations.proofs.Moving.{late-is, is-late}
use Rattle.pair_refutations.proofs.moves.is_late.Goals as goal

pub returns : goal.returns
returns c early reading book is = (
  λ told. late-is reading book c.args.table.now c.args.standing.now c.of-next.result is
      c.of-next.ensures early (c.is_past.ensures.0 told),
  λ late. c.is_past.ensures.1 (is-late reading book c.args.table.now c.args.standing.now
      c.of-next.result is c.of-next.ensures late),
)
