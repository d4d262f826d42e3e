use Rattle.std.proofs.Common.{refl, arith}
use Rattle.pair_refutations.proofs.Moving.{whole-is, is-whole}
use Rattle.pair_refutations.proofs.moves.is_whole.Goals as goal

pub returns-then-next-lt-NEVER : goal.returns-then-next-lt-NEVER
returns-then-next-lt-NEVER c reading book table is h = (
  λ told. cc,
  λ whole. absurd (omega (
    arith,
    c.if-next-lt-NEVER.true,
    (is-whole reading book table c.args.standing.now c.args.next.now is h whole).0,
  )),
)

pub returns-then-next-lt-NEVER-2 : goal.returns-then-next-lt-NEVER-2
returns-then-next-lt-NEVER-2 c reading book table is h = (
  λ told. cc,
  λ whole. absurd (omega (
    arith,
    c.if-next-lt-NEVER-2.true,
    (is-whole reading book table c.args.standing.now c.args.next.now is h whole).1,
  )),
)

pub returns : goal.returns
returns c reading book table is h = (
  λ told. whole-is reading book table c.args.standing.now c.args.next.now is h
      (omega (arith, c.if-next-lt-NEVER.false)) (omega (arith, c.if-next-lt-NEVER-2.false)),
  λ whole. refl,
)
