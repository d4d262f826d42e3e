use Rattle.std.proofs.Common.{refl}
use Rattle.pair_refutations.proofs.Leading.{served-is}
use Rattle.pair_refutations.proofs.closed.is_served.Goals as goal

pub returns-in-Some : goal.returns-in-Some
returns-in-Some c reading book table is h standings good =
    let next = c.in-Some.ensures.next reading book table is h in
    let pair = c.in-Some.ensures.pair reading book table is h in
    let served = served-is reading book table standings c.args.standing.now c.args.putter
    c.args.taker c.args.good.now c.in-Some.pair is good next pair.0 pair.1 in (
      λ told. served.0 (c.some_replaces.ensures.0 told),
      λ goes. c.some_replaces.ensures.1 (served.1 goes),
    )

pub returns-in-None : goal.returns-in-None
returns-in-None c reading book table is h standings good = (
  λ told pair of it. absurd (c.in-None.ensures.none reading book table is h pair of it),
  λ goes. refl,
)
