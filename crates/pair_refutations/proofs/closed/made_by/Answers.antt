use Rattle.std.proofs.Common.{◌≡◌, ◌∙◌, sym, ap, subst, arith}
use Rattle.std.proofs.lemmas.Option.{same_Some}
use Rattle.queue_pairs.specs.Pairs.{Paired}
use Rattle.queue_pairs.specs.NextEntries.{paired, pair_of}
use Rattle.pair_refutations.specs.declared.entry.Move.{Move}
use Rattle.pair_refutations.specs.declared.entry.Move.TheVariants.{Finds, Callers}
use Rattle.pair_refutations.specs.Moves.{IsFindMove, IsPairMove, MovesTo}
use Rattle.pair_refutations.proofs.Leading.{after-is}
use Rattle.pair_refutations.proofs.closed.made_by.Goals as goal

pub returns-in-None-clause-none : goal.returns-in-None-clause-none
returns-in-None-clause-none c reading book next is makes =
    let same : makes.0 ≡ paired c.in-Some.base =
    same_Some makes.0 (paired c.in-Some.base) (sym makes.1 ∙ c.in-Some.ensures.there) in
    let move : MovesTo reading book makes.0 Finds next =
    subst (λ (by : Move). MovesTo reading book makes.0 by next) c.in-Finds.is makes.2 in
    c.in-None.ensures.none reading book c.args.table.now is c.of-next.ensures move.0
    (subst (λ (s : Paired). IsFindMove reading book s move.0) same move.1)

pub returns-in-None-pair_move-clause-none : goal.returns-in-None-pair_move-clause-none
returns-in-None-pair_move-clause-none c reading book next is makes =
    let same : makes.0 ≡ paired c.in-Some.base =
    same_Some makes.0 (paired c.in-Some.base) (sym makes.1 ∙ c.in-Some.ensures.there) in
    let move : MovesTo reading book makes.0 (Callers c.in-Callers.putter c.in-Callers.taker) next =
    subst (λ (by : Move). MovesTo reading book makes.0 by next) c.in-Callers.is makes.2 in
    c.in-None-pair_move.ensures.none reading book c.args.table.now is c.of-next.ensures move.0
    move.1 (subst (λ (s : Paired). IsPairMove reading book s move.0) same move.2)

pub returns-in-Some-pair_move-clause-made : goal.returns-in-Some-pair_move-clause-made
returns-in-Some-pair_move-clause-made c reading book is =
    let table = c.args.table.now in
    let base = c.in-Some.base in
    let t = c.in-Some-pair_move.pair in
    let next = c.in-Some-pair_move.ensures.next reading book table is c.of-next.ensures in
    let pair = c.in-Some-pair_move.ensures.pair reading book table is c.of-next.ensures in
    let after_it =
    after-is reading book table base c.with_pair.result t is next c.with_pair.ensures in
    let move : MovesTo reading book (paired base) (Callers c.in-Callers.putter c.in-Callers.taker)
    (paired c.with_pair.result) = (pair_of t, pair.0, pair.1, after_it) in (
      paired base,
      c.in-Some.ensures.there,
      subst (λ (by : Move). MovesTo reading book (paired base) by (paired c.with_pair.result))
          (sym c.in-Callers.is) move,
    )

pub returns-in-Some-pair_move-clause-early : goal.returns-in-Some-pair_move-clause-early
returns-in-Some-pair_move-clause-early c =
    let table = c.args.table.now in
    let reading = c.requires.table.0 in
    let book = c.requires.table.1 in
    let is = c.requires.table.2 in
    let t = c.in-Some-pair_move.pair in
    let early = c.in-Some-pair_move.ensures.early in
    let next = c.in-Some-pair_move.ensures.next reading book table is c.of-next.ensures in
    let after_it = after-is reading book table c.in-Some.base c.with_pair.result t is next
    c.with_pair.ensures in (
      omega (arith, ap (λ (p : Paired). p.put_moment) after_it, early.0),
      omega (arith, ap (λ (p : Paired). p.take_moment) after_it, early.1),
    )
