use Rattle.std.proofs.Common.{◌≡◌, ℕ, ◌∙◌, true≢false, sym, subst, inl, inr, arith}
use Rattle.std.proofs.lemmas.Bool.{cases_lt}
use Rattle.queue_pairs.specs.NextEntries.{paired}
use Rattle.pair_refutations.specs.declared.entry.Move.TheVariants.{Callers}
use Rattle.pair_refutations.specs.Closed.{GoesOn}
use Rattle.pair_refutations.proofs.Leading.{goes-past}
use Rattle.pair_refutations.proofs.closed.first_unserved.Goals as goal

pub returns-then-not-is_served-clause-some : goal.returns-then-not-is_served-clause-some
returns-then-not-is_served-clause-some c reading book table is h standings good =
    let served = c.is_served.ensures reading book table is h standings good in (
      λ goes. true≢false (sym (served.1 goes) ∙ c.if-not-is_served.true),
      c.loop-taker.invariant reading book table is h standings good,
    )

pub loop-taker-preserved : goal.loop-taker-preserved
loop-taker-preserved c reading book table is h standings good j less =
    elim (cases_lt j c.loop-taker.taker) [
      | inl below ↦ c.loop-taker.invariant reading book table is h standings good j below
      | inr not_below ↦
          let same : j ≡ c.loop-taker.taker = omega (arith, less, not_below) in
          subst (λ (k : ℕ). GoesOn reading book standings (paired c.args.standing.now)
          (Callers c.args.putter k)) (sym same)
          ((c.is_served.ensures reading book table is h standings good).0
          c.if-not-is_served.false)
    ]

pub returns-clause-none : goal.returns-clause-none
returns-clause-none c reading book table is h standings good j =
    elim (cases_lt j c.loop-taker.taker) [
      | inl below ↦ c.loop-taker.invariant reading book table is h standings good j below
      | inr past ↦ goes-past reading book table standings (paired c.args.standing.now)
          c.args.putter j is (inr (omega (arith, past, c.loop-taker-test.false)))
    ]
