use Rattle.std.proofs.Common.{ℕ, Option, subst, arith}
use Rattle.std.specs.Prelude.{IfNone}
use Rattle.hunts.specs.declared.trial.Catch.{Catch}
use Rattle.hunts.specs.Hunting.{IsQuiet, seed_at}
use Rattle.hunts.proofs.Made.{below_next}
use Rattle.hunts.proofs.Heard.{hears_nothing, hears_next}
use Rattle.hunts.proofs.runs.hunt.Goals as goal

pub loop-number-init : goal.loop-number-init
loop-number-init g c = (
  λ k below. absurd (omega (arith, below)),
  hears_nothing (g.W.Onlooker.heard c.args.watch.now),
)

pub loop-number-preserved : goal.loop-number-preserved
loop-number-preserved g c =
    let made = g.B.Pass.ObjectPass.made in
    let told = g.B.Pass.ObjectPass.told in
    let settings = c.args.settings.now in
    let number = c.loop-number.number in
    let Quiet : ℕ → Type 0 =
    λ k. IsQuiet made told settings.workload (seed_at settings k) in (
      below_next Quiet number c.loop-number.invariant.0
          (subst (λ (found : Option (Catch _)). IfNone found (Quiet number)) c.in_default.is
          c.in_ok-catch.ensures.quiet),
      hears_next settings number (g.W.Onlooker.heard c.args.watch.now)
          (g.W.Onlooker.heard c.loop-number.watch) (g.W.Onlooker.heard c.run_seed.new.watch)
          c.loop-number.invariant.1 c.in_ok-catch.ensures.heard,
    )

pub returns-in-Some-clause-heard : goal.returns-in-Some-clause-heard
returns-in-Some-clause-heard g c =
    hears_next c.args.settings.now c.loop-number.number (g.W.Onlooker.heard c.args.watch.now)
    (g.W.Onlooker.heard c.loop-number.watch) (g.W.Onlooker.heard c.run_seed.new.watch)
    c.loop-number.invariant.1 c.in_ok-catch.ensures.heard
