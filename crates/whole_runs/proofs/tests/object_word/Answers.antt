use Rattle.std.proofs.Common.{◌<◌, ℕ, ◌∙◌, subst}
use Rattle.world_core.specs.Local.{fresh}
use Rattle.whole_runs.proofs.tests.object_word.Goals as goal

pub close-requires-clause-all : goal.close-requires-clause-all
close-requires-clause-all c i low =
    let few : i < 16 = subst (λ (n : ℕ). i < n)
    (c.in_ok-rows.ensures.bench.callers ∙ c.in_ok-rows.ensures.rows.0) low in
    (fresh, (c.in_ok-rows.ensures.fresh i few).0)
