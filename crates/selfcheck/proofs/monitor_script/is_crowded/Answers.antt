use Rattle.std.proofs.Common.{◌≡◌, arith}
use Rattle.std.proofs.lemmas.Bool.{false≢true, ltb-true, lt-ltb}
use Rattle.selfcheck.proofs.MonitorLemmas.{one_opening}
use Rattle.selfcheck.proofs.monitor_script.is_crowded.Goals as goal

pub returns-in-Some : goal.returns-in-Some
returns-in-Some c = (
  λ test. (c.in-Some.callers, c.in-Some.ensures.found, ltb-true _ _ test),
  λ crowded.
      let same : crowded.0 ≡ c.in-Some.callers =
      one_opening c.args.bytes.now crowded.0 c.in-Some.callers crowded.1 c.in-Some.ensures.found in
      lt-ltb _ _ (omega (arith, same, crowded.2)),
)

pub returns-in-None : goal.returns-in-None
returns-in-None c =
    (λ e. absurd (false≢true e), λ crowded. absurd (c.in-None.ensures.none crowded.0 crowded.1))
