use Rattle.std.proofs.Common.{◌≡◌, ◌∙◌, ◌+◌, ◌-◌, ◌≤◌, length, sym, subst, arith}
use Rattle.seq_objects.specs.Objects.{kind_spec}
use Rattle.watch_core.specs.declared.verdict.Verdict.TheVariants.{Legal}
use Rattle.windowed_watch.specs.Ahead.{events_of}
use Rattle.windowed_watch.specs.Windowed.{Windowed, HasReceived, IsWindowVerdict, held_back}
use Rattle.windowed_watch.proofs.Finding.{long_log, legal_said}
use Rattle.windowed_watch.proofs.windowed_watch.WindowedWatch.verdict.Goals as goal

pub returns-in-None : goal.returns-in-None
returns-in-None c stream has =
    let i = c.self.inside in
    let received = subst (λ (w : Windowed). HasReceived w stream) (sym c.self.view_is) has in
    let runs = received.running c.in-None.is in
    let items = i.ahead.log.items in
    let n = c.taken.result - (c.len.result - i.ahead.legal) in
    let within = c.self.invariant.0 in
    let fits = c.self.invariant.1 in
    let front = c.taken.ensures ∙ received.front.count in
    let long : c.len.result ≡ length items = omega (arith, c.len.ensures, i.ahead.log.ok.0) in
    let below : i.ahead.legal ≤ length items = omega (arith, within.legal, within.taken) in
    let sum : n + (length items - i.ahead.legal) ≡ length stream =
    omega (arith, front, long, fits, below, c.taken.ensures) in
    subst (λ (w : Windowed). IsWindowVerdict w.ahead.watch.kind w.ahead.watch.limit
    (held_back w) stream (Legal n)) c.self.view_is (
      sum,
      legal_said (kind_spec i.ahead.watch.kind) runs.before (events_of items) stream n
          i.ahead.legal runs.whole (omega (arith, long_log items, below))
          (omega (arith, sum, long_log items, below)) runs.legal,
    )
