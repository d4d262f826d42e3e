use Rattle.std.proofs.Common.{◌∙◌, is_some, refl, sym, ap}
use Rattle.std.proofs.lemmas.Bool.{true≢false}
use Rattle.list_laws.proofs.Options.{none_from_is_some}
use Rattle.monitor.specs.Monitors.{own_of}
use Rattle.call_handles.specs.Monitors.{monitor_in}
use Rattle.call_handles.proofs.monitor_handle.MonitorHandle.judge.Goals as goal

pub returns-then-has_found-clause-when : goal.returns-then-has_found-clause-when
returns-then-has_found-clause-when c = (
  λ some. absurd (true≢false (sym some)),
  λ none. absurd
      (true≢false (sym c.if-has_found.true ∙ c.has_found.ensures ∙ ap (λ o. is_some o) none)),
)

pub round_alone-found-requires-clause-may : goal.round_alone-found-requires-clause-may
round_alone-found-requires-clause-may c = none_from_is_some (own_of (monitor_in c.args.self))
    (sym c.has_found.ensures ∙ c.if-has_found.false)

pub returns-clause-when : goal.returns-clause-when
returns-clause-when c = (
  λ _. none_from_is_some (own_of (monitor_in c.args.self))
      (sym c.has_found.ensures ∙ c.if-has_found.false),
  λ _. refl,
)
