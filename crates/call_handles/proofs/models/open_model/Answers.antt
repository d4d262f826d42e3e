use Rattle.std.proofs.Common.{Some, ap, ◌∙◌}
use Rattle.call_handles.proofs.models.open_model.Goals as goal

pub returns-clause-opened : goal.returns-clause-opened
returns-clause-opened c = λ _. (
  c.in_ok-check.check,
  c.of.ensures ∙ ap Some c.in_ok-handle.ensures.ok,
  (c.in_ok-check.ensures.book, c.in_ok-check.ensures.table),
)
