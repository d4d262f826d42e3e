use Rattle.std.proofs.Common.{◌↔◌, IsSome, IfSome, Some, ap}
use Rattle.std.proofs.lemmas.Option.{IfSome_then}
use Rattle.std.proofs.lemmas.Result.{IfOk-weaker}
use Rattle.model_checks.specs.Checks.{HasOrder, IsOrderOf}
use Rattle.call_handles.specs.Slots.{IsModels}
use Rattle.call_handles.proofs.Sorts.{models_iff}
use Rattle.call_handles.proofs.models.order_of.Goals as goal

pub returns-in-Model-clause-when : goal.returns-in-Model-clause-when
returns-in-Model-clause-when c = IfOk-weaker c.calls_in_order.result _
    (λ found. IsSome found ↔ IsModels HasOrder (Some c.args.handle.now))
    (λ found iff. models_iff (IsSome found) HasOrder (Some c.args.handle.now) c.in-Model.check
    (ap Some c.in-Model.is) iff) c.calls_in_order.ensures.when

pub returns-in-Model-clause-order : goal.returns-in-Model-clause-order
returns-in-Model-clause-order c = IfOk-weaker c.calls_in_order.result _
    (λ found. IfSome found (λ calls. IsModels (IsOrderOf calls.items) (Some c.args.handle.now)))
    (λ found order. IfSome_then found order (λ calls is.
    (c.in-Model.check, ap Some c.in-Model.is, is))) c.calls_in_order.ensures.order
