use Rattle.std.proofs.Common.{◌≡◌, ℕ, List, length, map, take, sym, subst, ap, ◌∙◌, arith}
use Rattle.book_base.specs.declared.call.Call.{Call}
use Rattle.model_checks.specs.Checks.{IsOrderOf}
use Rattle.call_handles.specs.Slots.{handle_in, IsModels}
use Rattle.selfcheck_c.specs.Models.{named_call}
use Rattle.selfcheck_c.proofs.models.selfcheck_model_order.Goals as goal

pub returns-then-put_calls-clause-order : goal.returns-then-put_calls-clause-order
returns-then-put_calls-clause-order c = λ _.
    let order = rw c.in-Ok-Some.field-0-is at c.in-Ok-Some.ensures.order in
    let items = c.in-Ok-Some.calls.items in
    let counted : c.len.result ≡ length items = omega (arith, c.len.ensures, c.in-Ok-Some.calls.ok.0) in
    let same : c.len.result ≡ length c.deref.result.now =
    counted ∙ ap (λ (l : List Call). length l) (sym c.deref.ensures.value) in
    let written : map named_call (take c.len.result c.put_calls.new.buffer) ≡ items =
    ap (λ (n : ℕ). map named_call (take n c.put_calls.new.buffer)) same
    ∙ c.put_calls.ensures.put c.if-put_calls.true ∙ c.deref.ensures.value in
    subst (λ (calls : List Call). IsModels (IsOrderOf calls) (handle_in c.args.slot.now))
    (sym written) order

pub returns-in-Ok-Some-clause-unheld : goal.returns-in-Ok-Some-clause-unheld
returns-in-Ok-Some-clause-unheld c = λ _. (
  c.in-Ok-Some.calls.items,
  rw c.in-Ok-Some.field-0-is at c.in-Ok-Some.ensures.order,
  omega (arith, c.len.ensures, c.in-Ok-Some.calls.ok.0),
)
