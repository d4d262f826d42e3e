use Rattle.std.proofs.Common.{◌≡◌, ◌↔◌, IsSome, IfSome, IfOk, Option, Some, sym, subst, ap, ◌∙◌}
use Rattle.call_handles.specs.declared.handle.Handle.{Handle}
use Rattle.model_checks.specs.Checks.{IsEvidenceOf}
use Rattle.call_handles.specs.Slots.{handle_in, IsModels}
use Rattle.call_handles.proofs.models.evidence_in.Goals as goal

pub returns-clause-when : goal.returns-clause-when
returns-clause-when c =
    let was : handle_in c.args.slot ≡ Some c.deref.result.now =
    c.take-handle.ensures.value ∙ ap Some (sym c.deref.ensures) in
    subst (λ (place : Option Handle). IfOk c.evidence_of-found.result
    (λ found. IsSome found ↔ IsModels (λ _. Unit {0}) place)) (sym was)
    c.evidence_of-found.ensures.when

pub returns-clause-evidence : goal.returns-clause-evidence
returns-clause-evidence c =
    let was : handle_in c.args.slot ≡ Some c.deref.result.now =
    c.take-handle.ensures.value ∙ ap Some (sym c.deref.ensures) in
    subst (λ (place : Option Handle). IfOk c.evidence_of-found.result
    (λ found. IfSome found (λ bytes. IsModels (IsEvidenceOf bytes.items) place))) (sym was)
    c.evidence_of-found.ensures.evidence
