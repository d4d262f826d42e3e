use Rattle.std.proofs.Common.{arith, ◌≡◌, ℕ, List, length, take, sym, subst, ap, ◌∙◌}
use Rattle.model_checks.specs.Checks.{IsEvidenceOf}
use Rattle.call_handles.specs.Slots.{handle_in, IsModels}
use Rattle.selfcheck_c.proofs.models.selfcheck_model_evidence.Goals as goal

pub returns-then-put-clause-evidence : goal.returns-then-put-clause-evidence
returns-then-put-clause-evidence c = λ _.
    let evidence = rw c.in-Ok-Some.field-0-is at c.in-Ok-Some.ensures.evidence in
    let items = c.in-Ok-Some.text.items in
    let counted : c.len.result ≡ length items = omega (arith, c.len.ensures) in
    let same : c.len.result ≡ length c.deref.result.now =
    counted ∙ ap (λ (l : List ℕ). length l) (sym c.deref.ensures.value) in
    let written : take c.len.result c.put.new.buffer ≡ items =
    ap (λ (n : ℕ). take n c.put.new.buffer) same ∙ c.put.ensures.put c.if-put.true
    ∙ c.deref.ensures.value
    in
    subst (λ (bytes : List ℕ). IsModels (IsEvidenceOf bytes) (handle_in c.args.slot.now))
    (sym written) evidence
