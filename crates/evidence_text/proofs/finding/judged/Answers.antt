use Rattle.std.proofs.Common.{rules, ℕ, List, subst}
use Rattle.refutation_text.specs.declared.verdict.RefutationVerdict.TheVariants.{Illegal}
use Rattle.refutation_text.specs.Said.{steps_said, ending_said}
use Rattle.refutation_text.specs.Verdicts.{IsRefutationVerdict}
use Rattle.evidence_text.proofs.RightTexts.{right_from_verdict}
use Rattle.evidence_text.proofs.finding.judged.Goals as goal

pub returns-in-Ok-Illegal : goal.returns-in-Ok-Illegal
returns-in-Ok-Illegal c =
    let said : IsRefutationVerdict c.deref.result.now Illegal = search rules in
    right_from_verdict c.in_ok-text.text.items c.args.kind c.args.book.now
    (steps_said c.args.steps.now) (ending_said c.args.ending.now) c.in_ok-text.ensures
    (subst (λ (text : List ℕ). IsRefutationVerdict text Illegal) c.deref.ensures.value said)
