use Rattle.std.proofs.Common.{ℕ, Result, Vec, Global}
use Rattle.book_base.specs.declared.call.Call.{Call}
use Rattle.seq_objects.specs.Objects.{kind_spec}
use Rattle.refutations.specs.Impossible.{IsImpossible}
use Rattle.evidence_text.specs.declared.evidence.Limit.{Limit}
use Rattle.evidence_text.specs.Found.{IsRefutationOf, NamesFirst, IsFirstNamed}
use Rattle.evidence_text.proofs.RightTexts.{within, of_answer}
use Rattle.evidence_text.proofs.finding.refutation_of.Goals as goal

pub returns-in_ok-text_of_reply-in-Some-clause-found :
    goal.returns-in_ok-text_of_reply-in-Some-clause-found
returns-in_ok-text_of_reply-in-Some-clause-found c =
    let text = c.in_ok-text_of_reply-in-Some in
    within (IsRefutationOf c.args.kind c.args.book.now) (Unit {0}) c.args.limits text.field-0
    c.within.result text.ensures.right c.within.ensures.within c.within.ensures.met

pub returns-in_ok-text_of_reply-in-Some-clause-impossible :
    goal.returns-in_ok-text_of_reply-in-Some-clause-impossible
returns-in_ok-text_of_reply-in-Some-clause-impossible c call h =
    let text = c.in_ok-text_of_reply-in-Some in
    let named : NamesFirst c.args.kind c.args.book.now text.field-0.items = (
      c.in-Some.call,
      c.in-Some.ensures.impossible,
      c.in-Some.ensures.least,
      text.ensures.text,
    ) in
    within (NamesFirst c.args.kind c.args.book.now) ⊥ c.args.limits text.field-0
    c.within.result named c.within.ensures.within c.within.ensures.met

pub returns-in-None-clause-impossible :
    goal.returns-in-None-clause-impossible
returns-in-None-clause-impossible c =
    of_answer (λ (found : Result (Vec ℕ Global) Limit). (call : Call)
    → IsImpossible (kind_spec c.args.kind) c.args.book.now call
    → IsFirstNamed c.args.kind c.args.book.now c.args.limits found) c.of_possible.result
    (λ found call h. absurd (c.in-None.ensures.none call h))
