use Rattle.std.proofs.Common.{rules}
use Rattle.evidence_text.specs.Found.{IsRefutationOf}
use Rattle.evidence_text.proofs.RightTexts.{within}
use Rattle.evidence_text.proofs.finding.of_part.Goals as goal

pub returns-in-Some : goal.returns-in-Some
returns-in-Some c =
    let right : IsRefutationOf c.args.kind c.args.book.now c.in-Some.text.items = search rules in
    within (IsRefutationOf c.args.kind c.args.book.now) (Unit {0}) c.args.limits c.in-Some.text
    c.within.result right c.within.ensures.within c.within.ensures.met
