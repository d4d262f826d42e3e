use Rattle.std.proofs.Common.{sym, subst}
use Rattle.evidence_text.specs.Evidence.{IsNamedBy}
use Rattle.evidence_text.proofs.Answers.{no_order, named_from}
use Rattle.evidence_text.proofs.evidence.refuted.Goals as goal

pub refutation_of-requires : goal.refutation_of-requires
refutation_of-requires c = no_order c.args.bytes.now c.in_ok-kind.kind c.in_ok-kind.book c.requires
    c.in_ok-kind.ensures.found

pub returns-clause-impossible : goal.returns-clause-impossible
returns-clause-impossible c reply =
    subst (IsNamedBy c.args.bytes.now c.args.limits) (sym c.evidence_of.ensures)
    (named_from c.args.bytes.now c.in_ok-kind.kind c.in_ok-kind.book c.in_ok-kind.ensures.found
    c.args.limits c.in_ok-refutation_of.field-0 c.in_ok-refutation_of.ensures.impossible reply)
