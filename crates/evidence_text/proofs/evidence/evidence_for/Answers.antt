use Rattle.evidence_text.proofs.Answers.{only_certificate, no_certificate, only_named, first_of_evidence}
use Rattle.evidence_text.proofs.evidence.evidence_for.Goals as goal

pub returns-clause-legal : goal.returns-clause-legal
returns-clause-legal c = only_certificate c.args.bytes.now c.args.limits c.found.result
    c.found.ensures.evidence c.found.ensures.refused

pub returns-clause-illegal : goal.returns-clause-illegal
returns-clause-illegal c = no_certificate c.args.bytes.now c.args.limits c.found.result
    c.found.ensures.evidence c.found.ensures.refused

pub returns-clause-impossible : goal.returns-clause-impossible
returns-clause-impossible c = only_named c.args.bytes.now c.args.limits c.found.result
    c.found.ensures.evidence c.found.ensures.refused c.found.ensures.impossible

pub returns-clause-first : goal.returns-clause-first
returns-clause-first c = first_of_evidence c.args.bytes.now c.args.limits c.found.result
    c.found.ensures.evidence c.found.ensures.refused
