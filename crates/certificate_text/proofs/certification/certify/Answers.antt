use Rattle.certificate_text.proofs.BookLemmas.{only_some, only_none, first_of_certificate}
use Rattle.certificate_text.proofs.certification.certify.Goals as goal

pub returns-clause-legal : goal.returns-clause-legal
returns-clause-legal c = only_some c.args.bytes.now c.written.result c.written.ensures.certificate
    c.written.ensures.refused

pub returns-clause-illegal : goal.returns-clause-illegal
returns-clause-illegal c = only_none c.args.bytes.now c.written.result c.written.ensures.certificate
    c.written.ensures.refused

pub returns-clause-first : goal.returns-clause-first
returns-clause-first c = first_of_certificate c.args.bytes.now c.written.result
    c.written.ensures.certificate c.written.ensures.refused
