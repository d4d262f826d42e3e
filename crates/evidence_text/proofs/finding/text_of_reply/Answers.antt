use Rattle.evidence_text.proofs.RightTexts.{reply_refutes}
use Rattle.evidence_text.proofs.finding.text_of_reply.Goals as goal

pub returns-clause-right : goal.returns-clause-right
returns-clause-right c = reply_refutes c.args.kind c.args.book.now c.args.call
    c.in_ok-text.text.items c.callers-callers.ensures.valid c.requires c.in_ok-text.ensures
