use Rattle.certificate_text.proofs.BookLemmas.{only_verdict, first_of_verdict}
use Rattle.certificate_text.proofs.book_verdict.verify_within.Goals as goal

pub returns-clause-only : goal.returns-clause-only
returns-clause-only c =
    only_verdict c.args.bytes.now c.judged.result c.judged.ensures.verdict c.judged.ensures.refused

pub returns-clause-first : goal.returns-clause-first
returns-clause-first c = first_of_verdict c.args.bytes.now c.judged.result c.judged.ensures.verdict
    c.judged.ensures.refused
