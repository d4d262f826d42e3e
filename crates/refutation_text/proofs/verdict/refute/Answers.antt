use Rattle.refutation_text.proofs.Readings.{illegal_answer, only_verdict, first_of_verdict}
use Rattle.refutation_text.proofs.verdict.refute.Goals as goal

pub returns-clause-illegal : goal.returns-clause-illegal
returns-clause-illegal c =
    illegal_answer c.args.bytes.now c.judged.result c.judged.ensures.verdict

pub returns-clause-only : goal.returns-clause-only
returns-clause-only c =
    only_verdict c.args.bytes.now c.judged.result c.judged.ensures.verdict c.judged.ensures.refused

pub returns-clause-first : goal.returns-clause-first
returns-clause-first c = first_of_verdict c.args.bytes.now c.judged.result c.judged.ensures.verdict
    c.judged.ensures.refused
