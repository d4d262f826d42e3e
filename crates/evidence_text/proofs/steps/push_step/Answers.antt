use Rattle.refutation_text.specs.Said.{step_said}
use Rattle.evidence_text.specs.Written.{HasCounts}
use Rattle.evidence_text.proofs.StoredSaid.{said_push}
use Rattle.evidence_text.proofs.steps.push_step.Goals as goal

pub returns : goal.returns
returns c = rw c.in_ok-push.ensures.items
    (said_push step_said HasCounts c.args.steps.now.items c.args.step c.requires.before
    c.requires.step)
