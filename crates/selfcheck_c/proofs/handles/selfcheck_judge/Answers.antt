use Rattle.std.proofs.Common.{subst}
use Rattle.call_handles.specs.declared.verdict.HandleVerdict.{HandleVerdict}
use Rattle.call_handles.specs.Slots.{handle_in, Judges}
use Rattle.selfcheck_c.proofs.handles.selfcheck_judge.Goals as goal

pub returns-in-Some-Legal-clause-legal : goal.returns-in-Some-Legal-clause-legal
returns-in-Some-Legal-clause-legal c = λ _.
    subst
    (λ (found : HandleVerdict).
    Judges found (handle_in c.args.slot.now) (handle_in c.judge.new.slot))
    c.in-Some-Legal.field-0-is c.in-Some-Legal.ensures.judged

pub returns-in-Some-Illegal-clause-illegal : goal.returns-in-Some-Illegal-clause-illegal
returns-in-Some-Illegal-clause-illegal c = λ _.
    subst
    (λ (found : HandleVerdict).
    Judges found (handle_in c.args.slot.now) (handle_in c.judge.new.slot))
    c.in-Some-Illegal.field-0-is c.in-Some-Illegal.ensures.judged

pub returns-in-Some-Unjudged-clause-unjudged : goal.returns-in-Some-Unjudged-clause-unjudged
returns-in-Some-Unjudged-clause-unjudged c = λ _.
    subst
    (λ (found : HandleVerdict).
    Judges found (handle_in c.args.slot.now) (handle_in c.judge.new.slot))
    c.in-Some-Unjudged.field-0-is c.in-Some-Unjudged.ensures.judged
