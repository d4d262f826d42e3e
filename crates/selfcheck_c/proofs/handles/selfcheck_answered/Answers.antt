use Rattle.std.proofs.Common.{subst}
use Rattle.call_handles.specs.declared.verdict.HandleVerdict.{HandleVerdict}
use Rattle.call_handles.specs.Slots.{handle_in, Ends}
use Rattle.selfcheck_c.proofs.handles.selfcheck_answered.Goals as goal

pub returns-in-Some-Legal-clause-delivered : goal.returns-in-Some-Legal-clause-delivered
returns-in-Some-Legal-clause-delivered c = λ _.
    subst (λ (answer : HandleVerdict).
    Ends c.args.reply answer (handle_in c.args.slot.now) (handle_in c.answered.new.slot))
    c.in-Some-Legal.field-0-is c.in-Some-Legal.ensures.ended

pub returns-in-Some-Illegal-clause-illegal : goal.returns-in-Some-Illegal-clause-illegal
returns-in-Some-Illegal-clause-illegal c = λ _.
    subst (λ (answer : HandleVerdict).
    Ends c.args.reply answer (handle_in c.args.slot.now) (handle_in c.answered.new.slot))
    c.in-Some-Illegal.field-0-is c.in-Some-Illegal.ensures.ended

pub returns-in-Some-Unjudged-clause-unjudged : goal.returns-in-Some-Unjudged-clause-unjudged
returns-in-Some-Unjudged-clause-unjudged c = λ _.
    subst (λ (answer : HandleVerdict).
    Ends c.args.reply answer (handle_in c.args.slot.now) (handle_in c.answered.new.slot))
    c.in-Some-Unjudged.field-0-is c.in-Some-Unjudged.ensures.ended
