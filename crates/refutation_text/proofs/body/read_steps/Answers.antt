use Rattle.std.proofs.Common.{[], ◌∷◌, ◌++◌, List, sym, ap, subst, ◌∙◌, refl}
use Rattle.std.proofs.lemmas.List.{map_push}
use Rattle.book_base.specs.declared.fault.What.TheVariants.{Op}
use Rattle.text_fields.specs.Lines.{words_of}
use Rattle.text_fields.specs.Faults.{GoesTo}
use Rattle.text_fields.proofs.Sharp.{goes_then, goes_line, stops_line, stops_later}
use Rattle.refutation_text.specs.Said.{StepSaid, StepLine, step_said, steps_said, ending_said}
use Rattle.refutation_text.specs.RefutationRules.{InSteps, body_rules}
use Rattle.refutation_text.specs.Reading.{opening_line, ending_due}
use Rattle.refutation_text.proofs.Parts.{no_step, opens}
use Rattle.refutation_text.proofs.body.read_steps.Goals as goal

pub loop-steps-preserved : goal.loop-steps-preserved
loop-steps-preserved c =
    let l = c.loop-steps in
    let old : List StepSaid = steps_said l.steps.items in
    let step = c.in-Some.step in
    let found = rw c.in-Some.is at c.in_ok-step.ensures.found in
    let line = goes_line body_rules (InSteps old) (InSteps (old ++ step_said step ∷ [])) l.lines
    c.line.new.self c.in_ok-line.line.now c.in_ok-line.ensures.line
    (StepLine (step_said step), found, refl) in
    let both = goes_then body_rules (InSteps []) (InSteps old)
    (InSteps (old ++ step_said step ∷ [])) c.args.lines.now l.lines c.line.new.self l.invariant
    line in
    subst (λ (steps : List StepSaid). GoesTo body_rules (InSteps []) c.args.lines.now
    (InSteps steps) c.line.new.self)
    (sym (ap steps_said c.in_ok-push-in-Some.ensures.items ∙ map_push step_said l.steps.items step))
    both

pub returns-in-Some-opening-clause-found : goal.returns-in-Some-opening-clause-found
returns-in-Some-opening-clause-found c =
    let l = c.loop-steps in
    let old : List StepSaid = steps_said l.steps.items in
    let begun = ending_said c.in-Some-opening.begun in
    let found = rw c.in-Some-opening.is at c.in_ok-opening-in-None.ensures.found in
    let line = goes_line body_rules (InSteps old) (ending_due old begun) l.lines
    c.line.new.self c.in_ok-line.line.now c.in_ok-line.ensures.line
    (opening_line begun, found.1, opens old begun found.0) in
    goes_then body_rules (InSteps []) (InSteps old) (ending_due old begun) c.args.lines.now
    l.lines c.line.new.self l.invariant line

pub returns-in-None-opening-clause-refused : goal.returns-in-None-opening-clause-refused
returns-in-None-opening-clause-refused c =
    let l = c.loop-steps in
    let old : List StepSaid = steps_said l.steps.items in
    let none = rw c.in-None.is at c.in_ok-step.ensures.none in
    let opens_none = rw c.in-None-opening.is at c.in_ok-opening-in-None.ensures.none in
    rw c.number-number.ensures (stops_later body_rules (InSteps []) (InSteps old) c.args.lines.now
    l.lines _ l.invariant (stops_line body_rules (InSteps old) l.lines c.line.new.self
    c.in_ok-line.line.now Op refl c.in_ok-line.ensures.line
    (no_step old (words_of c.in_ok-line.line.now) none opens_none)))
