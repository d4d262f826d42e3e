use Rattle.std.proofs.Common.{[]}
use Rattle.std.proofs.lemmas.Result.{err_from_is_err_and}
use Rattle.text_fields.proofs.Sharp.{goes_then}
use Rattle.book_text.proofs.CallTexts.{stops_then}
use Rattle.refutation_text.specs.Said.{steps_said, ending_said}
use Rattle.refutation_text.specs.RefutationRules.{InSteps, BodyRead, body_rules}
use Rattle.refutation_text.specs.Reading.{ending_due}
use Rattle.refutation_text.proofs.body.read_body.Goals as goal

pub returns-in_err-ending-clause-refused : goal.returns-in_err-ending-clause-refused
returns-in_err-ending-clause-refused c =
    let p = err_from_is_err_and c.from_residual-in_err-ending.result
    c.from_residual-in_err-ending.ensures.1 in
    let steps = steps_said c.in_ok-steps.steps.items in
    rw (p.1, p.2) (stops_then body_rules (InSteps [])
    (ending_due steps (ending_said c.in_ok-steps.begun)) c.args.lines.now
    c.read_steps.new.lines c.in_err-ending.field-0.0 c.in_ok-steps.ensures.found
    (c.in_err-ending.ensures.refused steps))

pub returns-clause-found : goal.returns-clause-found
returns-clause-found c =
    let steps = steps_said c.in_ok-steps.steps.items in
    goes_then body_rules (InSteps []) (ending_due steps (ending_said c.in_ok-steps.begun))
    (BodyRead steps (ending_said c.in_ok-ending.ending)) c.args.lines.now
    c.read_steps.new.lines c.read_ending.new.lines c.in_ok-steps.ensures.found
    (c.in_ok-ending.ensures.found steps)
