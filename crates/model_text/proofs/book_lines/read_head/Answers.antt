use Rattle.std.proofs.lemmas.Result.{err_from_is_err_and}
use Rattle.text_fields.proofs.Sharp.{goes_then, stops_later}
use Rattle.book_text.specs.CallLines.{no_call_read}
use Rattle.model_text.specs.ModelBookRules.{TitleDue, ObjectDue, CallersDue, CountsDue, in_calls}
use Rattle.model_text.specs.ModelRules.{InBook, model_rules}
use Rattle.model_text.proofs.book_lines.read_head.Goals as goal

pub returns-in_err-read_object-clause-refused : goal.returns-in_err-read_object-clause-refused
returns-in_err-read_object-clause-refused c =
    let p = err_from_is_err_and c.from_residual-in_err-read_object.result
    c.from_residual-in_err-read_object.ensures.1 in
    rw (p.1, p.2) (stops_later model_rules (InBook TitleDue) (InBook ObjectDue) c.args.lines.now
    c.read_title.new.lines c.in_err-read_object.field-0.0 c.in_ok-read_title.ensures.found
    c.in_err-read_object.ensures.refused)

pub returns-in_err-n-clause-refused : goal.returns-in_err-n-clause-refused
returns-in_err-n-clause-refused c =
    let p =
    err_from_is_err_and c.from_residual-in_err-n.result c.from_residual-in_err-n.ensures.1 in
    let two =
    goes_then model_rules (InBook TitleDue) (InBook ObjectDue) (InBook CallersDue) c.args.lines.now c.read_title.new.lines
    c.read_object.new.lines c.in_ok-read_title.ensures.found c.in_ok-read_object.ensures.found in
    rw (p.1, p.2) (stops_later model_rules (InBook TitleDue) (InBook CallersDue) c.args.lines.now
    c.read_object.new.lines c.in_err-n.field-0.0 two c.in_err-n.ensures.refused)

pub returns-in_err-calls-clause-refused : goal.returns-in_err-calls-clause-refused
returns-in_err-calls-clause-refused c =
    let p = err_from_is_err_and c.from_residual-in_err-calls.result
    c.from_residual-in_err-calls.ensures.1 in
    let two =
    goes_then model_rules (InBook TitleDue) (InBook ObjectDue) (InBook CallersDue) c.args.lines.now c.read_title.new.lines
    c.read_object.new.lines c.in_ok-read_title.ensures.found c.in_ok-read_object.ensures.found in
    let three = goes_then model_rules (InBook TitleDue) (InBook CallersDue) (InBook (CountsDue c.in_ok-n.n))
    c.args.lines.now c.read_object.new.lines c.read_callers.new.lines two c.in_ok-n.ensures.found in
    rw (p.1, p.2) (stops_later model_rules (InBook TitleDue) (InBook (CountsDue c.in_ok-n.n)) c.args.lines.now
    c.read_callers.new.lines c.in_err-calls.field-0.0 three c.in_err-calls.ensures.refused)

pub returns-clause-found : goal.returns-clause-found
returns-clause-found c =
    let two =
    goes_then model_rules (InBook TitleDue) (InBook ObjectDue) (InBook CallersDue) c.args.lines.now c.read_title.new.lines
    c.read_object.new.lines c.in_ok-read_title.ensures.found c.in_ok-read_object.ensures.found in
    let three = goes_then model_rules (InBook TitleDue) (InBook CallersDue) (InBook (CountsDue c.in_ok-n.n))
    c.args.lines.now c.read_object.new.lines c.read_callers.new.lines two c.in_ok-n.ensures.found in
    goes_then model_rules (InBook TitleDue) (InBook (CountsDue c.in_ok-n.n))
    (InBook (in_calls (no_call_read c.in_ok-calls.calls))) c.args.lines.now c.read_callers.new.lines
    c.read_counts.new.lines three c.in_ok-calls.ensures.found
