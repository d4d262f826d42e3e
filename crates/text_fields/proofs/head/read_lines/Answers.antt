use Rattle.std.proofs.lemmas.Result.{err_from_is_err_and}
use Rattle.text_fields.specs.Head.{head_rules, TitleDue, ObjectDue, CallersDue, CountsDue, HeadRead}
use Rattle.text_fields.proofs.Sharp.{goes_then, stops_later}
use Rattle.text_fields.proofs.head.read_lines.Goals as goal

pub returns-in_err-kind-clause-refused : goal.returns-in_err-kind-clause-refused
returns-in_err-kind-clause-refused c =
    let rules = head_rules c.args.version c.args.title.now in
    let p =
    err_from_is_err_and c.from_residual-in_err-kind.result c.from_residual-in_err-kind.ensures.1 in
    rw (p.1, p.2) (stops_later rules TitleDue ObjectDue c.args.lines.now c.read_title.new.lines
    c.in_err-kind.field-0.0 c.in_ok-read_title.ensures.found c.in_err-kind.ensures.refused)

pub returns-in_err-n-clause-refused : goal.returns-in_err-n-clause-refused
returns-in_err-n-clause-refused c =
    let rules = head_rules c.args.version c.args.title.now in
    let p =
    err_from_is_err_and c.from_residual-in_err-n.result c.from_residual-in_err-n.ensures.1 in
    let two = goes_then rules TitleDue ObjectDue
    (CallersDue c.in_ok-kind.kind) c.args.lines.now c.read_title.new.lines c.read_object.new.lines
    c.in_ok-read_title.ensures.found c.in_ok-kind.ensures.found in
    rw (p.1, p.2) (stops_later rules TitleDue (CallersDue c.in_ok-kind.kind) c.args.lines.now
    c.read_object.new.lines c.in_err-n.field-0.0 two c.in_err-n.ensures.refused)

pub returns-in_err-calls-clause-refused : goal.returns-in_err-calls-clause-refused
returns-in_err-calls-clause-refused c =
    let rules = head_rules c.args.version c.args.title.now in
    let p = err_from_is_err_and c.from_residual-in_err-calls.result
    c.from_residual-in_err-calls.ensures.1 in
    let two = goes_then rules TitleDue ObjectDue
    (CallersDue c.in_ok-kind.kind) c.args.lines.now c.read_title.new.lines c.read_object.new.lines
    c.in_ok-read_title.ensures.found c.in_ok-kind.ensures.found in
    let three = goes_then rules TitleDue (CallersDue c.in_ok-kind.kind)
    (CountsDue c.in_ok-kind.kind c.in_ok-n.n) c.args.lines.now c.read_object.new.lines
    c.read_callers.new.lines two c.in_ok-n.ensures.found in
    rw (p.1, p.2)
    (stops_later rules TitleDue (CountsDue c.in_ok-kind.kind c.in_ok-n.n) c.args.lines.now
    c.read_callers.new.lines c.in_err-calls.field-0.0 three c.in_err-calls.ensures.refused)

pub returns-clause-found : goal.returns-clause-found
returns-clause-found c =
    let rules = head_rules c.args.version c.args.title.now in
    let two = goes_then rules TitleDue ObjectDue
    (CallersDue c.in_ok-kind.kind) c.args.lines.now c.read_title.new.lines c.read_object.new.lines
    c.in_ok-read_title.ensures.found c.in_ok-kind.ensures.found in
    let three = goes_then rules TitleDue (CallersDue c.in_ok-kind.kind)
    (CountsDue c.in_ok-kind.kind c.in_ok-n.n) c.args.lines.now c.read_object.new.lines
    c.read_callers.new.lines two c.in_ok-n.ensures.found in
    goes_then rules TitleDue (CountsDue c.in_ok-kind.kind c.in_ok-n.n)
    (HeadRead c.in_ok-kind.kind c.in_ok-calls.calls) c.args.lines.now c.read_callers.new.lines
    c.read_calls_line.new.lines three c.in_ok-calls.ensures.found
