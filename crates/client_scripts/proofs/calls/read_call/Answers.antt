use Rattle.std.proofs.Common.{refl, ◌∷◌}
use Rattle.std.proofs.lemmas.Result.{err_from_is_err_and}
use Rattle.text_fields.proofs.Sharp.{goes_line, stops_cut, stops_line}
use Rattle.client_scripts.specs.ScriptRules.{InBody, with_operation, script_rules}
use Rattle.client_scripts.proofs.calls.read_call.Goals as goal

pub returns-in_err-line-clause-refused : goal.returns-in_err-line-clause-refused
returns-in_err-line-clause-refused c =
    let words = c.args.operations.now in
    let p = err_from_is_err_and c.from_residual.result c.from_residual.ensures.1 in
    rw (p.1, p.2) (λ begun more. stops_cut (script_rules words.version) (InBody words.kind begun
    (c.args.call ∷ more)) c.args.lines.now c.in_err-line.field-0.0 refl c.in_err-line.ensures.cut.0)

pub returns-in-Ok-clause-found : goal.returns-in-Ok-clause-found
returns-in-Ok-clause-found c = λ begun more.
    let words = c.args.operations.now in
    goes_line (script_rules words.version) (InBody words.kind begun (c.args.call ∷ more))
    (InBody words.kind (with_operation begun c.in-Ok.op) more) c.args.lines.now c.line.new.self
    c.in_ok-line.line.now c.in_ok-line.ensures.line
    (c.in-Ok.op, c.in-Ok.ensures.found, refl)

pub returns-in-Err-clause-refused : goal.returns-in-Err-clause-refused
returns-in-Err-clause-refused c = λ begun more.
    let words = c.args.operations.now in
    rw c.number-number.ensures (stops_line (script_rules words.version)
    (InBody words.kind begun (c.args.call ∷ more)) c.args.lines.now c.line.new.self
    c.in_ok-line.line.now c.in-Err.what refl c.in_ok-line.ensures.line c.in-Err.ensures.refused)
