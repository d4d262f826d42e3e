use Rattle.std.proofs.Common.{[], Some, refl, ap, subst, arith, inl, inr}
use Rattle.std.proofs.lemmas.List.{length-set}
use Rattle.std.proofs.lemmas.Result.{err_from_is_err_and}
use Rattle.text_fields.specs.Faults.{GoesTo}
use Rattle.text_fields.proofs.Sharp.{goes_then, goes_line, stops_cut, stops_later}
use Rattle.client_scripts.specs.ScriptRules.{Begun, ScriptDue, InBody, Turned, with_stop, plan_with, script_rules}
use Rattle.client_scripts.specs.ScriptLayout.{told}
use Rattle.client_scripts.proofs.Clients.{told-stop, told-plan}
use Rattle.client_scripts.proofs.Turns.{stops_here}
use Rattle.book_text.proofs.CallTexts.{stops_then}
use Rattle.client_scripts.proofs.tail.read_tail.Goals as goal

pub returns-in_err-line-clause-refused : goal.returns-in_err-line-clause-refused
returns-in_err-line-clause-refused c =
    let p = err_from_is_err_and c.from_residual.result c.from_residual.ensures.1 in
    let l = c.loop-line in
    rw (p.1, p.2) (λ version kind.
    let rules = script_rules version in
    stops_later rules (InBody kind (told c.args.clients.now.items 0) [])
    (InBody kind (told l.clients.items l.least) []) c.args.lines.now l.lines c.in_err-line.field-0.0
    (l.invariant.goes version kind)
    (stops_cut rules (InBody kind (told l.clients.items l.least) []) l.lines c.in_err-line.field-0.0
    refl c.in_err-line.ensures.cut.0))

pub returns-in_err-caller-clause-refused : goal.returns-in_err-caller-clause-refused
returns-in_err-caller-clause-refused c =
    let p = err_from_is_err_and c.from_residual-in_err-caller.result
    c.from_residual-in_err-caller.ensures.1 in
    let l = c.loop-line in
    let refused = rw c.deref.ensures.value at c.in_err-caller.ensures.refused in
    rw (p.1, p.2) (λ version kind.
    let rules = script_rules version in
    stops_then rules (InBody kind (told c.args.clients.now.items 0) [])
    (InBody kind (told l.clients.items l.least) []) c.args.lines.now l.lines
    c.in_err-caller.field-0.0 (l.invariant.goes version kind)
    (stops_here rules (InBody kind (told l.clients.items l.least) []) l.lines c.line.new.self
    c.in_ok-line.line.now c.number-number.result c.in_err-caller.field-0.0 c.number-number.ensures
    refl c.in_ok-line.ensures.line refused))

pub loop-line-preserved : goal.loop-line-preserved
loop-line-preserved c =
    let l = c.loop-line in
    let found = rw (c.deref.ensures.value, c.in-Stop.is) at c.in_ok-caller.ensures.found in
    let begun : Begun = told l.clients.items l.least in
    record {
      goes = λ version kind.
          let rules = script_rules version in
          let after : ScriptDue =
          InBody kind (with_stop begun c.in-Stop.caller c.in-Stop.phases) [] in
          let line =
          goes_line rules (InBody kind begun []) after l.lines c.line.new.self c.in_ok-line.line.now
          c.in_ok-line.ensures.line (inl (c.in-Stop.caller, c.in-Stop.phases, found, refl)) in
          let both =
          goes_then rules (InBody kind (told c.args.clients.now.items 0) []) (InBody kind begun [])
          after c.args.lines.now l.lines c.line.new.self (l.invariant.goes version kind) line in
          subst (λ (b : Begun). GoesTo rules (InBody kind (told c.args.clients.now.items 0) [])
          c.args.lines.now (InBody kind b []) c.line.new.self)
          (told-stop l.clients.items c.in-Stop.caller c.index_mut.result.now _ l.least
          c.in-Stop.phases c.index_mut.ensures.value refl refl) both;
      few = omega (
        arith,
        l.invariant.few,
        length-set l.clients.items c.in-Stop.caller (record {
          operations = c.index_mut.result.now.operations;
          stop = Some c.in-Stop.phases;
        }),
      );
    }

pub returns-in-Turns-clause-found : goal.returns-in-Turns-clause-found
returns-in-Turns-clause-found c =
    let l = c.loop-line in
    let found = rw (c.deref.ensures.value, c.in-Turns.is) at c.in_ok-caller.ensures.found in
    let begun : Begun = told l.clients.items l.least in
    λ version kind.
    let rules = script_rules version in
    let after : ScriptDue = Turned (plan_with kind begun c.in-Turns.turns.items) in
    let line = goes_line rules (InBody kind begun []) after l.lines c.line.new.self
    c.in_ok-line.line.now c.in_ok-line.ensures.line (inr (c.in-Turns.turns.items, found, refl)) in
    let both =
    goes_then rules (InBody kind (told c.args.clients.now.items 0) []) (InBody kind begun []) after
    c.args.lines.now l.lines c.line.new.self (l.invariant.goes version kind) line in
    subst (λ (due : ScriptDue). GoesTo rules
    (InBody kind (told c.args.clients.now.items 0) []) c.args.lines.now due c.line.new.self)
    (ap Turned (told-plan kind l.clients.items l.least c.in-Turns.turns.items)) both
