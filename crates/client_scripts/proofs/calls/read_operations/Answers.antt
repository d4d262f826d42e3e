use Rattle.std.proofs.Common.{◌≡◌, ℕ, ◌+◌, ◌-◌, [], ◌∷◌, ◌++◌, List, length, sym, ap, subst, ◌∙◌, append_assoc, arith}
use Rattle.std.proofs.lemmas.List.{length-append}
use Rattle.std.proofs.lemmas.Result.{err_from_is_err_and}
use Rattle.book_base.specs.declared.call.Call.{Call}
use Rattle.text_fields.specs.Faults.{GoesTo}
use Rattle.text_fields.proofs.Sharp.{goes_then, stops_later}
use Rattle.book_text.specs.CallLines.{calls_from}
use Rattle.client_scripts.specs.ScriptRules.{Begun, ScriptDue, InBody, with_operation, with_operations, script_rules}
use Rattle.client_scripts.proofs.WrittenTexts.{after_calls}
use Rattle.client_scripts.proofs.DueCalls.{next_due}
use Rattle.client_scripts.proofs.calls.read_operations.Goals as goal

pub returns-in_err-read_call-clause-refused : goal.returns-in_err-read_call-clause-refused
returns-in_err-read_call-clause-refused c =
    let words = c.args.operations.now in
    let rules = script_rules words.version in
    let l = c.loop-number in
    let p = err_from_is_err_and c.from_residual.result c.from_residual.ensures.1 in
    rw (p.1, p.2) (λ begun more.
    let start = InBody words.kind begun (calls_from c.args.i 0 c.args.count ++ more) in
    let so_far = with_operations begun l.ops.items in
    let here = subst (λ (calls : List Call).
    GoesTo rules start c.args.lines.now (InBody words.kind so_far calls) l.lines)
    (next_due c.args.i l.number c.args.count more c.loop-number-test.true)
    (l.invariant.goes begun more) in
    stops_later rules start _ c.args.lines.now l.lines c.in_err-read_call.field-0.0 here
    (c.in_err-read_call.ensures.refused so_far
    (calls_from c.args.i (l.number + 1) (c.args.count - (l.number + 1)) ++ more)))

pub loop-number-preserved : goal.loop-number-preserved
loop-number-preserved c =
    let words = c.args.operations.now in
    let rules = script_rules words.version in
    let l = c.loop-number in
    let op : ℕ = c.in_ok-read_call.field-0 in
    record {
      goes = λ begun more.
          let start = InBody words.kind begun (calls_from c.args.i 0 c.args.count ++ more) in
          let so_far : Begun = with_operations begun l.ops.items in
          let due : List Call =
          calls_from c.args.i (l.number + 1) (c.args.count - (l.number + 1)) ++ more in
          let here = subst (λ (calls : List Call).
          GoesTo rules start c.args.lines.now (InBody words.kind so_far calls) l.lines)
          (next_due c.args.i l.number c.args.count more c.loop-number-test.true)
          (l.invariant.goes begun more) in
          let both = goes_then rules start _ (InBody words.kind (with_operation so_far op) due)
          c.args.lines.now l.lines c.read_call.new.lines here
          (c.in_ok-read_call.ensures.found so_far due) in
          let joined : (begun.operations ++ l.ops.items) ++ op ∷ [] ≡ begun.operations
          ++ c.push.new.self.items
          = append_assoc begun.operations l.ops.items (op ∷ [])
          ∙ ap (λ (x : List ℕ). begun.operations ++ x) (sym c.in_ok-push.ensures.items) in
          subst (λ (d : ScriptDue). GoesTo rules start c.args.lines.now d c.read_call.new.lines)
          (after_calls words.kind begun due _ _ joined) both;
      count = omega (
        arith,
        ap (length {A = ℕ}) c.in_ok-push.ensures.items,
        length-append l.ops.items (op ∷ []),
        l.invariant.count,
      );
    }
