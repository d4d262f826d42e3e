use Rattle.std.proofs.Common.{◌≡◌, ℕ, ◌+◌, ◌<◌, [], ◌∷◌, ◌++◌, List, length, get_or, take, drop, replicate, Option, None, sym, ap, subst, ◌∙◌, arith}
use Rattle.std.specs.List.{concat}
use Rattle.std.proofs.lemmas.List.{length_push, map_push, take_more, take_all, drop_all, replicate_more}
use Rattle.std.proofs.lemmas.Result.{err_from_is_err_and}
use Rattle.book_base.specs.declared.call.Call.{Call}
use Rattle.text_fields.specs.Faults.{GoesTo}
use Rattle.text_fields.proofs.Sharp.{goes_then}
use Rattle.book_text.specs.CallLines.{calls_from, all_calls}
use Rattle.book_text.proofs.CallTexts.{stops_then, next_caller}
use Rattle.client_scripts.specs.declared.script.CallerScript.{CallerScript}
use Rattle.client_scripts.specs.Plans.{sizes}
use Rattle.client_scripts.specs.ScriptRules.{Begun, ScriptDue, InBody, begin, with_operations, script_rules}
use Rattle.client_scripts.specs.ScriptLayout.{operations_in, stops_in}
use Rattle.client_scripts.proofs.WrittenTexts.{after_calls}
use Rattle.client_scripts.proofs.Clients.{operations-push, sizes-push, told_from}
use Rattle.client_scripts.proofs.calls.read_clients.Goals as goal

pub returns-in_err-read_operations-clause-refused :
    goal.returns-in_err-read_operations-clause-refused
returns-in_err-read_operations-clause-refused c =
    let words = c.args.operations.now in
    let rules = script_rules words.version in
    let p = err_from_is_err_and c.from_residual.result c.from_residual.ensures.1 in
    let l = c.loop-i in
    let calls = c.args.calls.now in
    let lt : l.i < length calls = omega (arith, c.n-i-end.ensures.count) in
    let later : List Call = all_calls (l.i + 1) (drop (l.i + 1) calls) in
    let next =
    next_caller calls l.i lt ∙ ap (λ (n : ℕ). calls_from l.i 0 n ++ later) (sym c.get.ensures) in
    let start = InBody words.kind (begin calls) (all_calls 0 calls) in
    let so_far : Begun = with_operations (begin calls) (concat (operations_in l.clients.items)) in
    let here = subst (λ (due : List Call). GoesTo rules start c.args.lines.now
    (InBody words.kind so_far due) l.lines) next l.invariant.goes in
    rw (p.1, p.2) (stops_then rules start _ c.args.lines.now l.lines
    c.in_err-read_operations.field-0.0 here (c.in_err-read_operations.ensures.refused so_far later))

pub loop-i-preserved : goal.loop-i-preserved
loop-i-preserved c =
    let words = c.args.operations.now in
    let rules = script_rules words.version in
    let l = c.loop-i in
    let calls = c.args.calls.now in
    let lt : l.i < length calls = omega (arith, c.n-i-end.ensures.count) in
    let later : List Call = all_calls (l.i + 1) (drop (l.i + 1) calls) in
    let next =
    next_caller calls l.i lt ∙ ap (λ (n : ℕ). calls_from l.i 0 n ++ later) (sym c.get.ensures) in
    let start = InBody words.kind (begin calls) (all_calls 0 calls) in
    let so_far : Begun = with_operations (begin calls) (concat (operations_in l.clients.items)) in
    let here = subst (λ (due : List Call). GoesTo rules start c.args.lines.now
    (InBody words.kind so_far due) l.lines) next l.invariant.goes in
    let ops = c.in_ok-read_operations.field-0 in
    let client : CallerScript = record { operations = ops; stop = None } in
    let both = goes_then rules start _ (InBody words.kind (with_operations so_far ops.items) later)
    c.args.lines.now l.lines c.read_operations.new.lines here
    (c.in_ok-read_operations.ensures.found so_far later) in
    let pushed = c.in_ok-push.ensures.items in
    let joined : concat (operations_in l.clients.items) ++ ops.items
    ≡ concat (operations_in c.push.new.self.items)
    = sym (operations-push l.clients.items client)
    ∙ ap (λ (cs : List CallerScript). concat (operations_in cs)) (sym pushed) in
    let size : length ops.items ≡ get_or calls l.i 0 =
    c.in_ok-read_operations.ensures.count ∙ c.get.ensures in
    record {
      goes = subst
          (λ (d : ScriptDue). GoesTo rules start c.args.lines.now d c.read_operations.new.lines)
          (after_calls words.kind (begin calls) later _ _ joined) both;
      count = ap (length {A = CallerScript}) pushed ∙ length_push l.clients.items client
          ∙ ap (λ (n : ℕ). n + 1) l.invariant.count;
      sizes = ap (λ (cs : List CallerScript). sizes (operations_in cs)) pushed
          ∙ sizes-push l.clients.items client
          ∙ ap (λ (ns : List ℕ). ns ++ length ops.items ∷ []) l.invariant.sizes
          ∙ ap (λ (n : ℕ). take l.i calls ++ n ∷ []) size ∙ sym (take_more calls l.i 0 lt);
      stops =
          ap stops_in pushed ∙ map_push (λ (c : CallerScript). c.stop) l.clients.items client ∙ ap
          (λ (s : List (Option ℕ)). s ++ None ∷ []) l.invariant.stops ∙ replicate_more l.i None;
    }

pub returns-clause-found : goal.returns-clause-found
returns-clause-found c =
    let words = c.args.operations.now in
    let rules = script_rules words.version in
    let l = c.loop-i in
    let calls = c.args.calls.now in
    let past : length calls ≡ l.i = omega (arith, c.n-i-end.ensures.count) in
    let start = InBody words.kind (begin calls) (all_calls 0 calls) in
    let none : all_calls l.i (drop l.i calls) ≡ [] =
    ap (all_calls l.i) (drop_all l.i calls (omega arith)) in
    let counts : sizes (operations_in l.clients.items) ≡ calls =
    l.invariant.sizes ∙ take_all l.i calls (omega arith) in
    let stops : stops_in l.clients.items ≡ replicate (length calls) None =
    l.invariant.stops ∙ ap (λ (n : ℕ). replicate n None) (sym past) in
    subst (λ (b : Begun). GoesTo rules start c.args.lines.now (InBody words.kind b []) l.lines)
    (told_from l.clients.items calls counts stops)
    (subst (λ (due : List Call). GoesTo rules start c.args.lines.now (InBody words.kind
    (with_operations (begin calls) (concat (operations_in l.clients.items))) due) l.lines) none
    l.invariant.goes)
