use Rattle.std.proofs.Common.{◌++◌, ℕ, List, None, arith, ap, sym, take, get_or, ◌∙◌}
use Rattle.std.proofs.lemmas.List.{append_assoc}
use Rattle.book_base.specs.declared.call.Call.{Call}
use Rattle.log_books.specs.declared.key_calls.LinedCall.{LinedCall}
use Rattle.log_books.specs.Lines.{call_line, calls_text}
use Rattle.log_books.proofs.Writing.{calls_next}
use Rattle.log_books.proofs.key_part.put_calls.Goals as goal

pub loop-k-preserved : goal.loop-k-preserved
loop-k-preserved c =
    let calls = c.args.calls.now in
    let names = c.args.names.now in
    let k = c.loop-k.k in
    let d : LinedCall = record {
      call = record { process = 0; op = 0; invoked = 0; answer = None };
      line = 0;
      end = None;
    } in
    let e : Call = record { caller = 0; number = 0 } in
    let line = call_line (get_or calls k d) (get_or names k e) in
    c.in_ok-put_call.ensures
    ∙ ap (λ (l : List ℕ). l ++ line) c.loop-k.invariant
    ∙ append_assoc c.args.out.now.items (calls_text (take k calls) (take k names)) line
    ∙ ap (λ (l : List ℕ). c.args.out.now.items ++ l)
    (sym (calls_next calls names k d e (omega (arith, c.loop-k-test.true))
    (omega (arith, c.loop-k-test.true, c.requires))))
