use Rattle.std.proofs.Common.{◌≡◌, ℕ, ◌+◌, List, [], ◌∷◌, ◌++◌, map, sym, ap, ◌∙◌, below_more}
use Rattle.book_base.specs.declared.call.Call.{Call}
use Rattle.text_fields.specs.Lines.{text_of}
use Rattle.book_text.specs.CallLines.{calls_from}
use Rattle.model_text.specs.Written.{call_line}
use Rattle.book_text.proofs.Texts.{one_more, lines_push, calls_more}
use Rattle.model_text.proofs.writer.put_calls.Goals as goal

pub loop-number-preserved : goal.loop-number-preserved
loop-number-preserved c =
    let old : List ℕ = c.args.out.now.items in
    let line : Call → List (List ℕ) =
    call_line c.args.book.now in
    let call : Call = record { caller = c.args.caller; number = c.loop-number.number } in
    let calls : List Call = calls_from c.args.caller 0 c.loop-number.number in
    let same : map line (calls_from c.args.caller 0 (c.loop-number.number + 1))
    ≡ map line calls ++ line call ∷ [] =
    ap (map line) (calls_more c.args.caller c.loop-number.number) ∙ lines_push line calls call in
    record {
      text = one_more old c.loop-number.out.items c.put_call.new.out.items (map line calls)
          (line call) c.loop-number.invariant.text c.in_ok-put_call.ensures.ok
          ∙ ap (λ (ls : List (List (List ℕ))). old ++ text_of ls) (sym same);
      words = below_more _ _ c.loop-number.invariant.words c.in_ok-put_call.ensures.words;
    }
