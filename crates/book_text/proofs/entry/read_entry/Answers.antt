use Rattle.std.proofs.Common.{◌∙◌, sym, ap, ◌++◌, List, ℕ}
use Rattle.text_fields.specs.Lines.{words_of}
use Rattle.book_text.specs.CallLines.{place_words}
use Rattle.book_text.proofs.EntryTexts.{answer_fails}
use Rattle.book_text.proofs.entry.read_entry.Goals as goal

pub returns-in-Err-clause-refused : goal.returns-in-Err-clause-refused
returns-in-Err-clause-refused g c =
    let operations = g.T.OpText.operations c.args.operations.now in
    let text = sym c.new-words.ensures ∙ c.in-Some.ensures.found
    ∙ ap (λ (ws : List (List ℕ)). place_words c.args.call ++ ws)
    c.in-Some-take_operation.ensures.found.1 in
    answer_fails c.args.version operations c.args.n c.args.gap c.args.call
    (words_of c.args.line.now) (g.met.T.OpText.one_operation c.args.operations.now)
    c.in-Some-take_operation.op c.take_operation.new.words c.in-Err.what
    c.in-Some-take_operation.ensures.found.0 text c.in-Err.ensures.refused
