use Rattle.std.proofs.Common.{◌≡◌, ℕ, List, [], ◌∷◌, ◌++◌, length, sym, ap, ◌∙◌}
use Rattle.std.proofs.lemmas.List.{append-nil}
use Rattle.text_fields.specs.Lines.{line_text, text_of}
use Rattle.text_fields.specs.Head.{callers_words, calls_words}
use Rattle.book_text.proofs.Texts.{one_more}
use Rattle.book_text.proofs.WrittenLines.{OnOk_then}
use Rattle.model_text.specs.ModelBookRules.{title_words, object_words}
use Rattle.model_text.proofs.writer.put_head.Goals as goal

pub returns : goal.returns
returns c =
    let old : List ℕ = c.args.out.now.items in
    let calls : List ℕ = c.args.calls.now in
    let m1 : List ℕ = c.put_title.new.out.items in
    let m2 : List ℕ = c.extend_from_slice.new.self.items in
    let m3 : List ℕ = c.put_callers.new.out.items in
    let callers : List (List ℕ) = callers_words (length calls) in
    let e1 : m1 ≡ old ++ text_of (title_words ∷ []) =
    one_more old old m1 [] title_words (sym (append-nil old)) c.in_ok-put_title.ensures in
    let e2 : m2 ≡ old ++ text_of (title_words ∷ object_words ∷ []) =
    one_more old m1 m2 (title_words ∷ []) object_words e1
    c.in_ok-extend_from_slice.ensures.items in
    let e3 : m3 ≡ old ++ text_of (title_words ∷ object_words ∷ callers ∷ []) =
    one_more old m2 m3 (title_words ∷ object_words ∷ []) callers e2 (c.in_ok-put_callers.ensures
    ∙ ap (λ (n : ℕ). m2 ++ line_text (callers_words n)) c.n.ensures.count) in
    OnOk_then c.put_calls_line.result c.put_calls_line.ensures
    (one_more old m3 c.put_calls_line.new.out.items (title_words ∷ object_words ∷ callers ∷ [])
    (calls_words calls) e3)
