use Rattle.std.proofs.Common.{◌≡◌, ℕ, List, [], ◌∷◌, ◌++◌, decimal, sym, ap, ◌∙◌}
use Rattle.std.specs.Prelude.{unwrap_or}
use Rattle.book_base.specs.Book.{operation_of, record_of}
use Rattle.model_text.specs.ModelWords.{model_words}
use Rattle.text_fields.specs.declared.version.Version.TheVariants.{Second}
use Rattle.book_text.specs.CallLines.{answer_words}
use Rattle.book_text.specs.Fields.{spaced}
use Rattle.book_text.proofs.WrittenLines.{first_word, more_word, more_words, line_ends}
use Rattle.book_text.proofs.Texts.{value_is}
use Rattle.model_text.proofs.writer.put_call.Goals as goal

pub returns-clause-ok : goal.returns-clause-ok
returns-clause-ok c =
    let old : List ℕ = c.args.out.now.items in
    let m1 : List ℕ = c.put_number.new.out.items in
    let m2 : List ℕ = c.put_spaced.new.out.items in
    let m3 : List ℕ = c.put_model_operation.new.out.items in
    let m4 : List ℕ = c.put_answer.new.out.items in
    let caller : List ℕ = decimal c.args.call.caller in
    let number : List ℕ = decimal c.args.call.number in
    let ops : List (List ℕ) =
    model_words (unwrap_or (operation_of c.args.book.now c.args.call) 0) in
    let answer : List (List ℕ) = answer_words Second (record_of c.args.book.now c.args.call) in
    let op = value_is (operation_of c.args.book.now c.args.call) c.op.result 0 c.op.ensures in
    let e1 : m1 ≡ old ++ caller =
    c.in_ok-put_number.ensures.ok ∙ ap (λ (n : ℕ). old ++ decimal n) c.from.ensures in
    let e3 : m3 ≡ m2 ++ spaced ops = c.in_ok-put_model_operation.ensures
    ∙ ap (λ (w : ℕ). m2 ++ spaced (model_words w)) (sym op) in
    let l2 =
    more_word old m1 m2 caller [] number (first_word old m1 caller e1) c.in_ok-put_spaced.ensures in
    let l3 = more_words old m2 m3 caller (number ∷ []) ops l2 e3 in
    let l4 = more_words old m3 m4 caller (number ∷ ops) answer l3 c.in_ok-put_answer.ensures.ok in
    line_ends old m4 c.push.new.self.items caller
    (number ∷ (ops ++ answer)) l4 c.in_ok-push.ensures.items
