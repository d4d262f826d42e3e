use Rattle.std.proofs.Common.{◌≡◌, ℕ, List, [], ◌∷◌, ◌++◌, decimal, ap, ◌∙◌}
use Rattle.seq_objects.specs.Words.{operation_words}
use Rattle.book_text.proofs.WrittenLines.{first_word, more_word, more_words, line_ends}
use Rattle.reports.specs.Grammar.{ending_words}
use Rattle.report_text.proofs.writer.put_line.Goals as goal

pub returns : goal.returns
returns c =
    let old : List ℕ = c.args.out.now.items in
    let m1 : List ℕ = c.put_number.new.out.items in
    let m2 : List ℕ = c.put_spaced.new.out.items in
    let m3 : List ℕ = c.put_operation.new.out.items in
    let m4 : List ℕ = c.put_ending.new.out.items in
    let caller : List ℕ = decimal c.args.call.caller in
    let number : List ℕ = decimal c.args.call.number in
    let ops : List (List ℕ) = operation_words c.args.kind c.args.line.now.op in
    let ending : List (List ℕ) = ending_words c.args.line.now.end in
    let e1 : m1 ≡ old ++ caller =
    c.in_ok-put_number.ensures.ok ∙ ap (λ (n : ℕ). old ++ decimal n) c.from.ensures in
    let l2 =
    more_word old m1 m2 caller [] number (first_word old m1 caller e1) c.in_ok-put_spaced.ensures in
    let l3 = more_words old m2 m3 caller (number ∷ []) ops l2 c.in_ok-put_operation.ensures in
    let l4 = more_words old m3 m4 caller (number ∷ ops) ending l3 c.in_ok-put_ending.ensures in
    line_ends old m4 c.push.new.self.items caller
    (number ∷ (ops ++ ending)) l4 c.in_ok-push.ensures.items
