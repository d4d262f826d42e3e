use Rattle.std.proofs.Common.{ℕ, List, [], map, decimal}
use Rattle.book_text.proofs.WrittenLines.{first_word, more_words, line_ends}
use Rattle.evidence_text.proofs.writer.put_numbers_line.Goals as goal

pub returns-clause-text : goal.returns-clause-text
returns-clause-text c =
    let old : List ℕ = c.args.out.now.items in
    let begun : List ℕ = c.extend_from_slice.new.self.items in
    let made : List ℕ = c.put_numbers.new.out.items in
    let name : List ℕ = c.args.first.now in
    let numbers : List (List ℕ) = map decimal c.args.numbers.now in
    line_ends old made c.push.new.self.items name numbers
    (more_words old begun made name [] numbers
    (first_word old begun name c.in_ok-extend_from_slice.ensures.items)
    c.in_ok-put_numbers.ensures.text)
    c.in_ok-push.ensures.items
