use Rattle.std.proofs.Common.{ℕ, List, [], ◌∷◌, map, decimal}
use Rattle.book_text.proofs.WrittenLines.{first_word, more_word, more_words, line_ends}
use Rattle.evidence_text.proofs.level_writer.put_list_line.Goals as goal

pub returns-clause-text : goal.returns-clause-text
returns-clause-text c =
    let old : List ℕ = c.args.out.now.items in
    let begun : List ℕ = c.extend_from_slice.new.self.items in
    let headed : List ℕ = c.put_spaced.new.out.items in
    let made : List ℕ = c.put_numbers.new.out.items in
    let name : List ℕ = c.args.first.now in
    let number : List ℕ = decimal c.args.number in
    let others : List (List ℕ) = map decimal c.args.others.now in
    line_ends old made c.push.new.self.items name (number ∷ others)
    (more_words old headed made name (number ∷ []) others
    (more_word old begun headed name [] number
    (first_word old begun name c.in_ok-extend_from_slice.ensures.items) c.in_ok-put_spaced.ensures)
    c.in_ok-put_numbers.ensures.text)
    c.in_ok-push.ensures.items
