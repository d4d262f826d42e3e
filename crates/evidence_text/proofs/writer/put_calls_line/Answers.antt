use Rattle.std.proofs.Common.{ℕ, List, []}
use Rattle.std.specs.List.{flat_map}
use Rattle.book_text.specs.CallLines.{place_words}
use Rattle.book_text.proofs.WrittenLines.{first_word, more_words, line_ends}
use Rattle.evidence_text.proofs.writer.put_calls_line.Goals as goal

pub returns-clause-text : goal.returns-clause-text
returns-clause-text c =
    let old : List ℕ = c.args.out.now.items in
    let begun : List ℕ = c.extend_from_slice.new.self.items in
    let made : List ℕ = c.put_calls.new.out.items in
    let name : List ℕ = c.args.first.now in
    let words : List (List ℕ) = flat_map place_words c.args.calls.now in
    line_ends old made c.push.new.self.items name words
    (more_words old begun made name [] words
    (first_word old begun name c.in_ok-extend_from_slice.ensures.items)
    c.in_ok-put_calls.ensures.text)
    c.in_ok-push.ensures.items
