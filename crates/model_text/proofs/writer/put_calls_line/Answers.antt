use Rattle.std.proofs.Common.{ℕ, List, [], map, decimal}
use Rattle.std.specs.Prelude.{codes}
use Rattle.book_text.proofs.WrittenLines.{first_word, more_words, line_ends}
use Rattle.model_text.proofs.writer.put_calls_line.Goals as goal

pub returns : goal.returns
returns c =
    let old : List ℕ = c.args.out.now.items in
    let name : List ℕ = codes "calls" in
    let counts : List (List ℕ) = map decimal c.args.calls.now in
    let begun = first_word old c.extend_from_slice.new.self.items name
    c.in_ok-extend_from_slice.ensures.items in
    line_ends old c.put_counts.new.out.items c.push.new.self.items name counts
    (more_words old c.extend_from_slice.new.self.items c.put_counts.new.out.items name [] counts
    begun c.in_ok-put_counts.ensures)
    c.in_ok-push.ensures.items
