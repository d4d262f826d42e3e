use Rattle.std.proofs.Common.{ℕ, List, [], map, decimal}
use Rattle.std.specs.Prelude.{codes}
use Rattle.book_text.proofs.WrittenLines.{first_word, more_words, line_ends}
use Rattle.client_scripts.proofs.writer.put_turns.Goals as goal

pub returns : goal.returns
returns c =
    let old : List ℕ = c.args.out.now.items in
    let name : List ℕ = codes "turns" in
    let turns : List (List ℕ) = map decimal c.args.turns.now in
    let begun = first_word old c.extend_from_slice.new.self.items name
    c.in_ok-extend_from_slice.ensures.items in
    line_ends old c.put_turn_words.new.out.items c.push.new.self.items name turns
    (more_words old c.extend_from_slice.new.self.items c.put_turn_words.new.out.items name [] turns
    begun c.in_ok-put_turn_words.ensures)
    c.in_ok-push.ensures.items
