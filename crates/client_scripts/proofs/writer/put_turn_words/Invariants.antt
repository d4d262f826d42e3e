use Rattle.std.proofs.Common.{◌≡◌, ◌++◌, map, take, decimal}
use Rattle.book_text.specs.Fields.{spaced}
use Rattle.client_scripts.proofs.writer.put_turn_words.Given as goal

abbrev pub invariant-loop-turn : goal.invariant-loop-turn
invariant-loop-turn l =
    l.out.items ≡ l.initial.out.items ++ spaced (map decimal (take l.turn-index l.turns))
