use Rattle.std.proofs.Common.{arith}
use Rattle.book_text.proofs.WrittenLines.{step_counts}
use Rattle.client_scripts.proofs.writer.put_turn_words.Goals as goal

pub loop-turn-preserved : goal.loop-turn-preserved
loop-turn-preserved c =
    step_counts c.args.out.now.items c.loop-turn.out.items c.put_spaced.new.out.items
    c.args.turns.now c.loop-turn.turn-index c.from.result
    (omega arith) c.from.ensures c.loop-turn.invariant c.in_ok-put_spaced.ensures
