use Rattle.std.proofs.Common.{refl}
use Rattle.shared_words.proofs.Histories.{prefix_after}
use Rattle.test_objects.proofs.Counting.{counted_reply}
use Rattle.test_objects.proofs.tally.IncrementsWordCalls.reply.Goals as goal

pub add-requires-clause-may : goal.add-requires-clause-may
add-requires-clause-may c found = (found, refl)

pub returns-clause-history : goal.returns-clause-history
returns-clause-history c = prefix_after _ _ _ _ c.add.ensures.history

pub returns-clause-known : goal.returns-clause-known
returns-clause-known c is =
    counted_reply _ _ _ _ _ c.add.ensures.seat.lawful c.add.ensures.history
    c.wrapping_value_reply.ensures
