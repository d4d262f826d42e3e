-- Wider calls precede less.
use Rattle.std.proofs.Common.{ℕ, List, arith}
use Rattle.history_books.specs.declared.timed_call.TimedCall.{TimedCall}
use Rattle.history_books.specs.Calls.{LogPrecedes}
use Rattle.history_books.specs.Laws.{AreWider, WiderCallsPrecedeLess}

narrow : (calls wides : List TimedCall) → AreWider calls wides → (a b : ℕ)
    → LogPrecedes wides a b → LogPrecedes calls a b
narrow calls wides wider a b p =
    let first = wider a p.first p.first_at in
    let second = wider b p.second p.second_at in
    let answer = first.2.returned p.answer p.answered in
    record {
      first = first.0;
      second = second.0;
      answer = answer.0;
      first_at = first.1;
      second_at = second.1;
      answered = answer.1;
      before = omega (arith, answer.2, p.before, second.2.invoked);
    }

pub wider_calls_precede_less : WiderCallsPrecedeLess
wider_calls_precede_less calls wides book other names others is its wider a b first second one two
    first_at second_at one_at two_at precedes =
    (is.precedence a b first second first_at second_at).1
    (narrow calls wides wider a b ((its.precedence a b one two one_at two_at).0 precedes))
