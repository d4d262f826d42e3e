use Rattle.std.proofs.Common.{◌≡◌, ℕ, ◌≤◌, drop, get_or}
use Rattle.book_base.specs.Book.{calls_of, answers_of}
use Rattle.text_fields.specs.Faults.{GoesTo}
use Rattle.book_text.specs.CallLines.{call_rules, all_calls, no_call_read}
use Rattle.book_text.proofs.calls.read_calls_of.Given as goal

abbrev pub invariant-loop-i : goal.invariant-loop-i
invariant-loop-i g l = record {
  goes : GoesTo (call_rules l.version (g.T.OpText.operations l.operations)) (no_call_read l.calls)
      l.fn.lines (record { book = l.book; due = all_calls l.i (drop l.i l.calls) }) l.lines;
  calls : (j : ℕ) → calls_of l.book j ≡ get_or l.calls j 0;
  unanswered : (j : ℕ) → l.i ≤ j → answers_of l.book j ≡ 0;
}
