use Rattle.std.proofs.Common.{◌≡◌, ◌≢◌, ℕ, ◌-◌, ◌≤◌, ◌++◌, List}
use Rattle.book_base.specs.declared.call.Call.{Call}
use Rattle.book_base.specs.Book.{calls_of, answers_of}
use Rattle.text_fields.specs.Faults.{GoesTo}
use Rattle.book_text.specs.CallLines.{call_rules, calls_from}
use Rattle.book_text.proofs.calls.read_caller.Given as goal

abbrev pub invariant-loop-number : goal.invariant-loop-number
invariant-loop-number g l = record {
  goes : (more : List Call) → GoesTo (call_rules l.version (g.T.OpText.operations l.operations))
      (record { book = l.fn.book; due = calls_from l.i 0 l.count ++ more }) l.fn.lines
      (record { book = l.book; due = calls_from l.i l.number (l.count - l.number) ++ more })
      l.lines;
  calls : (j : ℕ) → calls_of l.book j ≡ calls_of l.fn.book j;
  own : answers_of l.book l.i ≤ l.number;
  others : (j : ℕ) → j ≢ l.i → answers_of l.book j ≡ answers_of l.fn.book j;
}
