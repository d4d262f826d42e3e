use Rattle.std.proofs.Common.{◌≡◌, ◌≢◌, ℕ, ◌≤◌, List, length}
use Rattle.book_base.specs.declared.call.Call.{Call}
use Rattle.book_base.specs.Book.{calls_of, answers_of}
use Rattle.report_lines.specs.declared.line.Line.{Line}
use Rattle.report_text.specs.Drafts.{StandBefore, IsDraft, IsWide}
use Rattle.report_text.proofs.OwnSteps.{AreReadTo}
use Rattle.report_text.proofs.lines.read_own.Given as goal

abbrev pub invariant-loop-number : goal.invariant-loop-number
invariant-loop-number l = record {
  read : (counts : List ℕ) (told : List Line) (more : List Call) → IsDraft counts told l.fn.draft
      → StandBefore counts told l.i 0 → AreReadTo l.kind counts told l.i l.count l.number more
      l.fn.lines l.own.items l.draft l.lines;
  count : length l.own.items ≡ l.number;
  wide : IsWide l.draft;
  calls : (j : ℕ) → calls_of l.draft.book j ≡ calls_of l.fn.draft.book j;
  answers : answers_of l.draft.book l.i ≤ l.number;
  others : (j : ℕ) → j ≢ l.i → answers_of l.draft.book j ≡ answers_of l.fn.draft.book j;
}
