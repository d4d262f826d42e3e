use Rattle.std.proofs.Common.{◌≡◌, ℕ, ◌<◌, ◌≤◌}
use Rattle.book_base.specs.declared.call.Call.{Call}
use Rattle.book_base.specs.Book.{Precedes, calls_of}
use Rattle.smaller_book.specs.Settings.{Overwrites, ComesAfterOverwriting}
use Rattle.smaller_book.proofs.unseen_calls.overwritten_from.Given as goal

abbrev pub invariant-loop-other : goal.invariant-loop-other
invariant-loop-other l = record {
  overwritten : (number : ℕ) → number < calls_of l.book l.caller → l.from ≤ number
      → ComesAfterOverwriting l.kind l.book l.setting
      (record { caller = l.caller; number = number });
  all : (number : ℕ) (between : Call) → number < calls_of l.book l.caller
      → between.caller < l.other → Overwrites l.kind l.book l.setting between
      → Precedes l.book between (record { caller = l.caller; number = number })
      → l.from ≤ number;
}
