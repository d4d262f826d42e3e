use Rattle.std.proofs.Common.{ℕ, ◌<◌, IfSome, IfNone, length}
use Rattle.history_books.specs.Sweep.{IsFree}
use Rattle.history_books.proofs.sweep.Sweep.free_caller.Given as goal

-- the best caller so far is free, and where there is none, no caller so far is
abbrev pub invariant-loop-caller : goal.invariant-loop-caller
invariant-loop-caller l = record {
  found : IfSome l.best (λ b. (b < length l.self.book) × IsFree l.self.book l.self.pending.items b);
  none : IfNone l.best ((i : ℕ) → i < l.caller → IsFree l.self.book l.self.pending.items i → ⊥);
}
