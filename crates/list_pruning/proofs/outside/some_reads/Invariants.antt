use Rattle.std.proofs.Common.{ℕ, ◌≡◌, ◌<◌, Some, slice_get}
use Rattle.book_base.specs.declared.call.Call.{Call}
use Rattle.list_pruning.specs.HoldsLast.{ReadsOutside}
use Rattle.list_pruning.proofs.outside.some_reads.Given as goal

abbrev pub invariant-loop-k : goal.invariant-loop-k
invariant-loop-k g l = (j : ℕ) (call : Call) → j < l.k → slice_get l.calls j ≡ Some call
    → ReadsOutside (g.R.Reader.reading l.reader) l.book l.cut l.value call → ⊥
