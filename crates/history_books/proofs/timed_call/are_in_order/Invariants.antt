use Rattle.std.proofs.Common.{◌≡◌, ℕ, ◌+◌, ◌<◌, ◌≤◌, Some, slice_get}
use Rattle.history_books.specs.declared.timed_call.TimedCall.{TimedCall}
use Rattle.history_books.specs.Calls.{IsLasting}
use Rattle.history_books.proofs.timed_call.are_in_order.Given as goal

-- the calls so far are in order, and the last of them was invoked at `last`
abbrev pub invariant-loop-call : goal.invariant-loop-call
invariant-loop-call l = record {
  sorted : (j k : ℕ) (a b : TimedCall) → j ≤ k → k < l.call-index → slice_get l.calls j ≡ Some a
      → slice_get l.calls k ≡ Some b → a.invoked ≤ b.invoked;
  lasting : (k : ℕ) (call : TimedCall) → k < l.call-index → slice_get l.calls k ≡ Some call
      → IsLasting call;
  past : (k : ℕ) (call : TimedCall) → k < l.call-index → slice_get l.calls k ≡ Some call
      → call.invoked ≤ l.last;
  last : (k : ℕ) (call : TimedCall) → k + 1 ≡ l.call-index → slice_get l.calls k ≡ Some call
      → call.invoked ≡ l.last;
  first : l.call-index ≡ 0 → l.last ≡ 0;
}
