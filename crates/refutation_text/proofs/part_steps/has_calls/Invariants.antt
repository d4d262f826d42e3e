use Rattle.std.proofs.Common.{◌≡◌, ℕ, ◌<◌, slice_get, Some}
use Rattle.book_base.specs.declared.call.Call.{Call}
use Rattle.smaller_book.specs.Numbers.{numbers_in}
use Rattle.refutation_text.specs.Steps.{IsCalled}
use Rattle.refutation_text.proofs.part_steps.has_calls.Given as goal

abbrev pub invariant-loop-k : goal.invariant-loop-k
invariant-loop-k l = (n : ℕ) (named : Call) → n < l.k → slice_get l.calls n ≡ Some named
    → (call : Call) × IsCalled (numbers_in l.left.numbers.items) l.left.book named call
