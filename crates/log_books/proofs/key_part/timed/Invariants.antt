use Rattle.std.proofs.Common.{◌≡◌, map, take}
use Rattle.log_books.specs.declared.key_calls.LinedCall.{LinedCall}
use Rattle.log_books.proofs.key_part.timed.Given as goal

abbrev pub invariant-loop-lined : goal.invariant-loop-lined
invariant-loop-lined l = l.timed.items ≡ map LinedCall.call (take l.lined-index l.calls)
