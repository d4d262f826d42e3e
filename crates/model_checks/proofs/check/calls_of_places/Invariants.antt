use Rattle.std.proofs.Common.{◌≡◌, map, take}
use Rattle.book_base.specs.Order.{call_at}
use Rattle.model_checks.proofs.check.calls_of_places.Given as goal

abbrev pub invariant-loop-place : goal.invariant-loop-place
invariant-loop-place l = l.calls.items ≡ map call_at (take l.place-index l.places)
