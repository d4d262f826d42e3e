use Rattle.std.proofs.Common.{◌≡◌, ℕ, ◌<◌, List, Some, slice_get}
use Rattle.refutations.specs.Closed.{Item, IsClosedAt}
use Rattle.refutations.specs.Stored.{AreListed}
use Rattle.refutations.proofs.closed.first_open.Given as goal

abbrev pub invariant-loop-e : goal.invariant-loop-e
invariant-loop-e g l = record {
  room : l.state.room ≡ l.fn.state.room;
  closed : (list : List Item) → AreListed l.items list → (k : ℕ) (item : Item) → k < l.e
      → slice_get list k ≡ Some item
      → IsClosedAt (g.S.SeqObject.spec l.object) l.book list item;
}
