use Rattle.std.proofs.Common.{◌≡◌, ℕ, ◌<◌, List}
use Rattle.refutations.specs.Closed.{Item, LeadsInside}
use Rattle.refutations.specs.Stored.{item_of, AreListed}
use Rattle.refutations.proofs.closed.first_open_at.Given as goal

abbrev pub invariant-loop-caller : goal.invariant-loop-caller
invariant-loop-caller g l = record {
  room : l.state.room ≡ l.fn.state.room;
  inside : (list : List Item) → AreListed l.items list → (i : ℕ) → i < l.caller
      → LeadsInside (g.S.SeqObject.spec l.object) l.book list (item_of l.item) i;
}
