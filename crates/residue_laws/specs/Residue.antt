-- The residue of a stream: the configurations that its legal orders reach.
use Rattle.std.specs.Prelude.{◌≡◌, ℕ, ◌↔◌, List, map}
use Rattle.book_base.specs.SeqSpec.{SeqSpec}
use Rattle.book_base.specs.Reaching.{list_after_run}
use Rattle.streams.specs.Stream.{StreamEvent, HasReturned}
use Rattle.streams.specs.StreamOrder.{StreamPlace, stream_step, IsAmong, IsLegalStreamOrder}

-- A configuration: calls that haven't returned but are placed in an order already, each with the
-- reply that it got there, and the list of the object after that order. The sequence of the placed
-- calls, and how often one occurs among them, mean nothing.
pub record Configuration : Type 0 where
  pub placed : List StreamPlace
  pub list : List ℕ

-- A legal order of a stream reaches a configuration: the placed calls are the calls of the order
-- that don't return in the stream, and the list is the object's after the order.
pub record StreamReaches (spec : SeqSpec) (stream : List StreamEvent) (order : List StreamPlace)
    (at : Configuration) : Type 0 where
  pub legal : IsLegalStreamOrder spec stream order
  pub placed : (place : StreamPlace) → (IsAmong at.placed place
      ↔ IsAmong order place × (HasReturned stream place.call → ⊥))
  pub list : list_after_run spec.next spec.init (map (stream_step stream) order) ≡ at.list

-- The residue of a stream has the configurations that its legal orders reach.
abbrev pub IsInResidue : SeqSpec → List StreamEvent → Configuration → Type 0
IsInResidue spec stream at = (order : List StreamPlace) × StreamReaches spec stream order at
