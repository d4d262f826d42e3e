-- Laws of what orders reach, and of read-only operations.
use Rattle.std.specs.Prelude.{◌≡◌, ℕ, ◌+◌, ◌<◌, ◌↔◌, List, [], ◌∷◌, ◌++◌, length, replicate, slice_index, slice_set}
use Rattle.book_base.specs.declared.call.Place.{Place}
use Rattle.book_base.specs.SeqSpec.{SeqSpec}
use Rattle.book_base.specs.Book.{Page}
use Rattle.book_base.specs.Sequential.{IsRunFrom}
use Rattle.book_base.specs.Order.{step_at}
use Rattle.book_base.specs.Reaching.{Reaches, Leaves}

-- The empty order reaches the cut that holds no call, and the object's first list.
abbrev pub NoPlacesReachTheStart : Type 0
NoPlacesReachTheStart = (spec : SeqSpec) (book : List Page) (n : ℕ)
    → Reaches spec book [] (replicate n 0) spec.init

-- An order that reaches a cut and a list, with the next call of some caller as one more place,
-- reaches the cut with this call and the object's list after its operation.
abbrev pub OneMorePlaceReachesOn : Type 0
OneMorePlaceReachesOn = (spec : SeqSpec) (book : List Page)
    (before : List Place) (cut list : List ℕ) (place : Place)
    → Reaches spec book before cut list → place.caller < length cut
    → place.number ≡ slice_index cut place.caller
    → Reaches spec book (before ++ place ∷ []) (slice_set cut place.caller (place.number + 1))
    (spec.next list (step_at book place).0).0

-- An order reaches at most one cut of a given number of callers, and at most one list.
abbrev pub OneCutIsReached : Type 0
OneCutIsReached = (spec : SeqSpec) (book : List Page)
    (order : List Place) (cut other list last : List ℕ)
    → length cut ≡ length other → Reaches spec book order cut list
    → Reaches spec book order other last → (cut ≡ other) × (list ≡ last)

-- A run stays a run where a read-only operation with its reply is put in or left out at a list at
-- which the object gives this reply.
abbrev pub ReadOnlyMayBeLeftOut : Type 0
ReadOnlyMayBeLeftOut =
    (next : List ℕ → ℕ → List ℕ × ℕ) (op reply : ℕ) (list : List ℕ) (steps : List (ℕ × ℕ))
    → Leaves next op reply → (next list op).1 ≡ reply
    → IsRunFrom next list ((op, reply) ∷ steps) ↔ IsRunFrom next list steps
