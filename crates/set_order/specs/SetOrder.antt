-- Legal orders of a book's calls in sets: the calls of a set are served at once.
use Rattle.std.specs.Prelude.{◌≡◌, ℕ, ◌+◌, ◌<◌, ◌≤◌, List, [], ◌∷◌, length, map, Option, Some, slice_get}
use Rattle.book_base.specs.declared.call.Call.{Call}
use Rattle.book_base.specs.declared.call.Record.{Record}
use Rattle.book_base.specs.declared.call.Place.{Place}
use Rattle.book_base.specs.Book.{Page, IsCall, record_of, Precedes}
use Rattle.book_base.specs.Order.{StandsAt, step_at}

-- the callers of a set's calls, in order
abbrev pub callers_of : List Place → List ℕ
callers_of set = map (λ place. place.caller) set

-- the operation words of a set's calls, in order
abbrev pub operations_of : List Page → List Place → List ℕ
operations_of book set = map (λ place. (step_at book place).0) set

-- the replies to a set's calls, in order
abbrev pub replies_of : List Place → List ℕ
replies_of set = map (λ place. place.reply) set

-- the numbers of some callers rise, and none is below `low`
abbrev pub RiseFrom : ℕ → List ℕ → Type 0
RiseFrom low [] = Unit {0}
RiseFrom low (i ∷ callers) = (low ≤ i) × RiseFrom (i + 1) callers

-- a call stands in the set with the index `k` of an order, at the place `p` of this set
abbrev pub StandsIn : List (List Place) → ℕ → ℕ → Call → Type 0
StandsIn order k p call = (set : List Place) × (slice_get order k ≡ Some set) × StandsAt set p call

-- Where the object serves the sets one after another, from the list `list` on, it refuses none of
-- them and gives exactly the replies of their places.
abbrev pub IsServedFrom : (List ℕ → List ℕ → Option (List ℕ × List ℕ)) → List Page → List ℕ
    → List (List Place) → Type 0
IsServedFrom served book list [] = Unit {0}
IsServedFrom served book list (set ∷ sets) =
    (after : List ℕ) × (served list (operations_of book set) ≡ Some (after, replies_of set))
    × IsServedFrom served book after sets

-- A legal set order of a book, for the object with the first list `init`, which serves a list of
-- operations at once (Neiger 1994). An unanswered call may stand in the order with the reply that
-- the object gives, or be left out.
pub record IsLegalSetOrder (init : List ℕ) (served : List ℕ → List ℕ → Option (List ℕ × List ℕ))
    (book : List Page) (order : List (List Place)) : Type 0 where
  -- no set is empty
  pub some : (k : ℕ) (set : List Place) → slice_get order k ≡ Some set → 1 ≤ length set
  -- the calls of a set are in the order of their callers, at most one of each caller
  pub by_caller : (k : ℕ) (set : List Place) → slice_get order k ≡ Some set
      → RiseFrom 0 (callers_of set)
  -- each call of the order is a call of the book
  pub calls : (k p : ℕ) (call : Call) → StandsIn order k p call → IsCall book call
  -- no call stands in the order twice
  pub once : (j p k q : ℕ) (call : Call) → StandsIn order j p call → StandsIn order k q call
      → (j ≡ k) × (p ≡ q)
  -- where a call stands in the order, all earlier calls of its caller stand in earlier sets
  pub earlier : (k p : ℕ) (call : Call) → StandsIn order k p call → (number : ℕ)
      → number < call.number
      → (j : ℕ) × (j < k) × (q : ℕ)
      × StandsIn order j q (record { caller = call.caller; number = number })
  -- each answered call stands in the order with its recorded reply
  pub answered : (call : Call) (r : Record) → record_of book call ≡ Some r
      → (k : ℕ) × (set : List Place) × (slice_get order k ≡ Some set) × (p : ℕ)
      × (slice_get set p
      ≡ Some (record { caller = call.caller; number = call.number; reply = r.reply }))
  -- where the object serves the sets one after another from its first list, it gives exactly the
  -- replies of the order's places
  pub served_so : IsServedFrom served book init order
  -- where a call precedes another one and both stand in the order, the set of the first call is
  -- earlier than that of the second
  pub precedence : (j p k q : ℕ) (a b : Call) → StandsIn order j p a → StandsIn order k q b
      → Precedes book a b → j < k

-- the book has a legal set order
abbrev pub HasLegalSetOrder : List ℕ → (List ℕ → List ℕ → Option (List ℕ × List ℕ))
    → List Page → Type 0
HasLegalSetOrder init served book = (order : List (List Place))
    × IsLegalSetOrder init served book order
