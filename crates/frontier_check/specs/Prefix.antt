-- Prefixes of orders: the places that are put already, and the cut and the list that they reach.
use Rattle.std.specs.Prelude.{◌≡◌, ℕ, ◌≤◌, List, [], ◌∷◌, ◌++◌, length, replicate, sum, slice_index, Some}
use Rattle.book_base.specs.declared.call.Place.{Place}
use Rattle.book_base.specs.declared.call.Record.{Record}
use Rattle.book_base.specs.SeqSpec.{SeqSpec}
use Rattle.book_base.specs.Cut.{IsWithin}
use Rattle.book_base.specs.Book.{Page, IsCall, IsValid, IsSmall, calls_of, record_of}
use Rattle.book_base.specs.Order.{call_at, step_at, IsLegalOrder}
use Rattle.book_base.specs.Reaching.{IsCapacityFor, Reaches}
use Rattle.book_base.specs.Next.{next_call, raised, list_after, Continues}
use Rattle.frontier_check.specs.declared.prefix.Prefix.{Prefix}
use Rattle.frontier_check.specs.declared.walk.TheConstants.{MOST_CALLS}

-- A capacity suffices in each book: for as many operations of the object as a book may have calls.
abbrev pub IsBookCapacity : SeqSpec → ℕ → Type 0
IsBookCapacity spec capacity = IsCapacityFor spec MOST_CALLS capacity

-- the cut that holds no call of a book
abbrev pub no_calls : List Page → List ℕ
no_calls book = replicate (length book) 0

-- The call at a place is its caller's next call in a book after a cut; where it is answered, the
-- place has the recorded reply, and the recorded view holds all calls of the cut.
pub record IsNext (book : List Page) (cut : List ℕ) (place : Place) : Type 0 where
  pub is_call : IsCall book (call_at place)
  pub next : place.number ≡ slice_index cut place.caller
  pub recorded : (r : Record) → record_of book (call_at place) ≡ Some r → (r.reply ≡ place.reply)
      × IsWithin cut r.view

-- Places follow one another and lead from one cut and list to another cut and list. Each place is
-- next, as `IsNext` says, after the first cut and the places before it, and has the reply that the
-- object gives at the list after those places.
abbrev pub Follow : List Page → (List ℕ → ℕ → List ℕ × ℕ) → List ℕ → List ℕ → List Place → List ℕ
    → List ℕ → Type 0
Follow book next cut list [] to_cut to_list = (cut ≡ to_cut) × (list ≡ to_list)
Follow book next cut list (place ∷ places) to_cut to_list =
    IsNext book cut place × ((next list (step_at book place).0).1 ≡ place.reply)
    × Follow book next (raised cut place.caller)
    (list_after book next list place) places to_cut to_list

-- Where the next call of a caller after a cut is answered, its view holds all calls of the cut.
abbrev pub LeavesOpen : List Page → List ℕ → Type 0
LeavesOpen book cut = (i : ℕ) (r : Record) → record_of book (next_call cut i) ≡ Some r
    → IsWithin cut r.view

-- The places of a prefix reach its cut and its list, in a valid book that has no more callers and
-- calls than a book may have. The cut has one count for each caller of the book, none of them above
-- the caller's number of calls in the book, and counts at least as many calls as there are places.
pub record PrefixReaches (spec : SeqSpec) (book : List Page) (prefix : Prefix) : Type 0 where
  pub valid : IsValid book
  pub small : IsSmall book
  pub wide : length prefix.cut ≡ length book
  pub within : (i : ℕ) → slice_index prefix.cut i ≤ calls_of book i
  pub calls : length prefix.places.items ≤ sum prefix.cut
  pub reaches : Reaches spec book prefix.places.items prefix.cut prefix.here.words

-- A prefix is put in a book: its places reach its cut and its list, and follow one another from the
-- cut without calls and the first list of the object.
pub record IsPut (spec : SeqSpec) (book : List Page) (prefix : Prefix) : Type 0 where
  pub stands : PrefixReaches spec book prefix
  pub follow : Follow book spec.next
      (no_calls book) spec.init prefix.places.items prefix.cut prefix.here.words

-- The places of a prefix reach its cut and its list, and any places that continue an order from
-- this cut and list make a legal order when they stand after the prefix's places.
pub record IsPrefix (spec : SeqSpec) (book : List Page) (prefix : Prefix) : Type 0 where
  pub stands : PrefixReaches spec book prefix
  pub legal : (rest : List Place) → Continues book spec.next prefix.cut prefix.here.words rest
      → IsLegalOrder spec book (prefix.places.items ++ rest)
