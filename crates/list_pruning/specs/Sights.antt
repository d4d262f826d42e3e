-- Sights that list, for each value, the calls of a book that put it in or show it.
use Rattle.std.specs.Prelude.{◌≡◌, ℕ, ◌<◌, ◌⊎◌, List, [], length, map, Option, Some, None, slice_get, slice_index_or}
use Rattle.std.specs.Ordering.{nat_cmp}
use Rattle.std.specs.BTreeMap.{is_at}
use Rattle.std.specs.Map.{lookup}
use Rattle.book_base.specs.declared.call.Call.{Call}
use Rattle.search_hints.specs.declared.sight.Sight.{Sight}
use Rattle.book_base.specs.Book.{Page}
use Rattle.legal_orders.specs.Container.{Reading}
use Rattle.legal_orders.specs.Calls.{PutsIn, TakesOut}

-- the place of a value's calls in a sight, where it has one
abbrev pub place_of : Sight → ℕ → Option ℕ
place_of sight v = lookup (is_at (nat_cmp v)) sight.places.entries

-- the calls that a place of a sight lists as puts
abbrev pub puts_at : Sight → Option ℕ → List Call
puts_at sight None = []
puts_at sight (Some place) =
    slice_index_or (map (λ labelled. labelled.puts.items) sight.labelled.items) place []

-- the calls that a place of a sight lists as those whose replies show the value
abbrev pub shows_at : Sight → Option ℕ → List Call
shows_at sight None = []
shows_at sight (Some place) =
    slice_index_or (map (λ labelled. labelled.shows.items) sight.labelled.items) place []

-- the calls that a sight lists as puts of a value
abbrev pub puts_of : Sight → ℕ → List Call
puts_of sight v = puts_at sight (place_of sight v)

-- the calls that a sight lists as those whose replies show a value
abbrev pub shows_of : Sight → ℕ → List Call
shows_of sight v = shows_at sight (place_of sight v)

-- a call is one of a list
abbrev pub IsListed : List Call → Call → Type 0
IsListed calls call = (k : ℕ) × (slice_get calls k ≡ Some call)

-- Each place that a sight has for a value is one at which it lists calls.
abbrev pub HasItsPlaces : Sight → Type 0
HasItsPlaces sight = (v place : ℕ) → place_of sight v ≡ Some place
    → place < length sight.labelled.items

-- A sight lists all calls that another one lists, each for the same value.
pub record ListsMore (old new : Sight) : Type 0 where
  pub puts : (v : ℕ) (call : Call) → IsListed (puts_of old v) call → IsListed (puts_of new v) call
  pub shows : (v : ℕ) (call : Call) → IsListed (shows_of old v) call
      → IsListed (shows_of new v) call

-- A sight has this place for a value, and lists all calls that another one lists.
pub record HasPlace (old new : Sight) (v found : ℕ) : Type 0 where
  pub places : HasItsPlaces new
  pub more : ListsMore old new
  pub place : place_of new v ≡ Some found

-- A sight lists a call as a put of a value, and all calls that another sight lists.
pub record HasPut (old new : Sight) (v : ℕ) (call : Call) : Type 0 where
  pub places : HasItsPlaces new
  pub more : ListsMore old new
  pub listed : IsListed (puts_of new v) call

-- A sight lists a call as one that takes out a value, and all calls that another sight lists.
pub record HasTake (old new : Sight) (v : ℕ) (call : Call) : Type 0 where
  pub places : HasItsPlaces new
  pub more : ListsMore old new
  pub listed : IsListed (shows_of new v) call

-- a call is among those read so far: it is a call of a caller before `caller`, or one of `caller`
-- with a number below `number`
abbrev pub IsReadTo : ℕ → ℕ → Call → Type 0
IsReadTo caller number call = (call.caller < caller)
    ⊎ ((call.caller ≡ caller) × (call.number < number))

-- A sight lists the calls of a book that were read so far, those before the call `number` of
-- `caller`: the puts of each value, and the answered takes that show it.
pub record ListsRead (reading : Reading) (book : List Page) (caller number : ℕ)
    (sight : Sight) : Type 0 where
  pub places : HasItsPlaces sight
  pub puts : (call : Call) (v : ℕ) → IsReadTo caller number call → PutsIn reading book call v
      → IsListed (puts_of sight v) call
  pub shows : (call : Call) (v : ℕ) → IsReadTo caller number call → TakesOut reading book call v
      → IsListed (shows_of sight v) call

-- A sight lists each call of a book that puts in a value, and each answered one that takes it out.
pub record ListsValues (reading : Reading) (book : List Page) (sight : Sight) : Type 0 where
  pub puts : (call : Call) (v : ℕ) → PutsIn reading book call v → IsListed (puts_of sight v) call
  pub takes : (call : Call) (v : ℕ) → TakesOut reading book call v
      → IsListed (shows_of sight v) call
