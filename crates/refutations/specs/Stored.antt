-- Items as a check stores them, and how far it has come.
use Rattle.std.specs.Prelude.{◌≡◌, ℕ, ◌-◌, ◌<◌, ◌≤◌, List, length, sum, Some, slice_get, slice_index}
use Rattle.book_base.specs.SeqSpec.{SeqSpec}
use Rattle.book_base.specs.Book.{Page, calls_of}
use Rattle.book_base.specs.Next.{HoldsAnswered}
use Rattle.book_base.specs.Reaching.{SufficesAfter, IsCapacityFor}
use Rattle.refutations.specs.declared.fault.ClosedFault.{ClosedFault}
use Rattle.refutations.specs.declared.fault.ClosedFault.TheVariants.{Unlisted, Whole, Leads}
use Rattle.refutations.specs.declared.stored_item.StoredItem.{StoredItem}
use Rattle.refutations.specs.declared.stored_item.TheConstants.{MOST_CALLS}
use Rattle.refutations.specs.declared.items.Items.{Items}
use Rattle.refutations.specs.Closed.{Item, IsOneItem, LeadsInside, IsClosedAt}

-- the item that a stored item is
abbrev pub item_of : StoredItem → Item
item_of stored = record { cut = stored.counts.items; list = stored.words.items }

-- a capacity suffices for each list that the object reaches in a book
abbrev pub IsBookCapacity : SeqSpec → ℕ → Type 0
IsBookCapacity spec capacity = IsCapacityFor spec MOST_CALLS capacity

-- An item fits a book and a capacity: its cut has a count for each caller, of calls that the caller
-- made, and the capacity suffices for the calls that a book may have besides these.
pub record Fits (spec : SeqSpec) (book : List Page) (capacity : ℕ) (item : Item) : Type 0 where
  pub wide : length item.cut ≡ length book
  pub made : (i : ℕ) → slice_index item.cut i ≤ calls_of book i
  pub room : SufficesAfter spec.next item.list (MOST_CALLS - sum item.cut) capacity

-- all stored items fit
abbrev pub AreFit : SeqSpec → List Page → ℕ → Items → Type 0
AreFit spec book capacity stored = (index : ℕ) (found : StoredItem)
    → slice_get stored.stored.keys index ≡ Some found → Fits spec book capacity (item_of found)

-- Stored items are a list of items: at each number the index of a stored item that is the list's
-- item there, and each stored item is one of the list.
pub record AreListed (stored : Items) (list : List Item) : Type 0 where
  pub long : length stored.indices.items ≡ length list
  pub there : (number index : ℕ) → slice_get stored.indices.items number ≡ Some index
      → (found : StoredItem) × (slice_get stored.stored.keys index ≡ Some found)
      × (slice_get list number ≡ Some (item_of found))
  pub one : (index : ℕ) (found : StoredItem) → slice_get stored.stored.keys index ≡ Some found
      → IsOneItem list (item_of found)

-- A fault is the first of the tests of an item with this number that a list fails.
abbrev pub IsOpenAt : SeqSpec → List Page → List Item → ℕ → Item → ClosedFault → Type 0
IsOpenAt spec book list number item (Unlisted e) = ⊥
IsOpenAt spec book list number item (Whole e) = (e ≡ number) × HoldsAnswered book item.cut
IsOpenAt spec book list number item (Leads e caller) = (e ≡ number)
    × (HoldsAnswered book item.cut → ⊥) × (LeadsInside spec book list item caller → ⊥)
    × ((i : ℕ) → i < caller → LeadsInside spec book list item i)

-- A fault is the first of the tests of all items that a list fails.
pub record IsFirstOpen (spec : SeqSpec) (book : List Page) (list : List Item)
    (fault : ClosedFault) : Type 0 where
  pub number : ℕ
  pub item : Item
  pub there : slice_get list number ≡ Some item
  pub fault_there : IsOpenAt spec book list number item fault
  pub before : (e : ℕ) (other : Item) → e < number → slice_get list e ≡ Some other
      → IsClosedAt spec book list other
