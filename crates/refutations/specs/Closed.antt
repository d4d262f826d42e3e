-- Closed lists: items that each have a cut and a list of the object. A list of items is closed
-- where it has the item before all calls, each call that may come next at one of its items leads to
-- one of its items, and none of its items has all answered calls. Then the book has no legal order.
use Rattle.std.specs.Prelude.{◌≡◌, ℕ, List, [], ◌∷◌, ◌++◌, length, replicate, fold, take, unwrap_or, Some, slice_get, slice_index_or}
use Rattle.book_base.specs.declared.call.Place.{Place}
use Rattle.book_base.specs.SeqSpec.{SeqSpec}
use Rattle.book_base.specs.Book.{Page, IsCall, operation_of}
use Rattle.book_base.specs.Next.{raised, next_call, HoldsAnswered, MayStandNext}
use Rattle.refutations.specs.declared.entry.Entry.{Entry}

-- An item of a list: how many of its first calls each caller has made, and the object's list.
pub record Item : Type 0 where
  pub cut : List ℕ
  pub list : List ℕ

-- an item is one of a list
abbrev pub IsOneItem : List Item → Item → Type 0
IsOneItem items item = (e : ℕ) × (slice_get items e ≡ Some item)

-- the item before all calls: the cut that holds no call, and the object's first list
abbrev pub first_item : SeqSpec → List Page → Item
first_item spec book = record { cut = replicate (length book) 0; list = spec.init }

-- the item after the next call of a caller: the cut with this call, and the list after its
-- operation, whatever its reply
abbrev pub item_after : SeqSpec → List Page → Item → ℕ → Item
item_after spec book item caller = record {
  cut = raised item.cut caller;
  list = (spec.next item.list (unwrap_or (operation_of book (next_call item.cut caller)) 0)).0;
}

-- Where the next call of a caller may come next at an item, with the reply that the object gives,
-- the item after it is one of the list.
abbrev pub LeadsInside : SeqSpec → List Page → List Item → Item → ℕ → Type 0
LeadsInside spec book items item caller = (place : Place) → place.caller ≡ caller
    → MayStandNext book spec.next item.cut item.list place
    → IsOneItem items (item_after spec book item caller)

-- A list is closed at an item: the item lacks an answered call, and each call that may come next at
-- it leads to an item of the list.
pub record IsClosedAt (spec : SeqSpec) (book : List Page) (items : List Item)
    (item : Item) : Type 0 where
  pub unfinished : HoldsAnswered book item.cut → ⊥
  pub leads : (caller : ℕ) → LeadsInside spec book items item caller

-- A list of items is closed: it has the item before all calls, and is closed at each of its items.
pub record IsClosedList (spec : SeqSpec) (book : List Page) (items : List Item) : Type 0 where
  pub begins : IsOneItem items (first_item spec book)
  pub closed : (item : Item) → IsOneItem items item → IsClosedAt spec book items item

-- ---- lists that are made by entries

-- the items of a list and one more, which an entry makes: that after the next call of the entry's
-- caller, at the item that the entry names
abbrev pub with_entry : SeqSpec → List Page → List Item → Entry → List Item
with_entry spec book items entry =
    items ++ item_after spec book (slice_index_or items entry.item (first_item spec book))
    entry.caller ∷ []

-- the items that entries make, one after another, after the item before all calls
abbrev pub items_of : SeqSpec → List Page → List Entry → List Item
items_of spec book entries = fold (with_entry spec book) (first_item spec book ∷ []) entries

-- An entry makes an item of some items: it names one of them, and a caller who has a next call
-- there.
abbrev pub IsMade : List Page → List Item → Entry → Type 0
IsMade book items entry = (item : Item) × (slice_get items entry.item ≡ Some item)
    × IsCall book (next_call item.cut entry.caller)

-- Entries make a closed list: each of them makes an item of those that the entries before it make,
-- and the list of all these items is closed.
pub record MakeClosed (spec : SeqSpec) (book : List Page) (entries : List Entry) : Type 0 where
  pub made : (k : ℕ) (entry : Entry) → slice_get entries k ≡ Some entry
      → IsMade book (items_of spec book (take k entries)) entry
  pub closed : IsClosedList spec book (items_of spec book entries)
