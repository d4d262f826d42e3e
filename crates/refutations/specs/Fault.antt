-- Why entries make no closed list: the tests that they may fail, and the order in which these are
-- tried.
use Rattle.std.specs.Prelude.{◌≡◌, ℕ, ◌+◌, ◌<◌, ◌⊎◌, List, take, Some, slice_get}
use Rattle.book_base.specs.SeqSpec.{SeqSpec}
use Rattle.book_base.specs.Book.{Page}
use Rattle.book_base.specs.Next.{HoldsAnswered}
use Rattle.refutations.specs.declared.entry.Entry.{Entry}
use Rattle.refutations.specs.declared.fault.ClosedFault.{ClosedFault}
use Rattle.refutations.specs.declared.fault.ClosedFault.TheVariants.{Unlisted, Whole, Leads}
use Rattle.refutations.specs.Closed.{Item, LeadsInside, items_of, IsMade}

-- The entries fail the test that a fault names, for a sequential object and a book.
abbrev pub FailsTest : SeqSpec → List Page → List Entry → ClosedFault → Type 0
-- entry e, counted from 1, makes no item of those that the entries before it make
FailsTest spec book entries (Unlisted e) = (k : ℕ) × (entry : Entry) × (e ≡ k + 1)
    × (slice_get entries k ≡ Some entry)
    × (IsMade book (items_of spec book (take k entries)) entry → ⊥)
-- item e, counted from 0, has all answered calls
FailsTest spec book entries (Whole e) = (item : Item)
    × (slice_get (items_of spec book entries) e ≡ Some item) × HoldsAnswered book item.cut
-- the next call of the caller may come next at item e, with the reply that the object gives, and
-- leads to no item of the list
FailsTest spec book entries (Leads e caller) = (item : Item)
    × (slice_get (items_of spec book entries) e ≡ Some item)
    × (LeadsInside spec book (items_of spec book entries) item caller → ⊥)

-- the turn of a test: all entries are tried before all items
abbrev pub turn_of : ClosedFault → ℕ
turn_of (Unlisted e) = 0
turn_of (Whole e) = 1
turn_of (Leads e caller) = 1

-- the number of the entry, or of the item, that a test is of
abbrev pub number_of : ClosedFault → ℕ
number_of (Unlisted e) = e
number_of (Whole e) = e
number_of (Leads e caller) = e

-- the order of the tests of one entry or item: whether it has all answered calls, and then its next
-- calls by rising callers
abbrev pub step_of : ClosedFault → ℕ
step_of (Unlisted e) = 0
step_of (Whole e) = 0
step_of (Leads e caller) = caller + 1

-- One test is tried before another: in an earlier turn; in the same turn of an earlier entry or
-- item; or earlier among the tests of one item.
abbrev pub IsTriedBefore : ClosedFault → ClosedFault → Type 0
IsTriedBefore f g = (turn_of f < turn_of g) ⊎ ((turn_of f ≡ turn_of g)
    × ((number_of f < number_of g) ⊎ ((number_of f ≡ number_of g) × (step_of f < step_of g))))

-- The fault names the first test that the entries fail.
pub record IsFirstFault (spec : SeqSpec) (book : List Page) (entries : List Entry)
    (fault : ClosedFault) : Type 0 where
  pub fails : FailsTest spec book entries fault
  pub first : (other : ClosedFault) → IsTriedBefore other fault
      → FailsTest spec book entries other → ⊥
