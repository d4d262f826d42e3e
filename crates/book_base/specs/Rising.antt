-- The views of one caller's records rise: each is within the next one.
use Rattle.std.specs.Prelude.{◌≡◌, ℕ, ◌<◌, ◌≤◌, List, Some, slice_index}
use Rattle.book_base.specs.declared.call.Call.{Call}
use Rattle.book_base.specs.declared.call.Record.{Record}
use Rattle.book_base.specs.Cut.{IsWithin}
use Rattle.book_base.specs.Book.{Page, answers_of, record_of, IsValid}

-- Of a caller's records, those with a number below `low` have views within the cut `view`, and
-- those with a number from `high` on have views that aren't within it. `low` is at most `high`, and
-- `high` is at most the number of the caller's records.
pub record AreViewsWithin (book : List Page) (caller : ℕ) (view : List ℕ)
    (low high : ℕ) : Type 0 where
  pub ordered : low ≤ high
  pub few : high ≤ answers_of book caller
  pub below : (k : ℕ) (r : Record) → k < low
      → record_of book (record { caller = caller; number = k }) ≡ Some r → IsWithin r.view view
  pub above : (k : ℕ) (r : Record) → high ≤ k
      → record_of book (record { caller = caller; number = k }) ≡ Some r → ¬ IsWithin r.view view

-- In a valid book, the view of an answered call is within the view of each later answered call of
-- the same caller.
abbrev pub ViewsRise : Type 0
ViewsRise = (book : List Page) (a b : Call) (r s : Record) → IsValid book
    → record_of book a ≡ Some r → record_of book b ≡ Some s
    → a.caller ≡ b.caller → a.number ≤ b.number → IsWithin r.view s.view

-- In a valid book, the view of an answered call holds no later call of its caller. So the call
-- precedes those later calls by its view too, besides by their order.
abbrev pub PrecedesByItsView : Type 0
PrecedesByItsView = (book : List Page) (a b : Call) (r : Record) → IsValid book
    → record_of book a ≡ Some r
    → a.caller ≡ b.caller → a.number < b.number → slice_index r.view b.caller ≤ b.number
