-- What the outcome of a call says: of which record, at which seen cut, and by which book.
use Rattle.std.specs.Prelude.{◌≡◌, ℕ, Bool, true, false, List, length}
use Rattle.book_base.specs.declared.call.Record.{Record}
use Rattle.book_base.specs.SeqSpec.{SeqSpec}
use Rattle.book_base.specs.Book.{Page}
use Rattle.book_base.specs.BookAt.{book_at}
use Rattle.book_base.specs.Order.{IsLegalOrder, HasLegalOrder}
use Rattle.world_core.specs.Shape.{Shape, Meaning}
use Rattle.world_core.specs.Local.{Local}
use Rattle.world_core.specs.Calls.{AreTogether, IsGathered, book_in, local_at}
use Rattle.report_lines.specs.declared.line.LineEnd.{LineEnd}
use Rattle.report_lines.specs.declared.line.LineEnd.TheVariants as line
use Rattle.row_table.specs.declared.stance.Stance.{Stance}
use Rattle.row_table.specs.declared.caller.Caller.{Caller}
use Rattle.row_table.specs.declared.rows.Rows.{Rows}
use Rattle.row_table.specs.Callers.{shape_of, who_of, local_with}
use Rattle.drv_wrapper.specs.Stands.{ready}
use Rattle.enforcer.specs.declared.outcome.Outcome.{Outcome}
use Rattle.enforcer.specs.declared.outcome.Outcome.TheVariants.{Delivered, Illegal}

-- The record of the call that has this outcome.
abbrev pub record_in : Outcome → Record
record_in (Delivered reply view seen order) = record { reply = reply; view = view }
record_in (Illegal reply view seen book) = record { reply = reply; view = view }

-- The seen cut of the call that has this outcome.
abbrev pub cut_in : Outcome → List ℕ
cut_in (Delivered reply view seen order) = seen
cut_in (Illegal reply view seen book) = seen

-- The view and the seen cut have n counts each, one for each of n callers.
abbrev pub AreWide : ℕ → List ℕ → List ℕ → Type 0
AreWide n view seen = (length view ≡ n) × (length seen ≡ n)

-- The outcome is an error.
abbrev pub is_illegal : Outcome → Bool
is_illegal (Delivered reply view seen order) = false
is_illegal (Illegal reply view seen book) = true

-- How the line of a call with this outcome ends: with `Delivered` or with `Error`, and with the
-- record and the seen cut of the outcome.
abbrev pub end_of : Outcome → LineEnd
end_of (Delivered reply view seen order) =
    line.Delivered (record { reply = reply; view = view }) seen
end_of (Illegal reply view seen book) = line.Error (record { reply = reply; view = view }) seen

-- The stance of the caller after its call had this outcome: ready for its next call after
-- `Delivered`, and halted after `Illegal`.
abbrev pub stance_after : Outcome → Stance
stance_after (Delivered reply view seen order) = ready
stance_after (Illegal reply view seen book) = record ready { live = false }

-- The outcome is right for a book: after `Delivered` the order that the outcome carries is a legal
-- order of the book; after `Illegal` the outcome carries this book, which has no legal order.
abbrev pub IsRightFor : SeqSpec → List Page → Outcome → Type 0
IsRightFor spec book (Delivered reply view seen order) =
    IsLegalOrder spec book order.items
IsRightFor spec book (Illegal reply view seen carried) = (carried ≡ book)
    × ¬ HasLegalOrder spec book

-- The outcome is right for a book that one of n callers, with the local `l`, has gathered at the
-- seen cut, by peeking each of the book's words.
abbrev pub IsRightByPeeks : SeqSpec → ℕ → Local → Outcome → Type 0
IsRightByPeeks spec n l outcome = (book : List Page) × IsGathered n l (cut_in outcome) book
    × IsRightFor spec book outcome

-- In each reachable world in which caller `i` has the local `l`, the outcome is right for the book
-- at its seen cut, taken from the book of all callers' calls.
abbrev pub IsRightInWorlds : SeqSpec → Shape → ℕ → Local → Outcome → Type 0
IsRightInWorlds spec s i l outcome =
    (locals : List Local) → AreTogether s locals → local_at locals i ≡ l
    → IsRightFor spec (book_at (cut_in outcome) (book_in locals)) outcome

-- In each reachable world of the rows `r` in which the caller `c` has its local, the outcome is
-- right for the book at its seen cut, taken from the book of all callers' calls.
abbrev pub IsRightOf : {P : Type 0} → (spec : SeqSpec) → (P → ℕ → ℕ → Meaning) → Rows P → Caller P
    → Outcome → Type 0
IsRightOf spec meaning r c outcome =
    IsRightInWorlds spec (shape_of meaning r) (who_of c) (local_with c) outcome
