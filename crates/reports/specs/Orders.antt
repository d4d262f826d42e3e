-- What a lawful report says of its delivered lines.
use Rattle.std.specs.Prelude.{◌≡◌, ℕ, List, Some, slice_get}
use Rattle.book_base.specs.declared.call.Call.{Call}
use Rattle.book_base.specs.declared.call.Record.{Record}
use Rattle.book_base.specs.declared.call.Place.{Place}
use Rattle.book_base.specs.SeqSpec.{SeqSpec}
use Rattle.book_base.specs.Book.{Page, operation_of}
use Rattle.book_base.specs.BookAt.{book_at}
use Rattle.book_base.specs.Order.{IsLegalOrder}
use Rattle.world_core.specs.Shape.{Shape}
use Rattle.report_lines.specs.declared.line.LineEnd.TheVariants.{Delivered}
use Rattle.report_lines.specs.declared.line.Line.{Line}
use Rattle.report_lines.specs.Lines.{book_of_lines, line_at}
use Rattle.report_lines.specs.Lawful.{delivered_cut, IsLawful}

-- The call has a place in this order of a book, with this operation and this reply.
abbrev pub StandsWith : List Page → List Place → Call → ℕ → ℕ → Type 0
StandsWith book order call operation reply =
    (k : ℕ) × (slice_get order k
    ≡ Some (record { caller = call.caller; number = call.number; reply = reply }))
    × (operation_of book call ≡ Some operation)

-- Each delivered line's call has a place in this order of a book, with the line's operation and
-- reply.
abbrev pub DeliveredLinesStandIn : List (List Line) → List Page → List Place → Type 0
DeliveredLinesStandIn lines book order =
    (call : Call) (line : Line) (r : Record) (cut : List ℕ) → line_at lines call ≡ Some line
    → line.end ≡ Delivered r cut
    → StandsWith book order call line.op r.reply

-- The book of a report at the greatest seen cut of its delivered lines.
abbrev pub delivered_book : Shape → List (List Line) → List Page
delivered_book s lines = book_at (delivered_cut s.callers lines) (book_of_lines lines)

-- All delivered replies of a lawful report have places in one legal order of its delivered book.
abbrev pub DeliveredRepliesStandInOneOrder : Type 0
DeliveredRepliesStandInOneOrder =
    (spec : SeqSpec) (s : Shape) (operations : List (List ℕ))
    (allotments : List ℕ) (lines : List (List Line))
    → IsLawful spec s operations allotments lines
    → (order : List Place) × IsLegalOrder spec (delivered_book s lines) order
    × DeliveredLinesStandIn lines (delivered_book s lines) order
