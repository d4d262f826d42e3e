-- Where the object history of a run is linearizable, the book of its locals has a legal order: no
-- error is false.
use Rattle.std.specs.Prelude.{◌≡◌, ◌↔◌, ℕ, List, map, Some, Contains}
use Rattle.book_base.specs.declared.call.Call.{Call}
use Rattle.book_base.specs.declared.call.Record.{Record}
use Rattle.book_base.specs.declared.call.Place.{Place}
use Rattle.book_base.specs.SeqSpec.{SeqSpec}
use Rattle.book_base.specs.Book.{Page, IsCall, operation_of, record_of, Precedes}
use Rattle.book_base.specs.BookAt.{book_at}
use Rattle.book_base.specs.Order.{IsLegalOrder, HasLegalOrder}
use Rattle.world_core.specs.Shape.{Shape}
use Rattle.world_core.specs.World.{Step, IsRun, end_of}
use Rattle.world_core.specs.History.{Happening, Invoked, Returned, Done, ReturnsBefore, IsLinearization, IsLinearizable, history_of}
use Rattle.world_core.specs.Calls.{IsPublished, book_in}

-- A history agrees with a book: it invokes just the book's calls, it has the return of each
-- answered call with its reply, and where a call precedes another one in the book, it returned
-- before that one was invoked.
pub record IsHistoryOf (history : List Happening) (book : List Page) : Type 0 where
  -- the calls that were invoked are the book's, each with its operation; so what a view holds was
  -- invoked
  pub invoked : (call : Call) (operation : ℕ) → Contains history (Invoked call operation)
      ↔ (operation_of book call ≡ Some operation)
  -- an answered call returned with its reply
  pub returned : (call : Call) (r : Record) → record_of book call ≡ Some r
      → Contains history (Returned call r.reply)
  -- a call that precedes another by its view, or as an earlier call of its caller, returned before
  -- that one was invoked
  pub before : (a b : Call) → IsCall book b → Precedes book a b → ReturnsBefore history a b

-- The object history of every run agrees with the book of the run's locals.
abbrev pub RunsHaveTheirHistories : Type 0
RunsHaveTheirHistories = (s : Shape) (steps : List Step) → IsRun s steps
    → IsHistoryOf (history_of s steps) (book_in (end_of s steps).locals)

-- An entry of a linearization as a place of an order: the entry's call, with its reply.
abbrev pub place_of : Done → Place
place_of d = record { caller = d.call.caller; number = d.call.number; reply = d.reply }

-- A linearization of a history that agrees with a book is a legal order of the book: it has all
-- answered calls, each with its reply, and those unanswered ones that the linearization has.
abbrev pub LinearizationsAreLegalOrders : Type 0
LinearizationsAreLegalOrders =
    (spec : SeqSpec) (history : List Happening) (book : List Page)
    (order : List Done)
    → IsHistoryOf history book → IsLinearization spec history order
    → IsLegalOrder spec book (map place_of order)

-- Where the object history of a run is linearizable, the book of its locals has a legal order.
abbrev pub LinearizableRunsHaveLegalBooks : Type 0
LinearizableRunsHaveLegalBooks =
    (spec : SeqSpec) (s : Shape) (steps : List Step) → IsRun s steps
    → IsLinearizable spec (history_of s steps)
    → HasLegalOrder spec (book_in (end_of s steps).locals)

-- Where the object history of a run is linearizable, the book at each cut of published records has
-- a legal order: no error is false.
abbrev pub NoFalseError : Type 0
NoFalseError =
    (spec : SeqSpec) (s : Shape) (steps : List Step) (cut : List ℕ)
    → IsRun s steps
    → IsLinearizable spec (history_of s steps) → IsPublished (end_of s steps).locals cut
    → HasLegalOrder spec (book_at cut (book_in (end_of s steps).locals))
