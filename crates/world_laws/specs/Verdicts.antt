-- What verdicts at seen cuts say of a run, stated by its calls alone.
use Rattle.std.specs.Prelude.{◌≡◌, ℕ, ◌+◌, List, [], map, Some, slice_get, slice_index, slice_index_or}
use Rattle.book_base.specs.declared.call.Call.{Call}
use Rattle.book_base.specs.declared.call.Record.{Record}
use Rattle.book_base.specs.SeqSpec.{SeqSpec}
use Rattle.book_base.specs.Cut.{Holds, IsWithin, AreComparable}
use Rattle.book_base.specs.Book.{record_of}
use Rattle.book_base.specs.BookAt.{book_at}
use Rattle.book_base.specs.Order.{HasLegalOrder}
use Rattle.legal_orders.specs.Greatest.{greatest_counts}
use Rattle.world_core.specs.Shape.{Shape}
use Rattle.world_core.specs.Local.{Local}
use Rattle.world_core.specs.World.{Step, IsRun, end_of}
use Rattle.world_core.specs.History.{IsLinearizable, history_of}
use Rattle.world_core.specs.Calls.{Made, Has_seen, AreTogether, IsPublished, calls_in, book_of, book_in}

-- A call among the calls of some callers has its record, and the cut is its seen cut: the one that
-- its caller saw after it published the record.
pub record HasSeenCut (calls : List (List Made)) (call : Call) (cut : List ℕ) : Type 0 where
  pub operation : ℕ
  pub answer : Record
  pub made : slice_get (slice_index_or calls call.caller []) call.number
      ≡ Some (record { operation = operation; reached = Has_seen answer cut })

-- The seen cuts of the calls of these locals: each counts published records alone, and the last
-- call of its own caller that it holds is the call for which it was seen; and any two are
-- comparable.
pub record AreSeenCuts (locals : List Local) : Type 0 where
  pub published : (call : Call) (cut : List ℕ) → HasSeenCut (map calls_in locals) call cut
      → IsPublished locals cut
  pub own : (call : Call) (cut : List ℕ) → HasSeenCut (map calls_in locals) call cut
      → slice_index cut call.caller ≡ call.number + 1
  pub comparable : (a b : Call) (s t : List ℕ) → HasSeenCut (map calls_in locals) a s
      → HasSeenCut (map calls_in locals) b t → AreComparable s t

-- In every reachable world each seen cut counts published records alone, and the last call of its
-- own caller that it holds is the call for which it was seen; and any two seen cuts are comparable.
abbrev pub SeenCutsFit : Type 0
SeenCutsFit = (s : Shape) (locals : List Local) → AreTogether s locals → AreSeenCuts locals

-- Where the book at a cut of a run's published records has no legal order, the object history of
-- the run isn't linearizable.
abbrev pub NoRunHasThisError : Type 0
NoRunHasThisError =
    (spec : SeqSpec) (s : Shape) (steps : List Step) (cut : List ℕ)
    → IsRun s steps
    → IsPublished (end_of s steps).locals cut
    → ¬ HasLegalOrder spec (book_at cut (book_in (end_of s steps).locals))
    → ¬ IsLinearizable spec (history_of s steps)

-- Where the book of some calls has no legal order at a cut that one of them has seen, no run that
-- ends with these calls has a linearizable object history, whatever its program and its cap.
abbrev pub NoRunHasThisErrorSeen : Type 0
NoRunHasThisErrorSeen =
    (spec : SeqSpec) (calls : List (List Made)) (call : Call)
    (cut : List ℕ) → HasSeenCut calls call cut
    → ¬ HasLegalOrder spec (book_at cut (book_of calls))
    → (s : Shape) (steps : List Step) → IsRun s steps → map calls_in (end_of s steps).locals ≡ calls
    → ¬ IsLinearizable spec (history_of s steps)

-- Each of these cuts was seen by one of the calls of these locals, and the book of the locals at
-- that cut has a legal order.
abbrev pub AreDelivered : SeqSpec → List Local → List (List ℕ) → Type 0
AreDelivered spec locals cuts =
    (k : ℕ) (cut : List ℕ) → slice_get cuts k ≡ Some cut
    → (call : Call) × HasSeenCut (map calls_in locals) call cut
    × HasLegalOrder spec (book_at cut (book_in locals))

-- The cut `all` has all delivered calls: it counts published records alone, contains the seen cut
-- of each delivered call, and holds each of these calls. The book at it has a legal order, and has
-- the record of each call that the cut holds.
pub record HasAllDelivered (spec : SeqSpec) (locals : List Local) (cuts : List (List ℕ))
    (all : List ℕ) : Type 0 where
  pub published : IsPublished locals all
  pub contains : (k : ℕ) (cut : List ℕ) → slice_get cuts k ≡ Some cut → IsWithin cut all
  pub holds : (k : ℕ) (cut : List ℕ) (call : Call) → slice_get cuts k ≡ Some cut
      → HasSeenCut (map calls_in locals) call cut → Holds all call
  pub records : (call : Call) → Holds all call
      → record_of (book_at all (book_in locals)) call ≡ record_of (book_in locals) call
  pub one_order : HasLegalOrder spec (book_at all (book_in locals))

-- The cut of the greatest counts of the seen cuts of delivered calls counts published records alone
-- and holds each of these calls, and the book at it has a legal order. Where no call is delivered,
-- all its counts are 0.
abbrev pub DeliveredCallsStandInOne : Type 0
DeliveredCallsStandInOne =
    (spec : SeqSpec) (s : Shape) (locals : List Local)
    (cuts : List (List ℕ)) → AreTogether s locals
    → AreDelivered spec locals cuts
    → HasAllDelivered spec locals cuts (greatest_counts s.callers cuts)
