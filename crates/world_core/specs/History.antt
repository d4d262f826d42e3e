-- The history of object calls in a run, and what it means that a history is linearizable (Herlihy
-- and Wing 1990).
use Rattle.std.specs.Prelude.{◌≡◌, ◌≢◌, ℕ, ◌<◌, List, [], ◌∷◌, ◌++◌, length, map, Some, slice_get, All, AllPairs, Contains}
use Rattle.book_base.specs.declared.call.Call.{Call}
use Rattle.book_base.specs.SeqSpec.{SeqSpec}
use Rattle.book_base.specs.Sequential.{IsLegalRun}
use Rattle.world_core.specs.Shape.{Shape}
use Rattle.world_core.specs.Local.{Local}
use Rattle.world_core.specs.Event.{Event, Announce, Look, Begins_view, staged_operation}
use Rattle.world_core.specs.World.{World, Step, start, after, local_of}

-- What happens to a call of the object: it is invoked with an operation, or it returns with a
-- reply.
pub data Happening : Type 0 where
  Invoked : (call : Call) (operation : ℕ) → Happening
  Returned : (call : Call) (reply : ℕ) → Happening

-- The call with number k of a caller.
abbrev pub call_of : ℕ → ℕ → Call
call_of who k = record { caller = who; number = k }

-- What happens to object calls in an event of a caller with this local: an announcement invokes the
-- announced call with its operation; the first look of the view's scan returns the call under way
-- with the reply that the look carries; and in any other event nothing happens to them.
abbrev pub happenings : ℕ → Local → Event → List Happening
happenings who l Announce = Invoked (call_of who l.announced) (staged_operation l.staged) ∷ []
happenings who l (Look region j x (Begins_view reply)) =
    Returned (call_of who (length l.replies)) reply ∷ []
happenings who l _ = []

-- What happens to object calls in these steps, made one after another from a world on.
abbrev pub history_from : Shape → World → List Step → List Happening
history_from s w [] = []
history_from s w (step ∷ steps) =
    happenings step.who (local_of w step.who) step.event ++ history_from s (after s w step) steps

-- The object history of a run: what happens to object calls in its steps, from the start on.
abbrev pub history_of : Shape → List Step → List Happening
history_of s steps = history_from s (start s) steps

-- An entry of an order: a call, with its operation and the reply that it has in the order.
pub record Done : Type 0 where
  pub call : Call
  pub operation : ℕ
  pub reply : ℕ

-- The operation and the reply of an entry of an order.
abbrev pub step_of : Done → ℕ × ℕ
step_of d = (d.operation, d.reply)

-- In a history call a returned before call b was invoked.
abbrev pub ReturnsBefore : List Happening → Call → Call → Type 0
ReturnsBefore history a b =
    (i j reply operation : ℕ) × (i < j) × (slice_get history i ≡ Some (Returned a reply))
    × (slice_get history j ≡ Some (Invoked b operation))

-- An order is a linearization of a history for the sequential object with this first list and this
-- transition function.
pub record IsLinearization (spec : SeqSpec) (history : List Happening)
    (order : List Done) : Type 0 where
  -- each call of the order was invoked with the operation that it has there
  pub invoked : All (λ (d : Done). Contains history (Invoked d.call d.operation)) order
  -- no call is in the order twice
  pub once : AllPairs (λ (d e : Done). d.call ≢ e.call) order
  -- each call that returned in the history is in the order, with the reply with which it returned
  pub returned : (call : Call) (reply : ℕ) → Contains history (Returned call reply)
      → (operation : ℕ)
      × Contains order (record { call = call; operation = operation; reply = reply })
  -- the replies in the order are those that the sequential object gives, from its first list on
  pub legal : IsLegalRun spec (map step_of order)
  -- an entry of the order whose call returned before another entry's call was invoked comes before
  -- that entry
  pub ordered : (p q : ℕ) (d e : Done) → slice_get order p ≡ Some d → slice_get order q ≡ Some e
      → ReturnsBefore history d.call e.call → p < q

-- A history is linearizable for a sequential object where some order is a linearization of it.
abbrev pub IsLinearizable : SeqSpec → List Happening → Type 0
IsLinearizable spec history = (order : List Done) × IsLinearization spec history order
