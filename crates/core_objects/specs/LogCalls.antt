-- An announced call of a log: which object steps it has made, and what its caller knows of the log
-- by the steps of all its calls.
use Rattle.std.specs.Prelude.{◌≡◌, ℕ, ◌+◌, ◌*◌, ◌<◌, ◌≤◌, List, ◌++◌, Option, Some, None, length, slice_get}
use Rattle.book_base.specs.OperationWord.{low_of, high_of}
use Rattle.world_core.specs.Shape.{Meaning}
use Rattle.world_core.specs.Local.{Object_step}
use Rattle.world_core.specs.CallSteps.{steps_now, all_steps_of}
use Rattle.report_lines.specs.Phases.{progress_of}
use Rattle.row_table.specs.declared.rows.Rows.{Rows}
use Rattle.row_table.specs.Callers.{IsStill}
use Rattle.drv_wrapper.specs.declared.announced.Announced.{Announced}
use Rattle.drv_wrapper.specs.States.{caller_announced, who_announced, number_announced, op_announced, announced_local}
use Rattle.world_objects.specs.LogWords.{number_of, low_place, high_place, ticket_place, ticket_of, known, placed_at, known_operation, known_log}
use Rattle.core_objects.specs.CoreObjects.{with_steps, after_steps}

-- A caller's object steps show that these tickets stand in the first places of a log with `total`
-- places, and the steps show nothing of the places after them.
pub record KnowsTickets (total : ℕ) (tickets : List ℕ) (steps : List Object_step) : Type 0 where
  pub few : length tickets ≤ total
  pub filled : (q ticket : ℕ) → slice_get tickets q ≡ Some ticket
      → (known (ticket_place total q) steps ≡ Some ticket) × (0 < ticket)
  pub free : (q : ℕ) → length tickets ≤ q → known (ticket_place total q) steps ≡ None

-- A caller's object steps show the operations of the calls whose tickets stand in the first places
-- of a log: the operations `log`, in order.
abbrev pub KnowsOperations : ℕ → List ℕ → List Object_step → Type 0
KnowsOperations total log steps = known_log total steps (length log) ≡ Some log

module _ {P : Type 0} where
  -- How many places the log on some rows has.
  abbrev pub places_on : Rows P → ℕ
  places_on r = r.callers * r.cap

  -- The number of an announced call among the calls of all callers of the rows: its ticket in the
  -- log is this number plus 1.
  abbrev pub number_on : Rows P → Announced P → ℕ
  number_on r a = number_of r.cap (who_announced a) (number_announced a)

  -- The rows have as many object words as a log needs: three for each of its places.
  abbrev pub HasLogWords : Rows P → Type 0
  HasLogWords r = r.objects ≡ 3 * places_on r

  -- The announced call `b` is the announced call `a` after some further object steps of its caller
  -- and no other event.
  pub record HasMade (meaning : P → ℕ → ℕ → Meaning) (r : Rows P) (a b : Announced P) : Type 0 where
    pub steps : List Object_step
    pub still : IsStill meaning r (caller_announced a) (caller_announced b)
    pub operation : op_announced b ≡ op_announced a
    pub local : announced_local b
        ≡ with_steps (announced_local a) (steps_now (announced_local a) ++ steps)
    pub progress : progress_of (announced_local b)
        ≡ after_steps steps (progress_of (announced_local a))

  -- The announced call has stored the low and the high word of its operation in the two object
  -- words of the log that belong to its number.
  pub record HasStored (r : Rows P) (a : Announced P) : Type 0 where
    pub low_now : known (low_place (number_on r a)) (steps_now (announced_local a))
        ≡ Some (low_of (op_announced a))
    pub high_now : known (high_place (number_on r a)) (steps_now (announced_local a))
        ≡ Some (high_of (op_announced a))
    pub low : known (low_place (number_on r a)) (all_steps_of (announced_local a))
        ≡ Some (low_of (op_announced a))
    pub high : known (high_place (number_on r a)) (all_steps_of (announced_local a))
        ≡ Some (high_of (op_announced a))

  -- The place in the log at which the announced call has placed its ticket, if it has.
  abbrev pub place_on : Rows P → Announced P → Option ℕ
  place_on r a = placed_at (places_on r) (ticket_of (number_on r a)) (steps_now (announced_local a))

  -- The caller of the announced call knows that `tickets` stand in the first places of the log, and
  -- knows nothing of the places after them.
  abbrev pub KnowsPlaces : Rows P → Announced P → List ℕ → Type 0
  KnowsPlaces r a tickets = KnowsTickets (places_on r) tickets (all_steps_of (announced_local a))

  -- The caller of the announced call knows the operations of the calls whose tickets stand in the
  -- first places of the log: the operations `log`, in order.
  abbrev pub KnowsLog : Rows P → Announced P → List ℕ → Type 0
  KnowsLog r a log = KnowsOperations (places_on r) log (all_steps_of (announced_local a))

  -- The announced call has placed its ticket at a place of the log, and `tickets` ends with this
  -- ticket: the list has one ticket for each place of the log up to this one.
  pub record HasPlaced (r : Rows P) (a : Announced P) (tickets : List ℕ) : Type 0 where
    pub place : ℕ
    pub last : length tickets ≡ place + 1
    pub placed : place_on r a ≡ Some place
    pub ticket : slice_get tickets place ≡ Some (ticket_of (number_on r a))

  -- The announced call has placed its ticket in the log, and its caller knows that the ticket of
  -- the call with the number `named` stands at an earlier place.
  pub record MayLoad (r : Rows P) (a : Announced P) (named : ℕ) : Type 0 where
    pub own : ℕ
    pub placed : place_on r a ≡ Some own
    pub place : ℕ
    pub before : place < own
    pub low : place < places_on r
    pub ticket : known (ticket_place (places_on r) place) (all_steps_of (announced_local a))
        ≡ Some (ticket_of named)

  -- The caller of the announced call knows that the call with the number `named` has the operation
  -- `operation`.
  abbrev pub KnowsOperation : Announced P → ℕ → ℕ → Type 0
  KnowsOperation a named operation =
      known_operation (Some (ticket_of named)) (all_steps_of (announced_local a)) ≡ Some operation
