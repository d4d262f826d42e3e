-- What the words of a log say: its operations in order, and the reply of each call whose ticket is
-- placed. A call takes effect as its ticket is placed.
use Rattle.std.specs.Prelude.{◌≡◌, ℕ, zero, suc, ◌*◌, ◌<◌, ◌==◌, nat_lt, if◌then◌else◌, List, [], ◌∷◌, ◌++◌, Option, Some, None, slice_get}
use Rattle.book_base.specs.SeqSpec.{SeqSpec}
use Rattle.book_base.specs.OperationWord.{joined}
use Rattle.book_base.specs.declared.call.Call.{Call}
use Rattle.world_core.specs.Shape.{Shape}
use Rattle.world_core.specs.World.{World, Step, IsRun, end_of, object_word}
use Rattle.world_core.specs.History.{Done, IsLinearization, IsLinearizable, history_of}
use Rattle.world_objects.specs.Effects.{Effects, IsOrderOfEffects}
use Rattle.world_objects.specs.LogWords.{number_of, low_place, high_place, ticket_place, ticket_of}
use Rattle.world_objects.specs.LogProgram.{list_of, log_shape}

-- The operation of the call that a ticket names, read off the object words, as a list of one; the
-- empty list for 0, the word of a free place.
abbrev pub operation_at : (ℕ → ℕ) → ℕ → List ℕ
operation_at word zero = []
operation_at word (suc number) = joined (word (low_place number)) (word (high_place number)) ∷ []

-- The operations of the tickets below place p of the log, in order, read off the object words.
abbrev pub operations_below : (ℕ → ℕ) → ℕ → ℕ → List ℕ
operations_below word total zero = []
operations_below word total (suc p) =
    operations_below word total p ++ operation_at word (word (ticket_place total p))

-- The last place of the log below the given one that has this ticket; none where no place below it
-- has the ticket.
abbrev pub place_with : (ℕ → ℕ) → ℕ → ℕ → ℕ → Option ℕ
place_with word total ticket zero = None
place_with word total ticket (suc p) =
    if word (ticket_place total p) == ticket then Some p else place_with word total ticket p

-- The reply of the call with this number, read off the object words, given the place p of its
-- ticket; none where the ticket has no place.
abbrev pub reply_there : SeqSpec → (ℕ → ℕ) → ℕ → ℕ → Option ℕ → Option ℕ
reply_there spec word total number None = None
reply_there spec word total number (Some p) =
    Some (spec.next (list_of spec.next spec.init (operations_below word total p))
    (joined (word (low_place number)) (word (high_place number)))).1

-- The reply of the call with this number, read off the object words; none where its ticket isn't
-- placed.
abbrev pub reply_of_number : SeqSpec → (ℕ → ℕ) → ℕ → ℕ → Option ℕ
reply_of_number spec word total number =
    reply_there spec word total number (place_with word total (ticket_of number) total)

-- The effects of a log: the list after all its operations, and the replies of the calls whose
-- tickets are placed.
abbrev pub log_effects : SeqSpec → ℕ → ℕ → Effects
log_effects spec n cap =
    record {
      list = λ w. list_of spec.next spec.init
          (operations_below (object_word (log_shape spec n cap) w) (n * cap) (n * cap));
      reply = λ w call.
          if nat_lt call.number cap
          then reply_of_number spec (object_word (log_shape spec n cap) w) (n * cap)
          (number_of cap call.caller call.number)
          else None;
    }

-- The ticket of a call is at place p of the log.
pub record HasPlace (s : Shape) (w : World) (call : Call) (p : ℕ) : Type 0 where
  pub low : p < s.callers * s.cap
  pub ticket : object_word s w (ticket_place (s.callers * s.cap) p)
      ≡ ticket_of (number_of s.cap call.caller call.number)

-- A call that comes before another in an order has its ticket at a lower place of the log.
abbrev pub IsInTicketOrder : Shape → World → List Done → Type 0
IsInTicketOrder s w order =
    (p q : ℕ) (a b : Done) → p < q → slice_get order p ≡ Some a → slice_get order q ≡ Some b
    → (x y : ℕ) × (x < y) × HasPlace s w a.call x × HasPlace s w b.call y

-- The object history of every run of a log is linearizable, for every sequential object, number of
-- callers and cap.
abbrev pub LogsLinearize : Type 0
LogsLinearize =
    (spec : SeqSpec) (n cap : ℕ) (steps : List Step)
    → IsRun (log_shape spec n cap) steps
    → IsLinearizable spec (history_of (log_shape spec n cap) steps)

-- The object history of every run of a log has a linearization of just the calls whose tickets are
-- placed, each with its reply, in the order of the places of their tickets.
abbrev pub LogOrdersAreOfTickets : Type 0
LogOrdersAreOfTickets =
    (spec : SeqSpec) (n cap : ℕ) (steps : List Step)
    → IsRun (log_shape spec n cap) steps
    → (order : List Done)
    × IsLinearization spec (history_of (log_shape spec n cap) steps) order
    × IsOrderOfEffects (log_shape spec n cap) (log_effects spec n cap) steps order
    × IsInTicketOrder (log_shape spec n cap) (end_of (log_shape spec n cap) steps) order
