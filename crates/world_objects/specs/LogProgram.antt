-- The program of the log: which object steps a call may make, in which order, and which reply it
-- may get.
use Rattle.std.specs.Prelude.{ℕ, ◌-◌, ◌*◌, Bool, false, not, ◌&&◌, ◌||◌, ◌==◌, nat_lt, if◌then◌else◌, List, [], ◌∷◌, Option, Some, None}
use Rattle.book_base.specs.SeqSpec.{SeqSpec}
use Rattle.book_base.specs.OperationWord.{low_of, high_of}
use Rattle.world_core.specs.Shape.{Shape, Meaning}
use Rattle.world_core.specs.Local.{Local, Object_step}
use Rattle.world_core.specs.CallSteps.{operation_now, steps_now, all_steps_of}
use Rattle.world_objects.specs.OneWord.{is_reply}
use Rattle.world_objects.specs.LogWords.{number_of, low_place, high_place, ticket_of, known, is_known, is_first_unfilled, placed_at, is_named_below, known_log}

-- Whether a step stores the low word of the operation of the call under way, which this call hasn't
-- stored yet.
abbrev pub is_low_store : ℕ → Local → Object_step → Bool
is_low_store number l step =
    step.place == low_place number && (step.new == low_of (operation_now l)
    && not (is_known (known (low_place number) (steps_now l))))

-- Whether a step stores the high word of the operation of the call under way, once the low word is
-- stored and while the high word isn't.
abbrev pub is_high_store : ℕ → Local → Object_step → Bool
is_high_store number l step =
    step.place == high_place number
    && (step.new == high_of (operation_now l) && (is_known (known (low_place number) (steps_now l))
    && not (is_known (known (high_place number) (steps_now l)))))

-- Whether a step tries for a place of the log with the ticket of the call under way. It is at the
-- first place that the caller doesn't know to be filled, and exchanges 0 for the ticket, or leaves
-- a ticket that it finds. Both words of the operation are stored, and the call has no place in the
-- log yet.
abbrev pub is_exchange : ℕ → ℕ → Local → Object_step → Bool
is_exchange total number l step =
    not (nat_lt step.place (2 * total))
    && (is_first_unfilled total (all_steps_of l) (step.place - 2 * total)
    && (is_known (known (low_place number) (steps_now l))
    && (is_known (known (high_place number) (steps_now l))
    && (not (is_known (placed_at total (ticket_of number) (steps_now l)))
    && step.new == (if step.old == 0 then ticket_of number else step.old)))))

-- Whether `steps` show, below place p of the log, the ticket of a call whose operation has a word
-- at `place` of the object words. p is the place of the asking call's own ticket; false without it.
abbrev pub is_named_before : Option ℕ → ℕ → List Object_step → ℕ → Bool
is_named_before None total steps place = false
is_named_before (Some p) total steps place = is_named_below total steps place p

-- Whether a step loads a word of some call's operation, and leaves it as it is. The ticket of the
-- call under way has a place in the log, and the caller knows that the ticket of the call whose
-- word it loads stands below this place.
abbrev pub is_load : ℕ → ℕ → Local → Object_step → Bool
is_load total number l step =
    step.new == step.old && is_named_before (placed_at total (ticket_of number) (steps_now l)) total
    (all_steps_of l) step.place

-- The list of a sequential object after some operations, made one after another from a given list
-- on.
abbrev pub list_of : (List ℕ → ℕ → List ℕ × ℕ) → List ℕ → List ℕ → List ℕ
list_of next list [] = list
list_of next list (operation ∷ operations) = list_of next (next list operation).0 operations

-- The reply of a sequential object to an operation after those of a log; none where the log isn't
-- known.
abbrev pub reply_if_known : SeqSpec → ℕ → Option (List ℕ) → Option ℕ
reply_if_known spec operation None = None
reply_if_known spec operation (Some operations) =
    Some (spec.next (list_of spec.next spec.init operations) operation).1

-- The reply to an operation whose ticket is at place p of the log, after the operations of the
-- tickets below p. None where the ticket has no place, or where `steps` don't show all these
-- operations.
abbrev pub known_reply : SeqSpec → ℕ → ℕ → List Object_step → Option ℕ → Option ℕ
known_reply spec total operation steps None = None
known_reply spec total operation steps (Some p) =
    reply_if_known spec operation (known_log total steps p)

-- Whether the call under way of caller i may make an object step: it stores a word of its
-- operation, tries for a place of the log, or loads a word.
abbrev pub log_may_step : ℕ → ℕ → ℕ → Local → Object_step → Bool
log_may_step n cap i l step =
    is_low_store (number_of cap i l.published) l step
    || (is_high_store (number_of cap i l.published) l step
    || (is_exchange (n * cap) (number_of cap i l.published) l step
    || is_load (n * cap) (number_of cap i l.published) l step))

-- Whether the call under way of caller i may get a reply: that of the sequential object after the
-- operations of the tickets below the call's own, all of which the caller knows.
abbrev pub log_may_reply : SeqSpec → ℕ → ℕ → ℕ → Local → ℕ → Bool
log_may_reply spec n cap i l reply =
    is_reply
    (known_reply spec (n * cap) (operation_now l) (all_steps_of l)
    (placed_at (n * cap) (ticket_of (number_of cap i l.published)) (steps_now l)))
    reply

-- The program of the log of a sequential object, for n callers and a cap.
abbrev pub log_program : SeqSpec → ℕ → ℕ → Meaning
log_program spec n cap =
    record {
      objects = 3 * (n * cap);
      may_step = log_may_step n cap;
      may_reply = log_may_reply spec n cap;
    }

-- The shape of a world of n callers with at most cap calls each, for the log of a sequential
-- object.
abbrev pub log_shape : SeqSpec → ℕ → ℕ → Shape
log_shape spec n cap = record { callers = n; cap = cap; program = log_program spec n cap }
