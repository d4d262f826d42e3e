-- The rules that hold in every reachable world of a log.
use Rattle.std.specs.Prelude.{◌≡◌, ◌≢◌, ℕ, zero, suc, ◌+◌, ◌*◌, ◌<◌, ◌≤◌, ◌⊎◌, List, [], ◌++◌, Some, slice_get, slice_index_or, true, None}
use Rattle.book_base.specs.SeqSpec.{SeqSpec}
use Rattle.book_base.specs.OperationWord.{low_of, high_of}
use Rattle.world_core.specs.Shape.{Shape}
use Rattle.world_core.specs.Local.{Object_step}
use Rattle.world_core.specs.CallSteps.{steps_now}
use Rattle.world_core.specs.Event.{is_asking}
use Rattle.world_core.specs.World.{World, Step, IsRun, IsReachable, end_of, local_of, object_word}
use Rattle.world_laws.proofs.Each.{Each}
use Rattle.world_objects.specs.LogWords.{number_of, low_place, high_place, ticket_place, ticket_of, placed_at}
use Rattle.world_objects.specs.LogProgram.{log_shape}

-- How many calls the callers of a world may make, which is how many places its log has.
abbrev pub total_of : Shape → ℕ
total_of s = s.callers * s.cap

-- The ticket at place p of the log, or 0 where the place is free.
abbrev pub ticket_at : Shape → World → ℕ → ℕ
ticket_at s w p = object_word s w (ticket_place (total_of s) p)

-- A word of an operation, by a number: the low word for 0, and the high word for any other number.
abbrev pub half_of : ℕ → ℕ → ℕ
half_of zero operation = low_of operation
half_of (suc h) operation = high_of operation

-- Call k of caller i has been announced, with this operation.
pub record IsCallOf (s : Shape) (w : World) (i k operation : ℕ) : Type 0 where
  pub caller : i < s.callers
  pub few : k < s.cap
  pub there : slice_get (local_of w i).operations k ≡ Some operation

-- The object word at this place is the one for the low or the high word of an announced call's
-- operation, and is equal to that word.
pub record HoldsOperation (s : Shape) (w : World) (place : ℕ) : Type 0 where
  pub i : ℕ
  pub k : ℕ
  pub operation : ℕ
  pub half : ℕ
  pub call : IsCallOf s w i k operation
  pub low : half < 2
  pub at : place ≡ 2 * number_of s.cap i k + half
  pub word : object_word s w place ≡ half_of half operation

-- Call k of caller i has made a step that left this ticket in the log.
pub record HasPlaced (s : Shape) (w : World) (i k ticket : ℕ) : Type 0 where
  pub j : ℕ
  pub step : Object_step
  pub made : slice_get (slice_index_or (local_of w i).object_steps k []) j ≡ Some step
  pub high : 2 * total_of s ≤ step.place
  pub left : step.new ≡ ticket

-- The ticket at place p of the log names an announced call. Both words of that call's operation are
-- stored, and the call has made a step that left the ticket in the log.
pub record NamesCall (s : Shape) (w : World) (p : ℕ) : Type 0 where
  pub i : ℕ
  pub k : ℕ
  pub operation : ℕ
  pub call : IsCallOf s w i k operation
  pub ticket : ticket_at s w p ≡ ticket_of (number_of s.cap i k)
  pub low : object_word s w (low_place (number_of s.cap i k)) ≡ low_of operation
  pub high : object_word s w (high_place (number_of s.cap i k)) ≡ high_of operation
  pub placed : HasPlaced s w i k (ticket_of (number_of s.cap i k))

-- The word that a step left is still at its place, and is a word of an announced call's operation
-- or a ticket.
pub record IsLasting (s : Shape) (w : World) (step : Object_step) : Type 0 where
  pub stands : object_word s w step.place ≡ step.new
  pub kind : HoldsOperation s w step.place
      ⊎ ((2 * total_of s ≤ step.place) × (step.place < 3 * total_of s) × (step.new ≢ 0))

-- The rules of a log: the filled places are a prefix, each ticket names a call whose words are
-- stored, no ticket is at two places, and the word that a step left is still at its place, as a
-- word of an announced call's operation or as a ticket.
pub record IsLog (s : Shape) (w : World) : Type 0 where
  pub prefix : (p : ℕ) → p + 1 < total_of s → ticket_at s w (p + 1) ≢ 0 → ticket_at s w p ≢ 0
  pub named : (p : ℕ) → p < total_of s → ticket_at s w p ≢ 0 → NamesCall s w p
  pub once : (p q : ℕ) → p < total_of s → q < total_of s → ticket_at s w p ≢ 0
      → ticket_at s w p ≡ ticket_at s w q → p ≡ q
  pub lasting : (i : ℕ) → i < s.callers → Each (Each (IsLasting s w)) (local_of w i).object_steps

-- In every reachable world of a log the filled places are a prefix, each ticket names a call whose
-- words are stored, no ticket is at two places, and the word that a step left is still at its
-- place, as a word of an announced call's operation or as a ticket.
abbrev pub LogRulesHold : Type 0
LogRulesHold =
    (spec : SeqSpec) (n cap : ℕ) (w : World)
    → IsReachable (log_shape spec n cap) w → IsLog (log_shape spec n cap) w

-- A ticket never changes along a run.
abbrev pub TicketsStay : Type 0
TicketsStay =
    (spec : SeqSpec) (n cap : ℕ) (before later : List Step) (p : ℕ)
    → IsRun (log_shape spec n cap) (before ++ later)
    → ticket_at (log_shape spec n cap) (end_of (log_shape spec n cap) before) p ≢ 0
    → ticket_at (log_shape spec n cap) (end_of (log_shape spec n cap) (before ++ later)) p
    ≡ ticket_at (log_shape spec n cap) (end_of (log_shape spec n cap) before) p

-- While a caller is in the phase ask and its call has no place in the log, some place of the log is
-- free.
abbrev pub SomePlaceIsFree : Type 0
SomePlaceIsFree =
    (spec : SeqSpec) (n cap : ℕ) (w : World) (i : ℕ)
    → IsReachable (log_shape spec n cap) w → i < n
    → is_asking (local_of w i).phase ≡ true
    → placed_at (n * cap) (ticket_of (number_of cap i (local_of w i).published))
    (steps_now (local_of w i)) ≡ None
    → (p : ℕ) × (p < n * cap) × (ticket_at (log_shape spec n cap) w p ≡ 0)
