-- What a finished client leaves.
use Rattle.std.specs.Prelude.{◌≡◌, ◌≢◌, ℕ, ◌%◌, true, false, Bool, IsTrue, List, [], Option, Some, None, length}
use Rattle.book_base.specs.declared.call.Record.{Record}
use Rattle.world_core.specs.Shape.{Meaning}
use Rattle.world_core.specs.Local.{Local, IsIdle}
use Rattle.world_core.specs.CallSteps.{steps_now}
use Rattle.report_lines.specs.declared.line.LineEnd.{LineEnd}
use Rattle.report_lines.specs.declared.line.LineEnd.TheVariants.{Pending, Unchecked}
use Rattle.report_lines.specs.declared.line.Line.{Line}
use Rattle.row_table.specs.declared.stance.Stance.{Stance}
use Rattle.row_table.specs.Benches.{fresh_stance}
use Rattle.row_table.specs.Callers.{stance_of}
use Rattle.drv_wrapper.specs.States.{record_viewed}
use Rattle.enforcer.specs.States.{record_published}
use Rattle.client_calls.specs.Ends.{HasLeftAt}
use Rattle.client_calls.specs.Stands.{caller_at, phases_at}
use Rattle.client_calls.specs.Clients.{Spent}
use Rattle.client_calls.specs.declared.stand.CallerState.{CallerState}
use Rattle.client_calls.specs.declared.stand.CallerState.TheVariants.{Idle, Announced, Answered, Viewed, Published, Halted, Unjudged}

-- What holds of caller i when it has made this many phases. Where its call under way is announced
-- and not asked, the call has no object step. Where its call under way is asked and has no view,
-- the program allows the caller some reply.
pub record KeepsAsked (program : Meaning) (i phases : ℕ) (l : Local) : Type 0 where
  pub unasked : phases % 5 ≡ 1 → steps_now l ≡ []
  pub asked : phases % 5 ≡ 2 → (reply : ℕ) × IsTrue (program.may_reply i l reply)

-- How a caller that has made this many phases is left: within a call it is halted, and where it is
-- live it is free for its next call.
pub record IsLeftStanding (phases : ℕ) (l : Local) (stance : Stance) : Type 0 where
  pub within : phases % 5 ≢ 0 → stance.live ≡ false
  pub between : stance.live ≡ true → IsIdle l × (stance ≡ fresh_stance)

module _ {P : Type 0} where
  -- The stance of a caller that is left in this state: as it is between two calls and where the
  -- caller is halted already, and else halted.
  abbrev pub stance_left : CallerState P → Stance
  stance_left (Idle c) = stance_of c
  stance_left (Halted c) = stance_of c
  stance_left s = record (stance_of (caller_at s)) { live = false }

  -- The end of the line of a call whose caller is left in this state: pending without the call's
  -- record, and unchecked with it. Between two calls and where the caller is halted, there is none.
  abbrev pub end_at : CallerState P → Option LineEnd
  end_at (Idle c) = None
  end_at (Announced a) = Some Pending
  end_at (Answered a) = Some Pending
  end_at (Viewed v) = Some (Unchecked (record_viewed v))
  end_at (Published p) = Some (Unchecked (record_published p))
  end_at (Halted c) = None
  end_at (Unjudged u) = None

  -- Whether the last call of a caller in this state was left unjudged for want of memory.
  abbrev pub is_unjudged : CallerState P → Bool
  is_unjudged (Unjudged u) = true
  is_unjudged _ = false

  -- A client that is left in this state after the lines `before` leaves the local `l` and the lines
  -- `own`, as `HasLeftAt` says for each allotment that the client has spent. Nothing is said where
  -- its last call is unjudged for want of memory.
  abbrev pub Leaves : (ℕ → Local → Record → List ℕ → LineEnd → Type 0) → ℕ → List ℕ → CallerState P
      → List Line → Local → List Line → Type 0
  Leaves says n operations s before l own =
      is_unjudged s ≡ false → (allotment : ℕ) → Spent allotment (length before) s
      → HasLeftAt says n operations allotment (phases_at (length before) s) l own
