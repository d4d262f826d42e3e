-- Workers that take turns.
use Rattle.std.specs.Prelude.{◌≡◌, ℕ, ◌+◌, ◌*◌, ◌≤◌, min, Option, Some, length, slice_index}
use Rattle.book_base.specs.SeqSpec.{SeqSpec}
use Rattle.world_core.specs.Shape.{Meaning}
use Rattle.row_table.specs.declared.rows.Rows.{Rows}
use Rattle.client_calls.specs.Asking.{Fits, PassCount}
use Rattle.client_calls.specs.Stands.{GoesOnFrom}
use Rattle.client_calls.specs.Clients.{phases_by, HasSpent, Says, IsAtWork}
use Rattle.client_calls.specs.declared.client.Client.{Client}
use Rattle.run_report.specs.Starts.{RunCourse, IsClientOf}
use Rattle.run_report.specs.declared.worker.Worker.{Worker}

module _ {P T E : Type 0} (meaning : P → ℕ → ℕ → Meaning) (r : Rows P) (says : Says)
    (object : E → SeqSpec) (fits : Fits T) (count : T → Option PassCount) where
  -- The worker is that of caller i after this many turns that named it. Its client has made a phase
  -- at each of them, but none beyond its allotment, or was halted before. Where it isn't halted,
  -- the worker has the other phases of the allotment left.
  pub record IsTurned (course : RunCourse) (i turns : ℕ) (w : Worker P T E) : Type 0 where
    pub client : Client P T E
    pub here : w.client ≡ Some client
    pub of : IsClientOf meaning r says object fits count course i client
    pub spent : HasSpent (min (slice_index course.allotments i) turns) client
    pub left : GoesOnFrom client.stand
        → phases_by client + w.allotment ≡ slice_index course.allotments i
    pub within : slice_index course.allotments i ≤ 5 * length client.sheet.operations.now

  -- A worker may take a turn: its client is at work, and, where it isn't halted, has at least as
  -- many phases left as the worker is to make.
  pub record IsTurning (w : Worker P T E) : Type 0 where
    pub client : Client P T E
    pub here : w.client ≡ Some client
    pub work : IsAtWork meaning r says object fits count client
    pub left : GoesOnFrom client.stand
        → phases_by client + w.allotment ≤ 5 * length client.sheet.operations.now
