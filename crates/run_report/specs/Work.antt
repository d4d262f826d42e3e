-- Workers that are ready, the clients that they put to work, and what these clients are once the
-- work is done.
use Rattle.std.specs.Prelude.{◌≡◌, ℕ, ◌+◌, ◌*◌, ◌≤◌, length, Option, Some}
use Rattle.book_base.specs.SeqSpec.{SeqSpec}
use Rattle.world_core.specs.Shape.{Meaning}
use Rattle.row_table.specs.declared.rows.Rows.{Rows}
use Rattle.client_calls.specs.Stands.{GoesOnFrom}
use Rattle.client_calls.specs.Asking.{Fits, PassCount}
use Rattle.client_calls.specs.Clients.{phases_by, HasSpent, Says, IsAtWork}
use Rattle.client_calls.specs.Keeping.{IsSameSheet}
use Rattle.client_calls.specs.declared.client.Client.{Client}
use Rattle.run_report.specs.declared.worker.Worker.{Worker}

-- The parameters of all definitions below: the meaning of the program, and the rows; what the ends
-- of lines say, and by which object an ending judges; whom a pass fits, and what it counts.
module _ {P T E : Type 0} (meaning : P → ℕ → ℕ → Meaning) (r : Rows P) (says : Says)
    (object : E → SeqSpec) (fits : Fits T) (count : T → Option PassCount) where
  -- A worker is ready: its caller may ask the object (`serves`), and its client is at work, isn't
  -- halted, and has at least as many phases left as the worker is to make.
  pub record IsReady (serves : Type 0) (w : Worker P T E) : Type 0 where
    pub served : serves
    pub client : Client P T E
    pub here : w.client ≡ Some client
    pub work : IsAtWork meaning r says object fits count client
    pub goes : GoesOnFrom client.stand
    pub left : phases_by client + w.allotment ≤ 5 * length client.sheet.operations.now

  -- A worker has run: its client is still at work, and has made as many phases as the worker was to
  -- make, or was halted within them.
  pub record HasRun (w d : Worker P T E) : Type 0 where
    pub before : Client P T E
    pub after : Client P T E
    pub was : w.client ≡ Some before
    pub is : d.client ≡ Some after
    pub work : IsAtWork meaning r says object fits count after
    pub same : IsSameSheet object before.sheet after.sheet
    pub spent : HasSpent (phases_by before + w.allotment) after
