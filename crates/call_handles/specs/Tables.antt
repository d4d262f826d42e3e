-- The handle of a table: its parts, when it is sound, and which callers it gives.
use Rattle.std.specs.Prelude.{◌≡◌, ℕ, ◌<◌, ◌≤◌, None, Some}
use Rattle.std.specs.Arc.{arc_value}
use Rattle.world_core.specs.declared.program.Outside.{Outside}
use Rattle.world_core.specs.Local.{fresh}
use Rattle.seq_objects.specs.declared.kind.Kind.{Kind}
use Rattle.row_table.specs.declared.caller.Caller.{Caller}
use Rattle.row_table.specs.declared.rows.Rows.{Rows}
use Rattle.row_table.specs.Callers.{who_of, local_with, stance_of, on_bench, stance_on, IsBenchOf}
use Rattle.drv_wrapper.specs.Stands.{ready}
use Rattle.monitor.specs.Monitors.{caller_of, local_of, own_of}
use Rattle.call_handles.specs.declared.caller_handle.CallerHandle.{CallerHandle}
use Rattle.call_handles.specs.declared.monitor_handle.MonitorHandle.{MonitorHandle}
use Rattle.call_handles.specs.declared.stage.HandleStage.TheVariants.{Idle}
use Rattle.call_handles.specs.declared.table_handle.TableHandle.{TableHandle}
use Rattle.announced_calls.specs.Outside.{every_reply}
use Rattle.call_handles.specs.Callers.{rows_of, kind_of, stage_of}
use Rattle.call_handles.specs.Monitors.{rows_watched, kind_watched, monitor_in}

-- The rows of a table's handle.
abbrev pub rows_in : TableHandle → Rows Outside
rows_in t = arc_value t.rows

-- The kind by which the calls of a table are judged.
abbrev pub kind_in : TableHandle → Kind
kind_in t = t.kind

-- The number of the caller that a table's handle gives next.
abbrev pub next_of : TableHandle → ℕ
next_of t = t.next

-- A table's handle is sound: its bench is a bench of its rows, and has each caller that wasn't
-- given, as a caller is at the start.
pub record IsSoundTable (t : TableHandle) : Type 0 where
  pub bench : IsBenchOf every_reply (rows_in t) t.bench
  pub few : t.next ≤ (rows_in t).callers
  pub fresh_from : (i : ℕ) → t.next ≤ i → i < (rows_in t).callers
      → (on_bench t.bench i ≡ Some fresh) × (stance_on t.bench i ≡ Some ready)

-- The handle u is t after a step: it has the rows and the kind of t, and gives caller n next.
abbrev pub GivesNext : ℕ → TableHandle → TableHandle → Type 0
GivesNext n t u = (rows_in u ≡ rows_in t) × (kind_in u ≡ kind_in t) × (next_of u ≡ n)

-- The handle is of this caller of the table, which has made no call.
abbrev pub IsFreshOf : TableHandle → ℕ → CallerHandle → Type 0
IsFreshOf t who h =
    (rows_of h ≡ rows_in t) × (kind_of h ≡ kind_in t)
    × ((c : Caller Outside) × (stage_of h ≡ Idle c) × (who_of c ≡ who) × (local_with c ≡ fresh)
    × (stance_of c ≡ ready))

-- The handle is of this caller of the table as a monitor, which has made no round.
abbrev pub IsFreshMonitorOf : TableHandle → ℕ → MonitorHandle → Type 0
IsFreshMonitorOf t who h =
    (rows_watched h ≡ rows_in t) × (kind_watched h ≡ kind_in t)
    × (who_of (caller_of (monitor_in h)) ≡ who)
    × (local_of (monitor_in h) ≡ fresh) × (own_of (monitor_in h) ≡ None)
