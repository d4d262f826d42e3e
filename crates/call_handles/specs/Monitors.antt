-- The handle of a monitor: its parts, when it is sound, and what becomes of it by its rounds.
use Rattle.std.specs.Prelude.{◌≡◌, ℕ, List, None, Some, IfSome}
use Rattle.std.specs.Arc.{arc_value}
use Rattle.book_base.specs.Book.{Page}
use Rattle.book_base.specs.Order.{HasLegalOrder}
use Rattle.world_core.specs.declared.program.Outside.{Outside}
use Rattle.world_core.specs.Local.{Local}
use Rattle.world_core.specs.Calls.{AreTogether, local_at}
use Rattle.seq_objects.specs.declared.kind.Kind.{Kind}
use Rattle.seq_objects.specs.Objects.{kind_spec}
use Rattle.book_text.specs.BookRules.{IsBookText}
use Rattle.text_fields.specs.declared.version.Version.TheVariants.{Second}
use Rattle.row_table.specs.declared.rows.Rows.{Rows}
use Rattle.row_table.specs.Callers.{shape_of, who_of}
use Rattle.enforcer.specs.Verdicts.{OrderStandsIn}
use Rattle.monitor.specs.declared.monitor.Monitor.{Monitor}
use Rattle.monitor.specs.declared.round.Round.{Round}
use Rattle.monitor.specs.declared.round.Round.TheVariants as round
use Rattle.monitor.specs.declared.witness.Witness.{Witness}
use Rattle.monitor.specs.Monitors.{caller_of, local_of, own_of, kept_by, IsOn, IsMonitorOf, HasScannedSome, HasFound}
use Rattle.monitor.specs.Worlds.{IsRightRound}
use Rattle.call_handles.specs.declared.caller_handle.CallerHandle.{CallerHandle}
use Rattle.call_handles.specs.declared.stage.HandleStage.TheVariants.{Idle}
use Rattle.call_handles.specs.Callers.{rows_of, kind_of, stage_of}
use Rattle.call_handles.specs.declared.verdict.HandleVerdict.{HandleVerdict}
use Rattle.call_handles.specs.declared.verdict.HandleVerdict.TheVariants.{Legal, Illegal, Unjudged}
use Rattle.call_handles.specs.declared.monitor_handle.MonitorHandle.{MonitorHandle}
use Rattle.announced_calls.specs.Outside.{every_reply}

-- The rows of a monitor's handle.
abbrev pub rows_watched : MonitorHandle → Rows Outside
rows_watched h = arc_value h.rows

-- The kind by which a monitor judges.
abbrev pub kind_watched : MonitorHandle → Kind
kind_watched h = h.kind

-- The monitor of a monitor's handle.
abbrev pub monitor_in : MonitorHandle → Monitor Outside
monitor_in h = h.monitor

-- A book of the handle's kind has a legal order.
abbrev pub IsLegalFor : MonitorHandle → List Page → Type 0
IsLegalFor h book = HasLegalOrder (kind_spec h.kind) book

-- A monitor's handle is sound: the monitor belongs to the handle's rows and board, the kept order
-- stands in the book that the monitor keeps, and the book of a witness has no legal order.
pub record IsSoundMonitor (h : MonitorHandle) : Type 0 where
  pub of : IsMonitorOf every_reply (rows_watched h) h.monitor
  pub on : IsOn h.board h.monitor
  pub stands : OrderStandsIn (kind_spec h.kind) (kept_by h.monitor) h.standing
  pub none : IfSome (own_of h.monitor) (λ w. ¬ IsLegalFor h w.book)

-- The two handles are of one table, and judge by one kind.
abbrev pub IsOfSameWatch : MonitorHandle → MonitorHandle → Type 0
IsOfSameWatch h k = (rows_watched k ≡ rows_watched h) × (kind_watched k ≡ kind_watched h)

-- The monitor is the caller of a caller's handle, of its table and kind, and has no witness.
abbrev pub IsMonitorFrom : CallerHandle → MonitorHandle → Type 0
IsMonitorFrom h m = (rows_watched m ≡ rows_of h) × (kind_watched m ≡ kind_of h)
    × (stage_of h ≡ Idle (caller_of (monitor_in m))) × (own_of (monitor_in m) ≡ None)

-- The monitor has made no illegal round.
abbrev pub MayJudge : MonitorHandle → Type 0
MayJudge h = own_of h.monitor ≡ None

-- The monitor has made an illegal round, whose book is its witness.
abbrev pub HasFoundWrong : MonitorHandle → Type 0
HasFoundWrong h = (w : Witness) × (own_of h.monitor ≡ Some w)

-- The round by which the handle's monitor became the monitor m is right: by what the monitor's
-- caller has peeked, and for the book of all callers' calls at the round's cut, in whatever
-- reachable world has the local that this caller has then.
pub record IsRightOfRound (h : MonitorHandle) (m : Monitor Outside) (made : Round) : Type 0 where
  pub found : HasFound (kind_spec h.kind) (rows_watched h).callers (local_of h.monitor) (local_of m)
      (own_of m) made
  pub worlds : (locals : List Local) → AreTogether (shape_of every_reply (rows_watched h)) locals
      → local_at locals (who_of (caller_of m)) ≡ local_of m
      → IsRightRound (kind_spec h.kind) locals (own_of m) made

-- What a judgement of the monitor says: that a round was made at a cut where the published records
-- have a legal order; that one was made where they have none, with their book as the witness; or
-- that M was scanned, without a verdict and without a witness.
abbrev pub HasJudged : MonitorHandle → HandleVerdict → MonitorHandle → Type 0
HasJudged h Legal k = (cut : List ℕ) × IsRightOfRound h k.monitor (round.Legal cut)
HasJudged h Illegal k = (cut : List ℕ) × IsRightOfRound h k.monitor (round.Illegal cut)
HasJudged h Unjudged k = HasScannedSome (local_of h.monitor) (local_of k.monitor)
    × (own_of k.monitor ≡ None)

-- The bytes are the text of the book of the illegal round, which has no legal order.
abbrev pub IsFoundWitness : MonitorHandle → List ℕ → Type 0
IsFoundWitness h bytes =
    (w : Witness) × (own_of h.monitor ≡ Some w) × IsBookText Second bytes (kind_watched h) w.book
    × ¬ IsLegalFor h w.book
