-- Callers of a bench that watch: as they leave the bench, after their rounds, and back on it.
use Rattle.std.specs.Prelude.{◌≡◌, ◌≢◌, ℕ, None, Some}
use Rattle.book_base.specs.SeqSpec.{SeqSpec}
use Rattle.world_core.specs.Shape.{Meaning}
use Rattle.world_core.specs.Local.{Local, IsIdle}
use Rattle.report_lines.specs.Phases.{progress_of}
use Rattle.row_table.specs.declared.rows.Rows.{Rows}
use Rattle.row_table.specs.declared.bench.Bench.{Bench}
use Rattle.row_table.specs.Callers.{who_of, on_bench, stance_on}
use Rattle.drv_wrapper.specs.Stands.{ready}
use Rattle.monitor.specs.declared.board.Board.{Board}
use Rattle.monitor.specs.declared.monitor.Monitor.{Monitor}
use Rattle.monitor.specs.declared.watch.Watch.{Watch}
use Rattle.monitor.specs.declared.beside.Left.{Left}
use Rattle.monitor.specs.Rounds.{HasRounds}
use Rattle.monitor.specs.Monitors.{caller_of, local_of, own_of, IsMonitorOf}
use Rattle.monitor.specs.Watching.{IsFresh}

module _ {P : Type 0} where
  -- Bench `b` holds caller i live and idle, with local `l`.
  pub record IsFreeOn (b : Bench P) (i : ℕ) (l : Local) : Type 0 where
    pub here : on_bench b i ≡ Some l
    pub stance : stance_on b i ≡ Some ready
    pub idle : IsIdle l

  -- Bench `c` has the local and the stance of caller i that bench `b` has, or neither bench has
  -- any.
  pub record IsUnmoved (b c : Bench P) (i : ℕ) : Type 0 where
    pub local : on_bench c i ≡ on_bench b i
    pub stance : stance_on c i ≡ stance_on b i

  -- The watch `w` has made no round: its monitor is caller i with local `l`, belongs to `r` and
  -- `b`, has found no witness, and may make `most` rounds.
  pub record IsWatchOf (meaning : P → ℕ → ℕ → Meaning) (r : Rows P) (b : Board) (i : ℕ) (l : Local)
      (most : ℕ) (w : Watch P) : Type 0 where
    pub monitor : Monitor P
    pub here : w.monitor ≡ Some monitor
    pub fresh : IsFresh meaning r b monitor
    pub who : who_of (caller_of monitor) ≡ i
    pub local : local_of monitor ≡ l
    pub rounds : w.rounds ≡ most

  -- The watch `w` has made its rounds: its monitor is caller i of the rows `r`, with the progress
  -- of local `l`. It made `most` legal rounds, or at most `most` of which the last one alone is
  -- illegal; or it was cut short for want of memory.
  pub record HasWatchedAs (spec : SeqSpec) (meaning : P → ℕ → ℕ → Meaning) (r : Rows P) (i : ℕ)
      (l : Local) (most : ℕ) (w : Watch P) : Type 0 where
    pub monitor : Monitor P
    pub here : w.monitor ≡ Some monitor
    pub of : IsMonitorOf meaning r monitor
    pub who : who_of (caller_of monitor) ≡ i
    pub progress : progress_of (local_of monitor) ≡ progress_of l
    pub rounds : HasRounds spec r.callers w.wants_memory most l (local_of monitor)
        (own_of monitor)

  -- The watch `w` has its monitor, whose caller belongs to the rows `r` and isn't on the bench `b`.
  pub record IsAtHand (meaning : P → ℕ → ℕ → Meaning) (r : Rows P) (b : Bench P)
      (w : Watch P) : Type 0 where
    pub monitor : Monitor P
    pub here : w.monitor ≡ Some monitor
    pub of : IsMonitorOf meaning r monitor
    pub gone : on_bench b (who_of (caller_of monitor)) ≡ None

  -- From bench `b` to bench `c` the caller of watch `w` came back, live and idle, with its local
  -- unchanged, and all other callers stayed. `left` has the own witness of the watch's monitor, and
  -- whether it lacked memory.
  pub record ComesBack (b c : Bench P) (w : Watch P) (left : Left) : Type 0 where
    pub monitor : Monitor P
    pub here : w.monitor ≡ Some monitor
    pub back : IsFreeOn c (who_of (caller_of monitor)) (local_of monitor)
    pub found : left.own ≡ own_of monitor
    pub wanted : left.wants_memory ≡ w.wants_memory
    pub others : (i : ℕ) → i ≢ who_of (caller_of monitor) → IsUnmoved b c i

  -- Caller i, which left the bench with local `l`, is back on it, live and idle, with its progress
  -- unchanged. It made its rounds, at most `most`, with the own witness that `left` has; or it was
  -- cut short for want of memory, and left no witness.
  pub record IsBackFrom (spec : SeqSpec) (n : ℕ) (b : Bench P) (i : ℕ) (l : Local) (most : ℕ)
      (left : Left) : Type 0 where
    pub local : Local
    pub here : IsFreeOn b i local
    pub progress : progress_of local ≡ progress_of l
    pub rounds : HasRounds spec n left.wants_memory most l local left.own
