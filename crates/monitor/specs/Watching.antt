-- A monitor at work: before its rounds, and after them.
use Rattle.std.specs.Prelude.{◌≡◌, ℕ, Bool, None, Some}
use Rattle.book_base.specs.SeqSpec.{SeqSpec}
use Rattle.world_core.specs.Shape.{Meaning}
use Rattle.report_lines.specs.Phases.{progress_of}
use Rattle.row_table.specs.declared.rows.Rows.{Rows}
use Rattle.monitor.specs.declared.board.Board.{Board}
use Rattle.monitor.specs.declared.monitor.Monitor.{Monitor}
use Rattle.monitor.specs.declared.watch.Watch.{Watch}
use Rattle.monitor.specs.Rounds.{HasRounds}
use Rattle.monitor.specs.Monitors.{local_of, own_of, IsOn, IsMonitorOf, IsLater}

module _ {P : Type 0} where
  -- A monitor of these rows and this board has found no witness.
  pub record IsFresh (meaning : P → ℕ → ℕ → Meaning) (r : Rows P) (b : Board)
      (m : Monitor P) : Type 0 where
    pub of : IsMonitorOf meaning r m
    pub on : IsOn b m
    pub none : own_of m ≡ None

  -- A watch may begin: it has a monitor of these rows and this board that has found no witness.
  pub record IsReady (meaning : P → ℕ → ℕ → Meaning) (r : Rows P) (b : Board)
      (w : Watch P) : Type 0 where
    pub monitor : Monitor P
    pub here : w.monitor ≡ Some monitor
    pub fresh : IsFresh meaning r b monitor

  -- The monitor m has become k: its progress is unchanged, and it made its rounds, at most `most`.
  -- Where it lacked memory (`wanted`), it was cut short, and has no own witness.
  pub record HasGoneRound (spec : SeqSpec) (meaning : P → ℕ → ℕ → Meaning) (r : Rows P) (b : Board)
      (most : ℕ) (m k : Monitor P) (wanted : Bool) : Type 0 where
    pub later : IsLater meaning r b m k
    pub progress : progress_of (local_of k) ≡ progress_of (local_of m)
    pub rounds : HasRounds spec r.callers wanted most (local_of m) (local_of k) (own_of k)

  -- The watch `w` has become `d`: its monitor has made its rounds, or was cut short for want of
  -- memory.
  pub record HasWatched (spec : SeqSpec) (meaning : P → ℕ → ℕ → Meaning) (r : Rows P) (b : Board)
      (w d : Watch P) : Type 0 where
    pub before : Monitor P
    pub after : Monitor P
    pub was : w.monitor ≡ Some before
    pub is : d.monitor ≡ Some after
    pub round : HasGoneRound spec meaning r b w.rounds before after d.wants_memory
