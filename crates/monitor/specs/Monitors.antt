-- Whose a monitor is, what it has found, what it knows of its board, and what a round costs.
use Rattle.std.specs.Prelude.{◌≡◌, ℕ, ◌+◌, ◌≤◌, Bool, List, Option, None, Some, IfSome, IsSomeAnd, length}
use Rattle.book_base.specs.SeqSpec.{SeqSpec}
use Rattle.world_core.specs.Shape.{Meaning}
use Rattle.world_core.specs.Local.{Local, IsIdle}
use Rattle.world_core.specs.Calls.{IsGathered}
use Rattle.row_table.specs.declared.rows.Rows.{Rows}
use Rattle.row_table.specs.declared.caller.Caller.{Caller}
use Rattle.row_table.specs.Callers.{who_of, local_with, stance_of, IsCallerOf}
use Rattle.collect_scan.specs.Scanned.{most_words}
use Rattle.row_gather.specs.declared.gathered.Gathered.{Gathered}
use Rattle.row_gather.specs.Gathered.{IsGatheredBy, TicksForNew}
use Rattle.drv_wrapper.specs.Stands.{ready}
use Rattle.monitor.specs.declared.witness.Witness.{Witness}
use Rattle.monitor.specs.declared.board.Board.{Board}
use Rattle.monitor.specs.declared.monitor.Monitor.{Monitor}
use Rattle.monitor.specs.declared.round.Round.{Round}
use Rattle.monitor.specs.declared.round.Round.TheVariants.{Legal, Illegal}
use Rattle.monitor.specs.Claims.{own_in, placed_in, known_in, IsClaimOn, AreOnOne}
use Rattle.monitor.specs.Rounds.{HasScannedOnce, IsLegalAt, IsIllegalAt}

-- From local `l` to local `m` a caller scanned M once, whatever cut the scan gave.
abbrev pub HasScannedSome : Local → Local → Type 0
HasScannedSome l m = (cut : List ℕ) × HasScannedOnce cut l m

-- From local `l` to local `m` a monitor of a table of n callers scanned M once, and gathered the
-- book in `g` at the cut that the scan gave.
pub record HasGathered (n : ℕ) (l m : Local) (g : Gathered) : Type 0 where
  pub once : HasScannedOnce g.cut l m
  pub book : IsGathered n m g.cut g.book

-- What a round found, by its caller's local before the round (`l`) and after it (`m`). Legal: the
-- book gathered at the cut of the round's one scan of M has a legal order, and the monitor has no
-- own witness. Illegal: that book has no legal order, and is the own witness.
abbrev pub HasFound : SeqSpec → ℕ → Local → Local → Option Witness → Round → Type 0
HasFound spec n l m own (Legal cut) = HasScannedOnce cut l m × IsLegalAt spec n m cut
    × (own ≡ None)
HasFound spec n l m own (Illegal cut) =
    HasScannedOnce cut l m × (w : Witness) × (own ≡ Some w) × (w.cut ≡ cut)
    × IsIllegalAt spec n m w

-- What a monitor of a table of n callers keeps for its next round: after a legal round the book of
-- that round, and after an illegal one none.
abbrev pub IsKeptAfter : ℕ → Round → Option Gathered → Type 0
IsKeptAfter n (Legal cut) kept = IsSomeAnd kept (λ g. (length g.book ≡ n) × (g.cut ≡ cut))
IsKeptAfter n (Illegal cut) kept = kept ≡ None

-- The counter of steps rose from `ticks` to `ticks'` by at most as many words as a scan of n
-- callers may take, and by the number of words of the book in `g` that the book kept before, if
-- there was one, lacks. Nothing is said where the book kept before isn't of n callers, or its cut
-- isn't within that of `g`.
pub record TicksForBook (n : ℕ) (before : Option Gathered) (g : Gathered)
    (ticks ticks' : ℕ) : Type 0 where
  pub scan : ℕ
  pub few : scan ≤ most_words n
  pub new : TicksForNew n before g (ticks + scan) ticks'

-- In a round the counter of steps rose by at most as many words as a scan may take, and by the
-- number of words of the round's book that the book kept before, if there was one, lacks. Nothing
-- is said where that book's cut isn't within the round's cut. The round's book is the kept one
-- after a legal round, and the own witness after an illegal one.
abbrev pub TicksForRound : ℕ → Option Gathered → Option Gathered → Option Witness → ℕ → ℕ
    → Round → Type 0
TicksForRound n before kept own ticks ticks' (Legal cut) =
    IfSome kept (λ g. TicksForBook n before g ticks ticks')
TicksForRound n before kept own ticks ticks' (Illegal cut) =
    IfSome own (λ w. TicksForBook n before (record { book = w.book; cut = w.cut }) ticks ticks')

module _ {P : Type 0} where
  -- The caller that a monitor is.
  abbrev pub caller_of : Monitor P → Caller P
  caller_of m = m.caller

  -- The local of the caller that a monitor is.
  abbrev pub local_of : Monitor P → Local
  local_of m = local_with m.caller

  -- The own witness of a monitor, where it has one.
  abbrev pub own_of : Monitor P → Option Witness
  own_of m = own_in m.claim

  -- The flag of a monitor that is true only where the board took a copy of its own witness.
  abbrev pub placed_by : Monitor P → Bool
  placed_by m = placed_in m.claim

  -- The witness on the board, where the monitor knows it.
  abbrev pub known_by : Monitor P → Option Witness
  known_by m = known_in m.claim

  -- The book that a monitor gathered last and keeps, from which its next round grows.
  abbrev pub kept_by : Monitor P → Option Gathered
  kept_by m = m.gathered

  -- A monitor belongs to a board.
  abbrev pub IsOn : Board → Monitor P → Type 0
  IsOn b m = IsClaimOn b m.claim

  -- Two monitors belong to one board.
  abbrev pub AreOfOne : Monitor P → Monitor P → Type 0
  AreOfOne m k = AreOnOne m.claim k.claim

  -- A caller of these rows is live and idle.
  pub record IsResting (meaning : P → ℕ → ℕ → Meaning) (r : Rows P) (c : Caller P) : Type 0 where
    pub caller : IsCallerOf meaning r c
    pub idle : IsIdle (local_with c)
    pub stance : stance_of c ≡ ready

  -- A monitor belongs to these rows: its caller belongs to them, is live and idle, and has gathered
  -- the book that the monitor keeps, if it keeps one.
  pub record IsMonitorOf (meaning : P → ℕ → ℕ → Meaning) (r : Rows P) (m : Monitor P) : Type 0 where
    pub resting : IsResting meaning r m.caller
    pub gathered : IsGatheredBy (local_with m.caller) m.gathered

  -- The monitor m belongs to all rows that the caller c belongs to.
  abbrev pub Becomes : Caller P → Monitor P → Type 0
  Becomes c m = (meaning : P → ℕ → ℕ → Meaning) (r : Rows P) → IsCallerOf meaning r c
      → IsMonitorOf meaning r m

  -- The monitor k is m at a later moment: it belongs to these rows and this board, and its caller
  -- has the number of m's.
  pub record IsLater (meaning : P → ℕ → ℕ → Meaning) (r : Rows P) (b : Board)
      (m k : Monitor P) : Type 0 where
    pub monitor : IsMonitorOf meaning r k
    pub who : who_of k.caller ≡ who_of m.caller
    pub on : IsOn b k
