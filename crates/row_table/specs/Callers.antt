-- To which table a caller and a bench belong, which locals they have, and which stances.
use Rattle.std.specs.Prelude.{◌≡◌, ℕ, ◌<◌, List, Option, Some, None, map, length, slice_index_or, IsTrue}
use Rattle.world_core.specs.declared.region.Region.{Region}
use Rattle.world_core.specs.Shape.{Meaning, Shape}
use Rattle.world_core.specs.Local.{Local, IsIdle}
use Rattle.world_core.specs.Calls.{IsLocalOf}
use Rattle.row_table.specs.Holders.{has}
use Rattle.row_table.specs.Seats.{the, Together}
use Rattle.row_table.specs.Shapes.{shape_for}
use Rattle.row_table.specs.Stances.{opening_by}
use Rattle.row_table.specs.Actions.{opening_in}
use Rattle.row_table.specs.Benches.{fresh_stance}
use Rattle.world_core.specs.Event as event
use Rattle.row_table.specs.declared.stance.Stance.{Stance}
use Rattle.row_table.specs.declared.plays.Key.{Key}
use Rattle.row_table.specs.declared.caller.CallerSeat.{CallerSeat}
use Rattle.row_table.specs.declared.caller.Caller.{Caller}
use Rattle.row_table.specs.declared.bench.Kept.{Kept}
use Rattle.row_table.specs.declared.bench.Bench.{Bench}
use Rattle.row_table.specs.declared.rows.Rows.{Rows}

-- The local that a caller's seat has of its caller.
abbrev pub seated : CallerSeat → Local
seated seat = the (has seat.seat.me.0 seat.who)

-- The stance that a bench keeps of a caller, where it keeps the caller.
abbrev pub kept_stance : Option Kept → Option Stance
kept_stance None = None
kept_stance (Some kept) = Some kept.stance

module _ {P : Type 0} where
  -- The key that a table of rows was made with: its program, its number of callers, its cap and its
  -- number of object words.
  abbrev pub key_of : Rows P → Key P
  key_of r = record { program = r.program; callers = r.callers; cap = r.cap; objects = r.objects }

  -- The shape of the world that a table of rows is in, by what its program means.
  abbrev pub shape_of : (P → ℕ → ℕ → Meaning) → Rows P → Shape
  shape_of meaning r = shape_for meaning (key_of r)

  -- The number of a caller.
  abbrev pub who_of : Caller P → ℕ
  who_of c = c.seat.who

  -- The local that a caller has.
  abbrev pub local_with : Caller P → Local
  local_with c = seated c.seat

  -- The stance of a caller: whether it makes calls, what it means to begin, and the reply that it
  -- keeps.
  abbrev pub stance_of : Caller P → Stance
  stance_of c = c.stance

  -- What the next look of a caller begins.
  abbrev pub opening_of : Caller P → event.Opening
  opening_of c = opening_in (opening_by c.stance)

  -- The local that a bench has of a caller, where it has one.
  abbrev pub on_bench : Bench P → ℕ → Option Local
  on_bench b i = has b.seat.me.0 i

  -- The stance that a bench has of a caller, where it has one.
  abbrev pub stance_on : Bench P → ℕ → Option Stance
  stance_on b i = kept_stance (slice_index_or b.places.items i None)

  -- The local that a bench has of each caller, by caller; of a caller of whom it has none, the
  -- local at the start.
  abbrev pub locals_on : Bench P → List Local
  locals_on b = map the b.seat.me.0

  -- A caller's seat belongs to the table `r`: it is a seat of this table, its caller is one of the
  -- table's callers, and the local that it has is that caller's in some reachable world.
  pub record IsSeatOf (meaning : P → ℕ → ℕ → Meaning) (r : Rows P)
      (seat : CallerSeat) : Type 0 where
    pub table : seat.seat.table_id ≡ r.table.shared.table_id
    pub who : seat.who < r.callers
    pub local : IsLocalOf (shape_of meaning r) seat.who (seated seat)

  -- A caller belongs to the table `r`: its seat belongs to it, and the caller has the table's
  -- program, number of callers and cap.
  pub record IsCallerOf (meaning : P → ℕ → ℕ → Meaning) (r : Rows P) (c : Caller P) : Type 0 where
    pub seat : IsSeatOf meaning r c.seat
    pub program : c.program ≡ r.program
    pub callers : c.callers ≡ r.callers
    pub cap : c.cap ≡ r.cap

  -- A bench belongs to the table `r`: its seat is one of this table, it has the table's number of
  -- callers and cap, and its locals, one at most for each caller, are those of one reachable world.
  pub record IsBenchOf (meaning : P → ℕ → ℕ → Meaning) (r : Rows P) (b : Bench P) : Type 0 where
    pub table : b.seat.table_id ≡ r.table.shared.table_id
    pub callers : b.callers ≡ r.callers
    pub cap : b.cap ≡ r.cap
    pub wide : length b.seat.me.0 ≡ r.callers
    pub together : Together (shape_of meaning r) b.seat.me.0

  -- A bench holds a caller where it has a local of this caller.
  abbrev pub Holds : Bench P → ℕ → Type 0
  Holds b i = (l : Local) × (on_bench b i ≡ Some l)

  -- A bench holds each of its callers.
  abbrev pub HoldsAll : Bench P → Type 0
  HoldsAll b = (i : ℕ) → i < b.callers → Holds b i

  -- A caller is free for its next call: it is idle, makes calls, means to begin no scan, and keeps
  -- no reply.
  pub record IsFree (c : Caller P) : Type 0 where
    pub idle : IsIdle (local_with c)
    pub stance : stance_of c ≡ fresh_stance

  -- A bench holds a caller free for its next call: the local that it has of the caller is idle, and
  -- the stance that it keeps is the one of the start.
  pub record HoldsFree (b : Bench P) (i : ℕ) : Type 0 where
    pub local : Local
    pub here : on_bench b i ≡ Some local
    pub idle : IsIdle local
    pub stance : stance_on b i ≡ Some fresh_stance

  -- The caller's program allows the caller this reply, by its local.
  abbrev pub MayGet : (P → ℕ → ℕ → Meaning) → Caller P → ℕ → Type 0
  MayGet meaning c reply =
      IsTrue ((meaning c.program c.callers c.cap).may_reply (who_of c) (local_with c) reply)

  -- Caller `d` belongs to each table of rows to which caller `c` belongs.
  abbrev pub StaysWith : Caller P → Caller P → Type 0
  StaysWith c d = (meaning : P → ℕ → ℕ → Meaning) (r : Rows P) → IsCallerOf meaning r c
      → IsCallerOf meaning r d

  -- Caller `d` belongs to the table `r`, and has the number of caller `c`.
  abbrev pub IsStill : (P → ℕ → ℕ → Meaning) → Rows P → Caller P → Caller P → Type 0
  IsStill meaning r c d = IsCallerOf meaning r d × (who_of d ≡ who_of c)

  -- The local of caller `d` is that of caller `c` after this event.
  abbrev pub HasDone : Rows P → Caller P → Caller P → event.Event → Type 0
  HasDone r c d e = local_with d ≡ event.local_after r.callers (local_with c) e

  -- The next look of the caller, at the count of caller `j` in a region, may begin what the caller
  -- means it to begin.
  abbrev pub MayBegin : (P → ℕ → ℕ → Meaning) → Rows P → Caller P → Region → ℕ → Type 0
  MayBegin meaning r c region j =
      IsTrue
      (event.may_begin (shape_of meaning r) (who_of c) (local_with c) region j (opening_of c))

  -- The caller may stage this word: its row exists, and the word belongs at this place of it.
  abbrev pub MayStage : (P → ℕ → ℕ → Meaning) → Rows P → Caller P → Region → ℕ → ℕ → Type 0
  MayStage meaning r c region place word =
      IsTrue (event.is_enabled (shape_of meaning r) (who_of c) (local_with c)
      (event.Stage region place word))
