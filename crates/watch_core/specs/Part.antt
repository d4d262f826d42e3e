-- What a watch holds of one key's part of a stream.
use Rattle.std.specs.Prelude.{◌≡◌, ◌⊎◌, ℕ, ◌+◌, ◌<◌, ◌^◌, false, List, [], ◌∷◌, ◌++◌, length, Option, Some, None, ⊤}
use Rattle.book_base.specs.SeqSpec.{SeqSpec}
use Rattle.streams.specs.Stream.{StreamEvent, Called, Returned, Lost, IsWaiting, IsValidStream}
use Rattle.late_residue.specs.Description.{Description}
use Rattle.late_residue.specs.declared.open_call.OpenCall.{OpenCall}
use Rattle.late_residue.specs.Reached.{Has}
use Rattle.late_residue.specs.Known.{MayHaveReply}
use Rattle.late_residue.specs.LateOnes.{AreLate}
use Rattle.watch_core.specs.Table.{IsTable, Derives}

-- A part: how many events it has, its open calls, whose numbers are counted in the part, and the
-- descriptions of its residue.
pub record Parted : Type 0 where
  pub taken : ℕ
  pub calls : List OpenCall
  pub residue : List Description

-- A part is that of the events of a key: its descriptions are their residue, as far as
-- replies are known.
pub record IsPartOf (spec : SeqSpec) (part : Parted) (events : List StreamEvent) : Type 0 where
  pub count : part.taken ≡ length events
  pub table : IsTable events part.calls
  pub late : AreLate spec events part.calls part.residue

-- Of a key's events a part is held, or there are none.
abbrev pub IsHeldAt : SeqSpec → Option Parted → List StreamEvent → Type 0
IsHeldAt spec None events = events ≡ []
IsHeldAt spec (Some part) events = IsPartOf spec part events

-- the open calls of a part, if there is one
abbrev pub calls_at : Option Parted → List OpenCall
calls_at None = []
calls_at (Some part) = part.calls

-- the descriptions of a part's residue, if there is one
abbrev pub residue_at : Option Parted → List Description
residue_at None = []
residue_at (Some part) = part.residue

-- An event returns no open call with another reply than the known one.
abbrev pub RepliesAsKnown : List StreamEvent → List OpenCall → StreamEvent → Type 0
RepliesAsKnown events calls (Called process op) = ⊤
RepliesAsKnown events calls (Returned process reply) = (one : OpenCall) → Has calls one
    → IsWaiting events process one.call → MayHaveReply one reply
RepliesAsKnown events calls (Lost process) = ⊤

-- A part takes the next event of its key, and no more replies are known of its calls.
pub record TakesEvent (spec : SeqSpec) (event : StreamEvent)
    (old new : Option Parted) : Type 0 where
  pub held : (events : List StreamEvent) → length events + 1 < 2 ^ 64
      → IsValidStream (events ++ event ∷ []) → RepliesAsKnown events (calls_at old) event
      → IsHeldAt spec old events → IsHeldAt spec new (events ++ event ∷ [])
  pub known : Derives (calls_at old) (calls_at new)

-- A part is told with which reply the pending call of a process will return. Of no other call a
-- reply is known that wasn't.
pub record IsTold (spec : SeqSpec) (process reply : ℕ) (old new : Option Parted) : Type 0 where
  pub held : (events : List StreamEvent)
      → RepliesAsKnown events (calls_at old) (Returned process reply)
      → IsHeldAt spec old events → IsHeldAt spec new events
  pub known : (one : OpenCall) → Has (calls_at new) one → (known : ℕ) → one.reply ≡ Some known
      → ((old_one : OpenCall) × Has (calls_at old) old_one × (old_one.call ≡ one.call)
      × (old_one.reply ≡ Some known))
      ⊎ ((one.process ≡ process) × (one.is_lost ≡ false) × (reply ≡ known))

-- a part holds what another one holds
pub record Copies (one copy : Option Parted) : Type 0 where
  pub held : (spec : SeqSpec) (events : List StreamEvent) → IsHeldAt spec one events
      → IsHeldAt spec copy events
  pub known : Derives (calls_at one) (calls_at copy)
