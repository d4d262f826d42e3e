-- What is said of a stream, and why an event is refused.
use Rattle.std.specs.Prelude.{◌≡◌, ℕ, ◌+◌, ◌^◌, ◌≤◌, List, ◌∷◌, ◌++◌, length, ⊤}
use Rattle.book_base.specs.SeqSpec.{SeqSpec}
use Rattle.seq_objects.specs.declared.kind.Kind.{Kind}
use Rattle.seq_objects.specs.Objects.{kind_spec}
use Rattle.streams.specs.Stream.{StreamEvent, Called, Ends, process_of}
use Rattle.streams.specs.StreamOrder.{HasLegalStreamOrder}
use Rattle.late_residue.specs.declared.open_call.OpenCall.{OpenCall}
use Rattle.late_residue.specs.LateOnes.{AreOpen, IsBeyond}
use Rattle.late_residue.specs.Laws.{AreKnownFrom}
use Rattle.stream_locality.specs.StreamParts.{IsStreamOfKey}
use Rattle.stream_locality.specs.KindKeys.{key_of_kind}
use Rattle.watch_core.specs.declared.TheConstants.{MAX_OPEN}
use Rattle.watch_core.specs.declared.verdict.Verdict.{Verdict}
use Rattle.watch_core.specs.declared.verdict.Verdict.TheVariants.{Legal, Illegal, Unsure}
use Rattle.watch_core.specs.declared.verdict.Refused.{Refused}
use Rattle.watch_core.specs.declared.verdict.Refused.TheVariants as refused
use Rattle.watch_core.specs.Table.{Waits}

-- The first event with which a stream has no legal order is one of these, counted from 1: the
-- events before `first` have a legal order, and those up to `last` have none.
abbrev pub IsIllegalFrom : SeqSpec → List StreamEvent → ℕ → ℕ → Type 0
IsIllegalFrom spec whole first last = (before : List StreamEvent) × (event : StreamEvent)
    × (near : List StreamEvent) × (far : List StreamEvent)
    × (whole ≡ (before ++ event ∷ near) ++ far) × (first ≡ length before + 1)
    × (last ≡ length (before ++ event ∷ near)) × HasLegalStreamOrder spec before
    × (HasLegalStreamOrder spec (before ++ event ∷ near) → ⊥)

-- Before the event of this number, counted from 1, and after a legal beginning, the residue of some
-- key's part of a stream is beyond a limit, as far as replies are known from the part of the events
-- that follow.
pub record IsUnsureAt (kind : Kind) (limit : ℕ) (whole : List StreamEvent)
    (number : ℕ) : Type 0 where
  pub before : List StreamEvent
  pub after : List StreamEvent
  pub split : whole ≡ before ++ after
  pub at : number ≡ length before + 1
  pub legal : HasLegalStreamOrder (kind_spec kind) before
  pub key : ℕ
  pub places : List ℕ
  pub events : List StreamEvent
  pub of_key : IsStreamOfKey (key_of_kind kind) key before places events
  pub more : List ℕ
  pub rest : List StreamEvent
  pub of_longer : IsStreamOfKey (key_of_kind kind) key (before ++ after) (places ++ more)
      (events ++ rest)
  pub calls : List OpenCall
  pub are_open : AreOpen events calls
  pub known : AreKnownFrom events rest calls
  pub beyond : IsBeyond (kind_spec kind) events calls limit

-- A verdict is right for a stream, and for the later events from which replies are known. It is
-- legal, and the number is that of the stream's events; or it names the events one of which is the
-- first with which there is no legal order; or the event before which the limit was met.
abbrev pub IsVerdict : Kind → ℕ → List StreamEvent → List StreamEvent → Verdict → Type 0
IsVerdict kind limit stream later (Legal number) =
    (number ≡ length stream) × HasLegalStreamOrder (kind_spec kind) stream
IsVerdict kind limit stream later (Illegal first last) =
    IsIllegalFrom (kind_spec kind) (stream ++ later) first last
IsVerdict kind limit stream later (Unsure number) = IsUnsureAt kind limit (stream ++ later) number

-- an event is a call of a process
abbrev pub IsCall : StreamEvent → Type 0
IsCall event = (process : ℕ) × (op : ℕ) × (event ≡ Called process op)

-- Why an event is refused after a stream, where this many calls are open: a process calls that
-- waits, a process returns or loses a call that doesn't wait, a call comes where as many calls are
-- open as may be, the events can't be counted, or memory is lacking.
abbrev pub IsRefusal : List StreamEvent → ℕ → StreamEvent → Refused → Type 0
IsRefusal stream calls event refused.Busy = IsCall event × Waits stream (process_of event)
IsRefusal stream calls event refused.Idle = Ends event × (Waits stream (process_of event) → ⊥)
IsRefusal stream calls event refused.Open = IsCall event × (MAX_OPEN ≤ calls)
IsRefusal stream calls event refused.Full = 2 ^ 64 ≤ length stream + 1
IsRefusal stream calls event refused.NoMemory = ⊤
