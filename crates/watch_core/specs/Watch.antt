-- Watches, as clauses see them.
use Rattle.std.specs.Prelude.{◌≡◌, ℕ, List, ◌++◌, length, Option, Some, None}
use Rattle.seq_objects.specs.declared.kind.Kind.{Kind}
use Rattle.seq_objects.specs.Objects.{kind_spec}
use Rattle.streams.specs.Stream.{StreamEvent, IsValidStream}
use Rattle.streams.specs.StreamOrder.{HasLegalStreamOrder}
use Rattle.late_residue.specs.declared.open_call.OpenCall.{OpenCall}
use Rattle.watch_core.specs.declared.verdict.Verdict.{Verdict}
use Rattle.watch_core.specs.declared.verdict.Verdict.TheVariants.{Legal, Illegal, Unsure}
use Rattle.watch_core.specs.Table.{IsTable}
use Rattle.watch_core.specs.Part.{Parted}
use Rattle.watch_core.specs.Parts.{AreHeld}
use Rattle.watch_core.specs.Verdict.{IsIllegalFrom, IsUnsureAt}

-- A watch: the kind of its object, its limit, how many events it has taken, up to which event it
-- knows replies, the open calls, the parts by key, and the verdict once it is final.
pub record Watched : Type 0 where
  pub kind : Kind
  pub limit : ℕ
  pub taken : ℕ
  pub seen : ℕ
  pub calls : List OpenCall
  pub parts : List (ℕ × Parted)
  pub last : Option Verdict

-- What a watch holds of a stream and of later events, of which it knows replies from the near ones
-- alone: where the verdict isn't final, each key's part is held, and the stream has a legal order;
-- where it is final, it is right, and isn't `Legal`.
abbrev pub IsHeld : Kind → ℕ → List StreamEvent → List StreamEvent → List StreamEvent
    → List (ℕ × Parted) → Option Verdict → Type 0
IsHeld kind limit stream later near parts None = AreHeld kind stream near parts
    × HasLegalStreamOrder (kind_spec kind) stream
IsHeld kind limit stream later near parts (Some (Legal number)) = ⊥
IsHeld kind limit stream later near parts (Some (Illegal first last)) =
    IsIllegalFrom (kind_spec kind) (stream ++ later) first last
IsHeld kind limit stream later near parts (Some (Unsure number)) =
    IsUnsureAt kind limit (stream ++ later) number

-- A watch has taken the events of a stream, which is valid, in this order and no others, and what
-- it knows of replies is known from the first ones of later events, up to the event of the number
-- `seen`.
pub record HasTaken (watch : Watched) (stream later : List StreamEvent) : Type 0 where
  pub valid : IsValidStream stream
  pub count : watch.taken ≡ length stream
  pub table : IsTable stream watch.calls
  pub near : List StreamEvent
  pub far : List StreamEvent
  pub split : later ≡ near ++ far
  pub seen : watch.seen ≡ length (stream ++ near)
  pub held : IsHeld watch.kind watch.limit stream later near watch.parts watch.last
