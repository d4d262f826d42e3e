-- What a watch holds of a stream, by key.
use Rattle.std.specs.Prelude.{◌≡◌, ◌≢◌, ◌↔◌, ℕ, nat_eq, List, [], ◌∷◌, ◌++◌, length, Option, Some, slice_get}
use Rattle.std.specs.List.{sum_by}
use Rattle.std.specs.Map.{lookup}
use Rattle.book_base.specs.SeqSpec.{SeqSpec}
use Rattle.seq_objects.specs.declared.kind.Kind.{Kind}
use Rattle.seq_objects.specs.Objects.{kind_spec}
use Rattle.streams.specs.Stream.{StreamEvent, Returns}
use Rattle.late_residue.specs.declared.open_call.OpenCall.{OpenCall}
use Rattle.late_residue.specs.Reached.{Has}
use Rattle.stream_locality.specs.StreamParts.{IsOfKey, IsStreamOfKey}
use Rattle.stream_locality.specs.KindKeys.{key_of_kind}
use Rattle.watch_core.specs.Part.{Parted, IsHeldAt, TakesEvent, IsTold, calls_at}

-- The replies that are known of a part's open calls are those with which these return in a whole
-- stream, where the events of the part have some places.
abbrev pub AreKnownAt : List StreamEvent → List ℕ → List OpenCall → Type 0
AreKnownAt whole places calls = (one : OpenCall) → Has calls one → (reply : ℕ)
    → one.reply ≡ Some reply → (call : ℕ) × (end : ℕ)
    × (slice_get places one.call ≡ Some call) × Returns whole call end reply

-- What is held of a key's part of a stream: a part of its events, and what is known of replies is
-- known from some near events that follow on the stream.
pub record IsHeldOfKey (kind : Kind) (k : ℕ) (stream near : List StreamEvent)
    (part : Option Parted) : Type 0 where
  pub places : List ℕ
  pub events : List StreamEvent
  pub of_key : IsStreamOfKey (key_of_kind kind) k stream places events
  pub held : IsHeldAt (kind_spec kind) part events
  pub known : AreKnownAt (stream ++ near) places (calls_at part)

-- of each key's part of a stream the part of this key is held
abbrev pub AreHeld : Kind → List StreamEvent → List StreamEvent → List (ℕ × Parted) → Type 0
AreHeld kind stream near parts = (k : ℕ)
    → IsHeldOfKey kind k stream near (lookup (nat_eq k) parts)

-- The event that follows on a stream is of a key, and of no other one.
abbrev pub IsNextOfKey : Kind → ℕ → List StreamEvent → StreamEvent → Type 0
IsNextOfKey kind key stream event = (k : ℕ)
    → (IsOfKey (key_of_kind kind) k (stream ++ event ∷ []) (length stream) ↔ (key ≡ k))

-- The part of a key takes the key's next event, and the other parts stay.
pub record TakeEvent (spec : SeqSpec) (key : ℕ) (event : StreamEvent)
    (old new : List (ℕ × Parted)) : Type 0 where
  pub own : TakesEvent spec event (lookup (nat_eq key) old) (lookup (nat_eq key) new)
  pub others : (k : ℕ) → k ≢ key → lookup (nat_eq k) new ≡ lookup (nat_eq k) old

-- The part of a key is told with which reply the pending call of a process will return, and the
-- other parts stay.
pub record AreTold (spec : SeqSpec) (key process reply : ℕ) (old new : List (ℕ × Parted))
    : Type 0 where
  pub own : IsTold spec process reply (lookup (nat_eq key) old) (lookup (nat_eq key) new)
  pub others : (k : ℕ) → k ≢ key → lookup (nat_eq k) new ≡ lookup (nat_eq k) old

-- how many descriptions some parts have
abbrev pub configurations_of : List (ℕ × Parted) → ℕ
configurations_of parts = sum_by (λ e. length e.1.residue) parts
