-- The parts of a stream by key.
use Rattle.std.specs.Prelude.{◌≡◌, ℕ, ◌<◌, ◌⊎◌, ◌↔◌, List, [], ◌∷◌, ◌++◌, length, Some, slice_get}
use Rattle.book_base.specs.SeqSpec.{SeqSpec}
use Rattle.streams.specs.Stream.{StreamEvent, process_of, Ends, IsCalledAt, IsQuiet, IsValidStream}
use Rattle.streams.specs.StreamOrder.{HasLegalStreamOrder}
use Rattle.smaller_book.specs.Part.{AreRising}
use Rattle.locality.specs.Locality.{IsProduct}

-- The event at a place of a stream ends a call: it is a return or a loss, and the first event of the
-- call's process after the call.
pub record EndsCall (stream : List StreamEvent) (call process place : ℕ) : Type 0 where
  pub event : StreamEvent
  pub at : slice_get stream place ≡ Some event
  pub own : process_of event ≡ process
  pub ends : Ends event
  pub after : call < place
  pub quiet : IsQuiet stream process call place

-- the event at a place of a stream is a call of a process, or ends it
abbrev pub BelongsTo : List StreamEvent → ℕ → ℕ → ℕ → Type 0
BelongsTo stream call process place = (place ≡ call) ⊎ EndsCall stream call process place

-- a place is one of some places
abbrev pub IsOneOf : List ℕ → ℕ → Type 0
IsOneOf places place = (j : ℕ) × (slice_get places j ≡ Some place)

-- the event at a place of a stream is a call with a key, or ends one
abbrev pub IsOfKey : (ℕ → ℕ) → ℕ → List StreamEvent → ℕ → Type 0
IsOfKey key k stream place = (call : ℕ) × (process : ℕ) × (op : ℕ)
    × IsCalledAt stream call process op × (key op ≡ k) × BelongsTo stream call process place

-- A stream is the part of a key of a whole one: it has exactly the events of the calls whose
-- operation words have this key, in their order. The places are those of its events in the whole
-- stream.
pub record IsStreamOfKey (key : ℕ → ℕ) (k : ℕ) (whole : List StreamEvent) (places : List ℕ)
    (part : List StreamEvent) : Type 0 where
  pub long : length part ≡ length places
  pub rising : AreRising places
  pub same : (j place : ℕ) → slice_get places j ≡ Some place
      → slice_get part j ≡ slice_get whole place
  pub events : (place : ℕ) → (IsOneOf places place ↔ IsOfKey key k whole place)

-- The part of a key of a valid stream is valid.
abbrev pub PartsAreValid : Type 0
PartsAreValid = (key : ℕ → ℕ) (k : ℕ) (whole : List StreamEvent) (places : List ℕ)
    (part : List StreamEvent) → IsValidStream whole → IsStreamOfKey key k whole places part
    → IsValidStream part

-- Each stream has a part of each key.
abbrev pub PartsExist : Type 0
PartsExist = (key : ℕ → ℕ) (k : ℕ) (whole : List StreamEvent)
    → (places : List ℕ) × (part : List StreamEvent) × IsStreamOfKey key k whole places part

-- One more event of the key is the last one of its part, and one of another key leaves the part as
-- it is.
abbrev pub PartsGrow : Type 0
PartsGrow = (key : ℕ → ℕ) (k : ℕ) (stream : List StreamEvent) (event : StreamEvent)
    (places : List ℕ) (part : List StreamEvent) → IsStreamOfKey key k stream places part
    → (IsOfKey key k (stream ++ event ∷ []) (length stream)
    → IsStreamOfKey key k (stream ++ event ∷ []) (places ++ length stream ∷ [])
    (part ++ event ∷ []))
    × ((IsOfKey key k (stream ++ event ∷ []) (length stream) → ⊥)
    → IsStreamOfKey key k (stream ++ event ∷ []) places part)

-- The part of a longer stream begins with the part of the stream.
abbrev pub PartsContinue : Type 0
PartsContinue = (key : ℕ → ℕ) (k : ℕ) (stream later : List StreamEvent) (places : List ℕ)
    (part : List StreamEvent) → IsStreamOfKey key k stream places part
    → (more : List ℕ) × (rest : List StreamEvent)
    × IsStreamOfKey key k (stream ++ later) (places ++ more) (part ++ rest)

-- A product has a legal order of a stream exactly where each of its objects has one of the part of
-- its key (Herlihy and Wing 1990, theorem 1).
abbrev pub StreamLocality : Type 0
StreamLocality =
    (key : ℕ → ℕ) (list_of : ℕ → List ℕ → List ℕ) (objects : ℕ → SeqSpec) (product : SeqSpec)
    (whole : List StreamEvent) (places : ℕ → List ℕ) (parts : ℕ → List StreamEvent)
    → IsProduct key list_of objects product
    → ((k : ℕ) → IsStreamOfKey key k whole (places k) (parts k))
    → (HasLegalStreamOrder product whole ↔ ((k : ℕ) → HasLegalStreamOrder (objects k) (parts k)))
