-- What placed takes and returns make of descriptions.
use Rattle.std.specs.Prelude.{◌≡◌, ◌↔◌, ◌⊎◌, ℕ, ◌<◌, ◌≤◌, List, [], ◌∷◌, ◌++◌, length, Some}
use Rattle.streams.specs.Stream.{StreamEvent}
use Rattle.streams.specs.StreamOrder.{StreamPlace, IsAmong}
use Rattle.seq_objects.specs.Replies.{reply_value}
use Rattle.late_residue.specs.declared.open_call.OpenCall.{OpenCall}
use Rattle.late_residue.specs.Reached.{Has}
use Rattle.late_residue.specs.Placing.{AreOthers}
use Rattle.pool_residue.specs.declared.container.Container.{Container}
use Rattle.pool_residue.specs.Items.{Item, MayBeFirst}
use Rattle.pool_residue.specs.Description.{Description, TakenPut, AreTakenAs}

-- an entry of a list, and the list without it
pub record IsPicked {X : Type 0} (all : List X) (one : X) (rest : List X) : Type 0 where
  pub before : List X
  pub after : List X
  pub whole : all ≡ before ++ one ∷ after
  pub others : rest ≡ before ++ after

-- an item returned no later than another one
abbrev pub EndsFirst : Item → Item → Type 0
EndsFirst one other = (end : ℕ) × (one.end ≡ Some end)
    × ((later : ℕ) → other.end ≡ Some later → end ≤ later)

-- A held item of a value may be taken next.
abbrev pub MayBeTaken : Container → List Item → ℕ → Item → Type 0
MayBeTaken container held value item = Has held item × (item.value ≡ value)
    × MayBeFirst container held item

-- A held item of a value is taken: of those that may be taken next, the one that returned first.
pub record IsHeldTaken (container : Container) (from : Description) (value : ℕ)
    (after : Description) : Type 0 where
  pub item : Item
  pub picked : IsPicked from.held item after.held
  pub next : MayBeTaken container from.held value item
  pub first : (other : Item) → MayBeTaken container from.held value other → EndsFirst item other
  pub taken : after.taken ≡ from.taken

-- Each put of a value that was called before the bound may stand before all held items, and no other
-- one of those that were called before the stream's end may: so a queue's bound is the least end of
-- a held item, and where none is held the length of the stream.
abbrev pub IsBound : Container → ℕ → List Item → ℕ → ℕ → Type 0
IsBound container events held value bound = (bound ≤ events) × ((item : Item) → item.value ≡ value
    → item.call < events → (MayBeFirst container held item ↔ (item.call < bound)))

-- a description is another one with one place more that is optional
pub record IsAllowed (place : StreamPlace) (from after : Description) : Type 0 where
  pub placed : after.placed ≡ from.placed
  pub optional : (other : StreamPlace)
      → (IsAmong after.optional other ↔ (place ≡ other) ⊎ IsAmong from.optional other)
  pub held : after.held ≡ from.held
  pub taken : after.taken ≡ from.taken

-- An item of a value is taken of an open put, since no held one may be taken next.
pub record IsOpenTaken (container : Container) (stream : List StreamEvent) (calls : List OpenCall)
    (from : Description) (value : ℕ) (after : Description) : Type 0 where
  pub none : (item : Item) → MayBeTaken container from.held value item → ⊥
  pub bound : ℕ
  pub is_bound : IsBound container (length stream) from.held value bound
  pub held : after.held ≡ from.held
  pub picked : IsPicked after.taken (record { value = value; bound = bound }) from.taken
  pub puts : (items : List Item) × AreTakenAs container calls after.taken items

-- A take is placed at a description, and shows a value.
pub record IsPlacedTaking (container : Container) (stream : List StreamEvent)
    (calls : List OpenCall) (from : Description) (call value : ℕ) (after : Description)
    : Type 0 where
  pub placed : (place : StreamPlace) → (IsAmong after.placed place
      ↔ (record { call = call; reply = reply_value value } ≡ place) ⊎ IsAmong from.placed place)
  pub optional : AreOthers call from.optional after.optional
  pub item : IsHeldTaken container from value after
      ⊎ IsOpenTaken container stream calls from value after

-- An item that was taken of an open put may be the item of a put that returns.
abbrev pub MayBeOf : Item → TakenPut → Type 0
MayBeOf item taken = (taken.value ≡ item.value) × (item.call < taken.bound)

-- A put returns at a description: its item is one that was taken, of those that it may be the one
-- with the least bound; or else it is held.
pub record IsPutReturned (from : Description) (item : Item) (after : Description) : Type 0 where
  pub placed : after.placed ≡ from.placed
  pub optional : after.optional ≡ from.optional
  pub moves : ((taken : TakenPut) × MayBeOf item taken × IsPicked from.taken taken after.taken
      × ((other : TakenPut) → Has from.taken other → MayBeOf item other
      → taken.bound ≤ other.bound)
      × (after.held ≡ from.held))
      ⊎ (((taken : TakenPut) → Has from.taken taken → MayBeOf item taken → ⊥)
      × (after.held ≡ from.held ++ item ∷ []) × (after.taken ≡ from.taken))
