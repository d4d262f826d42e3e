-- Which takes are placed before a call returns.
use Rattle.std.specs.Prelude.{◌≡◌, ◌↔◌, ◌⊎◌, ℕ, List, [], ◌∷◌, Option, Some, None, ⊤}
use Rattle.legal_orders.specs.Container.{Takes, Neither}
use Rattle.streams.specs.Stream.{StreamEvent}
use Rattle.streams.specs.StreamOrder.{StreamPlace, IsAmong}
use Rattle.seq_objects.specs.Replies.{reply_none, reply_value, reply_bad}
use Rattle.late_residue.specs.declared.open_call.OpenCall.{OpenCall}
use Rattle.late_residue.specs.Reached.{Has}
use Rattle.late_residue.specs.Known.{MayHaveReply}
use Rattle.late_residue.specs.Placing.{AreOf}
use Rattle.pool_residue.specs.declared.container.Container.{Container}
use Rattle.pool_residue.specs.declared.container.Container.TheVariants.{Queue, PriorityQueue}
use Rattle.pool_residue.specs.Items.{Item, effect_of, MustStandBefore, MayBeFirst, AreDistinct}
use Rattle.pool_residue.specs.Description.{Description, IsOpenPut, AreTakenAs}
use Rattle.pool_residue.specs.Steps.{MayBeTaken, IsPlacedTaking}

-- A description serves for another one: the same items are held and taken, the same calls are placed,
-- and each optional place of the other one is optional. So it means all that the other one means.
pub record Serves (one other : Description) : Type 0 where
  pub held : one.held ≡ other.held
  pub taken : one.taken ≡ other.taken
  pub placed : (place : StreamPlace) → (IsAmong one.placed place ↔ IsAmong other.placed place)
  pub optional : (place : StreamPlace) → IsAmong other.optional place → IsAmong one.optional place

-- one of some descriptions serves for another one
abbrev pub IsServed : List Description → Description → Type 0
IsServed ones other = (one : Description) × Has ones one × Serves one other

-- A take that isn't placed at a description may find nothing, and isn't optional there.
pub record MayFindNothing (container : Container) (calls : List OpenCall) (one : Description)
    : Type 0 where
  pub call : OpenCall
  pub is_open : Has calls call
  pub takes : effect_of container call.op ≡ Takes
  pub reply : MayHaveReply call reply_none
  pub unplaced : AreOf one.placed call.call → ⊥
  pub required : IsAmong one.optional (record { call = call.call; reply = reply_none }) → ⊥

-- An item must stand before another one of a value, which is held or that of an open put.
pub record Frees (container : Container) (calls : List OpenCall) (one : Description) (value : ℕ)
    (item : Item) : Type 0 where
  pub freed : Item
  pub inside : Has one.held freed ⊎ IsOpenPut container calls freed
  pub value_is : freed.value ≡ value
  pub must : MustStandBefore container item freed

-- An item of a queue has to be taken before the next return, where this is of a take that shows a
-- value, or of another call: it must stand before one of this value, or a take may still find
-- nothing. In a priority queue each item has.
abbrev pub IsNeeded : Container → List OpenCall → Option ℕ → Description → Item → Type 0
IsNeeded Queue calls (Some value) one item =
    MayFindNothing Queue calls one ⊎ Frees Queue calls one value item
IsNeeded Queue calls None one item = MayFindNothing Queue calls one
IsNeeded PriorityQueue calls shown one item = ⊤

-- No take can show a value at a description: no held item of it may be taken next, and no open put
-- of it that may stand before all held items is left besides those that are taken.
pub record CantShow (container : Container) (calls : List OpenCall) (one : Description)
    (value : ℕ) : Type 0 where
  pub none_held : (item : Item) → MayBeTaken container one.held value item → ⊥
  pub none_open : (item : Item) → IsOpenPut container calls item → item.value ≡ value
      → MayBeFirst container one.held item → (others : List Item) → AreDistinct (item ∷ others)
      → AreTakenAs container calls one.taken others → ⊥

-- A take has been tried at a description with a value that it may show: one of some descriptions
-- serves for what it leads to, if it can be placed.
abbrev pub IsTried : Container → List StreamEvent → List OpenCall → List Description
    → Description → OpenCall → ℕ → Type 0
IsTried container stream calls ones one call value =
    ((after : Description) × IsPlacedTaking container stream calls one call.call value after
    × IsServed ones after)
    ⊎ CantShow container calls one value

-- Descriptions are closed before a call returns: each take has been tried with the value of each item
-- that has to be taken, and the call that returns with the value of each item; and each call that
-- may be placed and changes nothing is optional.
pub record AreClosed (container : Container) (stream : List StreamEvent) (calls : List OpenCall)
    (returning : ℕ) (shown : Option ℕ) (ones : List Description) : Type 0 where
  pub tried : (one : Description) → Has ones one → (call : OpenCall) → Has calls call
      → effect_of container call.op ≡ Takes → (AreOf one.placed call.call → ⊥)
      → (item : Item) → (Has one.held item ⊎ IsOpenPut container calls item)
      → MayHaveReply call (reply_value item.value)
      → (call.call ≡ returning) × (shown ≡ Some item.value)
      ⊎ IsNeeded container calls shown one item
      → IsTried container stream calls ones one call item.value
  pub found_none : (one : Description) → Has ones one → one.held ≡ [] → (call : OpenCall)
      → Has calls call → effect_of container call.op ≡ Takes → (AreOf one.placed call.call → ⊥)
      → MayHaveReply call reply_none
      → IsAmong one.optional (record { call = call.call; reply = reply_none })
  pub unknown : (one : Description) → Has ones one → (call : OpenCall) → Has calls call
      → effect_of container call.op ≡ Neither → (AreOf one.placed call.call → ⊥)
      → MayHaveReply call reply_bad
      → IsAmong one.optional (record { call = call.call; reply = reply_bad })
