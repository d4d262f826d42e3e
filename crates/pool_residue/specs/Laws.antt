-- Laws of descriptions that keep no order among a container's items.
use Rattle.std.specs.Prelude.{◌≡◌, ◌≢◌, ◌↔◌, ◌⊎◌, ℕ, List, [], ◌∷◌, ◌++◌, length, Option, Some}
use Rattle.legal_orders.specs.Container.{Puts, Takes, Neither}
use Rattle.streams.specs.Stream.{StreamEvent, Called, IsValidStream}
use Rattle.streams.specs.StreamOrder.{StreamPlace, IsAmong}
use Rattle.seq_objects.specs.Replies.{reply_done, reply_none, reply_value, reply_bad}
use Rattle.residue_laws.specs.Residue.{Configuration, IsInResidue}
use Rattle.residue_laws.specs.Step.{ArePlaced, IsWithout}
use Rattle.late_residue.specs.declared.open_call.OpenCall.{OpenCall}
use Rattle.late_residue.specs.Reached.{Has}
use Rattle.late_residue.specs.Known.{MayHaveReply, IsKnownPlace, AgreesWithKnown}
use Rattle.late_residue.specs.Placing.{AreOf}
use Rattle.late_residue.specs.LateOnes.{AreOpen}
use Rattle.pool_residue.specs.declared.container.Container.{Container}
use Rattle.pool_residue.specs.Items.{Item, spec_of, effect_of}
use Rattle.pool_residue.specs.Description.{Description, IsOpenPut, Means}
use Rattle.pool_residue.specs.Pooled.{IsOfStream, ArePooled}
use Rattle.pool_residue.specs.Steps.{IsAllowed, IsPlacedTaking, IsPutReturned}
use Rattle.pool_residue.specs.Closing.{AreClosed}

-- all that a description means is in the residue of a stream, and agrees with what is known
abbrev pub MeansReached : Container → List StreamEvent → List OpenCall → Description → Type 0
MeansReached container stream calls one = (at : Configuration) → Means container calls one at
    → IsInResidue (spec_of container) stream at × AgreesWithKnown calls at

-- The descriptions of a stream are those of the stream with one more call, which is open then.
abbrev pub CallsStay : Type 0
CallsStay = (container : Container) (stream : List StreamEvent) (process op : ℕ)
    (calls more : List OpenCall) (new : OpenCall) → new.call ≡ length stream
    → ((one : OpenCall) → Has more one → Has calls one ⊎ (one ≡ new))
    → ((one : OpenCall) → Has calls one → Has more one) → AreOpen stream calls
    → AreOpen (stream ++ Called process op ∷ []) more
    → IsValidStream (stream ++ Called process op ∷ []) → (ones : List Description)
    → ArePooled container stream calls ones
    → ArePooled container (stream ++ Called process op ∷ []) more ones

-- What a description means after a take is placed that shows a value is reached, where what it means
-- before is.
abbrev pub TakesAreSound : Type 0
TakesAreSound = (container : Container) (stream : List StreamEvent) (calls : List OpenCall)
    → AreOpen stream calls → (one after : Description) → IsOfStream container stream one
    → IsOfStream container stream after → (call : OpenCall) → Has calls call
    → effect_of container call.op ≡ Takes → (value : ℕ) → (AreOf one.placed call.call → ⊥)
    → IsPlacedTaking container stream calls one call.call value after
    → MayHaveReply call (reply_value value) → MeansReached container stream calls one
    → MeansReached container stream calls after

-- A take that finds nothing may be optional where no item is held, and a call that the container
-- doesn't know anywhere.
abbrev pub OptionalCallsAreSound : Type 0
OptionalCallsAreSound = (container : Container) (stream : List StreamEvent)
    (calls : List OpenCall) → AreOpen stream calls → (one after : Description)
    → IsOfStream container stream one → IsOfStream container stream after → (call : OpenCall)
    → Has calls call → (reply : ℕ)
    → ((effect_of container call.op ≡ Takes) × (reply ≡ reply_none) × (one.held ≡ []))
    ⊎ ((effect_of container call.op ≡ Neither) × (reply ≡ reply_bad))
    → (AreOf one.placed call.call → ⊥)
    → IsAllowed (record { call = call.call; reply = reply }) one after
    → MayHaveReply call reply → MeansReached container stream calls one
    → MeansReached container stream calls after

-- Where descriptions are closed before a call returns, calls that are placed lead from a
-- configuration that one of them means to one to which further takes lead from a configuration that
-- one of them means; and the call that returns is placed at this one where it is placed in the end.
abbrev pub PlacedCallsLeadOn : Type 0
PlacedCallsLeadOn = (container : Container) (stream : List StreamEvent) (calls : List OpenCall)
    → AreOpen stream calls → (returning : ℕ) (said : Option ℕ) (ones : List Description)
    → ((one : Description) → Has ones one → IsOfStream container stream one)
    → AreClosed container stream calls returning said ones → (one : Description) → Has ones one
    → (from at : Configuration) → Means container calls one from → (rest : List StreamPlace)
    → ArePlaced (spec_of container).next stream from rest at
    → ((place : StreamPlace) → IsAmong rest place → IsKnownPlace calls place)
    → ((place : StreamPlace) → IsAmong rest place → place.call ≡ returning
    → (other : Description) → Has ones other → (item : Item)
    → place.reply ≡ reply_value item.value
    → Has other.held item ⊎ IsOpenPut container calls item → said ≡ Some item.value)
    → (other : Description) × Has ones other × (before : Configuration)
    × Means container calls other before × (takes : List StreamPlace)
    × ArePlaced (spec_of container).next stream before takes at
    × ((reply : ℕ) → IsAmong at.placed (record { call = returning; reply = reply })
    → IsAmong before.placed (record { call = returning; reply = reply }))

-- A put that returns leaves of each configuration that a description means one that the description
-- after the return means, and this one means nothing else.
abbrev pub PutsReturn : Type 0
PutsReturn = (container : Container) (stream : List StreamEvent) (calls more : List OpenCall)
    → AreOpen stream calls → (one after : Description) → IsOfStream container stream one
    → (call : OpenCall) → Has calls call → (value : ℕ)
    → effect_of container call.op ≡ Puts value → MayHaveReply call reply_done
    → ((other : OpenCall) → (Has more other ↔ Has calls other × (other.call ≢ call.call)))
    → IsPutReturned one
    (record { call = call.call; value = value; end = Some (length stream) }) after
    → (left : Configuration)
    → (Means container more after left ↔ ((at : Configuration) × Means container calls one at
    × IsAmong at.placed (record { call = call.call; reply = reply_done })
    × IsWithout call.call at left))
