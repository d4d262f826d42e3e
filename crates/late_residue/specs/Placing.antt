-- What placed calls and a return make of descriptions, by the open calls.
use Rattle.std.specs.Prelude.{◌≡◌, ◌≢◌, ◌↔◌, ◌⊎◌, ℕ, ◌<◌, Bool, IsTrue, List, ◌∷◌, Some, slice_get}
use Rattle.book_base.specs.Reaching.{Leaves}
use Rattle.book_base.specs.SeqSpec.{SeqSpec}
use Rattle.streams.specs.Stream.{StreamEvent}
use Rattle.streams.specs.StreamOrder.{StreamPlace, IsAmong}
use Rattle.residue_laws.specs.Residue.{Configuration, IsInResidue}
use Rattle.residue_laws.specs.Step.{AreAlike, IsWithout}
use Rattle.late_residue.specs.declared.open_call.OpenCall.{OpenCall}
use Rattle.late_residue.specs.Description.{Description}
use Rattle.late_residue.specs.Reached.{Has}
use Rattle.late_residue.specs.Meaning.{IsPlaceOf, AreOnce, Means, AreMeant}
use Rattle.late_residue.specs.Known.{MayHaveReply, IsKnownPlace}

-- a call is among some places, with some reply
abbrev pub AreOf : List StreamPlace → ℕ → Type 0
AreOf places call = (reply : ℕ) × IsAmong places (record { call = call; reply = reply })

-- a call is placed at a configuration, with some reply
abbrev pub IsPlacedAt : Configuration → ℕ → Type 0
IsPlacedAt at call = AreOf at.placed call

-- An operation overwrites: it makes the same list of each list, and has the same reply.
abbrev pub Overwrites : (List ℕ → ℕ → List ℕ × ℕ) → ℕ → Type 0
Overwrites next op = (one other : List ℕ) → next one op ≡ next other op

-- the configuration after an open call is placed with the reply that the object gives
abbrev pub with_call : (List ℕ → ℕ → List ℕ × ℕ) → Configuration → OpenCall → Configuration
with_call next at one = record {
  placed = record { call = one.call; reply = (next at.list one.op).1 } ∷ at.placed;
  list = (next at.list one.op).0;
}

-- some places are others without those of a call
abbrev pub AreOthers : ℕ → List StreamPlace → List StreamPlace → Type 0
AreOthers call with without = (place : StreamPlace)
    → (IsAmong without place ↔ IsAmong with place × (place.call ≢ call))

-- a description is another one without the places of a call
pub record IsWithoutCall (call : ℕ) (with without : Description) : Type 0 where
  pub list : without.list ≡ with.list
  pub placed : AreOthers call with.placed without.placed
  pub optional : AreOthers call with.optional without.optional

-- A description is another one after an open call is placed with the reply that the object gives:
-- the call is optional no more.
pub record IsPlacedOn (next : List ℕ → ℕ → List ℕ × ℕ) (from : Description) (one : OpenCall)
    (after : Description) : Type 0 where
  pub list : after.list ≡ (next from.list one.op).0
  pub placed : (place : StreamPlace) → (IsAmong after.placed place
      ↔ (record { call = one.call; reply = (next from.list one.op).1 } ≡ place)
      ⊎ IsAmong from.placed place)
  pub optional : AreOthers one.call from.optional after.optional

-- a description is another one with one place more that is optional
pub record IsAllowed (one : StreamPlace) (from after : Description) : Type 0 where
  pub list : after.list ≡ from.list
  pub placed : after.placed ≡ from.placed
  pub optional : (place : StreamPlace)
      → (IsAmong after.optional place ↔ (one ≡ place) ⊎ IsAmong from.optional place)

-- a description is another one without the optional places of a call with another reply than this one
pub record IsForgotten (call reply : ℕ) (from after : Description) : Type 0 where
  pub list : after.list ≡ from.list
  pub placed : after.placed ≡ from.placed
  pub optional : (place : StreamPlace) → (IsAmong after.optional place
      ↔ IsAmong from.optional place × (place.call ≡ call → place.reply ≡ reply))

-- Descriptions are others without the optional places of a call with another reply than this one.
pub record AreAllForgotten (call reply : ℕ) (from after : List Description) : Type 0 where
  pub back : (one : Description) → Has after one
      → (old : Description) × Has from old × IsForgotten call reply old one
  pub each : (old : Description) → Has from old
      → (one : Description) × Has after one × IsForgotten call reply old one

-- An open call may be placed at a configuration: it isn't placed there, and it may have the reply
-- that the object gives.
pub record MayBePlaced (next : List ℕ → ℕ → List ℕ × ℕ) (calls : List OpenCall)
    (at : Configuration) (one : OpenCall) : Type 0 where
  pub is_open : Has calls one
  pub unplaced : IsPlacedAt at one.call → ⊥
  pub reply : MayHaveReply one (next at.list one.op).1

-- A place is that of an open call that is known to overwrite, with the reply that it gets at each list.
abbrev pub IsWritten : (List ℕ → ℕ → List ℕ × ℕ) → (ℕ → Bool) → List OpenCall → StreamPlace → Type 0
IsWritten next writes calls place = (one : OpenCall) × Has calls one × (one.call ≡ place.call)
    × IsTrue (writes one.op) × ((list : List ℕ) → (next list one.op).1 ≡ place.reply)
    × MayHaveReply one place.reply

-- An open call rests at a description with a reply: it isn't the call that returns, it leaves each
-- list at which it has the reply, and it is optional with the reply.
abbrev pub Rests : (List ℕ → ℕ → List ℕ × ℕ) → ℕ → Description → OpenCall → ℕ → Type 0
Rests next returning one call reply = (call.call ≢ returning) × Leaves next call.op reply
    × IsAmong one.optional (record { call = call.call; reply = reply })

-- A description hides a configuration before a call returns: the configuration has each placed call,
-- besides these optional ones and open calls that are known to overwrite alone, no call with two
-- replies, and each open call that may be placed at it is known to overwrite, or rests at the
-- description with the reply that it gets. So its list is overwritten before a call needs to see it.
pub record Hides (next : List ℕ → ℕ → List ℕ × ℕ) (writes : ℕ → Bool) (calls : List OpenCall)
    (returning : ℕ) (one : Description) (at : Configuration) : Type 0 where
  pub placed : (place : StreamPlace) → IsAmong one.placed place → IsAmong at.placed place
  pub either : (place : StreamPlace) → IsAmong at.placed place
      → IsPlaceOf one place ⊎ IsWritten next writes calls place
  pub once : AreOnce at.placed
  pub unseen : (call : OpenCall) → MayBePlaced next calls at call
      → IsTrue (writes call.op) ⊎ Rests next returning one call (next at.list call.op).1

-- A description is sound for a property of configurations: all that it means have the property, each
-- of its places agrees with what is known, and no call is placed with two replies.
pub record IsSound (property : Configuration → Type 0) (calls : List OpenCall)
    (one : Description) : Type 0 where
  pub each : (at : Configuration) → Means one at → property at
  pub agree : (place : StreamPlace) → IsPlaceOf one place → IsKnownPlace calls place
  pub once : AreOnce one.placed

-- all of some descriptions are sound for a property
abbrev pub AreSound : (Configuration → Type 0) → List OpenCall → List Description → Type 0
AreSound property calls ones = (one : Description) → Has ones one → IsSound property calls one

-- A configuration is reached by a call that is placed last, from one of the residue.
abbrev pub IsReachedBy : SeqSpec → List StreamEvent → OpenCall → Configuration → Type 0
IsReachedBy spec stream one at = (before : Configuration) × IsInResidue spec stream before
    × (IsPlacedAt before one.call → ⊥) × AreAlike (with_call spec.next before one) at

-- A configuration is left by the return of an open call with a reply, of one of the residue at which
-- the call is placed with this reply.
abbrev pub IsLeftBy : SeqSpec → List StreamEvent → OpenCall → ℕ → Configuration → Type 0
IsLeftBy spec stream one reply after = (at : Configuration) × IsInResidue spec stream at
    × IsAmong at.placed (record { call = one.call; reply = reply }) × IsWithout one.call at after

-- A configuration is handled before an open call returns with a reply. Where the call is placed with
-- this reply, what is left of the configuration is meant by those that are left. Where it isn't
-- placed, the configuration is meant by those that calls are still placed at; or the call changes no
-- list at which it has the reply, and the configuration is meant by those that are left.
pub record IsHandled (next : List ℕ → ℕ → List ℕ × ℕ) (returning : OpenCall) (reply : ℕ)
    (ones left : List Description) (at : Configuration) : Type 0 where
  pub returned : IsAmong at.placed (record { call = returning.call; reply = reply })
      → (after : Configuration) → IsWithout returning.call at after → AreMeant left after
  pub further : (IsPlacedAt at returning.call → ⊥)
      → AreMeant ones at ⊎ (Leaves next returning.op reply × AreMeant left at)

-- all that a description means is handled
abbrev pub IsTaken : (List ℕ → ℕ → List ℕ × ℕ) → OpenCall → ℕ → List Description
    → List Description → Description → Type 0
IsTaken next returning reply ones left one = (at : Configuration) → Means one at
    → IsHandled next returning reply ones left at

-- An open call needs to see nothing of a description: if it may be placed there, it is known to
-- overwrite, or rests there with the reply that it gets.
pub record SeesNothing (next : List ℕ → ℕ → List ℕ × ℕ) (writes : ℕ → Bool) (returning : ℕ)
    (one : Description) (call : OpenCall) : Type 0 where
  pub written : (AreOf one.placed call.call → ⊥) → MayHaveReply call (next one.list call.op).1
      → IsTrue (writes call.op) ⊎ Rests next returning one call (next one.list call.op).1

-- After an open call is placed at a description, another one that may be placed there too is known to
-- overwrite, or rests at the description with the reply that it gets then.
abbrev pub IsUnseenBy : (List ℕ → ℕ → List ℕ × ℕ) → (ℕ → Bool) → ℕ → Description → OpenCall
    → OpenCall → Type 0
IsUnseenBy next writes returning one call other = (other.call ≢ call.call)
    → (AreOf one.placed other.call → ⊥)
    → MayHaveReply other (next (next one.list call.op).0 other.op).1
    → IsTrue (writes other.op)
    ⊎ Rests next returning one other (next (next one.list call.op).0 other.op).1

-- A placed call leads on where what it leads to is handled, or is hidden by a description; then the
-- call isn't the one that returns.
abbrev pub LeadsTo : (List ℕ → ℕ → List ℕ × ℕ) → (ℕ → Bool) → List OpenCall → OpenCall → ℕ
    → List Description → List Description → Description → Configuration → OpenCall → Type 0
LeadsTo next writes calls returning reply ones left one at call =
    IsHandled next returning reply ones left (with_call next at call)
    ⊎ ((call.call ≢ returning.call)
    × Hides next writes calls returning.call one (with_call next at call))

-- Of the first open calls, as many as a number says, each that may be placed at a configuration that
-- a description means or hides leads on.
abbrev pub LeadsOn : (List ℕ → ℕ → List ℕ × ℕ) → (ℕ → Bool) → List OpenCall → OpenCall → ℕ
    → List Description → List Description → ℕ → Description → Type 0
LeadsOn next writes calls returning reply ones left number one = (at : Configuration)
    → Means one at ⊎ Hides next writes calls returning.call one at
    → (j : ℕ) (call : OpenCall) → j < number → slice_get calls j ≡ Some call
    → MayBePlaced next calls at call
    → LeadsTo next writes calls returning reply ones left one at call
