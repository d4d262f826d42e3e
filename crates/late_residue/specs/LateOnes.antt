-- Lists of descriptions that are the residue of a stream, as far as replies are known.
use Rattle.std.specs.Prelude.{◌≡◌, ◌⊎◌, ℕ, ◌<◌, ◌≤◌, List, [], ◌∷◌, length, ⊤}
use Rattle.book_base.specs.SeqSpec.{SeqSpec}
use Rattle.book_base.specs.declared.TheConstants.{MAX_ROOM}
use Rattle.streams.specs.Stream.{StreamEvent, IsCalledAt, IsStreamCall, HasReturned}
use Rattle.streams.specs.StreamOrder.{StreamPlace}
use Rattle.residue_laws.specs.Residue.{Configuration, IsInResidue}
use Rattle.residue_laws.specs.Step.{ArePlaced}
use Rattle.late_residue.specs.declared.open_call.OpenCall.{OpenCall}
use Rattle.late_residue.specs.Description.{Description}
use Rattle.late_residue.specs.Reached.{Has, Grows}
use Rattle.late_residue.specs.Meaning.{AreMeant, Serves}
use Rattle.late_residue.specs.Known.{AgreesWithKnown}
use Rattle.late_residue.specs.Placing.{AreSound, IsLeftBy, IsTaken}

-- The open calls of a stream are those that haven't returned, lost ones too. One reply at most is
-- known of each.
pub record AreOpen (stream : List StreamEvent) (calls : List OpenCall) : Type 0 where
  pub called : (one : OpenCall) → Has calls one → IsCalledAt stream one.call one.process one.op
  pub pending : (one : OpenCall) → Has calls one → HasReturned stream one.call → ⊥
  pub whole : (call : ℕ) → IsStreamCall stream call → (HasReturned stream call → ⊥)
      → (one : OpenCall) × Has calls one × (one.call ≡ call)
  pub same : (one other : OpenCall) → Has calls one → Has calls other → one.call ≡ other.call
      → one.reply ≡ other.reply

-- all that these descriptions mean is in the residue of a stream, and agrees with what is known
abbrev pub AreReached : SeqSpec → List StreamEvent → List OpenCall → List Description → Type 0
AreReached spec stream calls ones = AreSound (IsInResidue spec stream) calls ones

-- Placed calls lead to a configuration from one that some descriptions mean.
abbrev pub AreLedTo : SeqSpec → List StreamEvent → List Description → Configuration → Type 0
AreLedTo spec stream ones at = (from : Configuration) × AreMeant ones from
    × ((rest : List StreamPlace) × ArePlaced spec.next stream from rest at)

-- These descriptions are the residue of a stream, as far as it agrees with the known replies of the
-- stream's open calls: what they mean is in it and agrees, and placed calls lead from what they mean
-- to each configuration that is in it and agrees.
pub record AreLate (spec : SeqSpec) (stream : List StreamEvent) (calls : List OpenCall)
    (ones : List Description) : Type 0 where
  pub reached : AreReached spec stream calls ones
  pub whole : (at : Configuration) → IsInResidue spec stream at → AgreesWithKnown calls at
      → AreLedTo spec stream ones at

-- none of these descriptions serves for a later one
abbrev pub AreApart : List Description → Type 0
AreApart [] = ⊤
AreApart (first ∷ rest) =
    ((later : Description) → Has rest later → Serves first later → ⊥) × AreApart rest

-- Before an open call returns with a reply, descriptions are added to those at which calls are still
-- placed, and to those that are left, in place of given ones, which are reached.
pub record AreAdded (spec : SeqSpec) (calls : List OpenCall) (returning : OpenCall) (reply : ℕ)
    (given : List Description) (ones left new after : List Description) : Type 0 where
  pub grows : Grows ones new
  pub stays : (at : Configuration) → AreMeant left at → AreMeant after at
  pub reached : (stream : List StreamEvent) → AreOpen stream calls
      → AreReached spec stream calls given → AreReached spec stream calls ones
      → AreReached spec stream calls new
  pub sound : (stream : List StreamEvent) → AreOpen stream calls
      → AreReached spec stream calls given → AreReached spec stream calls ones
      → AreSound (IsLeftBy spec stream returning reply) calls left
      → AreSound (IsLeftBy spec stream returning reply) calls after
  pub taken : ((one : Description) → Has ones one
      → IsTaken spec.next returning reply ones left one)
      → (one : Description) → Has new one → IsTaken spec.next returning reply new after one
  pub apart : AreApart ones → AreApart new

-- The residue of a stream is beyond a limit, as far as replies are known: more descriptions than the
-- limit, none of which serves for a later one, mean only what is in it and agrees with what is known;
-- or it has a configuration that agrees, with a list of as many words as a state may have.
abbrev pub IsBeyond : SeqSpec → List StreamEvent → List OpenCall → ℕ → Type 0
IsBeyond spec stream calls limit =
    ((ones : List Description) × AreReached spec stream calls ones × AreApart ones
    × (limit < length ones))
    ⊎ ((at : Configuration) × IsInResidue spec stream at × AgreesWithKnown calls at
    × (MAX_ROOM ≤ length at.list))
