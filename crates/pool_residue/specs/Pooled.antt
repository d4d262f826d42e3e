-- Descriptions that are the residue of a stream, as far as replies are known.
use Rattle.std.specs.Prelude.{◌≡◌, ℕ, ◌<◌, ◌≤◌, List, length, Some, None}
use Rattle.legal_orders.specs.Container.{Puts, value_put}
use Rattle.streams.specs.Stream.{StreamEvent, IsCalledAt, Returns}
use Rattle.streams.specs.StreamOrder.{StreamPlace, IsAmong}
use Rattle.residue_laws.specs.Residue.{Configuration, IsInResidue}
use Rattle.residue_laws.specs.Step.{ArePlaced}
use Rattle.seq_objects.specs.Replies.{reply_done}
use Rattle.late_residue.specs.declared.open_call.OpenCall.{OpenCall}
use Rattle.late_residue.specs.Reached.{Has}
use Rattle.late_residue.specs.Known.{AgreesWithKnown}
use Rattle.pool_residue.specs.declared.container.Container.{Container}
use Rattle.pool_residue.specs.declared.container.Container.TheVariants.{Queue, PriorityQueue}
use Rattle.pool_residue.specs.Items.{Item, spec_of, effect_of, MustStandBefore, AreDistinct}
use Rattle.pool_residue.specs.Description.{Description, TakenPut, Means, AreMeant}

-- An item is that of a put which has returned in a stream.
pub record IsHeldIn (container : Container) (stream : List StreamEvent) (item : Item)
    : Type 0 where
  pub ended : ℕ
  pub end : item.end ≡ Some ended
  pub returns : Returns stream item.call ended reply_done
  pub process : ℕ
  pub op : ℕ
  pub called : IsCalledAt stream item.call process op
  pub value : effect_of container op ≡ Puts item.value

-- A place is that of a call of a stream that puts nothing in.
pub record PutsNothing (container : Container) (stream : List StreamEvent)
    (place : StreamPlace) : Type 0 where
  pub process : ℕ
  pub op : ℕ
  pub called : IsCalledAt stream place.call process op
  pub nothing : value_put (effect_of container op) ≡ None

-- no item that is held in a queue must stand before an open put that was called before a bound
abbrev pub IsFree : Container → List Item → TakenPut → Type 0
IsFree Queue held taken = (item other : Item) → Has held other → item.call < taken.bound
    → MustStandBefore Queue other item → ⊥
IsFree PriorityQueue held taken = Unit {0}

-- A description is one of a stream: its held items were put in by different calls that have returned,
-- what was taken of an open put was taken before the stream's end, and in a queue from before what
-- is held; and no other call that it places puts an item in.
pub record IsOfStream (container : Container) (stream : List StreamEvent) (one : Description)
    : Type 0 where
  pub held : (item : Item) → Has one.held item → IsHeldIn container stream item
  pub distinct : AreDistinct one.held
  pub bounds : (taken : TakenPut) → Has one.taken taken → taken.bound ≤ length stream
  pub free : (taken : TakenPut) → Has one.taken taken → IsFree container one.held taken
  pub placed : (place : StreamPlace) → IsAmong one.placed place
      → PutsNothing container stream place
  pub optional : (place : StreamPlace) → IsAmong one.optional place
      → PutsNothing container stream place

-- A description is sound for a stream: all that it means is in the residue of the stream, and agrees
-- with what is known.
pub record IsSound (container : Container) (stream : List StreamEvent) (calls : List OpenCall)
    (one : Description) : Type 0 where
  pub of_stream : IsOfStream container stream one
  pub reached : (at : Configuration) → Means container calls one at
      → IsInResidue (spec_of container) stream at × AgreesWithKnown calls at

-- Placed calls lead to a configuration from one that some descriptions mean.
abbrev pub AreLedTo : Container → List StreamEvent → List OpenCall → List Description
    → Configuration → Type 0
AreLedTo container stream calls ones at = (from : Configuration)
    × AreMeant container calls ones from
    × ((rest : List StreamPlace) × ArePlaced (spec_of container).next stream from rest at)

-- These descriptions are the residue of a stream, as far as it agrees with the known replies of the
-- stream's open calls: what they mean is in it and agrees, and placed calls lead from what they mean
-- to each configuration that is in it and agrees.
pub record ArePooled (container : Container) (stream : List StreamEvent) (calls : List OpenCall)
    (ones : List Description) : Type 0 where
  pub sound : (one : Description) → Has ones one → IsSound container stream calls one
  pub whole : (at : Configuration) → IsInResidue (spec_of container) stream at
      → AgreesWithKnown calls at → AreLedTo container stream calls ones at
