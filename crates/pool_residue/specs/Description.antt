-- Descriptions of configurations of a container.
use Rattle.std.specs.Prelude.{◌≡◌, ◌⊎◌, ℕ, ◌<◌, List, [], ◌∷◌, ◌++◌, None, ⊤}
use Rattle.legal_orders.specs.Container.{Puts}
use Rattle.streams.specs.StreamOrder.{StreamPlace, IsAmong}
use Rattle.residue_laws.specs.Residue.{Configuration}
use Rattle.seq_objects.specs.Replies.{reply_done}
use Rattle.late_residue.specs.declared.open_call.OpenCall.{OpenCall}
use Rattle.late_residue.specs.Reached.{Has}
use Rattle.late_residue.specs.Known.{MayHaveReply}
use Rattle.late_residue.specs.Meaning.{AreOnce}
use Rattle.pool_residue.specs.declared.container.Container.{Container}
use Rattle.pool_residue.specs.Items.{Item, effect_of, AreInOrder, AreDistinct, values_of}

-- A put that hasn't returned and whose item is taken: some open put of this value that was called
-- before the event with the number `bound`.
pub record TakenPut : Type 0 where
  pub value : ℕ
  pub bound : ℕ

-- A description has placed takes, takes that may be placed, which found nothing, the items that were
-- put in by calls that have returned and aren't taken, and how many items are taken of open puts.
pub record Description : Type 0 where
  pub placed : List StreamPlace
  pub optional : List StreamPlace
  pub held : List Item
  pub taken : List TakenPut

-- an item is that of an open put, which may have the reply `done`
pub record IsOpenPut (container : Container) (calls : List OpenCall) (item : Item) : Type 0 where
  pub one : OpenCall
  pub is_open : Has calls one
  pub call : one.call ≡ item.call
  pub value : effect_of container one.op ≡ Puts item.value
  pub reply : MayHaveReply one reply_done
  pub end : item.end ≡ None

-- an item of an open put is one that is taken
pub record IsTakenAs (container : Container) (calls : List OpenCall) (taken : TakenPut)
    (item : Item) : Type 0 where
  pub is_open : IsOpenPut container calls item
  pub value : item.value ≡ taken.value
  pub before : item.call < taken.bound

-- items of open puts are those that are taken, one for each
abbrev pub AreTakenAs : Container → List OpenCall → List TakenPut → List Item → Type 0
AreTakenAs container calls [] [] = ⊤
AreTakenAs container calls [] (item ∷ items) = ⊥
AreTakenAs container calls (taken ∷ more) [] = ⊥
AreTakenAs container calls (taken ∷ more) (item ∷ items) =
    IsTakenAs container calls taken item × AreTakenAs container calls more items

-- a place is that of the put of one of some items, which has not returned
abbrev pub IsPutOf : List Item → StreamPlace → Type 0
IsPutOf items place = (item : Item) × Has items item × (item.end ≡ None)
    × (record { call = item.call; reply = reply_done } ≡ place)

-- A description means a configuration, by the items in the object's list and those that are taken of
-- open puts. In the list stand all held items and any others of open puts. Placed are these open
-- puts, the placed takes, and any of the optional ones.
pub record MeansBy (container : Container) (calls : List OpenCall) (one : Description)
    (inside taken : List Item) (at : Configuration) : Type 0 where
  pub distinct : AreDistinct (taken ++ inside)
  pub held : (item : Item) → Has one.held item → Has inside item
  pub items : (item : Item) → Has inside item
      → Has one.held item ⊎ IsOpenPut container calls item
  pub order : AreInOrder container inside
  pub outside : AreTakenAs container calls one.taken taken
  pub list : at.list ≡ values_of inside
  pub placed : (place : StreamPlace) → IsAmong one.placed place → IsAmong at.placed place
  pub puts : (place : StreamPlace) → IsPutOf (taken ++ inside) place → IsAmong at.placed place
  pub either : (place : StreamPlace) → IsAmong at.placed place
      → IsAmong one.placed place ⊎ IsAmong one.optional place ⊎ IsPutOf (taken ++ inside) place
  pub once : AreOnce at.placed

-- A description means a configuration.
abbrev pub Means : Container → List OpenCall → Description → Configuration → Type 0
Means container calls one at = (inside : List Item) × (taken : List Item)
    × MeansBy container calls one inside taken at

-- one of some descriptions means a configuration
abbrev pub AreMeant : Container → List OpenCall → List Description → Configuration → Type 0
AreMeant container calls ones at = (one : Description) × Has ones one
    × Means container calls one at
