-- Arrangements of items.
use Rattle.std.proofs.Common.{suc, List, [], ◌∷◌, ◌++◌, refl, sym, subst, inl, inr}
use Rattle.late_residue.specs.Reached.{Has}
use Rattle.late_residue.proofs.Items.{has-left, has-right, has-cases, has-cons, has-none}
use Rattle.pool_residue.specs.declared.container.Container.{Container}
use Rattle.pool_residue.specs.Items.{Item, MustStandBefore, MayBeFirst, AreInOrder}

-- ---- what may be first

pub first_of_none : (container : Container) (one : Item) → MayBeFirst container [] one
first_of_none container one other has = absurd (has-none other has)

pub first_of_fewer : (container : Container) (some all : List Item) (one : Item)
    → ((item : Item) → Has some item → Has all item) → MayBeFirst container all one
    → MayBeFirst container some one
first_of_fewer container some all one inside first other has = first other (inside other has)

pub first_of_more : (container : Container) (left right : List Item) (one : Item)
    → MayBeFirst container left one → MayBeFirst container right one
    → MayBeFirst container (left ++ right) one
first_of_more container left right one first second other has = elim (has-cases left right other has) [
  | inl here ↦ first other here
  | inr there ↦ second other there
]

-- ---- orders in two parts

-- items of two parts are in order where each part is, and none of the second must stand before one
-- of the first
pub order-join : (container : Container) (left right : List Item)
    → AreInOrder container left → AreInOrder container right
    → ((one : Item) → Has left one → MayBeFirst container right one)
    → AreInOrder container (left ++ right)
order-join container [] right first second apart = second
order-join container (x ∷ left) right first second apart = (
  first_of_more container left right x first.0 (apart x (0, refl)),
  order-join container left right first.1 second
      (λ one (k, at). apart one (suc k, at)),
)

pub order-left : (container : Container) (left right : List Item)
    → AreInOrder container (left ++ right) → AreInOrder container left
order-left container [] right order = tt
order-left container (x ∷ left) right order = (
  first_of_fewer container left (left ++ right) x (λ item. has-left left right item) order.0,
  order-left container left right order.1,
)

pub order-right : (container : Container) (left right : List Item)
    → AreInOrder container (left ++ right) → AreInOrder container right
order-right container [] right order = order
order-right container (x ∷ left) right order = order-right container left right order.1

pub order-apart : (container : Container) (left right : List Item)
    → AreInOrder container (left ++ right) → (one : Item) → Has left one
    → MayBeFirst container right one
order-apart container [] right order one has = absurd (has-none one has)
order-apart container (x ∷ left) right order one has = elim (has-cons x left one has) [
  | inl is ↦ subst (λ (i : Item). MayBeFirst container right i) is
      (first_of_fewer container right (left ++ right) x (λ item. has-right left right item) order.0)
  | inr later ↦ order-apart container left right order.1 one later
]

-- ---- an item in the place of another one

-- An item may stand where another one stands, among others of which some stand before it and some
-- after it.
pub record MayReplace (container : Container) (left right : List Item) (old new : Item)
    : Type 0 where
  pub after : (item : Item) → Has left item → MustStandBefore container new item
      → MustStandBefore container old item
  pub before : (item : Item) → Has right item → MustStandBefore container item new
      → MustStandBefore container item old

pub order-replace : (container : Container) (left right : List Item) (old new : Item)
    → MayReplace container left right old new → AreInOrder container (left ++ old ∷ right)
    → AreInOrder container (left ++ new ∷ right)
order-replace container left right old new may order =
    let second = order-right container left (old ∷ right) order in
    order-join container left (new ∷ right) (order-left container left (old ∷ right) order) (
      λ item has must. second.0 item has (may.before item has must),
      second.1,
    )
    (λ item has other there must.
    let apart = order-apart container left (old ∷ right) order item has in
    elim (has-cons new right other there) [
      | inl is ↦ apart old (0, refl)
          (may.after item has
          (subst (λ (i : Item). MustStandBefore container i item) (sym is) must))
      | inr later ↦ apart other (has-right (old ∷ []) right other later) must
    ])

-- an item goes out of an order
pub order-without : (container : Container) (left right : List Item) (one : Item)
    → AreInOrder container (left ++ one ∷ right) → AreInOrder container (left ++ right)
order-without container left right one order =
    let second = order-right container left (one ∷ right) order in
    order-join container left right (order-left container left (one ∷ right) order) second.1
    (λ item has other there. order-apart container left (one ∷ right) order item has other
    (has-right (one ∷ []) right other there))
