-- Items that were put in by different calls.
use Rattle.std.proofs.Common.{◌≡◌, ◌≢◌, ◌⊎◌, ◌∙◌, suc, List, [], ◌∷◌, ◌++◌, refl, sym, subst, inl, inr, append_assoc}
use Rattle.late_residue.specs.Reached.{Has}
use Rattle.late_residue.proofs.Items.{has-left, has-right, has-cases, has-cons, has-none}
use Rattle.pool_residue.specs.Items.{Item, AreDistinct}

-- an item was put in by another call than all of some items
abbrev pub IsNew : List Item → Item → Type 0
IsNew items one = (other : Item) → Has items other → other.call ≢ one.call

pub distinct-insert : (left right : List Item) (one : Item) → AreDistinct (left ++ right)
    → IsNew (left ++ right) one → AreDistinct (left ++ one ∷ right)
distinct-insert [] right one distinct new = (new, distinct)
distinct-insert (x ∷ left) right one distinct new = (
  λ other has. elim (has-cases left (one ∷ right) other has) [
    | inl here ↦ distinct.0 other (has-left left right other here)
    | inr there ↦ elim (has-cons one right other there) [
      | inl is ↦ subst (λ (i : Item). i.call ≢ x.call) is
          (λ (e : one.call ≡ x.call). new x (0, refl) (sym e))
      | inr later ↦ distinct.0 other (has-right left right other later)
    ]
  ],
  distinct-insert left right one distinct.1 (λ other (k, at). new other (suc k, at)),
)

pub distinct-without : (left right : List Item) (one : Item)
    → AreDistinct (left ++ one ∷ right) → AreDistinct (left ++ right)
distinct-without [] right one distinct = distinct.1
distinct-without (x ∷ left) right one distinct = (
  λ other has. distinct.0 other (elim (has-cases left right other has) [
    | inl here ↦ has-left left (one ∷ right) other here
    | inr there ↦ has-right left (one ∷ right) other (has-right (one ∷ []) right other there)
  ]),
  distinct-without left right one distinct.1,
)

pub distinct-new : (left right : List Item) (one : Item)
    → AreDistinct (left ++ one ∷ right) → IsNew (left ++ right) one
distinct-new [] right one distinct other has = distinct.0 other has
distinct-new (x ∷ left) right one distinct other has = elim (has-cons x (left ++ right) other has) [
  | inl is ↦ subst (λ (i : Item). i.call ≢ one.call) is
      (λ (e : x.call ≡ one.call). distinct.0 one (has-right left (one ∷ right) one (0, refl)) (sym e))
  | inr later ↦ distinct-new left right one distinct.1 other later
]

-- items with one call are one item
pub distinct-same : (items : List Item) → AreDistinct items → (one other : Item) → Has items one
    → Has items other → one.call ≡ other.call → one ≡ other
distinct-same [] distinct one other has also same = absurd (has-none one has)
distinct-same (x ∷ items) distinct one other has also same =
    elim (has-cons x items one has) [
      | inl is ↦ elim (has-cons x items other also) [
        | inl too ↦ sym is ∙ too
        | inr later ↦ absurd (distinct.0 other later
            (subst (λ (i : Item). other.call ≡ i.call) (sym is) (sym same)))
      ]
      | inr later ↦ elim (has-cons x items other also) [
        | inl too ↦ absurd (distinct.0 one later
            (subst (λ (i : Item). one.call ≡ i.call) (sym too) same))
        | inr last ↦ distinct-same items distinct.1 one other later last same
      ]
    ]

-- ---- an item of a list, and the others

pub has-other : {X : Type 0} (left right : List X) (one x : X) → Has (left ++ one ∷ right) x
    → (one ≡ x) ⊎ Has (left ++ right) x
has-other left right one x has = elim (has-cases left (one ∷ right) x has) [
  | inl here ↦ inr (has-left left right x here)
  | inr there ↦ elim (has-cons one right x there) [
    | inl is ↦ inl is
    | inr later ↦ inr (has-right left right x later)
  ]
]

pub has-more : {X : Type 0} (left right : List X) (one x : X) → Has (left ++ right) x
    → Has (left ++ one ∷ right) x
has-more left right one x has = elim (has-cases left right x has) [
  | inl here ↦ has-left left (one ∷ right) x here
  | inr there ↦ has-right left (one ∷ right) x (has-right (one ∷ []) right x there)
]

pub has-there : {X : Type 0} (left right : List X) (one : X) → Has (left ++ one ∷ right) one
has-there left right one = has-right left (one ∷ right) one (0, refl)

pub distinct-right : (left right : List Item) → AreDistinct (left ++ right) → AreDistinct right
distinct-right [] right distinct = distinct
distinct-right (x ∷ left) right distinct = distinct-right left right distinct.1

-- an item in the place of another one, where it stood before them
pub distinct-moved : (out left right : List Item) (x y : Item)
    → AreDistinct (out ++ x ∷ (left ++ y ∷ right)) → AreDistinct (out ++ (left ++ x ∷ right))
distinct-moved out left right x y distinct =
    let first = distinct-without out (left ++ y ∷ right) x distinct in
    let fewer = distinct-without (out ++ left) right y
    (subst AreDistinct (sym (append_assoc out left (y ∷ right))) first) in
    subst AreDistinct (append_assoc out left (x ∷ right))
    (distinct-insert (out ++ left) right x fewer
    (λ item has. distinct-new out (left ++ y ∷ right) x distinct item
    (elim (has-cases (out ++ left) right item has) [
      | inl here ↦ elim (has-cases out left item here) [
        | inl early ↦ has-left out (left ++ y ∷ right) item early
        | inr late ↦ has-right out (left ++ y ∷ right) item (has-left left (y ∷ right) item late)
      ]
      | inr there ↦ has-right out (left ++ y ∷ right) item
          (has-right left (y ∷ right) item (has-right (y ∷ []) right item there))
    ])))

pub distinct-left : (left right : List Item) → AreDistinct (left ++ right) → AreDistinct left
distinct-left [] right distinct = tt
distinct-left (x ∷ left) right distinct = (
  λ other has. distinct.0 other (has-left left right other has),
  distinct-left left right distinct.1,
)
