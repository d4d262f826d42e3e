-- An item in the place of another one of the same value.
use Rattle.std.proofs.Common.{◌≡◌, ◌≢◌, ◌∙◌, ℕ, suc, ◌==◌, List, [], ◌∷◌, ◌++◌, map, if◌then◌else◌, refl, sym, ap, subst, inl, inr}
use Rattle.std.proofs.lemmas.Bool.{cases_eq, cond-true, cond-false, ne_eqb}
use Rattle.late_residue.specs.Reached.{Has}
use Rattle.late_residue.proofs.Items.{has-none, has-cons, eqb-same, map-from}
use Rattle.pool_residue.specs.Items.{Item, AreDistinct, values_of}
use Rattle.pool_residue.proofs.Distinct.{IsNew, has-there}

-- one item in the place of another one, wherever this is
abbrev pub put_for : Item → Item → Item → Item
put_for old new item = if item.call == old.call then new else item

pub put_for-other : (old new item : Item) → item.call ≢ old.call → put_for old new item ≡ item
put_for-other old new item apart = cond-false (item.call == old.call) new item
    (ne_eqb item.call old.call apart)

pub put_for-old : (old new item : Item) → item.call ≡ old.call → put_for old new item ≡ new
put_for-old old new item same = cond-true (item.call == old.call) new item
    (eqb-same item.call old.call same)

pub put_for-it : (old new : Item) → put_for old new old ≡ new
put_for-it old new = put_for-old old new old refl

pub map-new : (old new : Item) (items : List Item) → IsNew items old
    → map (put_for old new) items ≡ items
map-new old new [] apart = refl
map-new old new (x ∷ items) apart =
    ap (λ (i : Item). i ∷ map (put_for old new) items) (put_for-other old new x (apart x (0, refl)))
    ∙ ap (λ (l : List Item). x ∷ l) (map-new old new items (λ other (k, at). apart other (suc k, at)))

pub map-there : (old new : Item) (left right : List Item) → AreDistinct (left ++ old ∷ right)
    → map (put_for old new) (left ++ old ∷ right) ≡ left ++ new ∷ right
map-there old new [] right distinct =
    ap (λ (i : Item). i ∷ map (put_for old new) right) (put_for-it old new)
    ∙ ap (λ (l : List Item). new ∷ l) (map-new old new right distinct.0)
map-there old new (x ∷ left) right distinct =
    ap (λ (i : Item). i ∷ map (put_for old new) (left ++ old ∷ right))
    (put_for-other old new x
    (λ same. distinct.0 old (has-there left right old) (sym same)))
    ∙ ap (λ (l : List Item). x ∷ l) (map-there old new left right distinct.1)

pub values-same : (f : Item → Item) (items : List Item)
    → ((item : Item) → Has items item → (f item).value ≡ item.value)
    → values_of (map f items) ≡ values_of items
values-same f [] same = refl
values-same f (x ∷ items) same =
    ap (λ (v : ℕ). v ∷ values_of (map f items)) (same x (0, refl))
    ∙ ap (λ (l : List ℕ). x.value ∷ l)
    (values-same f items (λ item (k, at). same item (suc k, at)))

pub put_for-value : (old new item : Item) → (item.call ≡ old.call → new.value ≡ item.value)
    → (put_for old new item).value ≡ item.value
put_for-value old new item same = elim (cases_eq item.call old.call) [
  | inl is ↦ ap (λ (i : Item). i.value)
      (cond-true (item.call == old.call) new item (eqb-same item.call old.call is)) ∙ same is
  | inr apart ↦ ap (λ (i : Item). i.value) (put_for-other old new item apart)
]

-- where an item of a list is
pub split_at : {X : Type 0} (xs : List X) (x : X) → Has xs x
    → (left : List X) × (right : List X) × (xs ≡ left ++ x ∷ right)
split_at [] x has = absurd (has-none x has)
split_at {X} (y ∷ xs) x has = elim (has-cons y xs x has) [
  | inl is ↦ ([], xs, ap (λ (z : X). z ∷ xs) is)
  | inr later ↦
      let found = split_at xs x later in
      (y ∷ found.0, found.1, ap (λ (l : List X). y ∷ l) found.2)
]

pub has-from : {X Y : Type 0} (f : X → Y) (xs : List X) (y : Y) → Has (map f xs) y
    → (x : X) × Has xs x × (f x ≡ y)
has-from f xs y (k, at) = let found = map-from f xs k y at in (found.0, (k, found.1), found.2)

changed-apart : (old new x y : Item) → y.call ≢ x.call
    → (x.call ≢ old.call → x.call ≢ new.call) → (y.call ≢ old.call → y.call ≢ new.call)
    → (put_for old new y).call ≢ (put_for old new x).call
changed-apart old new x y apart x_new y_new same = elim (cases_eq x.call old.call) [
  | inl x_old ↦ elim (cases_eq y.call old.call) [
    | inl y_old ↦ apart (y_old ∙ sym x_old)
    | inr y_other ↦ y_new y_other
        (sym (ap (λ (i : Item). i.call) (put_for-other old new y y_other)) ∙ (same
        ∙ ap (λ (i : Item). i.call) (put_for-old old new x x_old)))
  ]
  | inr x_other ↦ elim (cases_eq y.call old.call) [
    | inl y_old ↦ x_new x_other
        (sym (ap (λ (i : Item). i.call) (put_for-other old new x x_other)) ∙ (sym same
        ∙ ap (λ (i : Item). i.call) (put_for-old old new y y_old)))
    | inr y_other ↦ apart (sym (ap (λ (i : Item). i.call) (put_for-other old new y y_other))
        ∙ (same ∙ ap (λ (i : Item). i.call) (put_for-other old new x x_other)))
  ]
]

-- items of which one is changed for a new one
pub distinct-changed : (old new : Item) (items : List Item) → AreDistinct items
    → ((item : Item) → Has items item → item.call ≢ old.call → item.call ≢ new.call)
    → AreDistinct (map (put_for old new) items)
distinct-changed old new [] distinct apart = tt
distinct-changed old new (x ∷ items) distinct apart = (
  λ other has.
      let found = has-from (put_for old new) items other has in
      subst (λ (i : Item). i.call ≢ (put_for old new x).call) found.2
      (changed-apart old new x found.0 (distinct.0 found.0 found.1)
      (λ e. apart x (0, refl) e) (λ e. apart found.0 (suc found.1.0, found.1.1) e)),
  distinct-changed old new items distinct.1 (λ item (k, at). apart item (suc k, at)),
)
