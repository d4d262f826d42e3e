-- Where a value is put into a priority queue.
use Rattle.std.proofs.Common.{◌≡◌, ◌∙◌, ℕ, suc, ◌<◌, ◌≤◌, nat_lt, List, [], ◌∷◌, ◌++◌, refl, sym, ap, inl, inr, arith, append-nil}
use Rattle.std.proofs.lemmas.Bool.{cases_Bool, cond-true, cond-false, ltb-true, ltb-false}
use Rattle.broken_rules.proofs.Rising.{placed, inserted_is}
use Rattle.late_residue.specs.Reached.{Has}
use Rattle.residue_laws.proofs.Appending.{map-both}
use Rattle.pool_residue.specs.declared.container.Container.{Container}
use Rattle.pool_residue.specs.declared.container.Container.TheVariants.{Queue, PriorityQueue}
use Rattle.pool_residue.specs.Items.{Item, AreInOrder, values_of, list_with}
use Rattle.pool_residue.proofs.Orders.{order-apart, order-right}

not-less : {m n : ℕ} → (m < n → ⊥) → n ≤ m
not-less {m} {n} never = elim (cases_Bool (nat_lt m n)) [
  | inl less ↦ absurd (never (ltb-true m n less))
  | inr ge ↦ ltb-false m n ge
]

-- items none of which is less than a value come after it
placed_first : (one : Item) (right : List Item)
    → ((other : Item) → Has right other → one.value ≤ other.value)
    → placed one.value (values_of right) ≡ one.value ∷ values_of right
placed_first one [] le = refl
placed_first one (x ∷ right) le =
    let v = one.value in
    let rest = values_of right in
    elim (cases_Bool (nat_lt v x.value)) [
      | inl less ↦ cond-true (nat_lt v x.value) (v ∷ x.value ∷ rest) (x.value ∷ placed v rest) less
      | inr ge ↦
          let same : x.value ≡ v = omega (arith, ltb-false v x.value ge, le x (0, refl)) in
          cond-false (nat_lt v x.value) (v ∷ x.value ∷ rest) (x.value ∷ placed v rest) ge
          ∙ (ap (λ (l : List ℕ). x.value ∷ l)
          (placed_first one right (λ other (k, at). le other (suc k, at)))
          ∙ (ap (λ (n : ℕ). n ∷ v ∷ rest) same ∙ ap (λ (n : ℕ). v ∷ n ∷ rest) (sym same)))
    ]

-- and items none of which is greater come before it
placed_between : (left : List Item) (one : Item) (right : List Item)
    → ((other : Item) → Has left other → other.value ≤ one.value)
    → ((other : Item) → Has right other → one.value ≤ other.value)
    → placed one.value (values_of (left ++ right)) ≡ values_of (left ++ one ∷ right)
placed_between [] one right below above = placed_first one right above
placed_between (x ∷ left) one right below above =
    let v = one.value in
    let rest = values_of (left ++ right) in
    elim (cases_Bool (nat_lt v x.value)) [
      | inl less ↦ absurd (let lt = ltb-true v x.value less in
          let le = below x (0, refl) in
          let clash : suc v ≤ v = omega (arith, lt, le) in omega (arith, clash))
      | inr ge ↦ cond-false (nat_lt v x.value) (v ∷ x.value ∷ rest) (x.value ∷ placed v rest) ge
          ∙ ap (λ (l : List ℕ). x.value ∷ l)
          (placed_between left one right (λ other (k, at). below other (suc k, at)) above)
    ]

-- an item may be put in last, where these items stand after it
abbrev pub MayBeLast : Container → List Item → Type 0
MayBeLast Queue right = right ≡ []
MayBeLast PriorityQueue right = Unit {0}

-- the list of items in order with an item that is put in last is that with the item in its place
pub list_with-order : (container : Container) (left : List Item) (one : Item) (right : List Item)
    → MayBeLast container right → AreInOrder container (left ++ one ∷ right)
    → list_with container (values_of (left ++ right)) one.value ≡ values_of (left ++ one ∷ right)
list_with-order Queue left one right none order =
    let v = one.value in
    ap (λ (r : List Item). values_of (left ++ r) ++ v ∷ []) none
    ∙ (ap (λ (l : List Item). values_of l ++ v ∷ []) (append-nil left)
    ∙ (sym (map-both (λ (i : Item). i.value) left (one ∷ []))
    ∙ ap (λ (r : List Item). values_of (left ++ one ∷ r)) (sym none)))
list_with-order PriorityQueue left one right none order =
    inserted_is one.value (values_of (left ++ right))
    ∙ placed_between left one right
    (λ other has. not-less (order-apart PriorityQueue left (one ∷ right) order other has one
    (0, refl)))
    (λ other has. not-less ((order-right PriorityQueue left (one ∷ right) order).0 other has))
