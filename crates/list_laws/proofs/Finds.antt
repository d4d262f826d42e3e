-- The first element of a list that passes a test, and lists where at most one does.
use Rattle.std.proofs.Common.{◌≡◌, Bool, true, not, ◌&&◌, ◌⊎◌, List, [], ◌∷◌, map, find, option_map, Some, inl, inr, sym, ap, subst, refl, ◌∙◌}
use Rattle.std.specs.List.{list_all}
use Rattle.std.proofs.lemmas.Bool.{and_parts, both_ways, not-true, cond-true, cond-false, cases_Bool}
use Rattle.std.proofs.lemmas.Option.{same_Some}

-- an element stands in a list
abbrev pub IsIn : {X : Type 0} → X → List X → Type 0
IsIn x [] = ⊥
IsIn x (y ∷ ys) = (x ≡ y) ⊎ IsIn x ys

-- what is found stands in the list and passes
pub find_inside : {X : Type 0} (p : X → Bool) (xs : List X) (x : X) → find p xs ≡ Some x
    → IsIn x xs × (p x ≡ true)
find_inside p [] x found = cc
find_inside p (y ∷ ys) x found = elim (cases_Bool (p y)) [
  | inl here ↦ let same = same_Some x y (sym found ∙ cond-true (p y) (Some y) (find p ys) here) in
      (inl same, ap p same ∙ here)
  | inr past ↦ let rest =
      find_inside p ys x (sym (cond-false (p y) (Some y) (find p ys) past) ∙ found) in
      (inr rest.0, rest.1)
]

-- the only element that passes is found
pub find_only : {X : Type 0} (p : X → Bool) (xs : List X) (x : X) → IsIn x xs → p x ≡ true
    → ((y : X) → IsIn y xs → p y ≡ true → y ≡ x) → find p xs ≡ Some x
find_only p [] x inside passes only = absurd inside
find_only p (y ∷ ys) x inside passes only = elim (cases_Bool (p y)) [
  | inl here ↦ cond-true (p y) (Some y) (find p ys) here ∙ ap Some (only y (inl refl) here)
  | inr past ↦ elim inside [
    | inl same ↦ absurd (both_ways (p x) (ap p same ∙ past) passes)
    | inr later ↦ cond-false (p y) (Some y) (find p ys) past
        ∙ find_only p ys x later passes (λ z there. only z (inr there))
  ]
]

-- where each element passes a test, an element in the list passes it
pub list_all-inside : {X : Type 0} (p : X → Bool) (xs : List X) (x : X) → list_all p xs ≡ true
    → IsIn x xs → p x ≡ true
list_all-inside p [] x all inside = absurd inside
list_all-inside p (y ∷ ys) x all inside = elim inside [
  | inl same ↦ ap p same ∙ (and_parts (p y) (list_all p ys) all).0
  | inr later ↦ list_all-inside p ys x (and_parts (p y) (list_all p ys) all).1 later
]

-- no two elements of a list are the same, by a test for sameness
abbrev pub are_distinct : {X : Type 0} → (X → X → Bool) → List X → Bool
are_distinct same [] = true
are_distinct same (x ∷ xs) = list_all (λ y. not (same x y)) xs && are_distinct same xs

-- two elements of such a list that the test takes for the same are equal
pub are_distinct-inside : {X : Type 0} (same : X → X → Bool)
    (symmetric : (x y : X) → same x y ≡ true → same y x ≡ true) (xs : List X) (x y : X)
    → are_distinct same xs ≡ true → IsIn x xs → IsIn y xs → same x y ≡ true → x ≡ y
are_distinct-inside same symmetric [] x y distinct x_in y_in agree = absurd x_in
are_distinct-inside same symmetric (z ∷ zs) x y distinct x_in y_in agree =
    let parts = and_parts (list_all (λ w. not (same z w)) zs) (are_distinct same zs) distinct in
    elim x_in [
      | inl x_first ↦ elim y_in [
        | inl y_first ↦ x_first ∙ sym y_first
        | inr y_later ↦ absurd (both_ways (same z y)
            (not-true (same z y) (list_all-inside (λ w. not (same z w)) zs y parts.0 y_later))
            (subst (λ w. same w y ≡ true) x_first agree))
      ]
      | inr x_later ↦ elim y_in [
        | inl y_first ↦ absurd (both_ways (same z x)
            (not-true (same z x) (list_all-inside (λ w. not (same z w)) zs x parts.0 x_later))
            (subst (λ w. same w x ≡ true) y_first (symmetric x y agree)))
        | inr y_later ↦ are_distinct-inside same symmetric zs x y parts.1 x_later y_later agree
      ]
    ]

-- the first value of a function that passes a test is its value on the first element whose value
-- passes
pub find-map : {X Y : Type 0} (f : X → Y) (p : Y → Bool) (xs : List X)
    → find p (map f xs) ≡ option_map f (find (λ x. p (f x)) xs)
find-map f p [] = refl
find-map f p (x ∷ xs) = elim (cases_Bool (p (f x))) [
  | inl here ↦ cond-true (p (f x)) (Some (f x)) (find p (map f xs)) here
      ∙ ap (option_map f) (sym (cond-true (p (f x)) (Some x) (find (λ y. p (f y)) xs) here))
  | inr past ↦ cond-false (p (f x)) (Some (f x)) (find p (map f xs)) past ∙ find-map f p xs
      ∙ ap (option_map f) (sym (cond-false (p (f x)) (Some x) (find (λ y. p (f y)) xs) past))
]
