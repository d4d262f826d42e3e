-- What a set of numbers has after a number is put in.
use Rattle.std.proofs.Common.{◌≡◌, ℕ, ◌<◌, ◌≤◌, nat_eq, List, [], ◌∷◌, ◌++◌, length, get_or, slice_get, if◌then◌else◌, Contains, Some, inl, inr, sym, ap, subst, ◌∙◌, ◌⊎◌, arith}
use Rattle.std.specs.List.{list_any}
use Rattle.std.proofs.lemmas.Bool.{cases_Bool, cases_lt, eqb-true}
use Rattle.std.proofs.lemmas.List.{length_push, get_or_append_left}
use Rattle.std.proofs.lemmas.List.Elements.{Contains-get_or, Contains-push_cases}
use Rattle.std.proofs.lemmas.Option.{slice_get-get_or, slice_get_within, get_or_from_slice_get}
use Rattle.indexmap.specs.IndexSet.{insert_key}
use Rattle.indexmap.proofs.CallerLemmas.{Contains-insert_key}
use Rattle.told_models.specs.Search.{Continues}

-- an element has a place
pub place_of : (xs : List ℕ) (x : ℕ) → Contains xs x
    → (k : ℕ) × (k < length xs) × (slice_get xs k ≡ Some x)
place_of xs x has = (has.0, has.1, slice_get-get_or xs has.0 x has.1 ∙ ap Some has.2)

-- what stands at a place is an element
pub element_at : (xs : List ℕ) (k x : ℕ) → slice_get xs k ≡ Some x → Contains xs x
element_at xs k x at = subst (Contains xs) (get_or_from_slice_get xs k x 0 at)
    (Contains-get_or xs k 0 (slice_get_within xs k x at))

-- a list that has another one's elements in their places has its elements
pub continues_contains : (old new : List ℕ) (x : ℕ) → Continues old new → Contains old x
    → Contains new x
continues_contains old new x longer has =
    let at = place_of old x has in element_at new at.0 x (longer at.0 x at.2)

-- and is no shorter
pub continues_inside : (old new : List ℕ) (k : ℕ) → Continues old new → k < length old
    → k < length new
continues_inside old new k longer inside =
    slice_get_within new k (get_or old k 0) (longer k (get_or old k 0)
    (slice_get-get_or old k 0 inside))

pub continues_length : (old new : List ℕ) → Continues old new → length old ≤ length new
continues_length old new longer = elim (cases_lt (length new) (length old)) [
  | inr at_least ↦ at_least
  | inl shorter ↦ absurd (omega (arith, continues_inside old new (length new) longer shorter))
]

push_continues : (xs : List ℕ) (x : ℕ) → Continues xs (xs ++ x ∷ [])
push_continues xs x k y at =
    let inside = slice_get_within xs k y at in
    slice_get-get_or (xs ++ x ∷ []) k 0 (omega (arith, inside, length_push xs x))
    ∙ ap Some (get_or_append_left xs (x ∷ []) 0 k inside ∙ get_or_from_slice_get xs k y 0 at)

-- a set with a number put in has the numbers before in their places
pub insert_continues : (xs : List ℕ) (x : ℕ) → Continues xs (insert_key nat_eq xs x)
insert_continues xs x = elim (cases_Bool (list_any (nat_eq x) xs)) [
  | inl there ↦ subst (Continues xs) (sym (ap (λ c. if c then xs else xs ++ x ∷ []) there))
      (λ k y at. at)
  | inr new ↦ subst (Continues xs) (sym (ap (λ c. if c then xs else xs ++ x ∷ []) new))
      (push_continues xs x)
]

-- and this number
pub insert_contains : (xs : List ℕ) (x : ℕ) → Contains (insert_key nat_eq xs x) x
insert_contains xs x = Contains-insert_key nat_eq eqb-true xs x

-- and no others
pub insert_cases : (xs : List ℕ) (x y : ℕ) → Contains (insert_key nat_eq xs x) y
    → Contains xs y ⊎ (x ≡ y)
insert_cases xs x y has = elim (cases_Bool (list_any (nat_eq x) xs)) [
  | inl there ↦ inl (subst (λ (l : List ℕ). Contains l y)
      (ap (λ c. if c then xs else xs ++ x ∷ []) there) has)
  | inr new ↦ Contains-push_cases xs x y (subst (λ (l : List ℕ). Contains l y)
      (ap (λ c. if c then xs else xs ++ x ∷ []) new) has)
]
