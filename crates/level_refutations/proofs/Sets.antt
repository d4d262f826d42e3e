-- Lists without doubles that keys are put into.
use Rattle.std.proofs.Common.{◌≡◌, ℕ, suc, ◌+◌, ◌<◌, ◌⊎◌, ◌↔◌, ◌||◌, ◌∙◌, Bool, true, false, not, true≢false, List, [], ◌∷◌, ◌++◌, length, take, Some, if◌then◌else◌, inl, inr, refl, sym, ap, subst, slice_get, get_or}
use Rattle.std.specs.List.{list_any}
use Rattle.std.proofs.lemmas.Bool.{cases_Bool, false≢true}
use Rattle.std.proofs.lemmas.List.{take_more}
use Rattle.std.proofs.lemmas.Map.Keys.{any_passes_from_place}
use Rattle.list_laws.proofs.Places.{slice_get-push_last, slice_get-push_old, slice_get-push_cases}
use Rattle.indexmap.specs.IndexSet.{insert_key}

-- an element is one of a list
abbrev pub IsIn : {X : Type 0} → List X → X → Type 0
IsIn xs x = (k : ℕ) × (slice_get xs k ≡ Some x)

-- The elements of a list with one more are those of the list and this one.
pub in_more : {X : Type 0} (xs : List X) (y x : X) → IsIn (xs ++ y ∷ []) x ↔ (IsIn xs x ⊎ (x ≡ y))
in_more {X} xs y x = (
  λ one. elim (slice_get-push_cases xs y one.0 x one.1) [
    | inl old ↦ inl (one.0, old)
    | inr last ↦ inr last.1
  ],
  λ one. elim one [
    | inl old ↦ (old.0, slice_get-push_old xs y old.0 x old.1)
    | inr same ↦ (length xs, slice_get-push_last xs y ∙ ap (λ (z : X). Some z) (sym same))
  ],
)

-- The first k + 1 numbers of a list are the first k and the one at k.
pub in_first : (xs : List ℕ) (k x : ℕ) → k < length xs
    → IsIn (take (k + 1) xs) x ↔ (IsIn (take k xs) x ⊎ (x ≡ get_or xs k 0))
in_first xs k x less = subst (λ (l : List ℕ). IsIn l x ↔ (IsIn (take k xs) x ⊎ (x ≡ get_or xs k 0)))
    (sym (take_more xs k 0 less)) (in_more (take k xs) (get_or xs k 0) x)

pub none_in : {X : Type 0} (x : X) → IsIn [] x → ⊥
none_in x one = absurd cc

pub not_true : (b : Bool) → not b ≡ true → b ≡ false
not_true true e = absurd (false≢true e)
not_true false e = refl

-- each element of a list stands once
abbrev pub StandOnce : {X : Type 0} → List X → Type 0
StandOnce {X} xs = (i j : ℕ) (x : X) → slice_get xs i ≡ Some x → slice_get xs j ≡ Some x → i ≡ j

passing_place : {X : Type 0} (p : X → Bool) (xs : List X) → list_any p xs ≡ true
    → (k : ℕ) × (x : X) × (slice_get xs k ≡ Some x) × (p x ≡ true)
passing_place p [] h = absurd (true≢false (sym h))
passing_place {X} p (x ∷ xs) h = elim (cases_Bool (p x)) [
  | inl passes ↦ (0, x, refl, passes)
  | inr fails ↦
      let rest : list_any p xs ≡ true =
      sym (ap (λ (b : Bool). b || list_any p xs) fails) ∙ h in
      let found = passing_place p xs rest in
      (suc found.0, found.1, found.2, found.3)
]

module _ {X : Type 0} (eq : X → X → Bool) (same : (a b : X) → eq a b ≡ true → a ≡ b)
    (alike : (a : X) → eq a a ≡ true) where
  -- A key is found exactly where it is one of the keys.
  pub contained : (keys : List X) (x : X) → list_any (eq x) keys ≡ true ↔ IsIn keys x
  contained keys x = (
    λ has.
        let found = passing_place (eq x) keys has in
        (found.0, found.2 ∙ ap (λ (z : X). Some z) (sym (same x found.1 found.3))),
    λ one. any_passes_from_place (eq x) keys one.0 x one.1 (alike x),
  )

  -- a new key goes last
  pub insert_new : (keys : List X) (x : X) → list_any (eq x) keys ≡ false
      → insert_key eq keys x ≡ keys ++ x ∷ []
  insert_new keys x new = ap (λ (c : Bool). if c then keys else keys ++ x ∷ []) new

  -- a known key changes nothing
  insert_known : (keys : List X) (x : X) → list_any (eq x) keys ≡ true
      → insert_key eq keys x ≡ keys
  insert_known keys x known = ap (λ (c : Bool). if c then keys else keys ++ x ∷ []) known

  -- The keys after an insertion are those before it and the inserted one.
  pub inserted : (keys : List X) (x y : X)
      → IsIn (insert_key eq keys x) y ↔ (IsIn keys y ⊎ (y ≡ x))
  inserted keys x y = elim (cases_Bool (list_any (eq x) keys)) [
    | inl known ↦ subst (λ (l : List X). IsIn l y ↔ (IsIn keys y ⊎ (y ≡ x)))
        (sym (insert_known keys x known)) (
          λ one. inl one,
          λ one. elim one [
            | inl old ↦ old
            | inr is ↦ subst (IsIn keys) (sym is) ((contained keys x).0 known)
          ],
        )
    | inr new ↦ subst (λ (l : List X). IsIn l y ↔ (IsIn keys y ⊎ (y ≡ x)))
        (sym (insert_new keys x new)) (in_more keys x y)
  ]

  -- Keys that stand once do so with a new one.
  pub once_more : (keys : List X) (x : X) → StandOnce keys → list_any (eq x) keys ≡ false
      → StandOnce (keys ++ x ∷ [])
  once_more keys x once new i j y at_i at_j =
      let not_in : IsIn keys x → ⊥ =
      λ one. true≢false (sym ((contained keys x).1 one) ∙ new) in
      elim (slice_get-push_cases keys x i y at_i) [
        | inl old ↦ elim (slice_get-push_cases keys x j y at_j) [
          | inl also ↦ once i j y old also
          | inr last ↦ absurd (not_in (i, old ∙ ap (λ (z : X). Some z) last.1))
        ]
        | inr last ↦ elim (slice_get-push_cases keys x j y at_j) [
          | inl also ↦ absurd (not_in (j, also ∙ ap (λ (z : X). Some z) last.1))
          | inr too ↦ last.0 ∙ sym too.0
        ]
      ]
