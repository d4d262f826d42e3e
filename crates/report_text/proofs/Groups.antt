-- Lines cut into those of each caller, and one line more.
use Rattle.std.proofs.Common.{◌≡◌, ℕ, zero, suc, ◌+◌, ◌<◌, ◌≤◌, ◌⊎◌, List, [], ◌∷◌, ◌++◌, length, get_or, set, take, drop, slice_get, Option, Some, refl, sym, ap, ◌∙◌, arith, inl, inr}
use Rattle.std.specs.Prelude.{sum}
use Rattle.std.proofs.lemmas.Bool.{cases_eq}
use Rattle.std.proofs.lemmas.List.{get_or-set_same, get_or-set_other, length-append, length-take, length-drop, take_all, take-append-le, drop-append-le}
use Rattle.std.proofs.lemmas.List.Sums.{sum_by-cons}
use Rattle.std.proofs.Math.ListN.{drop_of_length-le}
use Rattle.list_laws.proofs.Places.{slice_get-push_old, slice_get-push_last, slice_get-push_cases}
use Rattle.client_scripts.specs.ScriptRules.{grouped}

-- a list of lists with one more item after those of a caller
abbrev pub push_at : {X : Type 0} → List (List X) → ℕ → X → List (List X)
push_at xss i x = set xss i (get_or xss i [] ++ x ∷ [])

pub length-grouped : {X : Type 0} (counts : List ℕ) (xs : List X)
    → length (grouped counts xs) ≡ length counts
length-grouped [] xs = refl
length-grouped (c ∷ counts) xs = ap suc (length-grouped counts (drop c xs))

-- how many items come before those of a caller
abbrev pub before : List ℕ → ℕ → ℕ
before counts i = sum (take i counts)

pub before-suc : (c : ℕ) (counts : List ℕ) (i : ℕ)
    → before (c ∷ counts) (suc i) ≡ c + before counts i
before-suc c counts i = sum_by-cons (λ (x : ℕ). x) c (take i counts)

-- how many items come before those of the next caller
pub before-more : (counts : List ℕ) (i : ℕ)
    → before counts (i + 1) ≡ before counts i + get_or counts i 0
before-more [] zero = refl
before-more [] (suc i) = let next : suc i + 1 ≡ suc (i + 1) = omega arith in ap (before []) next
before-more (c ∷ counts) zero = let one : before (c ∷ counts) 1 ≡ c + before counts 0 =
    before-suc c counts 0 in omega arith
before-more (c ∷ counts) (suc i) =
    let next : suc i + 1 ≡ suc (i + 1) = omega arith in
    let rest : before (c ∷ counts) (suc (i + 1)) ≡ before (c ∷ counts) (suc i) + get_or counts i 0 =
    omega (arith, before-more counts i, before-suc c counts (i + 1), before-suc c counts i) in
    ap (before (c ∷ counts)) next ∙ rest

-- the items of a caller are those after the ones of earlier callers
pub length-own : {X : Type 0} (counts : List ℕ) (xs : List X) (i k : ℕ) → length xs
    ≡ before counts i + k → k ≤ get_or counts i 0 → length (get_or (grouped counts xs) i []) ≡ k
length-own [] xs i k e le = omega arith
length-own (c ∷ counts) xs zero k e le = omega (arith, length-take c xs, e)
length-own {X} (c ∷ counts) xs (suc i) k e le =
    length-own counts (drop c xs) i k (omega (arith, length-drop c xs, e, before-suc c counts i)) le

-- an item after all others is one more of its caller
pub grouped-push : {X : Type 0} (counts : List ℕ) (xs : List X) (x : X) (i k : ℕ)
    → length xs ≡ before counts i + k → k < get_or counts i 0
    → grouped counts (xs ++ x ∷ []) ≡ push_at (grouped counts xs) i x
grouped-push [] xs x i k e lt = absurd (omega arith)
grouped-push {X} (c ∷ counts) xs x zero k e lt =
    let size : length (xs ++ x ∷ []) ≤ c = omega (arith, length-append xs (x ∷ []), e) in
    let few : length xs ≤ c = omega (arith, e) in
    let prefix : take c (xs ++ x ∷ []) ≡ take c xs ++ x ∷ [] =
    take_all c (xs ++ x ∷ []) size ∙ ap (λ (ys : List X). ys ++ x ∷ []) (sym (take_all c xs few)) in
    let rest : drop c (xs ++ x ∷ []) ≡ drop c xs =
    drop_of_length-le (xs ++ x ∷ []) size ∙ sym (drop_of_length-le xs few) in
    ap (λ (ys : List X). ys ∷ grouped counts (drop c (xs ++ x ∷ []))) prefix
    ∙ ap (λ (ys : List X). (take c xs ++ x ∷ []) ∷ grouped counts ys) rest
grouped-push {X} (c ∷ counts) xs x (suc i) k e lt =
    let many : c ≤ length xs = omega (arith, e, before-suc c counts i) in
    let prefix : take c (xs ++ x ∷ []) ≡ take c xs = take-append-le c xs (x ∷ []) many in
    let rest : drop c (xs ++ x ∷ []) ≡ drop c xs ++ x ∷ [] = drop-append-le c xs (x ∷ []) many in
    ap (λ (ys : List X). ys ∷ grouped counts (drop c (xs ++ x ∷ []))) prefix
    ∙ ap (λ (ys : List X). take c xs ∷ grouped counts ys) rest
    ∙ ap (λ (yss : List (List X)). take c xs ∷ yss) (grouped-push counts (drop c xs) x i k
    (omega (arith, length-drop c xs, e, before-suc c counts i)) lt)

-- ---- which item is at a place

abbrev pub place : {X : Type 0} → List (List X) → ℕ → ℕ → Option X
place xss j m = slice_get (get_or xss j []) m

pub place-push_here : {X : Type 0} (xss : List (List X)) (i : ℕ) (x : X) → i < length xss
    → place (push_at xss i x) i (length (get_or xss i [])) ≡ Some x
place-push_here {X} xss i x lt =
    ap (λ (ys : List X). slice_get ys (length (get_or xss i [])))
    (get_or-set_same xss i (get_or xss i [] ++ x ∷ []) [] lt)
    ∙ slice_get-push_last (get_or xss i []) x

pub place-push_old : {X : Type 0} (xss : List (List X)) (i : ℕ) (x : X) (j m : ℕ) (z : X)
    → i < length xss → place xss j m ≡ Some z → place (push_at xss i x) j m ≡ Some z
place-push_old {X} xss i x j m z lt e =
    let own = get_or xss i [] ++ x ∷ [] in
    elim (cases_eq j i) [
      | inl same ↦
          ap (λ (k : ℕ). place (set xss i own) k m) same
          ∙ ap (λ (ys : List X). slice_get ys m) (get_or-set_same xss i own [] lt)
          ∙ slice_get-push_old (get_or xss i []) x m z
          (ap (λ (k : ℕ). place xss k m) (sym same) ∙ e)
      | inr other ↦ ap (λ (ys : List X). slice_get ys m) (get_or-set_other xss i j own [] other) ∙ e
    ]

pub place-push_cases : {X : Type 0} (xss : List (List X)) (i : ℕ) (x : X) (j m : ℕ) (z : X)
    → i < length xss → place (push_at xss i x) j m ≡ Some z
    → (place xss j m ≡ Some z) ⊎ ((j ≡ i) × (m ≡ length (get_or xss i [])) × (z ≡ x))
place-push_cases {X} xss i x j m z lt e =
    let own = get_or xss i [] ++ x ∷ [] in
    elim (cases_eq j i) [
      | inl same ↦
          let here : slice_get own m ≡ Some z = sym (ap (λ (k : ℕ). place (set xss i own) k m) same
          ∙ ap (λ (ys : List X). slice_get ys m) (get_or-set_same xss i own [] lt)) ∙ e in
          elim (slice_get-push_cases (get_or xss i []) x m z here) [
            | inl old ↦ inl (ap (λ (k : ℕ). place xss k m) same ∙ old)
            | inr new ↦ inr (same, new.0, new.1)
          ]
      | inr other ↦ inl
          (sym (ap (λ (ys : List X). slice_get ys m) (get_or-set_other xss i j own [] other)) ∙ e)
    ]
