-- The items of a list that pass a test, before and after an item is put in, taken out or replaced.
use Rattle.std.proofs.Common.{◌≡◌, ℕ, zero, suc, ◌<◌, Bool, true, false, List, [], ◌∷◌, ◌++◌, length, get_or, take, drop, insert, remove, set, position, Option, Some, None, is_some, ltb, inl, inr, refl, sym, ap, ◌∙◌, arith}
use Rattle.std.specs.List.{filter, position_or_len}
use Rattle.std.proofs.lemmas.Bool.{cond-true, cond-false, cases_lt, lt-ltb}
use Rattle.std.proofs.lemmas.Option.{none-some}
use Rattle.std.proofs.lemmas.List.{take-append-drop, take_all, set_split}
use Rattle.std.proofs.lemmas.List.Elements.{filter-append}
use Rattle.std.proofs.lemmas.List.Sums.{fails_before_first}
use Rattle.std.proofs.lemmas.List.Quantifiers.{position-Some}
use Rattle.list_laws.proofs.Options.{cases_Option}

-- no item before the first one that passes does
filter_before : (p : ℕ → Bool) (xs : List ℕ) (i : ℕ) → ((k : ℕ) → k < i → p (get_or xs k 0) ≡ false)
    → filter p (take i xs) ≡ []
filter_before p xs zero fails = refl
filter_before p [] (suc i) fails = refl
filter_before p (x ∷ xs) (suc i) fails =
    cond-false (p x) (x ∷ filter p (take i xs)) (filter p (take i xs)) (fails 0 (omega arith))
    ∙ filter_before p xs i (λ k lt. fails (suc k) (omega (arith, lt)))

-- a list from one of its places on
drop_first : (xs : List ℕ) (i : ℕ) → i < length xs → drop i xs ≡ get_or xs i 0 ∷ drop (suc i) xs
drop_first [] i inside = absurd (omega (arith, inside))
drop_first (x ∷ xs) zero inside = refl
drop_first (x ∷ xs) (suc i) inside = drop_first xs i (omega (arith, inside))

-- the items that pass are those of a list's first part and those of its second part
filter-parts : (p : ℕ → Bool) (xs : List ℕ) (i : ℕ)
    → filter p (take i xs) ++ filter p (drop i xs) ≡ filter p xs
filter-parts p xs i =
    sym (filter-append p (take i xs) (drop i xs)) ∙ ap (filter p) (take-append-drop i xs)

no_items : (xs ys : List ℕ) → xs ++ ys ≡ [] → (xs ≡ []) × (ys ≡ [])
no_items [] ys none = (refl, none)
no_items (x ∷ xs) ys none = absurd (omega (arith, ap length none))

-- An item that is put in is among those that pass exactly where it passes.
pub filter-insert_other : (p : ℕ → Bool) (xs : List ℕ) (i y : ℕ) → p y ≡ false
    → filter p (insert xs i y) ≡ filter p xs
filter-insert_other p xs i y fails =
    filter-append p (take i xs) (y ∷ drop i xs)
    ∙ (ap (λ (ys : List ℕ). filter p (take i xs) ++ ys) (cond-false (p y) (y ∷ filter p (drop i xs))
    (filter p (drop i xs)) fails) ∙ filter-parts p xs i)

pub filter-insert_first : (p : ℕ → Bool) (xs : List ℕ) (i y : ℕ) → p y ≡ true
    → filter p xs ≡ [] → filter p (insert xs i y) ≡ y ∷ []
filter-insert_first p xs i y passes none =
    let parts =
    no_items (filter p (take i xs)) (filter p (drop i xs)) (filter-parts p xs i ∙ none) in
    filter-append p (take i xs) (y ∷ drop i xs)
    ∙ (ap (λ (ys : List ℕ). ys ++ filter p (y ∷ drop i xs)) parts.0
    ∙ (cond-true (p y) (y ∷ filter p (drop i xs)) (filter p (drop i xs)) passes
    ∙ ap (λ (ys : List ℕ). y ∷ ys) parts.1))

-- The items that pass stay the same where one that doesn't is taken out, or replaced by another one
-- that doesn't.
pub filter-remove_other : (p : ℕ → Bool) (xs : List ℕ) (i : ℕ) → i < length xs
    → p (get_or xs i 0) ≡ false → filter p (remove xs i) ≡ filter p xs
filter-remove_other p xs i inside fails =
    let same : filter p (drop i xs) ≡ filter p (drop (suc i) xs)
    = ap (filter p) (drop_first xs i inside) ∙ cond-false (p (get_or xs i 0))
    (get_or xs i 0 ∷ filter p (drop (suc i) xs)) (filter p (drop (suc i) xs)) fails in
    filter-append p (take i xs) (drop (suc i) xs)
    ∙ (ap (λ (ys : List ℕ). filter p (take i xs) ++ ys) (sym same) ∙ filter-parts p xs i)

pub filter-set_other : (p : ℕ → Bool) (xs : List ℕ) (i y : ℕ) → i < length xs
    → p (get_or xs i 0) ≡ false → p y ≡ false → filter p (set xs i y) ≡ filter p xs
filter-set_other p xs i y inside old new =
    ap (filter p) (set_split xs i y inside)
    ∙ (filter-append p (take i xs) (y ∷ drop (suc i) xs)
    ∙ (ap (λ (ys : List ℕ). filter p (take i xs) ++ ys)
    (cond-false (p y) (y ∷ filter p (drop (suc i) xs)) (filter p (drop (suc i) xs)) new)
    ∙ (sym (filter-append p (take i xs) (drop (suc i) xs))
    ∙ filter-remove_other p xs i inside old)))

-- The first item that passes comes after no other one that does.
filter-first : (p : ℕ → Bool) (xs : List ℕ) (i : ℕ) → position p xs ≡ Some i
    → filter p (take i xs) ≡ []
filter-first p xs i at = filter_before p xs i (position-Some p xs i 0 at).2

pub filter-found : (p : ℕ → Bool) (xs : List ℕ) (i : ℕ) → position p xs ≡ Some i
    → filter p xs ≡ get_or xs i 0 ∷ filter p (drop (suc i) xs)
filter-found p xs i at =
    let found = position-Some p xs i 0 at in
    sym (filter-parts p xs i)
    ∙ (ap (λ (ys : List ℕ). ys ++ filter p (drop i xs)) (filter-first p xs i at)
    ∙ (ap (filter p) (drop_first xs i found.0)
    ∙ cond-true (p (get_or xs i 0)) (get_or xs i 0 ∷ filter p (drop (suc i) xs))
    (filter p (drop (suc i) xs)) found.1))

pub filter-remove_first : (p : ℕ → Bool) (xs : List ℕ) (i : ℕ) → position p xs ≡ Some i
    → filter p (remove xs i) ≡ filter p (drop (suc i) xs)
filter-remove_first p xs i at =
    filter-append p (take i xs) (drop (suc i) xs)
    ∙ ap (λ (ys : List ℕ). ys ++ filter p (drop (suc i) xs)) (filter-first p xs i at)

pub filter-set_first : (p : ℕ → Bool) (xs : List ℕ) (i y : ℕ) → position p xs ≡ Some i → p y ≡ true
    → filter p (set xs i y) ≡ y ∷ filter p (drop (suc i) xs)
filter-set_first p xs i y at passes =
    ap (filter p) (set_split xs i y (position-Some p xs i 0 at).0)
    ∙ (filter-append p (take i xs) (y ∷ drop (suc i) xs)
    ∙ (ap (λ (ys : List ℕ). ys ++ filter p (y ∷ drop (suc i) xs)) (filter-first p xs i at)
    ∙ cond-true (p y) (y ∷ filter p (drop (suc i) xs)) (filter p (drop (suc i) xs)) passes))

-- Where no item passes, none is left.
pub filter-none : (p : ℕ → Bool) (xs : List ℕ) → position p xs ≡ None → filter p xs ≡ []
filter-none p xs none =
    let n : ℕ = position_or_len p xs in
    elim (cases_lt n (length xs)) [
      | inl inside ↦ absurd (none-some n
          (sym none ∙ cond-true (ltb n (length xs)) (Some n) None (lt-ltb n (length xs) inside)))
      | inr past ↦ sym (ap (filter p) (take_all n xs past))
          ∙ filter_before p xs n (λ k lt. fails_before_first p xs k 0 lt)
    ]

-- the first item of a list, and those after it
abbrev pub first_of : List ℕ → Option ℕ
first_of [] = None
first_of (x ∷ xs) = Some x

abbrev pub rest_of : List ℕ → List ℕ
rest_of [] = []
rest_of (x ∷ xs) = xs

-- the item at a place
abbrev pub item_at : List ℕ → Option ℕ → Option ℕ
item_at xs None = None
item_at xs (Some i) = Some (get_or xs i 0)

-- The item at the first place that passes is the first of those that pass.
pub first_passes : (p : ℕ → Bool) (xs : List ℕ)
    → item_at xs (position p xs) ≡ first_of (filter p xs)
first_passes p xs =
    elim (cases_Option (position p xs)) as
    (λ _. item_at xs (position p xs) ≡ first_of (filter p xs)) [
      | inl none ↦ ap (item_at xs) none ∙ sym (ap first_of (filter-none p xs none))
      | inr found ↦ ap (item_at xs) found.1 ∙ sym (ap first_of (filter-found p xs found.0 found.1))
    ]

is_some_at : (xs : List ℕ) (o : Option ℕ) → is_some o ≡ is_some (item_at xs o)
is_some_at xs None = refl
is_some_at xs (Some i) = refl

-- Some item passes exactly where there is a first one that does.
pub some_passes : (p : ℕ → Bool) (xs : List ℕ)
    → is_some (position p xs) ≡ is_some (first_of (filter p xs))
some_passes p xs = is_some_at xs (position p xs) ∙ ap is_some (first_passes p xs)
