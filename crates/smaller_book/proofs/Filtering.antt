-- Lists without some of their items.
use Rattle.std.proofs.Common.{◌≡◌, ◌≢◌, ℕ, zero, suc, ◌<◌, ◌≤◌, ◌∙◌, Bool, true, false, List, [], ◌∷◌, length, filter, get_or, cond, refl, sym, ap, subst, inl, inr, arith}
use Rattle.std.specs.List.{AllByRecursion, range_with_len}
use Rattle.std.proofs.lemmas.Bool.{cases_Bool, cond-true, cond-false, true≢false, ne_eqb}
use Rattle.std.proofs.lemmas.List.Kept.{AllPairs-filter}
use Rattle.std.proofs.lemmas.List.FromFn.{get_or-range_with_len, length-range_with_len}
use Rattle.legal_orders.specs.Container.{one_if, times}
use Rattle.seq_objects.specs.MapSteps.{key_of}
use Rattle.seq_objects.specs.MapLaws.{LacksKey, HasKeysOnce}
use Rattle.smaller_book.specs.Part.{AreRising}
use Rattle.smaller_book.specs.Keys.{HasItemsOnce, Rises}

-- ---- what a filter keeps

-- A filter keeps a first item that passes.
pub filter-kept : {X : Type 0} (p : X → Bool) (x : X) (xs : List X) → p x ≡ true
    → filter p (x ∷ xs) ≡ x ∷ filter p xs
filter-kept p x xs kept = cond-true (p x) (x ∷ filter p xs) (filter p xs) kept

-- A filter drops a first item that doesn't pass.
pub filter-gone : {X : Type 0} (p : X → Bool) (x : X) (xs : List X) → p x ≡ false
    → filter p (x ∷ xs) ≡ filter p xs
filter-gone p x xs gone = cond-false (p x) (x ∷ filter p xs) (filter p xs) gone

-- A filter that every item passes keeps the whole list.
pub filter-all : {X : Type 0} (p : X → Bool) (xs : List X) → ((x : X) → p x ≡ true)
    → filter p xs ≡ xs
filter-all p [] all = refl
filter-all {X} p (x ∷ xs) all =
    filter-kept p x xs (all x) ∙ ap (λ (ys : List X). x ∷ ys) (filter-all p xs all)

-- A filter after another one is a third filter, where the third agrees with the second on each item
-- that passes the first, and no other item passes it.
pub filter-filter : {X : Type 0} (p q r : X → Bool) (xs : List X)
    → ((x : X) → p x ≡ true → r x ≡ q x) → ((x : X) → p x ≡ false → r x ≡ false)
    → filter q (filter p xs) ≡ filter r xs
filter-filter p q r [] on off = refl
filter-filter {X} p q r (x ∷ xs) on off = elim (cases_Bool (p x)) [
  | inl kept ↦
      ap (filter q) (filter-kept p x xs kept)
      ∙ ap (λ (b : Bool). cond b (x ∷ filter q (filter p xs)) (filter q (filter p xs)))
      (sym (on x kept))
      ∙ ap (λ (ys : List X). cond (r x) (x ∷ ys) ys) (filter-filter p q r xs on off)
  | inr gone ↦ ap (filter q) (filter-gone p x xs gone) ∙ filter-filter p q r xs on off
      ∙ sym (filter-gone r x xs (off x gone))
]

-- Each item that a filter keeps passes.
pub filter-passes : {X : Type 0} (p : X → Bool) (xs : List X) (k : ℕ) (d : X)
    → k < length (filter p xs) → p (get_or (filter p xs) k d) ≡ true
filter-passes p [] k d inside = absurd (omega arith)
filter-passes {X} p (x ∷ xs) k d inside = elim (cases_Bool (p x)) [
  | inl kept ↦
      let P : List X → Type 0 = λ ys. (j : ℕ) → j < length ys → p (get_or ys j d) ≡ true in
      let all : P (x ∷ filter p xs) =
      first x (filter p xs) kept (λ j less. filter-passes p xs j d less) in
      subst P (sym (filter-kept p x xs kept)) all k inside
  | inr gone ↦
      let P : List X → Type 0 = λ ys. (j : ℕ) → j < length ys → p (get_or ys j d) ≡ true in
      subst P (sym (filter-gone p x xs gone)) (λ j less. filter-passes p xs j d less) k inside
]
  where
    first : (y : X) (ys : List X) → p y ≡ true
        → ((j : ℕ) → j < length ys → p (get_or ys j d) ≡ true) → (j : ℕ) → j < length (y ∷ ys)
        → p (get_or (y ∷ ys) j d) ≡ true
    first y ys kept rest zero less = kept
    first y ys kept rest (suc j) less = rest j (omega arith)

-- Each item of a list that passes is among those that the filter keeps.
pub filter-finds : {X : Type 0} (p : X → Bool) (xs : List X) (j : ℕ) (d : X) → j < length xs
    → p (get_or xs j d) ≡ true
    → (k : ℕ) × (k < length (filter p xs)) × (get_or (filter p xs) k d ≡ get_or xs j d)
filter-finds p [] j d inside passes = absurd (omega arith)
filter-finds {X} p (x ∷ xs) zero d inside passes =
    let P : List X → Type 0 = λ ys. (k : ℕ) × (k < length ys) × (get_or ys k d ≡ x) in
    let found : P (x ∷ filter p xs) = (0, omega arith, refl) in
    subst P (sym (filter-kept p x xs passes)) found
filter-finds {X} p (x ∷ xs) (suc j) d inside passes =
    let P : List X → Type 0 = λ ys. (k : ℕ) × (k < length ys) × (get_or ys k d ≡ get_or xs j d) in
    let found = filter-finds p xs j d (omega arith) passes in
    elim (cases_Bool (p x)) [
      | inl kept ↦
          let later : P (x ∷ filter p xs) = (suc found.0, omega (arith, found.1), found.2) in
          subst P (sym (filter-kept p x xs kept)) later
      | inr gone ↦ subst P (sym (filter-gone p x xs gone)) found
    ]

-- A filter keeps at most as many items as there are.
pub filter-few : {X : Type 0} (p : X → Bool) (xs : List X) → length (filter p xs) ≤ length xs
filter-few p [] = omega arith
filter-few p (x ∷ xs) = elim (cases_Bool (p x)) [
  | inl kept ↦ omega (arith, ap length (filter-kept p x xs kept), filter-few p xs)
  | inr gone ↦ omega (arith, ap length (filter-gone p x xs gone), filter-few p xs)
]

-- A filter keeps fewer items than there are, where some item doesn't pass.
pub filter-fewer : {X : Type 0} (p : X → Bool) (xs : List X) (j : ℕ) (d : X) → j < length xs
    → p (get_or xs j d) ≡ false → length (filter p xs) < length xs
filter-fewer p [] j d inside gone = absurd (omega arith)
filter-fewer p (x ∷ xs) zero d inside gone =
    omega (arith, ap length (filter-gone p x xs gone), filter-few p xs)
filter-fewer p (x ∷ xs) (suc j) d inside gone = elim (cases_Bool (p x)) [
  | inl kept ↦
      omega (arith, ap length (filter-kept p x xs kept), filter-fewer p xs j d (omega arith) gone)
  | inr other ↦
      omega (arith, ap length (filter-gone p x xs other), filter-fewer p xs j d (omega arith) gone)
]

-- The numbers below n that a filter keeps rise.
pub rising-filter_range : (p : ℕ → Bool) (n : ℕ) → AreRising (filter p (range_with_len 0 n))
rising-filter_range p n j k less inside =
    AllPairs-filter (λ (x y : ℕ). x < y) p (range_with_len 0 n)
    (λ a b d below room. omega (
      arith,
      get_or-range_with_len 0 n a d (omega (arith, below, room, length-range_with_len 0 n)),
      get_or-range_with_len 0 n b d (omega (arith, room, length-range_with_len 0 n)),
      below,
    ))
    j k 0 less inside

-- ---- lists that rise

-- What holds of each item of a list holds of each item that a filter keeps.
pub all-filter : (p : ℕ → Bool) (P : ℕ → Type 0) (xs : List ℕ) → AllByRecursion P xs
    → AllByRecursion P (filter p xs)
all-filter p P [] all = tt
all-filter p P (y ∷ ys) all = elim (cases_Bool (p y)) [
  | inl kept ↦ subst (AllByRecursion P) (sym (filter-kept p y ys kept))
      (all.0, all-filter p P ys all.1)
  | inr gone ↦ subst (AllByRecursion P) (sym (filter-gone p y ys gone))
      (all-filter p P ys all.1)
]

-- What a filter keeps of a rising list rises.
pub rises-filter : (p : ℕ → Bool) (xs : List ℕ) → Rises xs → Rises (filter p xs)
rises-filter p [] rises = tt
rises-filter p (x ∷ xs) rises = elim (cases_Bool (p x)) [
  | inl kept ↦ subst Rises (sym (filter-kept p x xs kept))
      (all-filter p (λ y. x ≤ y) xs rises.0, rises-filter p xs rises.1)
  | inr gone ↦ subst Rises (sym (filter-gone p x xs gone)) (rises-filter p xs rises.1)
]

-- What a filter keeps of a list without an item twice has none twice.
pub items_once-filter : (p : ℕ → Bool) (xs : List ℕ) → HasItemsOnce xs
    → HasItemsOnce (filter p xs)
items_once-filter p [] once = tt
items_once-filter p (x ∷ xs) once = elim (cases_Bool (p x)) [
  | inl kept ↦ subst HasItemsOnce (sym (filter-kept p x xs kept))
      (all-filter p (λ y. x ≢ y) xs once.0, items_once-filter p xs once.1)
  | inr gone ↦ subst HasItemsOnce (sym (filter-gone p x xs gone)) (items_once-filter p xs once.1)
]

-- ---- lists of items with keys

pub lacks_key-filter : (p : ℕ → Bool) (key : ℕ) (xs : List ℕ) → LacksKey key xs
    → LacksKey key (filter p xs)
lacks_key-filter p key [] lacks = tt
lacks_key-filter p key (x ∷ xs) lacks = elim (cases_Bool (p x)) [
  | inl kept ↦ subst (LacksKey key) (sym (filter-kept p x xs kept))
      (lacks.0, lacks_key-filter p key xs lacks.1)
  | inr gone ↦
      subst (LacksKey key) (sym (filter-gone p x xs gone)) (lacks_key-filter p key xs lacks.1)
]

-- What a filter keeps of a list without two items of one key has no two items of one key.
pub keys_once-filter : (p : ℕ → Bool) (xs : List ℕ) → HasKeysOnce xs → HasKeysOnce (filter p xs)
keys_once-filter p [] once = tt
keys_once-filter p (x ∷ xs) once = elim (cases_Bool (p x)) [
  | inl kept ↦ subst HasKeysOnce (sym (filter-kept p x xs kept))
      (lacks_key-filter p (key_of x) xs once.0, keys_once-filter p xs once.1)
  | inr gone ↦ subst HasKeysOnce (sym (filter-gone p x xs gone)) (keys_once-filter p xs once.1)
]

-- ---- how often a value stays

-- A value that passes is in what a filter keeps as often as in the list.
pub times-filter : (p : ℕ → Bool) (v : ℕ) (xs : List ℕ) → p v ≡ true
    → times v (filter p xs) ≡ times v xs
times-filter p v [] stays = refl
times-filter p v (x ∷ xs) stays = elim (cases_Bool (p x)) [
  | inl kept ↦ omega (arith, ap (times v) (filter-kept p x xs kept), times-filter p v xs stays)
  | inr gone ↦
      let other : x ≢ v = λ e. true≢false (sym stays ∙ (sym (ap p e) ∙ gone)) in
      omega (
        arith,
        ap (times v) (filter-gone p x xs gone),
        times-filter p v xs stays,
        ap one_if (ne_eqb x v other),
      )
]
