-- Lists with an item for each of n callers, as they grow and shrink at their end.
use Rattle.std.proofs.Common.{◌≡◌, ◌≢◌, ◌∙◌, sym, subst, ap, refl, ℕ, zero, suc, ◌+◌, ◌<◌, ◌⊎◌, inl, inr, List, [], ◌∷◌, ◌++◌, Some, length, take, drop, set, slice_get, arith}
use Rattle.std.specs.Prelude.{Option, option_to_list}
use Rattle.std.specs.List.{All, AllZip}
use Rattle.std.proofs.lemmas.List.Elements.{All-nil, All-cons}
use Rattle.std.proofs.lemmas.Slice.Zip.{AllZip-long}
use Rattle.std.proofs.lemmas.List.{length_push}
use Rattle.std.proofs.lemmas.Option.{none-some, same_Some}
use Rattle.std.proofs.Math.Seq.{take-append_seam}
use Rattle.list_laws.proofs.Places.{slice_get-push_old, slice_get-push_last, slice_get-push_cases}
use Rattle.run_report.specs.Places.{AreDownFrom, AreInOrder}

-- an element of a list is at the same place with one more item at the list's end
pub still_at : {X : Type 0} (xs xs' : List X) (x y : X) (i : ℕ)
    → xs' ≡ xs ++ x ∷ [] → slice_get xs i ≡ Some y → slice_get xs' i ≡ Some y
still_at xs xs' x y i put there =
    subst (λ (ys : List _). slice_get ys i ≡ Some y) (sym put) (slice_get-push_old xs x i y there)

pub last_at : {X : Type 0} (xs xs' : List X) (x : X) (k : ℕ) → xs' ≡ xs ++ x ∷ [] → length xs ≡ k
    → slice_get xs' k ≡ Some x
last_at xs xs' x k put long =
    subst (λ (m : ℕ). slice_get xs' m ≡ Some x) long (subst
    (λ (ys : List _). slice_get ys (length xs) ≡ Some x) (sym put) (slice_get-push_last xs x))

-- an empty list has no item of any caller
pub none_down : {X : Type 0} (n : ℕ) (Is : ℕ → X → Type 0) (xs : List X)
    → xs ≡ [] → AreDownFrom n Is xs
none_down n Is xs none i j x place there =
    absurd (none-some x (subst (λ (ys : List _). slice_get ys j ≡ Some x) none there))

-- items of the callers from the last one down, with that of the next lower caller at the end, are
-- such items
pub one_more_down : {X : Type 0} (n : ℕ) (Is : ℕ → X → Type 0) (xs xs' : List X) (k : ℕ) (x : X)
    → xs' ≡ xs ++ x ∷ [] → k + length xs + 1 ≡ n → Is k x → AreDownFrom n Is xs
    → AreDownFrom n Is xs'
one_more_down n Is xs xs' k x put place one h i j y at there =
    elim (slice_get-push_cases xs x j y
    (subst (λ (ys : List _). slice_get ys j ≡ Some y) put there)) [
      | inl old ↦ h i j y at old
      | inr new ↦
          let same : k ≡ i = omega (arith, place, at, new.0) in
          subst (λ (m : ℕ). Is m y) same (subst (λ z. Is k z) (sym new.1) one)
    ]

-- items of the callers from the last one down are such items without the last of them
pub one_less_down : {X : Type 0} (n : ℕ) (Is : ℕ → X → Type 0) (xs xs' : List X) (x : X)
    → xs ≡ xs' ++ x ∷ [] → AreDownFrom n Is xs → AreDownFrom n Is xs'
one_less_down n Is xs xs' x took h i j y at there = h i j y at (still_at xs' xs x y j took there)

-- the item that is taken off the end is that of its caller
pub last_down : {X : Type 0} (n : ℕ) (Is : ℕ → X → Type 0) (xs xs' : List X) (k : ℕ) (x : X)
    → xs ≡ xs' ++ x ∷ [] → k + length xs' + 1 ≡ n → AreDownFrom n Is xs → Is k x
last_down n Is xs xs' k x took place h =
    h k (length xs') x place (last_at xs' xs x (length xs') took refl)

-- items in order are in order without the last of them
pub one_less_in_order : {X : Type 0} (Is : ℕ → X → Type 0) (xs xs' : List X) (x : X)
    → xs ≡ xs' ++ x ∷ [] → AreInOrder Is xs → AreInOrder Is xs'
one_less_in_order Is xs xs' x took h i y there = h i y (still_at xs' xs x y i took there)

pub last_in_order : {X : Type 0} (Is : ℕ → X → Type 0) (xs xs' : List X) (k : ℕ) (x : X)
    → xs ≡ xs' ++ x ∷ [] → k ≡ length xs' → AreInOrder Is xs → Is k x
last_in_order Is xs xs' k x took place h = h k x (last_at xs' xs x k took (sym place))

-- an item of the second of two related lists has an item of the first at its place that is related
-- to it
related_at : {X Y : Type 0} (R : X → Y → Type 0) (xs : List X) (ys : List Y) (j : ℕ) (y : Y)
    → AllZip R xs ys → slice_get ys j ≡ Some y → (x : X) × (slice_get xs j ≡ Some x) × R x y
related_at R [] [] j y h there = absurd (none-some y there)
related_at R [] (y' ∷ ys) j y h there = absurd h
related_at R (x ∷ xs) [] j y h there = absurd h
related_at R (x ∷ xs) (y' ∷ ys) zero y h there =
    (x, refl, subst (λ z. R x z) (same_Some y' y there) h.0)
related_at R (x ∷ xs) (y' ∷ ys) (suc j) y h there = related_at R xs ys j y h.1 there

-- where each item of a caller is related to an item of a second list, and together they imply
-- something of the latter, it holds of the items of the second list
pub down_across : {X Y : Type 0} (n : ℕ) (Is : ℕ → X → Type 0) (Then : ℕ → Y → Type 0)
    (R : X → Y → Type 0) (xs : List X) (ys : List Y)
    → ((i : ℕ) (x : X) (y : Y) → Is i x → R x y → Then i y) → AreDownFrom n Is xs → AllZip R xs ys
    → AreDownFrom n Then ys
down_across n Is Then R xs ys one h zip i j y at there =
    let before = related_at R xs ys j y zip there in
    one i before.0 y (h i j before.0 at before.1) before.2

-- a list that was lent as a slice, after what was done to the slice
pub written_back : {X : Type 0} (R : X → X → Type 0) (n : ℕ) (xs lent ys : List X) → lent ≡ xs
    → length lent ≡ n → AllZip R lent ys → AllZip R xs (take n (ys ++ drop (length ys) xs))
written_back R n xs lent ys is long h =
    let all : AllZip R xs ys = subst (λ (l : List _). AllZip R l ys) is h in
    let whole : take n (ys ++ drop (length ys) xs) ≡ ys =
    ap (λ (m : ℕ). take m (ys ++ drop (length ys) xs)) (sym long ∙ sym (AllZip-long R lent ys h))
    ∙ take-append_seam ys (drop (length ys) xs) in
    subst (λ (l : List _). AllZip R xs l) (sym whole) all

-- a list from which an item was popped was the list left with this item at the end
pub popped : {X : Type 0} (xs ys : List X) (o : Option X) (x : X) → xs ≡ ys ++ option_to_list o
    → o ≡ Some x → xs ≡ ys ++ x ∷ []
popped xs ys o x items is = items ∙ ap (λ (p : Option _). ys ++ option_to_list p) is

-- a list with one item more than another is one longer
pub one_longer : {X : Type 0} (xs ys : List X) (x : X)
    → xs ≡ ys ++ x ∷ [] → length xs ≡ length ys + 1
one_longer xs ys x is = ap (λ (l : List _). length l) is ∙ length_push ys x

-- what holds of each caller's item holds of all items
pub down_all : {X : Type 0} (Is : ℕ → X → Type 0) (Then : X → Type 0)
    → ((i : ℕ) (x : X) → Is i x → Then x)
    → (xs : List X) (n : ℕ) → length xs ≡ n → AreDownFrom n Is xs → All Then xs
down_all Is Then one [] n long h = All-nil Then
down_all Is Then one (x ∷ xs) n long h =
    All-cons Then x xs (one (length xs) x (h (length xs) 0 x (omega (arith, long)) refl))
    (down_all Is Then one xs (length xs) refl
    (λ i j y at there. h i (suc j) y (omega (arith, at, long)) there))

-- a list has an item at each place
pub item_at : {X : Type 0} (xs : List X) (i : ℕ) → i < length xs → (x : X)
    × (slice_get xs i ≡ Some x)
item_at [] i low = absurd (omega (arith, low))
item_at (x ∷ xs) zero low = (x, refl)
item_at (x ∷ xs) (suc i) low = item_at xs i (omega (arith, low))

-- an element of a list in which one item was set is this item, or an old one at another place
pub set_cases : {X : Type 0} (xs : List X) (p j : ℕ) (y x : X) → slice_get (set xs p y) j ≡ Some x
    → ((j ≡ p) × (x ≡ y)) ⊎ ((j ≢ p) × (slice_get xs j ≡ Some x))
set_cases [] p j y x there = absurd (none-some x there)
set_cases (z ∷ xs) zero zero y x there = inl (refl, sym (same_Some y x there))
set_cases (z ∷ xs) zero (suc j) y x there = inr ((λ same. omega (arith, same)), there)
set_cases (z ∷ xs) (suc p) zero y x there = inr ((λ same. omega (arith, same)), there)
set_cases (z ∷ xs) (suc p) (suc j) y x there =
    elim (set_cases xs p j y x there) [
      | inl here ↦ inl (ap suc here.0, here.1)
      | inr other ↦ inr ((λ same. other.0 (omega (arith, same))), other.1)
    ]

-- what is so of the item at each place is so of each where one item was set to an item of which it
-- is so
pub set_each : {X : Type 0} (Is : ℕ → X → Type 0) (xs : List X) (place : ℕ) (y : X) → Is place y
    → ((j : ℕ) (x : X) → j ≢ place → slice_get xs j ≡ Some x → Is j x)
    → AreInOrder Is (set xs place y)
set_each Is xs place y new old j x gets =
    elim (set_cases xs place j y x gets) [
      | inl mine ↦
          subst (λ v. Is j v) (sym mine.1) (subst (λ (k : ℕ). Is k y) (sym mine.0) new)
      | inr other ↦ old j x other.0 other.1
    ]

-- items of the callers from the last one down are such items where one of them was changed and is
-- still that of each caller that it was of
pub set_down : {X : Type 0} (n place : ℕ) (Is : ℕ → X → Type 0) (xs : List X) (x y : X)
    → slice_get xs place ≡ Some x → ((i : ℕ) → Is i x → Is i y) → AreDownFrom n Is xs
    → AreDownFrom n Is (set xs place y)
set_down n place Is xs x y there still all i j z at gets =
    set_each (λ j z. (i : ℕ) → i + j + 1 ≡ n → Is i z) xs place y
    (λ i at. still i (all i place x at there)) (λ j z _ gets i at. all i j z at gets) j z gets i at
