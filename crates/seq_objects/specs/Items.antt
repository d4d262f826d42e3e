-- What objects do with a list of words: take an item out, find a value, put one in its place.
use Rattle.std.proofs.Common.{◌≡◌, ℕ, ◌+◌, ◌≤◌, Bool, false, List, [], ◌∷◌, ◌++◌, length, find, position, take, drop, insert, remove, slice_index, Option, Some, unwrap_or, is_some, nat_lt, ◌==◌, inl, inr, sym, ap, ◌∙◌, arith, length-append, length-take, length-drop, suc}
use Rattle.std.proofs.lemmas.Bool.{cond-true, cond-false, cases_Bool, true≢false}
use Rattle.seq_objects.specs.Replies.{reply_none, reply_value}

-- The first item of a list, or 0 where there is none.
abbrev pub first_or_zero : List ℕ → ℕ
first_or_zero [] = 0
first_or_zero (x ∷ rest) = x

-- The list without its first item, and the reply that gives this item modulo 2 ^ 32; for the empty
-- list, the empty list and the reply `none`.
abbrev pub first_taken : List ℕ → List ℕ × ℕ
first_taken [] = ([], reply_none)
first_taken (x ∷ rest) = (rest, reply_value x)

-- The list without its last item, and the reply that gives this item modulo 2 ^ 32; for the empty
-- list, the empty list and the reply `none`.
abbrev pub last_taken : List ℕ → List ℕ × ℕ
last_taken [] = ([], reply_none)
last_taken (x ∷ rest) =
    (take (length rest) (x ∷ rest), reply_value (slice_index (x ∷ rest) (length rest)))

-- The first place of a value in a list, if it is there.
abbrev pub place_of : List ℕ → ℕ → Option ℕ
place_of list value = position (λ x. x == value) list

-- The place of the first item greater than a value, or the end of the list where none is greater.
abbrev pub place_for : List ℕ → ℕ → ℕ
place_for list value = unwrap_or (position (λ x. nat_lt value x) list) (length list)

-- The list with a value before the first greater item, or at the end where none is greater.
abbrev pub inserted : List ℕ → ℕ → List ℕ
inserted list value = insert list (place_for list value) value

-- The empty list has at most one item.
pub length-none : length {A = ℕ} [] ≤ 1
length-none = omega arith

-- The list of 0 alone has at most one item.
pub length-one : length {A = ℕ} (0 ∷ []) ≤ 1
length-one = omega arith

-- A list with an item added at its end has at most one item more than before.
pub length-push : (list : List ℕ) (item : ℕ) → length (list ++ item ∷ []) ≤ length list + 1
length-push list item = omega (arith, length-append list (item ∷ []))

-- A list whose first item is taken out has at most one item more than before.
pub length-first_taken : (list : List ℕ) → length (first_taken list).0 ≤ length list + 1
length-first_taken [] = omega arith
length-first_taken (x ∷ rest) = omega arith

-- A list whose last item is taken out has at most one item more than before.
pub length-last_taken : (list : List ℕ) → length (last_taken list).0 ≤ length list + 1
length-last_taken [] = omega arith
length-last_taken (x ∷ rest) = omega (arith, length-take (length rest) (x ∷ rest))

-- A list with a value inserted has one item more than before.
pub length-inserted : (list : List ℕ) (value : ℕ) → length (inserted list value) ≡ length list + 1
length-inserted list value =
    let place : ℕ = place_for list value in
    let joined = length-append (take place list) (value ∷ drop place list) in
    omega (arith, joined, length-take place list, length-drop place list)

-- A list without its item at a place has at most one item more than before.
pub length-without : (list : List ℕ) (place : ℕ) → length (remove list place) ≤ length list + 1
length-without list place =
    let joined = length-append (take place list) (drop (suc place) list) in
    omega (arith, joined, length-take place list, length-drop (suc place) list)

-- Where no item of the list `x ∷ xs` passes the test `p`, its first item `x` doesn't, and no later
-- item does.
pub not-found : {X : Type 0} (p : X → Bool) (x : X) (xs : List X)
    → is_some (find p (x ∷ xs)) ≡ false
    → (p x ≡ false) × (is_some (find p xs) ≡ false)
not-found p x xs none = elim (cases_Bool (p x)) [
  | inl passes ↦
      absurd (true≢false (sym (ap is_some (cond-true (p x) (Some x) (find p xs) passes)) ∙ none))
  | inr fails ↦ (fails, sym (ap is_some (cond-false (p x) (Some x) (find p xs) fails)) ∙ none)
]
