-- What a map gives for a key, item by item.
use Rattle.std.proofs.Common.{◌≡◌, ◌≢◌, ℕ, zero, suc, ◌+◌, ◌<◌, ◌≤◌, ◌^◌, ◌==◌, Bool, false, not, nat_lt, List, [], ◌∷◌, length, get_or, position, insert, remove, set, Option, Some, None, if◌then◌else◌, inl, inr, refl, sym, ap, subst, ◌∙◌, arith}
use Rattle.std.specs.List.{position_or_len}
use Rattle.std.proofs.lemmas.Bool.{cond-true, cond-false, cases_Bool, cases_lt, eqb-true, eqb-false, eq-eqb, ne_eqb, lt-ltb, le-ltb}
use Rattle.std.proofs.lemmas.List.Quantifiers.{position-Some}
use Rattle.seq_objects.specs.declared.map.MapOperation.{MapOperation}
use Rattle.seq_objects.specs.declared.map.MapOperation.TheVariants.{Put, Get, Delete}
use Rattle.seq_objects.specs.Replies.{reply_none, reply_value}
use Rattle.seq_objects.specs.Items.{place_for}
use Rattle.seq_objects.specs.MapSteps.{item_of, key_of, place_of_key, put_at, value_at, without, map_operation, map_after}
use Rattle.seq_objects.specs.MapLaws.{LacksKey, HasKeysOnce, PutIsGot, PutLeavesOthers, DeleteLeavesOthers, DeletedIsNone, KeysStayOnce}
use Rattle.seq_objects.proofs.ReadOnly.{value_is_small}

-- the value of the first item of a key
abbrev found : ℕ → List ℕ → ℕ
found key [] = reply_none
found key (x ∷ xs) = if key_of x == key then reply_value x else found key xs

placed : (p : ℕ → Bool) (xs : List ℕ) (n : ℕ) → position_or_len p xs ≡ n → n < length xs
    → position p xs ≡ Some n
placed p xs n e inside = ap (λ (k : ℕ). if nat_lt k (length xs) then Some k else None) e
    ∙ cond-true (nat_lt n (length xs)) (Some n) None (lt-ltb n (length xs) inside)

unplaced : (p : ℕ → Bool) (xs : List ℕ) (n : ℕ) → position_or_len p xs ≡ n → length xs ≤ n
    → position p xs ≡ None
unplaced p xs n e past = ap (λ (k : ℕ). if nat_lt k (length xs) then Some k else None) e
    ∙ cond-false (nat_lt n (length xs)) (Some n) None (le-ltb n (length xs) past)

-- the value that a get gives is that of the first item with the key
read_is : (list : List ℕ) (key : ℕ) → value_at list (place_of_key list key) ≡ found key list
read_is [] key = refl
read_is (x ∷ xs) key =
    let p : ℕ → Bool = λ item. key_of item == key in
    let n : ℕ = position_or_len p xs in
    let here : ℕ = position_or_len p (x ∷ xs) in
    elim (cases_Bool (p x)) as
    (λ _. value_at (x ∷ xs) (place_of_key (x ∷ xs) key) ≡ found key (x ∷ xs)) [
      | inl passes ↦
          ap (value_at (x ∷ xs))
          (placed p (x ∷ xs) 0 (cond-false (not (p x)) (1 + n) 0 (ap not passes)) (omega arith))
          ∙ sym (cond-true (p x) (reply_value x) (found key xs) passes)
      | inr fails ↦
          let suffix : here ≡ suc n =
          cond-true (not (p x)) (1 + n) 0 (ap not fails) ∙ omega arith in
          let rest : value_at (x ∷ xs) (place_of_key (x ∷ xs) key)
          ≡ value_at xs (place_of_key xs key) = elim (cases_lt n (length xs)) as
          (λ _. value_at (x ∷ xs) (place_of_key (x ∷ xs) key) ≡ value_at xs (place_of_key xs key)) [
            | inl inside ↦
                ap (value_at (x ∷ xs)) (placed p (x ∷ xs) (suc n) suffix (omega (arith, inside)))
                ∙ sym (ap (value_at xs) (placed p xs n refl inside))
            | inr past ↦
                ap (value_at (x ∷ xs)) (unplaced p (x ∷ xs) (suc n) suffix (omega (arith, past)))
                ∙ sym (ap (value_at xs) (unplaced p xs n refl past))
          ] in
          rest ∙ (read_is xs key ∙ sym (cond-false (p x) (reply_value x) (found key xs) fails))
    ]

found_none : (key : ℕ) (xs : List ℕ) → LacksKey key xs → found key xs ≡ reply_none
found_none key [] lacks = refl
found_none key (x ∷ xs) lacks = cond-false (key_of x == key) (reply_value x) (found key xs)
    (ne_eqb (key_of x) key lacks.0) ∙ found_none key xs lacks.1

lacks_found : (key : ℕ) (xs : List ℕ) → found key xs ≡ reply_none → LacksKey key xs
lacks_found key [] none = tt
lacks_found key (x ∷ xs) none = elim (cases_Bool (key_of x == key)) [
  | inl passes ↦ absurd (omega
      (arith, sym (cond-true (key_of x == key) (reply_value x) (found key xs) passes) ∙ none))
  | inr fails ↦ (
    eqb-false (key_of x) key fails,
    lacks_found key xs
        (sym (cond-false (key_of x == key) (reply_value x) (found key xs) fails) ∙ none),
  )
]

lacks_at : (key : ℕ) (xs : List ℕ) (i : ℕ) → i < length xs → LacksKey key xs
    → key_of (get_or xs i 0) ≢ key
lacks_at key [] i inside lacks = absurd (omega (arith, inside))
lacks_at key (x ∷ xs) zero inside lacks = lacks.0
lacks_at key (x ∷ xs) (suc i) inside lacks = lacks_at key xs i (omega (arith, inside)) lacks.1

-- the value of a key after an item is replaced
found_set_same : (key item : ℕ) (xs : List ℕ) (i : ℕ) → i < length xs → key_of item ≡ key
    → ((k : ℕ) → k < i → (key_of (get_or xs k 0) == key) ≡ false)
    → found key (set xs i item) ≡ reply_value item
found_set_same key item [] i inside same first = absurd (omega (arith, inside))
found_set_same key item (x ∷ xs) zero inside same first =
    cond-true (key_of item == key) (reply_value item) (found key xs) (eq-eqb (key_of item) key same)
found_set_same key item (x ∷ xs) (suc i) inside same first =
    cond-false (key_of x == key) (reply_value x) (found key (set xs i item)) (first 0 (omega arith))
    ∙ found_set_same key item xs i (omega (arith, inside)) same
    (λ k lt. first (suc k) (omega (arith, lt)))

found_set_other : (key item : ℕ) (xs : List ℕ) (i : ℕ) → i < length xs → key_of item ≢ key
    → key_of (get_or xs i 0) ≢ key → found key (set xs i item) ≡ found key xs
found_set_other key item [] i inside new old = absurd (omega (arith, inside))
found_set_other key item (x ∷ xs) zero inside new old =
    cond-false (key_of item == key) (reply_value item) (found key xs) (ne_eqb (key_of item) key new)
    ∙ sym (cond-false (key_of x == key) (reply_value x) (found key xs) (ne_eqb (key_of x) key old))
found_set_other key item (x ∷ xs) (suc i) inside new old =
    ap (λ (r : ℕ). if key_of x == key then reply_value x else r)
    (found_set_other key item xs i (omega (arith, inside)) new old)

lacks_set : (key item : ℕ) (xs : List ℕ) (i : ℕ) → i < length xs
    → key_of item ≡ key_of (get_or xs i 0) → LacksKey key xs → LacksKey key (set xs i item)
lacks_set key item [] i inside same lacks = absurd (omega (arith, inside))
lacks_set key item (x ∷ xs) zero inside same lacks = (λ e. lacks.0 (sym same ∙ e), lacks.1)
lacks_set key item (x ∷ xs) (suc i) inside same lacks =
    (lacks.0, lacks_set key item xs i (omega (arith, inside)) same lacks.1)

once_set : (item : ℕ) (xs : List ℕ) (i : ℕ) → i < length xs → key_of item ≡ key_of (get_or xs i 0)
    → HasKeysOnce xs → HasKeysOnce (set xs i item)
once_set item [] i inside same once = absurd (omega (arith, inside))
once_set item (x ∷ xs) zero inside same once =
    (subst (λ (k : ℕ). LacksKey k xs) (sym same) once.0, once.1)
once_set item (x ∷ xs) (suc i) inside same once = (
  lacks_set (key_of x) item xs i (omega (arith, inside)) same once.0,
  once_set item xs i (omega (arith, inside)) same once.1,
)

-- the value of a key after an item is put in
found_insert_same : (key item : ℕ) (xs : List ℕ) (i : ℕ) → key_of item ≡ key → LacksKey key xs
    → found key (insert xs i item) ≡ reply_value item
found_insert_same key item [] zero same lacks =
    cond-true (key_of item == key) (reply_value item) reply_none (eq-eqb (key_of item) key same)
found_insert_same key item [] (suc i) same lacks =
    cond-true (key_of item == key) (reply_value item) reply_none (eq-eqb (key_of item) key same)
found_insert_same key item (x ∷ xs) zero same lacks = cond-true (key_of item == key)
    (reply_value item) (found key (x ∷ xs)) (eq-eqb (key_of item) key same)
found_insert_same key item (x ∷ xs) (suc i) same lacks =
    cond-false (key_of x == key) (reply_value x) (found key (insert xs i item))
    (ne_eqb (key_of x) key lacks.0)
    ∙ found_insert_same key item xs i same lacks.1

found_insert_other : (key item : ℕ) (xs : List ℕ) (i : ℕ) → key_of item ≢ key
    → found key (insert xs i item) ≡ found key xs
found_insert_other key item [] zero other =
    cond-false (key_of item == key) (reply_value item) reply_none (ne_eqb (key_of item) key other)
found_insert_other key item [] (suc i) other =
    cond-false (key_of item == key) (reply_value item) reply_none (ne_eqb (key_of item) key other)
found_insert_other key item (x ∷ xs) zero other = cond-false (key_of item == key) (reply_value item)
    (found key (x ∷ xs)) (ne_eqb (key_of item) key other)
found_insert_other key item (x ∷ xs) (suc i) other =
    ap (λ (r : ℕ). if key_of x == key then reply_value x else r)
    (found_insert_other key item xs i other)

lacks_inserted : (key item : ℕ) (xs : List ℕ) (i : ℕ) → key_of item ≢ key → LacksKey key xs
    → LacksKey key (insert xs i item)
lacks_inserted key item [] zero other lacks = (other, tt)
lacks_inserted key item [] (suc i) other lacks = (other, tt)
lacks_inserted key item (x ∷ xs) zero other lacks = (other, lacks)
lacks_inserted key item (x ∷ xs) (suc i) other lacks =
    (lacks.0, lacks_inserted key item xs i other lacks.1)

once_inserted : (item : ℕ) (xs : List ℕ) (i : ℕ) → LacksKey (key_of item) xs → HasKeysOnce xs
    → HasKeysOnce (insert xs i item)
once_inserted item [] zero lacks once = (tt, tt)
once_inserted item [] (suc i) lacks once = (tt, tt)
once_inserted item (x ∷ xs) zero lacks once = (lacks, once)
once_inserted item (x ∷ xs) (suc i) lacks once = (
  lacks_inserted (key_of x) item xs i (λ e. lacks.0 (sym e)) once.0,
  once_inserted item xs i lacks.1 once.1,
)

-- the value of a key after an item is taken out
found_remove_other : (key : ℕ) (xs : List ℕ) (i : ℕ) → i < length xs → key_of (get_or xs i 0) ≢ key
    → found key (remove xs i) ≡ found key xs
found_remove_other key [] i inside other = absurd (omega (arith, inside))
found_remove_other key (x ∷ xs) zero inside other =
    sym (cond-false (key_of x == key) (reply_value x) (found key xs) (ne_eqb (key_of x) key other))
found_remove_other key (x ∷ xs) (suc i) inside other =
    ap (λ (r : ℕ). if key_of x == key then reply_value x else r)
    (found_remove_other key xs i (omega (arith, inside)) other)

lacks_removed : (key : ℕ) (xs : List ℕ) (i : ℕ) → LacksKey key xs → LacksKey key (remove xs i)
lacks_removed key [] zero lacks = tt
lacks_removed key [] (suc i) lacks = tt
lacks_removed key (x ∷ xs) zero lacks = lacks.1
lacks_removed key (x ∷ xs) (suc i) lacks = (lacks.0, lacks_removed key xs i lacks.1)

once_removed : (xs : List ℕ) (i : ℕ) → HasKeysOnce xs → HasKeysOnce (remove xs i)
once_removed [] zero once = tt
once_removed [] (suc i) once = tt
once_removed (x ∷ xs) zero once = once.1
once_removed (x ∷ xs) (suc i) once =
    (lacks_removed (key_of x) xs i once.0, once_removed xs i once.1)

lacks_own : (xs : List ℕ) (i : ℕ) → i < length xs → HasKeysOnce xs
    → LacksKey (key_of (get_or xs i 0)) (remove xs i)
lacks_own [] i inside once = absurd (omega (arith, inside))
lacks_own (x ∷ xs) zero inside once = once.0
lacks_own (x ∷ xs) (suc i) inside once = (
  λ e. lacks_at (key_of x) xs i (omega (arith, inside)) once.0 (sym e),
  lacks_own xs i (omega (arith, inside)) once.1,
)

-- a key without a place has no item
lacks_unplaced : (list : List ℕ) (key : ℕ) → place_of_key list key ≡ None → LacksKey key list
lacks_unplaced list key at = lacks_found key list (sym (read_is list key) ∙ ap (value_at list) at)

key_of_item : (key value : ℕ) → value < 2 ^ 32 → key_of (item_of key value) ≡ key
key_of_item key value small = omega (arith, small)

put_found : (list : List ℕ) (key value : ℕ) (place : Option ℕ) → value < 2 ^ 32
    → place_of_key list key ≡ place
    → found key (put_at list (item_of key value) place).0 ≡ reply_value value
put_found list key value None small at =
    found_insert_same key (item_of key value) list (place_for list (item_of key value))
    (key_of_item key value small) (lacks_unplaced list key at) ∙ omega (arith, small)
put_found list key value (Some i) small at =
    let first = position-Some (λ item. key_of item == key) list i 0 at in
    found_set_same key (item_of key value) list i first.0 (key_of_item key value small) first.2
    ∙ omega (arith, small)

put_other : (list : List ℕ) (key value other : ℕ) (place : Option ℕ) → value < 2 ^ 32 → other ≢ key
    → place_of_key list key ≡ place
    → found other (put_at list (item_of key value) place).0 ≡ found other list
put_other list key value other None small differ at =
    found_insert_other other (item_of key value) list (place_for list (item_of key value))
    (λ e. differ (sym e ∙ key_of_item key value small))
put_other list key value other (Some i) small differ at =
    let first = position-Some (λ item. key_of item == key) list i 0 at in
    found_set_other other (item_of key value) list i first.0
    (λ e. differ (sym e ∙ key_of_item key value small))
    (λ e. differ (sym e ∙ eqb-true (key_of (get_or list i 0)) key first.1))

put_once : (list : List ℕ) (key value : ℕ) (place : Option ℕ) → value < 2 ^ 32
    → place_of_key list key ≡ place → HasKeysOnce list
    → HasKeysOnce (put_at list (item_of key value) place).0
put_once list key value None small at once =
    once_inserted (item_of key value) list (place_for list (item_of key value))
    (subst (λ (k : ℕ). LacksKey k list) (sym (key_of_item key value small))
    (lacks_unplaced list key at)) once
put_once list key value (Some i) small at once =
    let first = position-Some (λ item. key_of item == key) list i 0 at in
    once_set (item_of key value) list i first.0
    (key_of_item key value small ∙ sym (eqb-true (key_of (get_or list i 0)) key first.1)) once

delete_other : (list : List ℕ) (key other : ℕ) (place : Option ℕ) → other ≢ key
    → place_of_key list key ≡ place → found other (without list place) ≡ found other list
delete_other list key other None differ at = refl
delete_other list key other (Some i) differ at =
    let first = position-Some (λ item. key_of item == key) list i 0 at in
    found_remove_other other list i first.0
    (λ e. differ (sym e ∙ eqb-true (key_of (get_or list i 0)) key first.1))

delete_none : (list : List ℕ) (key : ℕ) (place : Option ℕ) → place_of_key list key ≡ place
    → HasKeysOnce list → found key (without list place) ≡ reply_none
delete_none list key None at once = found_none key list (lacks_unplaced list key at)
delete_none list key (Some i) at once =
    let first = position-Some (λ item. key_of item == key) list i 0 at in
    found_none key (remove list i) (subst (λ (k : ℕ). LacksKey k (remove list i))
    (eqb-true (key_of (get_or list i 0)) key first.1) (lacks_own list i first.0 once))

delete_once : (list : List ℕ) (place : Option ℕ) → HasKeysOnce list
    → HasKeysOnce (without list place)
delete_once list None once = once
delete_once list (Some i) once = once_removed list i once

pub put_is_got : PutIsGot
put_is_got list key value small =
    read_is (put_at list (item_of key value) (place_of_key list key)).0 key
    ∙ put_found list key value (place_of_key list key) small refl

pub put_leaves_others : PutLeavesOthers
put_leaves_others list key value other small differ =
    read_is (put_at list (item_of key value) (place_of_key list key)).0 other
    ∙ (put_other list key value other (place_of_key list key) small differ refl
    ∙ sym (read_is list other))

pub delete_leaves_others : DeleteLeavesOthers
delete_leaves_others list key other differ =
    read_is (without list (place_of_key list key)) other
    ∙ (delete_other list key other (place_of_key list key) differ refl ∙ sym (read_is list other))

pub deleted_is_none : DeletedIsNone
deleted_is_none list key once = read_is (without list (place_of_key list key)) key
    ∙ delete_none list key (place_of_key list key) refl once

step_once : (list : List ℕ) (asked : Option MapOperation)
    → ((key value : ℕ) → asked ≡ Some (Put key value) → value < 2 ^ 32) → HasKeysOnce list
    → HasKeysOnce (map_after list asked).0
step_once list (Some (Put key value)) small once =
    put_once list key value (place_of_key list key) (small key value refl) refl once
step_once list (Some (Get key)) small once = once
step_once list (Some (Delete key)) small once = delete_once list (place_of_key list key) once
step_once list None small once = once

pub keys_stay_once : KeysStayOnce
keys_stay_once list word once = step_once list (map_operation word)
    (λ key value asked. value_is_small word key value asked) once
