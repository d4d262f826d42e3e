-- Keys of a log with one more call.
use Rattle.std.proofs.Common.{◌≡◌, ◌⊎◌, ◌||◌, ◌==◌, ◌+◌, ◌<◌, ◌++◌, ◌∷◌, [], ℕ, zero, suc, Bool, true, false, List, Option, None, Some, length, set, map, slice_get, bytes_eq, if◌then◌else◌, inl, inr, arith, refl, sym, ap, subst, ◌∙◌, true≢false, option_map, not}
use Rattle.std.specs.Option.{option_eq}
use Rattle.std.specs.List.{list_any}
use Rattle.std.proofs.lemmas.Slice.Eq.{bytes_eq-Decides}
use Rattle.std.proofs.lemmas.Option.{slice_get-map}
use Rattle.std.proofs.lemmas.List.{append-nil, map-append}
use Rattle.list_laws.proofs.Options.{map_some}
use Rattle.list_laws.proofs.Places.{slice_get-push_old, slice_get-push_last, slice_get-push_cases}
use Rattle.history_text.specs.declared.call.LogCall.{LogCall}
use Rattle.log_books.specs.Keys.{key_of, places_from, KeyAt, AreKeysOf, AreAllKeysOf}

-- keys are compared by their bytes
pub same_keys : (a b : Option (List ℕ)) → option_eq bytes_eq a b ≡ true → a ≡ b
same_keys None None e = refl
same_keys None (Some b) e = absurd (true≢false (sym e))
same_keys (Some a) None e = absurd (true≢false (sym e))
same_keys (Some a) (Some b) e = ap Some ((bytes_eq-Decides a b).0 e)

pub other_keys : (a b : Option (List ℕ)) → (a ≡ b → ⊥) → option_eq bytes_eq a b ≡ false
other_keys a b differ = by (option_eq bytes_eq a b) refl
  where
    by : (r : Bool) → option_eq bytes_eq a b ≡ r → option_eq bytes_eq a b ≡ false
    by true e = absurd (differ (same_keys a b e))
    by false e = e

pub one_key : (a : Option (List ℕ)) → option_eq bytes_eq a a ≡ true
one_key None = refl
one_key (Some a) = (bytes_eq-Decides a a).1 refl

-- the places of the calls with a key, where there is one call more
places_more_from : (key : Option (List ℕ)) (first : ℕ) (calls : List LogCall) (call : LogCall)
    → places_from key first (calls ++ call ∷ [])
    ≡ places_from key first calls ++ (if option_eq bytes_eq key (key_of call)
    then (first + length calls) ∷ [] else [])
places_more_from key first [] call = grind (arith)
places_more_from key first (c ∷ calls) call =
    by (option_eq bytes_eq key (key_of c)) refl (places_more_from key (first + 1) calls call)
  where
    by : (r : Bool) → option_eq bytes_eq key (key_of c) ≡ r
        → places_from key (first + 1) (calls ++ call ∷ [])
        ≡ places_from key (first + 1) calls ++ (if option_eq bytes_eq key (key_of call)
        then (first + 1 + length calls) ∷ [] else [])
        → places_from key first ((c ∷ calls) ++ call ∷ [])
        ≡ places_from key first (c ∷ calls) ++ (if option_eq bytes_eq key (key_of call)
        then (first + length (c ∷ calls)) ∷ [] else [])
    by true e rest = grind (arith, e, rest)
    by false e rest = grind (arith, e, rest)

pub places_more : (key : Option (List ℕ)) (calls : List LogCall) (call : LogCall)
    → places_from key 0 (calls ++ call ∷ [])
    ≡ places_from key 0 calls ++ (if option_eq bytes_eq key (key_of call)
    then length calls ∷ [] else [])
places_more key calls call = places_more_from key 0 calls call
    ∙ ap (λ (n : ℕ). places_from key 0 calls ++ (if option_eq bytes_eq key (key_of call)
    then n ∷ [] else [])) (omega arith)

-- a key that no call has has no places
pub no_places : (key : Option (List ℕ)) (first : ℕ) (calls : List LogCall)
    → ((place : ℕ) (call : LogCall) → slice_get calls place ≡ Some call → key ≡ key_of call → ⊥)
    → places_from key first calls ≡ []
no_places key first [] none = refl
no_places key first (c ∷ calls) none =
    ap (λ (r : Bool). if r then first ∷ places_from key (first + 1) calls
    else places_from key (first + 1) calls)
    (other_keys key (key_of c) (none 0 c refl))
    ∙ no_places key (first + 1) calls (λ place call at. none (suc place) call at)

-- the places are within the calls
pub within : (key : Option (List ℕ)) (first : ℕ) (calls : List LogCall) (k place : ℕ)
    → slice_get (places_from key first calls) k ≡ Some place → place < first + length calls
within key first [] k place e = absurd cc
within key first (c ∷ calls) k place e =
    by (option_eq bytes_eq key (key_of c)) k (λ j at. within key (first + 1) calls j place at) e
  where
    by : (r : Bool) (k : ℕ)
        → ((j : ℕ) → slice_get (places_from key (first + 1) calls) j ≡ Some place
        → place < first + 1 + length calls)
        → slice_get (if r then first ∷ places_from key (first + 1) calls
        else places_from key (first + 1) calls) k ≡ Some place
        → place < first + length (c ∷ calls)
    by false k low at = let rest = low k at in omega (arith, rest)
    by true zero low at = let same : first ≡ place = cc at in omega (arith, same)
    by true (suc k) low at = let rest = low k at in omega (arith, rest)

-- items of a list in which one was replaced
pub set_cases : {X : Type 0} (xs : List X) (i : ℕ) (y : X) (k : ℕ) (z : X)
    → slice_get (set xs i y) k ≡ Some z
    → ((k ≡ i) × (z ≡ y)) ⊎ ((k ≡ i → ⊥) × (slice_get xs k ≡ Some z))
set_cases [] i y k z e = absurd cc
set_cases (x ∷ xs) zero y zero z e = inl (refl, cc)
set_cases (x ∷ xs) zero y (suc k) z e = inr (λ q. omega (arith, q), e)
set_cases (x ∷ xs) (suc i) y zero z e = inr (λ q. omega (arith, q), e)
set_cases (x ∷ xs) (suc i) y (suc k) z e =
    elim (set_cases xs i y k z e) [
      | inl h ↦ inl (ap suc h.0, h.1)
      | inr h ↦ inr (λ q. h.0 (omega (arith, q)), h.1)
    ]

pub set_at : {X : Type 0} (xs : List X) (i : ℕ) (x y : X) → slice_get xs i ≡ Some x
    → slice_get (set xs i y) i ≡ Some y
set_at [] i x y e = absurd cc
set_at (z ∷ xs) zero x y e = refl
set_at (z ∷ xs) (suc i) x y e = set_at xs i x y e

-- a replacement that keeps its key
keeps : (keys : List KeyAt) (i k : ℕ) (at new a : KeyAt) → slice_get keys i ≡ Some at
    → new.key ≡ at.key → slice_get keys k ≡ Some a
    → (b : KeyAt) × (slice_get (set keys i new) k ≡ Some b) × (b.key ≡ a.key)
keeps [] i k at new a here same there = absurd cc
keeps (x ∷ keys) zero zero at new a here same there =
    let one : at ≡ a = cc (sym here ∙ there) in (new, refl, same ∙ ap KeyAt.key one)
keeps (x ∷ keys) zero (suc k) at new a here same there = (a, there, refl)
keeps (x ∷ keys) (suc i) zero at new a here same there = (a, there, refl)
keeps (x ∷ keys) (suc i) (suc k) at new a here same there = keeps keys i k at new a here same there

had : (keys : List KeyAt) (i k : ℕ) (at new a : KeyAt) → slice_get keys i ≡ Some at
    → new.key ≡ at.key → slice_get (set keys i new) k ≡ Some a
    → (b : KeyAt) × (slice_get keys k ≡ Some b) × (b.key ≡ a.key)
had [] i k at new a here same there = absurd cc
had (x ∷ keys) zero zero at new a here same there =
    let one : new ≡ a = cc there in (at, here, sym same ∙ ap KeyAt.key one)
had (x ∷ keys) zero (suc k) at new a here same there = (a, there, refl)
had (x ∷ keys) (suc i) zero at new a here same there = (a, there, refl)
had (x ∷ keys) (suc i) (suc k) at new a here same there = had keys i k at new a here same there

module _ (log : List LogCall) (keys : List KeyAt) (call : LogCall) (are : AreKeysOf log keys) where
  -- the places of a key that the further call doesn't have
  stay : (a : KeyAt) → a.places ≡ places_from a.key 0 log → (a.key ≡ key_of call → ⊥)
      → a.places ≡ places_from a.key 0 (log ++ call ∷ [])
  stay a is differ = is ∙ sym (places_more a.key log call
      ∙ ap (λ (r : Bool). places_from a.key 0 log ++ (if r then length log ∷ [] else []))
      (other_keys a.key (key_of call) differ)
      ∙ append-nil (places_from a.key 0 log))

  -- the places of its own key
  more : (a : KeyAt) (places : List ℕ) → places ≡ places_from a.key 0 log → a.key ≡ key_of call
      → places ++ length log ∷ [] ≡ places_from a.key 0 (log ++ call ∷ [])
  more a places is same = ap (λ (l : List ℕ). l ++ length log ∷ []) is ∙ sym (places_more a.key log call
      ∙ ap (λ (r : Bool). places_from a.key 0 log ++ (if r then length log ∷ [] else []))
      (subst (λ k. option_eq bytes_eq a.key k ≡ true) same (one_key a.key)))

  -- the further call has a key that is there
  pub keys_old : (i : ℕ) (at : KeyAt) → slice_get keys i ≡ Some at → at.key ≡ key_of call
      → AreKeysOf (log ++ call ∷ [])
      (set keys i (record { key = at.key; places = at.places ++ length log ∷ [] }))
  keys_old i at here same =
      let new : KeyAt = record { key = at.key; places = at.places ++ length log ∷ [] } in
      record {
        each = λ k a there. elim (set_cases keys i new k a there) [
          | inl h ↦ subst (λ (b : KeyAt). b.places ≡ places_from b.key 0 (log ++ call ∷ [])) (sym h.1)
              (more at at.places (are.each i at here) same)
          | inr h ↦ stay a (are.each k a h.1)
              (λ q. h.0 (are.apart k i a at h.1 here (q ∙ sym same)))
        ];
        every = λ place c there. elim (slice_get-push_cases log call place c there) [
          | inl old ↦
              let had_key = are.every place c old in
              let kept = keeps keys i had_key.0 at new had_key.1 here refl had_key.2 in
              (had_key.0, kept.0, kept.1, kept.2 ∙ had_key.3)
          | inr last ↦ (
            i,
            new,
            set_at keys i at new here,
            same ∙ ap key_of (sym last.1),
          )
        ];
        apart = λ j k a b at_j at_k q.
            let first = had keys i j at new a here refl at_j in
            let second = had keys i k at new b here refl at_k in
            are.apart j k first.0 second.0 first.1 second.1 (first.2 ∙ q ∙ sym second.2);
      }

  -- the further call has a key that isn't there
  pub keys_new : ((k : ℕ) (at : KeyAt) → slice_get keys k ≡ Some at → at.key ≡ key_of call → ⊥)
      → AreKeysOf (log ++ call ∷ [])
      (keys ++ (record { key = key_of call; places = length log ∷ [] }) ∷ [])
  keys_new none =
      let new : KeyAt = record { key = key_of call; places = length log ∷ [] } in
      record {
        each = λ k a there. elim (slice_get-push_cases keys new k a there) [
          | inl old ↦ stay a (are.each k a old) (none k a old)
          | inr last ↦
              subst (λ (b : KeyAt). b.places ≡ places_from b.key 0 (log ++ call ∷ [])) (sym last.1)
              (more new [] (sym (no_places (key_of call) 0 log (λ place c is q.
              let its = are.every place c is in none its.0 its.1 its.2 (its.3 ∙ sym q)))) refl)
        ];
        every = λ place c there. elim (slice_get-push_cases log call place c there) [
          | inl old ↦
              let its = are.every place c old in
              (its.0, its.1, slice_get-push_old keys new its.0 its.1 its.2, its.3)
          | inr last ↦ (length keys, new, slice_get-push_last keys new, ap key_of (sym last.1))
        ];
        apart = λ j k a b at_j at_k q. elim (slice_get-push_cases keys new j a at_j) [
          | inl first ↦ elim (slice_get-push_cases keys new k b at_k) [
            | inl second ↦ are.apart j k a b first second q
            | inr second ↦ absurd (none j a first (q ∙ ap KeyAt.key second.1))
          ]
          | inr first ↦ elim (slice_get-push_cases keys new k b at_k) [
            | inl second ↦ absurd (none k b second (sym q ∙ ap KeyAt.key first.1))
            | inr second ↦ first.0 ∙ sym second.0
          ]
        ];
      }

-- no call has no keys
pub no_keys : AreKeysOf [] []
no_keys = record {
  each = λ k at e. absurd cc;
  every = λ place call e. absurd cc;
  apart = λ j k a b e f q. absurd cc;
}

-- one key without a name and without calls
pub one_empty : AreKeysOf [] ((record { key = None; places = [] }) ∷ [])
one_empty = record {
  each = λ k at e. by k at e;
  every = λ place call e. absurd cc;
  apart = λ j k a b e f q. only j k a b e f;
}
  where
    by : (k : ℕ) (at : KeyAt) → slice_get ((record { key = None; places = [] }) ∷ []) k ≡ Some at
        → at.places ≡ places_from at.key 0 []
    by zero at e = let one : at ≡ (record { key = None; places = [] }) = cc (sym e) in ap KeyAt.places one
    by (suc k) at e = absurd cc

    only : (j k : ℕ) (a b : KeyAt) → slice_get ((record { key = None; places = [] }) ∷ []) j ≡ Some a
        → slice_get ((record { key = None; places = [] }) ∷ []) k ≡ Some b → j ≡ k
    only zero zero a b e f = refl
    only zero (suc k) a b e f = absurd cc
    only (suc j) k a b e f = absurd cc

-- no item passes a test that none of a list's items pass
pub none_passes : {X : Type 0} (p : X → Bool) (xs : List X) (k : ℕ) (x : X)
    → list_any p xs ≡ false → slice_get xs k ≡ Some x → p x ≡ false
none_passes p [] k x none at = absurd cc
none_passes p (y ∷ ys) k x none at =
    by (p y) refl k (λ j rest its. none_passes p ys j x rest its) none at
  where
    by : (r : Bool) → p y ≡ r → (k : ℕ)
        → ((j : ℕ) → list_any p ys ≡ false → slice_get ys j ≡ Some x → p x ≡ false)
        → list_any p (y ∷ ys) ≡ false → slice_get (y ∷ ys) k ≡ Some x → p x ≡ false
    by true e k others off its =
        absurd (true≢false (sym (ap (λ (r : Bool). r || list_any p ys) e) ∙ off))
    by false e zero others off its = let one : y ≡ x = cc its in ap p (sym one) ∙ e
    by false e (suc k) others off its =
        others k (sym (ap (λ (r : Bool). r || list_any p ys) e) ∙ off) its

-- keys as texts, of which each is one of the keys that are written
pub any_mapped : {X Y : Type 0} (f : X → Y) (E : X → X → Bool) (F : Y → Y → Bool)
    → ((a b : X) → E a b ≡ F (f a) (f b)) → (x : X) (xs : List X)
    → list_any (E x) xs ≡ list_any (F (f x)) (map f xs)
any_mapped f E F same x [] = refl
any_mapped f E F same x (y ∷ ys) =
    ap (λ (r : Bool). r || list_any (E x) ys) (same x y)
    ∙ ap (λ (r : Bool). F (f x) (f y) || r) (any_mapped f E F same x ys)

pub eq_texts : {X : Type 0} (now : X → List ℕ) (a b : Option X)
    → option_eq (λ x y. bytes_eq (now x) (now y)) a b
    ≡ option_eq bytes_eq (option_map now a) (option_map now b)
eq_texts now None None = refl
eq_texts now None (Some b) = refl
eq_texts now (Some a) None = refl
eq_texts now (Some a) (Some b) = refl

-- The keys so far, each of which has a call, and their texts.
pub record Known (log : List LogCall) (texts : List (Option (List ℕ))) (keys : List KeyAt) : Type 0 where
  pub are : AreKeysOf log keys
  pub paired : texts ≡ map KeyAt.key keys
  pub used : (k : ℕ) (at : KeyAt) → slice_get keys k ≡ Some at → at.places ≡ [] → ⊥

some_places : (places : List ℕ) (p : ℕ) → places ++ p ∷ [] ≡ [] → ⊥
some_places [] p e = cc e
some_places (q ∷ places) p e = cc e

pub known_new : (log : List LogCall) (texts : List (Option (List ℕ))) (keys : List KeyAt)
    (call : LogCall) → Known log texts keys
    → list_any (option_eq bytes_eq (key_of call)) texts ≡ false
    → Known (log ++ call ∷ []) (texts ++ key_of call ∷ [])
    (keys ++ (record { key = key_of call; places = length log ∷ [] }) ∷ [])
known_new log texts keys call known none =
    let new : KeyAt = record { key = key_of call; places = length log ∷ [] } in
    record {
      are = keys_new log keys call known.are (λ k at here same.
          let text : slice_get texts k ≡ Some at.key =
          ap (λ (l : List (Option (List ℕ))). slice_get l k) known.paired
          ∙ slice_get-map KeyAt.key keys k ∙ ap (option_map KeyAt.key) here in
          true≢false (sym (one_key (key_of call))
          ∙ ap (option_eq bytes_eq (key_of call)) (sym same)
          ∙ none_passes (option_eq bytes_eq (key_of call)) texts k at.key none text));
      paired = ap (λ (l : List (Option (List ℕ))). l ++ key_of call ∷ []) known.paired
          ∙ sym (map-append KeyAt.key keys (new ∷ []));
      used = λ k at here empty. elim (slice_get-push_cases keys new k at here) [
        | inl old ↦ known.used k at old empty
        | inr last ↦ cc (sym (ap KeyAt.places last.1) ∙ empty)
      ];
    }

keys_kept : (keys : List KeyAt) (i : ℕ) (at new : KeyAt) → slice_get keys i ≡ Some at
    → new.key ≡ at.key → map KeyAt.key keys ≡ map KeyAt.key (set keys i new)
keys_kept [] i at new here same = absurd cc
keys_kept (x ∷ keys) zero at new here same =
    let one : x ≡ at = cc here in
    ap (λ k. k ∷ map KeyAt.key keys) (ap KeyAt.key one ∙ sym same)
keys_kept (x ∷ keys) (suc i) at new here same =
    ap (λ l. x.key ∷ l) (keys_kept keys i at new here same)

pub known_old : (log : List LogCall) (texts : List (Option (List ℕ))) (keys : List KeyAt)
    (call : LogCall) (i : ℕ) (at : KeyAt) → Known log texts keys → slice_get keys i ≡ Some at
    → at.key ≡ key_of call
    → Known (log ++ call ∷ []) texts
    (set keys i (record { key = at.key; places = at.places ++ length log ∷ [] }))
known_old log texts keys call i at known here same =
    let new : KeyAt = record { key = at.key; places = at.places ++ length log ∷ [] } in
    record {
      are = keys_old log keys call known.are i at here same;
      paired = known.paired ∙ keys_kept keys i at new here refl;
      used = λ k a there empty. elim (set_cases keys i new k a there) [
        | inl is ↦ some_places at.places (length log) (sym (ap KeyAt.places is.1) ∙ empty)
        | inr other ↦ known.used k a other.1 empty
      ];
    }

pub known_at : (log more : List LogCall) (texts others : List (Option (List ℕ)))
    (keys further : List KeyAt) → more ≡ log → others ≡ texts → further ≡ keys
    → Known log texts keys → Known more others further
known_at log more texts others keys further a b c known =
    subst (λ (l : List LogCall). Known l others further) (sym a)
    (subst (λ (l : List (Option (List ℕ))). Known log l further) (sym b)
    (subst (λ (l : List KeyAt). Known log texts l) (sym c) known))

pub not_true : (b : Bool) → not b ≡ true → b ≡ false
not_true true e = sym e
not_true false e = refl

pub not_false : (b : Bool) → not b ≡ false → b ≡ true
not_false true e = refl
not_false false e = sym e

-- the key at a place, which has the text of the key that is known there
pub key_there : {X : Type 0} (f : X → Option (List ℕ)) (xs : List X) (keys : List KeyAt) (k : ℕ) (x : X)
    → map f xs ≡ map KeyAt.key keys → slice_get xs k ≡ Some x
    → (at : KeyAt) × (slice_get keys k ≡ Some at) × (at.key ≡ f x)
key_there f xs keys k x paired at =
    map_some (slice_get keys k) KeyAt.key (f x) (sym (slice_get-map KeyAt.key keys k)
    ∙ ap (λ (l : List (Option (List ℕ))). slice_get l k) (sym paired)
    ∙ slice_get-map f xs k ∙ ap (option_map f) at)

no_key : (keys : List KeyAt) (texts : List (Option (List ℕ))) → Known [] texts keys → keys ≡ []
no_key [] texts known = refl
no_key (at ∷ keys) texts known = absurd (known.used 0 at refl (known.are.each 0 at refl))

-- the keys of a log without calls
pub all_empty : (log : List LogCall) (texts : List (Option (List ℕ))) (keys further : List KeyAt)
    → Known log texts keys → log ≡ [] → (keys ≡ [] → further ≡ (record { key = None; places = [] }) ∷ [])
    → AreAllKeysOf log further
all_empty log texts keys further known empty one =
    let none = no_key keys texts (subst (λ (l : List LogCall). Known l texts keys) empty known) in
    subst (λ (l : List KeyAt). AreAllKeysOf log l) (sym (one none)) (record {
      keys_of = subst (λ (l : List LogCall). AreKeysOf l ((record { key = None; places = [] }) ∷ []))
          (sym empty) one_empty;
      used = λ k at here places. (empty, named k at here);
      some = λ e. cc e;
    })
  where
    named : (k : ℕ) (at : KeyAt) → slice_get ((record { key = None; places = [] }) ∷ []) k ≡ Some at
        → at.key ≡ None
    named zero at e = let is : at ≡ (record { key = None; places = [] }) = cc (sym e) in ap KeyAt.key is
    named (suc k) at e = absurd cc

-- the keys of a log with calls
pub all_known : (log : List LogCall) (texts : List (Option (List ℕ))) (keys : List KeyAt)
    → Known log texts keys → (log ≡ [] → ⊥) → AreAllKeysOf log keys
all_known [] texts keys known some = absurd (some refl)
all_known (call ∷ log) texts keys known some = record {
  keys_of = known.are;
  used = λ k at here places. absurd (known.used k at here places);
  some = λ none.
      let its = known.are.every 0 call refl in
      cc (sym (ap (λ (l : List KeyAt). slice_get l its.0) none) ∙ its.2);
}

pub none_by : {X : Type 0} (xs : List X) → (length xs == 0) ≡ true → xs ≡ []
none_by [] e = refl
none_by (x ∷ xs) e = absurd (grind (arith, e))

pub some_by : {X : Type 0} (xs : List X) → (length xs == 0) ≡ false → xs ≡ [] → ⊥
some_by {X = X} xs e none = true≢false (subst (λ (l : List X). (length l == 0) ≡ false) none e)
