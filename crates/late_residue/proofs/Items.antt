-- Items of lists.
use Rattle.std.proofs.Common.{◌≡◌, ◌≢◌, ◌⊎◌, ℕ, zero, suc, ◌+◌, Bool, true, false, ◌&&◌, ◌==◌, List, [], ◌∷◌, ◌++◌, map, length, Option, Some, None, IfSome, IfNone, Result, Ok, Err, OnOk, slice_get, slice_set, refl, sym, ap, subst, ◌∙◌, inl, inr, arith, if◌then◌else◌, append_assoc, append-nil}
use Rattle.std.specs.Prelude.{◌||◌}
use Rattle.std.specs.List.{list_any, list_all, filter}
use Rattle.std.specs.Option.{option_map}
use Rattle.std.proofs.lemmas.Bool.{cases_Bool, eqb-false}
use Rattle.std.proofs.lemmas.Option.{none-some, same_Some, slice_get-map, slice_get_within}
use Rattle.list_laws.proofs.Prefixes.{slice_get-append_within}
use Rattle.residue_laws.proofs.Appending.{get-right, get-cases}
use Rattle.late_residue.specs.Reached.{Has, Grows}

pub and_left : (a b : Bool) → (a && b) ≡ true → a ≡ true
and_left true b e = refl
and_left false b e = e

pub and_right : (a b : Bool) → (a && b) ≡ true → b ≡ true
and_right true b e = e
and_right false b e = absurd cc

pub has-left : {X : Type 0} (xs ys : List X) (x : X) → Has xs x → Has (xs ++ ys) x
has-left xs ys x (k, at) =
    (k, slice_get-append_within xs ys k (slice_get_within xs k x at) ∙ at)

pub has-right : {X : Type 0} (xs ys : List X) (x : X) → Has ys x → Has (xs ++ ys) x
has-right xs ys x (k, at) = (length xs + k, get-right xs ys k x at)

pub has-cases : {X : Type 0} (xs ys : List X) (x : X) → Has (xs ++ ys) x → Has xs x ⊎ Has ys x
has-cases xs ys x (k, at) = elim (get-cases xs ys k x at) [
  | inl left ↦ inl (k, left)
  | inr (j, e, right) ↦ inr (j, right)
]

pub has-cons : {X : Type 0} (y : X) (ys : List X) (x : X) → Has (y ∷ ys) x → (y ≡ x) ⊎ Has ys x
has-cons y ys x (zero, at) = inl (same_Some y x at)
has-cons y ys x (suc k, at) = inr (k, at)

pub has-none : {X : Type 0} (x : X) → Has [] x → ⊥
has-none x (k, at) = none-some x at

pub map-at : {X Y : Type 0} (f : X → Y) (xs : List X) (k : ℕ) (x : X) → slice_get xs k ≡ Some x
    → slice_get (map f xs) k ≡ Some (f x)
map-at f xs k x at = slice_get-map f xs k ∙ ap (option_map f) at

pub map-from : {X Y : Type 0} (f : X → Y) (xs : List X) (k : ℕ) (y : Y)
    → slice_get (map f xs) k ≡ Some y → (x : X) × (slice_get xs k ≡ Some x) × (f x ≡ y)
map-from f [] k y at = absurd (none-some y at)
map-from f (x ∷ xs) zero y at = (x, refl, same_Some (f x) y at)
map-from f (x ∷ xs) (suc k) y at = map-from f xs k y at

pub has-map : {X Y : Type 0} (f : X → Y) (xs : List X) (x : X) → Has xs x → Has (map f xs) (f x)
has-map f xs x (k, at) = (k, map-at f xs k x at)

-- the items of a list that pass a test
pub filter-has : {X : Type 0} (p : X → Bool) (xs : List X) (x : X) → Has (filter p xs) x
    → Has xs x × (p x ≡ true)
filter-has p [] x has = absurd (has-none x has)
filter-has {X} p (y ∷ ys) x has = elim (cases_Bool (p y)) [
  | inl e ↦
      let kept : Has (y ∷ filter p ys) x =
      subst (λ (b : Bool). Has (if b then y ∷ filter p ys else filter p ys) x) e has in
      elim (has-cons y (filter p ys) x kept) [
        | inl is ↦ ((0, ap (λ v. Some v) is), subst (λ (v : X). p v ≡ true) is e)
        | inr rest ↦ let more = filter-has p ys x rest in ((suc more.0.0, more.0.1), more.1)
      ]
  | inr e ↦
      let kept : Has (filter p ys) x =
      subst (λ (b : Bool). Has (if b then y ∷ filter p ys else filter p ys) x) e has in
      let more = filter-has p ys x kept in ((suc more.0.0, more.0.1), more.1)
]

pub has-filter : {X : Type 0} (p : X → Bool) (xs : List X) (x : X) → Has xs x → p x ≡ true
    → Has (filter p xs) x
has-filter p [] x has pass = absurd (has-none x has)
has-filter {X} p (y ∷ ys) x has pass = elim (cases_Bool (p y)) [
  | inl e ↦ subst (λ (b : Bool). Has (if b then y ∷ filter p ys else filter p ys) x) (sym e)
      (elim (has-cons y ys x has) [
        | inl is ↦ (0, ap (λ v. Some v) is)
        | inr rest ↦ let more = has-filter p ys x rest pass in (suc more.0, more.1)
      ])
  | inr e ↦ subst (λ (b : Bool). Has (if b then y ∷ filter p ys else filter p ys) x) (sym e)
      (elim (has-cons y ys x has) [
        | inl is ↦
            let not_so : p x ≡ false = subst (λ (v : X). p v ≡ false) is e in
            absurd (let clash : true ≡ false = sym pass ∙ not_so in cc)
        | inr rest ↦ has-filter p ys x rest pass
      ])
]

-- an item that passes a test, and none
pub any-has : {X : Type 0} (p : X → Bool) (xs : List X) → list_any p xs ≡ true
    → (x : X) × Has xs x × (p x ≡ true)
any-has p [] e = absurd cc
any-has p (y ∷ ys) e = elim (cases_Bool (p y)) [
  | inl is ↦ (y, (0, refl), is)
  | inr not_so ↦
      let rest : list_any p ys ≡ true = subst (λ (b : Bool). (b || list_any p ys) ≡ true) not_so e
      in
      let found = any-has p ys rest in (found.0, (suc found.1.0, found.1.1), found.2)
]

pub has-any : {X : Type 0} (p : X → Bool) (xs : List X) (x : X) → Has xs x → p x ≡ true
    → list_any p xs ≡ true
has-any p [] x has pass = absurd (has-none x has)
has-any {X} p (y ∷ ys) x has pass = elim (cases_Bool (p y)) [
  | inl e ↦ subst (λ (b : Bool). (b || list_any p ys) ≡ true) (sym e) refl
  | inr e ↦ subst (λ (b : Bool). (b || list_any p ys) ≡ true) (sym e)
      (elim (has-cons y ys x has) [
        | inl is ↦
            let not_so : p x ≡ false = subst (λ (v : X). p v ≡ false) is e in
            absurd (let clash : true ≡ false = sym pass ∙ not_so in cc)
        | inr rest ↦ has-any p ys x rest pass
      ])
]

pub both_true : (a b : Bool) → a ≡ true → b ≡ true → (a && b) ≡ true
both_true a b first second = subst (λ (c : Bool). (c && b) ≡ true) (sym first) second

-- what all items of a list pass
pub all-has : {X : Type 0} (p : X → Bool) (xs : List X) → list_all p xs ≡ true → (x : X) → Has xs x
    → p x ≡ true
all-has p [] e x has = absurd (has-none x has)
all-has p (y ∷ ys) e x has = elim (has-cons y ys x has) [
  | inl is ↦ ap p (sym is) ∙ and_left (p y) (list_all p ys) e
  | inr rest ↦ all-has p ys (and_right (p y) (list_all p ys) e) x rest
]

pub has-all : {X : Type 0} (p : X → Bool) (xs : List X) → ((x : X) → Has xs x → p x ≡ true)
    → list_all p xs ≡ true
has-all p [] all = refl
has-all p (y ∷ ys) all = both_true (p y) (list_all p ys) (all y (0, refl))
    (has-all p ys (λ x (k, at). all x (suc k, at)))

eqb_itself : (n : ℕ) → (n == n) ≡ true
eqb_itself n = elim (cases_Bool (n == n)) [
  | inl is ↦ is
  | inr not_so ↦ absurd (eqb-false n n not_so refl)
]

pub eqb-same : (m n : ℕ) → m ≡ n → (m == n) ≡ true
eqb-same m n e = subst (λ (k : ℕ). (m == k) ≡ true) e (eqb_itself m)

pub some_of : {X : Type 0} (P : X → Type 0) (o : Option X) (x : X) → o ≡ Some x → IfSome o P → P x
some_of P o x is h = subst (λ (v : Option _). IfSome v P) is h

pub none_of : {X : Type 0} (P : Type 0) (o : Option X) → o ≡ None → IfNone o P → P
none_of P o is h = subst (λ (v : Option _). IfNone v P) is h

pub on_ok : {X E : Type 0} {A B : Type 0} (r : Result X E) → (A → B) → OnOk r A → OnOk r B
on_ok (Ok x) f h = f h
on_ok (Err e) f h = tt

pub not_true : (b : Bool) → b ≡ false → b ≡ true → ⊥
not_true b is_not is = let clash : true ≡ false = sym is ∙ is_not in absurd cc

-- lists that grow
pub grows-not : {X : Type 0} (xs : List X) → Grows xs xs
grows-not xs = ([], sym (append-nil xs))

pub grows-on : {X : Type 0} (one two three : List X) → Grows one two → Grows two three
    → Grows one three
grows-on {X} one two three (first, is) (second, also) = (
  first ++ second,
  also ∙ (ap (λ (l : List X). l ++ second) is ∙ append_assoc one first second),
)

pub grows-at : {X : Type 0} (old new : List X) (k : ℕ) (x : X) → Grows old new
    → slice_get old k ≡ Some x → slice_get new k ≡ Some x
grows-at {X} old new k x (more, is) at = subst (λ (l : List X). slice_get l k ≡ Some x) (sym is)
    (slice_get-append_within old more k (slice_get_within old k x at) ∙ at)

pub grows-has : {X : Type 0} (old new : List X) (x : X) → Grows old new → Has old x → Has new x
grows-has old new x grows (k, at) = (k, grows-at old new k x grows at)

-- the places of a list of which an item is replaced
pub set-from : {X : Type 0} (xs : List X) (i : ℕ) (v : X) (k : ℕ) (x : X)
    → slice_get (slice_set xs i v) k ≡ Some x
    → ((k ≡ i) × (v ≡ x)) ⊎ ((k ≢ i) × (slice_get xs k ≡ Some x))
set-from [] i v k x at = absurd (none-some x at)
set-from (y ∷ ys) zero v zero x at = inl (refl, same_Some v x at)
set-from (y ∷ ys) zero v (suc k) x at = inr ((λ (e : suc k ≡ zero). omega arith), at)
set-from (y ∷ ys) (suc i) v zero x at = inr ((λ (e : zero ≡ suc i). omega arith), at)
set-from (y ∷ ys) (suc i) v (suc k) x at = elim (set-from ys i v k x at) [
  | inl (same, is) ↦ inl (ap suc same, is)
  | inr (apart, old) ↦ inr ((λ (e : suc k ≡ suc i). apart (omega arith)), old)
]

pub set-to : {X : Type 0} (xs : List X) (i : ℕ) (v : X) (k : ℕ) (x : X)
    → slice_get xs k ≡ Some x → k ≢ i → slice_get (slice_set xs i v) k ≡ Some x
set-to [] i v k x at apart = absurd (none-some x at)
set-to (y ∷ ys) zero v zero x at apart = absurd (apart refl)
set-to (y ∷ ys) zero v (suc k) x at apart = at
set-to (y ∷ ys) (suc i) v zero x at apart = at
set-to (y ∷ ys) (suc i) v (suc k) x at apart =
    set-to ys i v k x at (λ (e : k ≡ i). apart (ap suc e))

pub set-at : {X : Type 0} (xs : List X) (i : ℕ) (v x : X) → slice_get xs i ≡ Some x
    → slice_get (slice_set xs i v) i ≡ Some v
set-at [] i v x at = absurd (none-some x at)
set-at (y ∷ ys) zero v x at = refl
set-at (y ∷ ys) (suc i) v x at = set-at ys i v x at

pub length-set : {X : Type 0} (xs : List X) (i : ℕ) (v : X)
    → length (slice_set xs i v) ≡ length xs
length-set [] i v = refl
length-set (y ∷ ys) zero v = refl
length-set (y ∷ ys) (suc i) v = ap suc (length-set ys i v)
