-- How often the items of a list show a value, and where.
use Rattle.std.proofs.Common.{◌≡◌, ℕ, zero, suc, ◌+◌, ◌<◌, ◌≤◌, ◌⊎◌, ◌==◌, ◌∙◌, List, [], ◌∷◌, ◌++◌, take, Option, Some, None, refl, ap, inl, inr, slice_get, arith}
use Rattle.std.specs.List.{cons_option, filter_map}
use Rattle.std.proofs.lemmas.Bool.{cases_eq, cases_lt, eq-eqb, ne_eqb}
use Rattle.std.proofs.lemmas.Option.{same_Some, none-some}
use Rattle.legal_orders.specs.Container.{one_if, times}

-- one where an option has this value, and else zero
abbrev pub is_once : ℕ → Option ℕ → ℕ
is_once v None = 0
is_once v (Some w) = one_if (w == v)

-- how often the items of a list show a value
abbrev pub how_often : {X : Type 0} → (X → Option ℕ) → ℕ → List X → ℕ
how_often f v [] = 0
how_often f v (x ∷ xs) = is_once v (f x) + how_often f v xs

pub is_once-cases : (v : ℕ) (o : Option ℕ) → ((o ≡ Some v) × (is_once v o ≡ 1))
    ⊎ ((o ≡ Some v → ⊥) × (is_once v o ≡ 0))
is_once-cases v None = inr (λ e. none-some v e, refl)
is_once-cases v (Some w) = elim (cases_eq w v) [
  | inl same ↦ inl (ap (λ (n : ℕ). Some n) same, ap one_if (eq-eqb w v same))
  | inr apart ↦ inr (λ e. apart (same_Some w v e), ap one_if (ne_eqb w v apart))
]

pub is_once-same : (v : ℕ) (o : Option ℕ) → o ≡ Some v → is_once v o ≡ 1
is_once-same v o e = elim (is_once-cases v o) [ inl here ↦ here.1 | inr other ↦ absurd (other.0 e) ]

-- a longer prefix of a list shows a value at least as often
pub how_often-grows : {X : Type 0} (f : X → Option ℕ) (v : ℕ) (xs : List X) (m n : ℕ) → m ≤ n
    → how_often f v (take m xs) ≤ how_often f v (take n xs)
how_often-grows f v xs zero n le = omega arith
how_often-grows f v xs (suc m) zero le = absurd (omega arith)
how_often-grows f v [] (suc m) (suc n) le = omega arith
how_often-grows f v (x ∷ xs) (suc m) (suc n) le =
    omega (arith, how_often-grows f v xs m n (omega arith))

-- a prefix shows a value more often than a shorter one where an item between the two ends shows it
pub how_often-more : {X : Type 0} (f : X → Option ℕ) (v : ℕ) (xs : List X) (k n : ℕ) (x : X)
    → slice_get xs k ≡ Some x → f x ≡ Some v → k < n
    → how_often f v (take k xs) + 1 ≤ how_often f v (take n xs)
how_often-more f v [] k n x e is lt = absurd (none-some x e)
how_often-more f v (y ∷ ys) k zero x e is lt = absurd (omega arith)
how_often-more f v (y ∷ ys) zero (suc n) x e is lt =
    let here : is_once v (f y) ≡ 1 = is_once-same v (f y) (ap f (same_Some y x e) ∙ is) in
    omega (arith, here)
how_often-more f v (y ∷ ys) (suc k) (suc n) x e is lt =
    omega (arith, how_often-more f v ys k n x e is (omega arith))

-- a value that a prefix shows is shown by an item at some place
pub how_often-found : {X : Type 0} (f : X → Option ℕ) (v : ℕ) (xs : List X) (n : ℕ)
    → 1 ≤ how_often f v (take n xs)
    → (k : ℕ) × (x : X) × (k < n) × (slice_get xs k ≡ Some x) × (f x ≡ Some v)
how_often-found f v xs zero some = absurd (omega arith)
how_often-found f v [] (suc n) some = absurd (omega arith)
how_often-found f v (x ∷ xs) (suc n) some = elim (is_once-cases v (f x)) [
  | inl here ↦ (0, x, omega arith, refl, here.0)
  | inr past ↦
      let found = how_often-found f v xs n (omega (arith, past.1)) in
      (suc found.0, found.1, omega (arith, found.2), found.3, found.4)
]

-- a value that is shown at one place only is shown at most once
pub how_often-once : {X : Type 0} (f : X → Option ℕ) (v q : ℕ) (xs : List X) (n : ℕ)
    → ((k : ℕ) (x : X) → slice_get xs k ≡ Some x → f x ≡ Some v → k ≡ q)
    → how_often f v (take n xs) ≤ 1
how_often-once f v q xs zero only = omega arith
how_often-once f v q [] (suc n) only = omega arith
how_often-once f v zero (x ∷ xs) (suc n) only =
    elim (cases_lt (how_often f v (take n xs)) 1) [
      | inl none ↦ elim (is_once-cases v (f x)) [
        | inl here ↦ omega (arith, here.1)
        | inr past ↦ omega (arith, past.1)
      ]
      | inr some ↦
          let found = how_often-found f v xs n some in
          let wrong : suc found.0 ≡ 0 = only (suc found.0) found.1 found.3 found.4 in
          absurd (omega arith)
    ]
how_often-once f v (suc q) (x ∷ xs) (suc n) only =
    elim (is_once-cases v (f x)) [
      | inl here ↦ let wrong : 0 ≡ suc q = only 0 x refl here.0 in absurd (omega arith)
      | inr past ↦ omega (
        arith,
        past.1,
        how_often-once f v q xs n
            (λ k y e is. let same : suc k ≡ suc q = only (suc k) y e is in omega arith),
      )
    ]

-- where a prefix shows a value more than t times, one of its items shows the value after exactly t
-- earlier times
pub how_often-next : {X : Type 0} (f : X → Option ℕ) (v : ℕ) (xs : List X) (n t : ℕ)
    → t < how_often f v (take n xs)
    → (k : ℕ) × (x : X) × (k < n) × (slice_get xs k ≡ Some x) × (f x ≡ Some v)
    × (how_often f v (take k xs) ≡ t)
how_often-next f v xs zero t more = absurd (omega arith)
how_often-next f v [] (suc n) t more = absurd (omega arith)
how_often-next f v (x ∷ xs) (suc n) zero more = elim (is_once-cases v (f x)) [
  | inl here ↦ (0, x, omega arith, refl, here.0, refl)
  | inr past ↦
      let found = how_often-next f v xs n 0 (omega (arith, past.1)) in (
        suc found.0,
        found.1,
        omega (arith, found.2),
        found.3,
        found.4,
        omega (arith, past.1, found.5),
      )
]
how_often-next f v (x ∷ xs) (suc n) (suc t) more = elim (is_once-cases v (f x)) [
  | inl here ↦
      let found = how_often-next f v xs n t (omega (arith, here.1)) in (
        suc found.0,
        found.1,
        omega (arith, found.2),
        found.3,
        found.4,
        omega (arith, here.1, found.5),
      )
  | inr past ↦
      let found = how_often-next f v xs n (suc t) (omega (arith, past.1)) in (
        suc found.0,
        found.1,
        omega (arith, found.2),
        found.3,
        found.4,
        omega (arith, past.1, found.5),
      )
]

-- a value is once more in a list with an option before it, where the option has this value
times-option : (v : ℕ) (o : Option ℕ) (vs : List ℕ)
    → times v (cons_option o vs) ≡ is_once v o + times v vs
times-option v None vs = omega arith
times-option v (Some w) vs = refl

pub times-shown : {X : Type 0} (f : X → Option ℕ) (v : ℕ) (xs : List X)
    → times v (filter_map f xs) ≡ how_often f v xs
times-shown f v [] = refl
times-shown f v (x ∷ xs) = omega (arith, times-option v (f x) (filter_map f xs), times-shown f v xs)

-- a value is in two lists joined as often as in the one and the other together
pub times-append : (v : ℕ) (xs ys : List ℕ) → times v (xs ++ ys) ≡ times v xs + times v ys
times-append v [] ys = omega arith
times-append v (x ∷ xs) ys = omega (arith, times-append v xs ys)

-- a value at some place of a list is in it at least once
pub times-stands : (v : ℕ) (xs : List ℕ) (k : ℕ) → slice_get xs k ≡ Some v → 1 ≤ times v xs
times-stands v [] k e = absurd (none-some v e)
times-stands v (x ∷ xs) zero e = omega (arith, ap one_if (eq-eqb x v (same_Some x v e)))
times-stands v (x ∷ xs) (suc k) e = omega (arith, times-stands v xs k e)

-- a value that is in a list at least once is at some place of it
pub times-found : (v : ℕ) (xs : List ℕ) → 1 ≤ times v xs → (k : ℕ) × (slice_get xs k ≡ Some v)
times-found v [] some = absurd (omega arith)
times-found v (x ∷ xs) some = elim (cases_eq x v) [
  | inl same ↦ (0, ap (λ (n : ℕ). Some n) same)
  | inr apart ↦ let found = times-found v xs (omega (arith, ap one_if (ne_eqb x v apart))) in
      (suc found.0, found.1)
]

pub times-apart : (v w : ℕ) (xs : List ℕ) → (w ≡ v → ⊥) → times v (w ∷ xs) ≡ times v xs
times-apart v w xs apart = omega (arith, ap one_if (ne_eqb w v apart))
