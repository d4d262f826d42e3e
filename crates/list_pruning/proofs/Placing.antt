-- What a put makes of a list, and which items of the list keep their order.
use Rattle.std.proofs.Common.{◌≡◌, ℕ, ◌<◌, ◌≤◌, ◌⊎◌, ◌∙◌, ltb, List, [], ◌∷◌, ◌++◌, map, refl, sym, ap, subst, inl, inr, arith}
use Rattle.std.specs.List.{AllByRecursion}
use Rattle.std.proofs.lemmas.Bool.{cases_lt, cond-true, cond-false, lt-ltb, le-ltb}
use Rattle.book_base.specs.SeqSpec.{SeqSpec}
use Rattle.book_base.specs.Book.{Page}
use Rattle.book_base.specs.Order.{step_at}
use Rattle.book_base.specs.Reaching.{list_after_run}
use Rattle.book_base.specs.Pruning.{IsReached}
use Rattle.legal_orders.specs.Container.{Effect, Puts, Takes, Neither, Reading}
use Rattle.list_pruning.specs.LeastFirst.{placed, IsRising, GivesLeastFirst, IsBelowFirst}

-- a value is placed before the first item of a list where it is less, and else among the items
-- after it
pub placed-less : (v x : ℕ) (rest : List ℕ) → v < x → placed v (x ∷ rest) ≡ v ∷ x ∷ rest
placed-less v x rest less = cond-true (ltb v x) (v ∷ x ∷ rest) (x ∷ placed v rest) (lt-ltb v x less)

pub placed-more : (v x : ℕ) (rest : List ℕ) → x ≤ v → placed v (x ∷ rest) ≡ x ∷ placed v rest
placed-more v x rest more =
    cond-false (ltb v x) (v ∷ x ∷ rest) (x ∷ placed v rest) (le-ltb v x more)

-- a property that follows from another one for each item follows for all items of a list
pub all-weaker : (P Q : ℕ → Type 0) (list : List ℕ) → ((x : ℕ) → P x → Q x) → AllByRecursion P list
    → AllByRecursion Q list
all-weaker P Q [] weaker all = tt
all-weaker P Q (x ∷ rest) weaker all = (weaker x all.0, all-weaker P Q rest weaker all.1)

-- what holds of a value and of each item of a list holds of each item of the list with the value
pub all-placed : (P : ℕ → Type 0) (v : ℕ) (list : List ℕ) → P v → AllByRecursion P list
    → AllByRecursion P (placed v list)
all-placed P v [] it all = (it, tt)
all-placed P v (x ∷ rest) it all = elim (cases_lt v x) [
  | inl less ↦
      subst (λ (xs : List ℕ). AllByRecursion P xs) (sym (placed-less v x rest less)) (it, all)
  | inr more ↦ subst (λ (xs : List ℕ). AllByRecursion P xs) (sym (placed-more v x rest more))
      (all.0, all-placed P v rest it all.1)
]

-- A value that is less than an item is placed among the items before it, or right before it.
pub placed-before : (v low : ℕ) (before after : List ℕ) → v < low
    → placed v (before ++ low ∷ after) ≡ placed v before ++ low ∷ after
placed-before v low [] after less = placed-less v low after less
placed-before v low (x ∷ before) after less = elim (cases_lt v x) [
  | inl first ↦ placed-less v x (before ++ low ∷ after) first
      ∙ ap (λ (xs : List ℕ). xs ++ low ∷ after) (sym (placed-less v x before first))
  | inr later ↦
      placed-more v x (before ++ low ∷ after) later
      ∙ (ap (λ (xs : List ℕ). x ∷ xs) (placed-before v low before after less)
      ∙ ap (λ (xs : List ℕ). xs ++ low ∷ after) (sym (placed-more v x before later)))
]

pub placed-before_all : (v : ℕ) (before after : List ℕ) → AllByRecursion (λ (y : ℕ). v < y) after
    → placed v (before ++ after) ≡ placed v before ++ after
placed-before_all v [] [] above = refl
placed-before_all v [] (y ∷ after) above = placed-less v y after above.0
placed-before_all v (x ∷ before) after above = elim (cases_lt v x) [
  | inl first ↦ placed-less v x (before ++ after) first
      ∙ ap (λ (xs : List ℕ). xs ++ after) (sym (placed-less v x before first))
  | inr later ↦
      placed-more v x (before ++ after) later
      ∙ (ap (λ (xs : List ℕ). x ∷ xs) (placed-before_all v before after above)
      ∙ ap (λ (xs : List ℕ). xs ++ after) (sym (placed-more v x before later)))
]

-- A value that is no less than the first items comes after them.
pub placed-after : (v : ℕ) (before after : List ℕ) → AllByRecursion (λ (x : ℕ). x ≤ v) before
    → placed v (before ++ after) ≡ before ++ placed v after
placed-after v [] after below = refl
placed-after v (x ∷ before) after below = placed-more v x (before ++ after) below.0
    ∙ ap (λ (xs : List ℕ). x ∷ xs) (placed-after v before after below.1)

-- A value that is no less than the first items and less than the others comes between them.
pub placed-first : (v : ℕ) (after : List ℕ) → AllByRecursion (λ (y : ℕ). v < y) after
    → placed v after ≡ v ∷ after
placed-first v [] above = refl
placed-first v (y ∷ after) above = placed-less v y after above.0

pub placed-between : (v : ℕ) (before after : List ℕ) → AllByRecursion (λ (x : ℕ). x < v) before
    → AllByRecursion (λ (y : ℕ). v < y) after
    → placed v (before ++ after) ≡ before ++ v ∷ after
placed-between v before after below above =
    placed-after v before after (all-weaker (λ (x : ℕ). x < v) (λ (x : ℕ). x ≤ v) before
    (λ (x : ℕ) (less : x < v). omega (arith, less)) below)
    ∙ ap (λ (xs : List ℕ). before ++ xs) (placed-first v after above)

-- ---- rising lists

-- a value is less than each item of a rising list where it is less than the first one
pub below_all : (bound v : ℕ) (list : List ℕ) → IsRising bound list → IsBelowFirst v list
    → AllByRecursion (λ (y : ℕ). v < y) list
below_all bound v [] rising below = tt
below_all bound v (x ∷ rest) rising below = (
  below,
  all-weaker (λ (y : ℕ). x ≤ y) (λ (y : ℕ). v < y) rest
      (λ (y : ℕ) (le : x ≤ y). omega (arith, le, below)) rising.1,
)

-- each item of a rising list is below its bound
pub small_all : (bound : ℕ) (list : List ℕ) → IsRising bound list
    → AllByRecursion (λ (y : ℕ). y < bound) list
small_all bound [] rising = tt
small_all bound (x ∷ rest) rising = (rising.0, small_all bound rest rising.2)

rising-placed : (bound v : ℕ) (list : List ℕ) → v < bound → IsRising bound list
    → IsRising bound (placed v list)
rising-placed bound v [] small rising = (small, tt, tt)
rising-placed bound v (x ∷ rest) small rising = elim (cases_lt v x) [
  | inl less ↦
      let above : AllByRecursion (λ (y : ℕ). v ≤ y) (x ∷ rest)
      = (
        omega (arith, less),
        all-weaker (λ (y : ℕ). x ≤ y) (λ (y : ℕ). v ≤ y) rest
            (λ (y : ℕ) (le : x ≤ y). omega (arith, le, less)) rising.1,
      ) in
      subst (λ (xs : List ℕ). IsRising bound xs) (sym (placed-less v x rest less))
      (small, above, rising)
  | inr more ↦
      subst (λ (xs : List ℕ). IsRising bound xs) (sym (placed-more v x rest more)) (
        rising.0,
        all-placed (λ (y : ℕ). x ≤ y) v rest more rising.1,
        rising-placed bound v rest small rising.2,
      )
]

rising-taken : (reading : Reading) (next : List ℕ → ℕ → List ℕ × ℕ) (bound : ℕ)
    → GivesLeastFirst reading next bound → (list : List ℕ) (op : ℕ) → reading.deed op ≡ Takes
    → IsRising bound list → IsRising bound (next list op).0
rising-taken reading next bound is [] op takes rising =
    subst (λ (xs : List ℕ). IsRising bound xs) (sym (is.empty op takes).0) tt
rising-taken reading next bound is (x ∷ rest) op takes rising =
    subst (λ (xs : List ℕ). IsRising bound xs) (sym (is.take x rest op takes)) rising.2

-- an effect is a put of a value, a take, or neither
pub cases_deed : (d : Effect) → ((v : ℕ) × (d ≡ Puts v)) ⊎ ((d ≡ Takes) ⊎ (d ≡ Neither))
cases_deed (Puts v) = inl (v, refl)
cases_deed Takes = inr (inl refl)
cases_deed Neither = inr (inr refl)

pub rising-next : (reading : Reading) (next : List ℕ → ℕ → List ℕ × ℕ) (bound : ℕ)
    → GivesLeastFirst reading next bound → (list : List ℕ) (op : ℕ)
    → IsRising bound list → IsRising bound (next list op).0
rising-next reading next bound is list op rising = elim (cases_deed (reading.deed op)) [
  | inl put ↦ subst (λ (xs : List ℕ). IsRising bound xs) (sym (is.put list op put.0 put.1))
      (rising-placed bound put.0 list (is.small op put.0 put.1) rising)
  | inr other ↦ elim other [
    | inl takes ↦ rising-taken reading next bound is list op takes rising
    | inr neither ↦
        subst (λ (xs : List ℕ). IsRising bound xs) (sym (is.neither list op neither)) rising
  ]
]

rising-run : (reading : Reading) (next : List ℕ → ℕ → List ℕ × ℕ) (bound : ℕ)
    → GivesLeastFirst reading next bound → (list : List ℕ) (steps : List (ℕ × ℕ))
    → IsRising bound list → IsRising bound (list_after_run next list steps)
rising-run reading next bound is list [] rising = rising
rising-run reading next bound is list (step ∷ steps) rising =
    rising-run reading next bound is (next list step.0).0 steps
    (rising-next reading next bound is list step.0 rising)

-- Each list that an order reaches is rising.
pub rising-reached : (reading : Reading) (spec : SeqSpec) (bound : ℕ) (book : List Page)
    (cut list : List ℕ) → GivesLeastFirst reading spec.next bound → IsRising bound spec.init
    → IsReached spec book cut list → IsRising bound list
rising-reached reading spec bound book cut list is rising reached =
    subst (λ (xs : List ℕ). IsRising bound xs) reached.reaches.reached
    (rising-run reading spec.next bound is spec.init (map (step_at book) reached.before) rising)
