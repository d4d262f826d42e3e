-- Steps of runs, and which operation a word is.
use Rattle.std.proofs.Common.{◌≡◌, ◌≢◌, ℕ, zero, suc, ◌/◌, ◌^◌, ◌<◌, ◌≤◌, true, false, ◌==◌, ◌&&◌, List, [], ◌∷◌, ◌++◌, Some, None, refl, sym, ap, subst, inl, inr, ◌∙◌, arith}
use Rattle.std.proofs.lemmas.Bool.{cases_lt, cond-true, and_parts, eqb-true, eq-eqb, ne_eqb}
use Rattle.book_base.specs.Sequential.{IsRunFrom}
use Rattle.book_base.specs.Reaching.{list_after_run}
use Rattle.seq_objects.specs.Words.{OperationEntry, is_operation_of, has_arguments, code_of}
use Rattle.seq_objects.specs.Replies.{reply_value, is_value, value_of, shown_value}

-- the reply of a step is what the object gives after the steps before it
pub replied : (next : List ℕ → ℕ → List ℕ × ℕ) (list : List ℕ) (before rest : List (ℕ × ℕ))
    (step : ℕ × ℕ) → IsRunFrom next list (before ++ step ∷ rest)
    → (next (list_after_run next list before) step.0).1 ≡ step.1
replied next list [] rest step run = run.0
replied next list (first ∷ before) rest step run =
    replied next (next list first.0).0 before rest step run.1

-- the first steps of a run are a run
pub runs_before : (next : List ℕ → ℕ → List ℕ × ℕ) (list : List ℕ) (before rest : List (ℕ × ℕ))
    → IsRunFrom next list (before ++ rest) → IsRunFrom next list before
runs_before next list [] rest run = tt
runs_before next list (first ∷ before) rest run =
    (run.0, runs_before next (next list first.0).0 before rest run.1)

-- the list after two runs of steps in a row
pub list_after-append : (next : List ℕ → ℕ → List ℕ × ℕ) (list : List ℕ) (a b : List (ℕ × ℕ))
    → list_after_run next list (a ++ b) ≡ list_after_run next (list_after_run next list a) b
list_after-append next list [] b = refl
list_after-append next list (step ∷ a) b = list_after-append next (next list step.0).0 a b

-- a word that is an operation of one entry is none of an entry with another code
pub apart : (word : ℕ) (a b : OperationEntry) → a.code ≢ b.code → is_operation_of word a ≡ true
    → is_operation_of word b ≡ false
apart word a b other is =
    let code : code_of word ≡ a.code = eqb-true (code_of word) a.code
    (and_parts (code_of word == a.code) (has_arguments a.arity word) is).0 in
    let differs : (code_of word == b.code) ≡ false =
    ne_eqb (code_of word) b.code (λ same. other (sym code ∙ same)) in
    ap (λ t. t && has_arguments b.arity word) differs

-- a reply that gives an item shows its value
pub shown_item : (item : ℕ) → shown_value (reply_value item) ≡ Some (value_of item)
shown_item item =
    cond-true (is_value (reply_value item)) (Some (value_of (reply_value item))) None
    (eq-eqb (reply_value item / 2 ^ 32) 2 (omega arith)) ∙ ap Some (omega arith)

-- What holds at a moment, and is kept by each step from it up to a later moment, holds up to that
-- moment.
pub carried : (P : ℕ → Type 0) (b m : ℕ) → ((n : ℕ) → b ≤ n → n < m → P n → P (suc n)) → P b
    → (n : ℕ) → b ≤ n → n ≤ m → P n
carried P b m kept start zero le high = subst P (let same : b ≡ zero = omega (arith, le) in same) start
carried P b m kept start (suc n) le high = elim (cases_lt n b) [
  | inl before ↦ subst P (let same : b ≡ suc n = omega (arith, before, le) in same) start
  | inr past ↦
      kept n past (omega (arith, high))
      (carried P b m kept start n past (omega (arith, high)))
]
