-- How many of the values that pass a test a container holds, and what one call changes of it.
use Rattle.std.proofs.Common.{◌≡◌, ℕ, zero, suc, ◌+◌, ◌<◌, ◌≤◌, ◌||◌, ◌∙◌, Bool, true, false, cond, List, [], ◌∷◌, sum, Option, Some, None, refl, sym, ap, inl, inr, arith}
use Rattle.std.proofs.lemmas.Bool.{cases_Bool, cases_eq, cases_lt, eq-eqb, ne_eqb}
use Rattle.std.proofs.lemmas.List.Sums.{sum_by-cons}
use Rattle.legal_orders.specs.Container.{Reading, IsContainer, one_if, put_by, taken_by, times}
use Rattle.legal_orders.proofs.Counting.{is_once}
use Rattle.legal_orders.proofs.Runs.{holds_what_was_put}
use Rattle.legal_orders.specs.Deals.{Deal as KnownDeal}
use Rattle.legal_orders.specs.Deals as deals
use Rattle.queue_pairs.specs.declared.table.QueueDeal.{QueueDeal}
use Rattle.queue_pairs.specs.declared.table.QueueDeal.TheVariants as did
use Rattle.queue_pairs.specs.Tables.{known_deal}
use Rattle.queue_pairs.proofs.Counting.{bit}
use Rattle.queue_pairs.specs.Counts.{listed, puts_one, shows_one, may_take_one}

-- The sum of what a function gives for the numbers below a bound that pass a test.
abbrev pub tally : (ℕ → Bool) → (ℕ → ℕ) → ℕ → ℕ
tally test f zero = 0
tally test f (suc n) = cond (test n) (f n) 0 + tally test f n

tally-sums : (test : ℕ → Bool) (f g h k : ℕ → ℕ) (n : ℕ)
    → ((w : ℕ) → f w + g w ≡ h w + k w)
    → tally test f n + tally test g n ≡ tally test h n + tally test k n
tally-sums test f g h k zero same = refl
tally-sums test f g h k (suc n) same =
    let rest = tally-sums test f g h k n same in
    let here : cond (test n) (f n) 0 + cond (test n) (g n) 0
    ≡ cond (test n) (h n) 0 + cond (test n) (k n) 0
    = cond-sums (test n) (f n) (g n) (h n) (k n) (same n) in
    omega (arith, rest, here)
  where
    cond-sums : (b : Bool) (x y z w : ℕ) → x + y ≡ z + w
        → cond b x 0 + cond b y 0 ≡ cond b z 0 + cond b w 0
    cond-sums true x y z w e = e
    cond-sums false x y z w e = refl

cond-none : (b : Bool) (n : ℕ) → n ≡ 0 → cond b n 0 ≡ 0
cond-none true n e = e
cond-none false n e = refl

-- A sum is 0 where the function gives 0 for each number below the bound.
pub tally-none : (test : ℕ → Bool) (f : ℕ → ℕ) (n : ℕ) → ((w : ℕ) → w < n → f w ≡ 0)
    → tally test f n ≡ 0
tally-none test f zero none = refl
tally-none test f (suc n) none =
    let here : cond (test n) (f n) 0 ≡ 0 = cond-none (test n) (f n) (none n (omega arith)) in
    let rest : tally test f n ≡ 0 = tally-none test f n (λ w low. none w (omega (arith, low))) in
    omega (arith, here, rest)

-- The sum of 1 for one value below the bound, and of 0 for each other number, is 1 where the value
-- passes the test, and else 0.
tally-one : (test : ℕ → Bool) (v n : ℕ) → v < n
    → tally test (λ w. is_once w (Some v)) n ≡ bit (test v)
tally-one test v zero low = absurd (omega (arith, low))
tally-one test v (suc n) low =
    elim (cases_eq v n) [
      | inl same ↦
          let rest : tally test (λ w. is_once w (Some v)) n ≡ 0
          = tally-none test (λ w. is_once w (Some v)) n
          (λ w less. ap one_if (ne_eqb v w (λ (e : v ≡ w). omega (arith, e, less, same)))) in
          let here : cond (test n) (is_once n (Some v)) 0 ≡ bit (test v)
          = ap (λ (k : ℕ). cond (test n) k 0) (ap one_if (eq-eqb v n same))
          ∙ ap (λ (k : ℕ). bit (test k)) (sym same) in
          omega (arith, rest, here)
      | inr apart ↦
          let here : cond (test n) (is_once n (Some v)) 0 ≡ 0
          = cond-none (test n) (is_once n (Some v)) (ap one_if (ne_eqb v n apart)) in
          let rest = tally-one test v n (omega (arith, low, apart)) in
          omega (arith, here, rest)
    ]

-- Each number that passes a test is below a bound.
abbrev pub IsBelow : (ℕ → Bool) → ℕ → Type 0
IsBelow test n = (w : ℕ) → test w ≡ true → w < n

tally-shown : (test : ℕ → Bool) (v n : ℕ) → IsBelow test n
    → tally test (λ w. is_once w (Some v)) n ≡ bit (test v)
tally-shown test v n below =
    elim (cases_lt v n) [
      | inl low ↦ tally-one test v n low
      | inr high ↦
          let none : tally test (λ w. is_once w (Some v)) n ≡ 0
          = tally-none test (λ w. is_once w (Some v)) n
          (λ w less. ap one_if (ne_eqb v w (λ (e : v ≡ w). omega (arith, e, less, high)))) in
          elim (cases_Bool (test v)) [
            | inl passes ↦ absurd (omega (arith, high, below v passes))
            | inr fails ↦ none ∙ sym (ap bit fails)
          ]
    ]

tally-empty : (test : ℕ → Bool) (n : ℕ) → tally test (λ w. is_once w None) n ≡ 0
tally-empty test n = tally-none test (λ w. is_once w None) n (λ w less. refl)

bit-one : (b : Bool) → bit b ≤ 1
bit-one true = omega arith
bit-one false = omega arith

tally-most : (test : ℕ → Bool) (o : Option ℕ) (n : ℕ) → IsBelow test n
    → tally test (λ w. is_once w o) n ≤ 1
tally-most test None n below = omega (arith, tally-empty test n)
tally-most test (Some v) n below = omega (arith, tally-shown test v n below, bit-one (test v))

-- Each of the listed values is at most the sum of them all.
pub listed-below : (values : List ℕ) → IsBelow (listed values) (suc (sum values))
listed-below [] w told = absurd cc
listed-below (v ∷ values) w told =
    let all : sum (v ∷ values) ≡ v + sum values = sum_by-cons (λ (n : ℕ). n) v values in
    elim (cases_eq v w) [
      | inl same ↦ omega (arith, all, same)
      | inr apart ↦
          let rest : listed values w ≡ true
          = sym (ap (λ (b : Bool). b || listed values w) (ne_eqb v w apart)) ∙ told in
          omega (arith, all, listed-below values w rest)
    ]

-- ---- one call

-- What a step puts in and takes out is what a call with this deal puts in and takes out, where an
-- unanswered take may take out any value or nothing.
abbrev pub Does : KnownDeal → Option ℕ → Option ℕ → Type 0
Does (deals.Put v) put taken = (put ≡ Some v) × (taken ≡ None)
Does (deals.Took v) put taken = (put ≡ None) × (taken ≡ Some v)
Does deals.FoundNothing put taken = (put ≡ None) × (taken ≡ None)
Does deals.OpenTake put taken = put ≡ None
Does deals.Other put taken = (put ≡ None) × (taken ≡ None)

-- 1 where an option has a value below a bound that passes a test, and else 0.
abbrev pub amount : (ℕ → Bool) → ℕ → Option ℕ → ℕ
amount test n o = tally test (λ w. is_once w o) n

amount-of : (test : ℕ → Bool) (n : ℕ) (o : Option ℕ) (v : ℕ) → IsBelow test n → o ≡ Some v
    → amount test n o ≡ bit (test v)
amount-of test n o v below e = ap (amount test n) e ∙ tally-shown test v n below

amount-none : (test : ℕ → Bool) (n : ℕ) (o : Option ℕ) → o ≡ None → amount test n o ≡ 0
amount-none test n o e = ap (amount test n) e ∙ tally-empty test n

-- Of values that pass the test: the one that the deal of a step shows as taken, and the one that
-- the step puts in, are together at most as many as the one that the deal puts in and the one that
-- the step takes out.
pub shown-put : (test : ℕ → Bool) (n : ℕ) (d : QueueDeal) (put taken : Option ℕ) → IsBelow test n
    → Does (known_deal d) put taken
    → bit (shows_one test d) + amount test n put ≤ bit (puts_one test d) + amount test n taken
shown-put test n (did.Put v) put taken below does =
    omega (arith, amount-of test n put v below does.0)
shown-put test n (did.Took v) put taken below does =
    omega (arith, amount-none test n put does.0, amount-of test n taken v below does.1)
shown-put test n did.FoundNothing put taken below does =
    omega (arith, amount-none test n put does.0)
shown-put test n did.OpenTake put taken below does = omega (arith, amount-none test n put does)
shown-put test n did.Other put taken below does = omega (arith, amount-none test n put does.0)

-- Of values that pass the test: the one that the deal of a step puts in, and the one that the step
-- takes out, are together at most as many as the one that the deal may take and the one that the
-- step puts in.
pub put-taken : (test : ℕ → Bool) (n : ℕ) (d : QueueDeal) (put taken : Option ℕ) → IsBelow test n
    → Does (known_deal d) put taken
    → bit (puts_one test d) + amount test n taken ≤ bit (may_take_one test d) + amount test n put
put-taken test n (did.Put v) put taken below does =
    omega (arith, amount-of test n put v below does.0, amount-none test n taken does.1)
put-taken test n (did.Took v) put taken below does =
    omega (arith, amount-of test n taken v below does.1)
put-taken test n did.FoundNothing put taken below does =
    omega (arith, amount-none test n taken does.1)
put-taken test n did.OpenTake put taken below does = omega (arith, tally-most test taken n below)
put-taken test n did.Other put taken below does = omega (arith, amount-none test n taken does.1)

-- ---- what is held

-- How many of some values pass a test and are below a bound.
abbrev pub held : (ℕ → Bool) → ℕ → List ℕ → ℕ
held test n values = tally test (λ w. times w values) n

-- Of the values that pass, what a container holds before a step and what the step puts in are
-- together as many as what the step takes out and what is held after it.
pub held-step : (reading : Reading) (next : List ℕ → ℕ → List ℕ × ℕ) (test : ℕ → Bool) (n : ℕ)
    (list : List ℕ) (step : ℕ × ℕ) → IsContainer reading next → (next list step.0).1 ≡ step.1
    → held test n (reading.values list) + amount test n (put_by reading step)
    ≡ amount test n (taken_by reading step) + held test n (reading.values (next list step.0).0)
held-step reading next test n list step is reply =
    tally-sums test (λ w. times w (reading.values list)) (λ w. is_once w (put_by reading step))
    (λ w. is_once w (taken_by reading step))
    (λ w. times w (reading.values (next list step.0).0)) n
    (λ w. omega (arith, holds_what_was_put reading next is w list (step ∷ []) (reply, tt)))
