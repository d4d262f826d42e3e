-- The parts of callers that numbers pick: each rising part is one of them.
use Rattle.std.proofs.Common.{◌≡◌, ◌≢◌, ℕ, zero, suc, ◌+◌, ◌*◌, ◌/◌, ◌%◌, ◌^◌, ◌<◌, ◌≤◌, ◌∙◌, false, List, [], ◌∷◌, ◌++◌, length, get_or, drop, refl, sym, ap, subst, inl, inr, append_assoc, arith}
use Rattle.std.specs.Prelude.{◌==◌}
use Rattle.std.specs.List.{AllByRecursion}
use Rattle.std.proofs.lemmas.Bool.{cond-true, cond-false, eq-eqb, cases_Bool, eqb-false, eqb-true}
use Rattle.std.proofs.lemmas.List.{drop_more}
use Rattle.std.proofs.Math.Nat.{pow-succ'}
use Rattle.set_order.specs.SetOrder.{RiseFrom}
use Rattle.set_order.specs.Search.{picked, IsOneCaller}

doubled : (n : ℕ) → 2 ^ suc n ≡ 2 * 2 ^ n
doubled n = pow-succ' 2 n

some_ways : (n : ℕ) → 1 ≤ 2 ^ n
some_ways zero = omega arith
some_ways (suc n) = omega (arith, some_ways n, doubled n)

-- a number whose last digit is 1 picks the first caller
picked-first : (number i : ℕ) (callers : List ℕ) → number % 2 ≡ 1
    → picked number (i ∷ callers) ≡ i ∷ picked (number / 2) callers
picked-first number i callers odd = cond-true (number % 2 == 1) _ _ (eq-eqb (number % 2) 1 odd)

picked-later : (number i : ℕ) (callers : List ℕ) → (number % 2 == 1) ≡ false
    → picked number (i ∷ callers) ≡ picked (number / 2) callers
picked-later number i callers even = cond-false (number % 2 == 1) _ _ even

pub picked-none : (callers : List ℕ) → picked 0 callers ≡ []
picked-none [] = refl
picked-none (i ∷ callers) = picked-none callers

picked-odd : (number i : ℕ) (callers : List ℕ)
    → picked (2 * number + 1) (i ∷ callers) ≡ i ∷ picked number callers
picked-odd number i callers =
    let odd : (2 * number + 1) % 2 ≡ 1 = omega arith in
    let half : (2 * number + 1) / 2 ≡ number = omega arith in
    picked-first (2 * number + 1) i callers odd ∙ ap (λ (n : ℕ). i ∷ picked n callers) half

picked-even : (number i : ℕ) (callers : List ℕ)
    → picked (2 * number) (i ∷ callers) ≡ picked number callers
picked-even number i callers =
    let even : (2 * number) % 2 ≡ 0 = omega arith in
    let half : (2 * number) / 2 ≡ number = omega arith in
    picked-later (2 * number) i callers (ap (λ (n : ℕ). n == 1) even)
    ∙ ap (λ (n : ℕ). picked n callers) half

one_of-above : (low : ℕ) (callers : List ℕ) (j : ℕ) → RiseFrom low callers
    → IsOneCaller callers j → low ≤ j
one_of-above low [] j rise h = absurd h
one_of-above low (i ∷ callers) j rise h = elim h [
  | inl here ↦ omega (arith, rise.0)
  | inr later ↦ omega (arith, rise.0, one_of-above (i + 1) callers j rise.1 later)
]

-- a part of callers that are above the first one is a part of the others
without_first : (i : ℕ) (callers : List ℕ) (low : ℕ) (part : List ℕ) → i < low → RiseFrom low part
    → AllByRecursion (IsOneCaller (i ∷ callers)) part → AllByRecursion (IsOneCaller callers) part
without_first i callers low [] above rise all = tt
without_first i callers low (j ∷ part) above rise all = (
  elim all.0 [
    | inl here ↦ absurd (omega (arith, rise.0))
    | inr later ↦ later
  ],
  without_first i callers (j + 1) part (omega (arith, rise.0)) rise.1 all.1,
)

-- a number picks this part of callers
pub record IsPicked (callers part : List ℕ) : Type 0 where
  pub number : ℕ
  pub below : number < 2 ^ length callers
  pub picks : picked number callers ≡ part

picked-with : (i : ℕ) (callers part : List ℕ) → IsPicked callers part
    → IsPicked (i ∷ callers) (i ∷ part)
picked-with i callers part h = record {
  number = 2 * h.number + 1;
  below = omega (arith, h.below, doubled (length callers));
  picks = picked-odd h.number i callers ∙ ap (λ (x : List ℕ). i ∷ x) h.picks;
}

picked-without : (i : ℕ) (callers part : List ℕ) → IsPicked callers part
    → IsPicked (i ∷ callers) part
picked-without i callers part h = record {
  number = 2 * h.number;
  below = omega (arith, h.below, doubled (length callers));
  picks = picked-even h.number i callers ∙ h.picks;
}

-- Each rising part of rising callers is one that a number picks.
pub picked-each : (low : ℕ) (callers : List ℕ) (from : ℕ) (part : List ℕ) → RiseFrom low callers
    → RiseFrom from part → AllByRecursion (IsOneCaller callers) part → IsPicked callers part
picked-each low [] from [] rise rises all = record { number = 0; below = omega arith; picks = refl }
picked-each low [] from (j ∷ part) rise rises all = absurd all.0
picked-each low (i ∷ callers) from [] rise rises all = record {
  number = 0;
  below = omega (arith, some_ways (suc (length callers)));
  picks = picked-none (i ∷ callers);
}
picked-each low (i ∷ callers) from (j ∷ part) rise rises all = elim all.0 [
  | inl here ↦
      let rest = picked-each (i + 1) callers (j + 1) part rise.1 rises.1
      (without_first i callers (j + 1) part (omega arith) rises.1 all.1) in
      subst (λ (k : ℕ). IsPicked (i ∷ callers) (k ∷ part)) (sym here)
      (picked-with i callers part rest)
  | inr later ↦
      let above = one_of-above (i + 1) callers j rise.1 later in
      let within : RiseFrom j (j ∷ part) = (omega arith, rises.1) in
      picked-without i callers (j ∷ part)
      (picked-each (i + 1) callers j (j ∷ part) rise.1 within
      (without_first i callers j (j ∷ part) (omega (arith, above)) within all))
]

-- what holds of each caller holds of each caller that is picked
pub picked-all : (P : ℕ → Type 0) (number : ℕ) (callers : List ℕ) → AllByRecursion P callers
    → AllByRecursion P (picked number callers)
picked-all P number [] all = tt
picked-all P number (i ∷ callers) all = elim (cases_Bool (number % 2 == 1)) [
  | inl odd ↦ subst (λ (x : List ℕ). AllByRecursion P x) (sym (cond-true (number % 2 == 1) _ _ odd))
      (all.0, picked-all P (number / 2) callers all.1)
  | inr even ↦ subst (λ (x : List ℕ). AllByRecursion P x) (sym (picked-later number i callers even))
      (picked-all P (number / 2) callers all.1)
]

-- no more callers are picked than there are
pub picked-few : (number : ℕ) (callers : List ℕ) → length (picked number callers) ≤ length callers
picked-few number [] = omega arith
picked-few number (i ∷ callers) = elim (cases_Bool (number % 2 == 1)) [
  | inl odd ↦ omega (
    arith,
    ap (λ (x : List ℕ). length x) (picked-first number i callers (eqb-true (number % 2) 1 odd)),
    picked-few (number / 2) callers,
  )
  | inr even ↦ omega (
    arith,
    ap (λ (x : List ℕ). length x) (picked-later number i callers even),
    picked-few (number / 2) callers,
  )
]

-- a number above 0 picks some caller
pub picked-some : (number : ℕ) (callers : List ℕ) → 1 ≤ number → number < 2 ^ length callers
    → 1 ≤ length (picked number callers)
picked-some number [] some below = absurd (omega arith)
picked-some number (i ∷ callers) some below = elim (cases_Bool (number % 2 == 1)) [
  | inl odd ↦ omega (
    arith,
    ap (λ (x : List ℕ). length x) (picked-first number i callers (eqb-true (number % 2) 1 odd)),
  )
  | inr even ↦
      let not_one : number % 2 ≢ 1 = eqb-false (number % 2) 1 even in
      let half : 1 ≤ number / 2 = omega arith in
      let less : number / 2 < 2 ^ length callers = omega (arith, doubled (length callers)) in
      omega (
        arith,
        ap (λ (x : List ℕ). length x) (picked-later number i callers even),
        picked-some (number / 2) callers half less,
      )
]

-- the part of the callers that are looked at, with one more
pub picked-step_in : (part : List ℕ) (digits : ℕ) (callers : List ℕ) (at caller : ℕ)
    → at < length callers → caller ≡ get_or callers at 0 → digits % 2 ≡ 1
    → (part ++ caller ∷ []) ++ picked (digits / 2) (drop (at + 1) callers)
    ≡ part ++ picked digits (drop at callers)
picked-step_in part digits callers at caller inside is odd =
    let there : drop at callers ≡ caller ∷ drop (at + 1) callers =
    drop_more callers at 0 inside ∙ ap (λ (i : ℕ). i ∷ drop (at + 1) callers) (sym is) in
    let step : picked digits (drop at callers)
    ≡ caller ∷ picked (digits / 2) (drop (at + 1) callers) =
    ap (picked digits) there ∙ picked-first digits caller (drop (at + 1) callers) odd in
    append_assoc part (caller ∷ []) (picked (digits / 2) (drop (at + 1) callers))
    ∙ ap (λ (x : List ℕ). part ++ x) (sym step)

pub picked-step_out : (part : List ℕ) (digits : ℕ) (callers : List ℕ) (at : ℕ) → at < length callers
    → (digits % 2 == 1) ≡ false
    → part ++ picked (digits / 2) (drop (at + 1) callers) ≡ part ++ picked digits (drop at callers)
picked-step_out part digits callers at inside even =
    let step : picked digits (drop at callers) ≡ picked (digits / 2) (drop (at + 1) callers) =
    ap (picked digits) (drop_more callers at 0 inside)
    ∙ picked-later digits (get_or callers at 0) (drop (at + 1) callers) even in
    ap (λ (x : List ℕ). part ++ x) (sym step)

rise-from_above : (low high : ℕ) (callers : List ℕ) → low ≤ high → RiseFrom high callers
    → RiseFrom low callers
rise-from_above low high [] above rise = tt
rise-from_above low high (i ∷ callers) above rise = (omega (arith, rise.0), rise.1)

-- the picked ones of rising callers rise
pub picked-rise : (low number : ℕ) (callers : List ℕ) → RiseFrom low callers
    → RiseFrom low (picked number callers)
picked-rise low number [] rise = tt
picked-rise low number (i ∷ callers) rise = elim (cases_Bool (number % 2 == 1)) [
  | inl odd ↦ subst (λ (x : List ℕ). RiseFrom low x) (sym (cond-true (number % 2 == 1) _ _ odd))
      (rise.0, picked-rise (i + 1) (number / 2) callers rise.1)
  | inr even ↦
      subst (λ (x : List ℕ). RiseFrom low x) (sym (picked-later number i callers even))
      (rise-from_above low (i + 1) (picked (number / 2) callers) (omega (arith, rise.0))
      (picked-rise (i + 1) (number / 2) callers rise.1))
]
