-- The cut that holds the calls of a set too, where each is the next one of its caller.
use Rattle.std.proofs.Common.{◌≡◌, ◌≢◌, ℕ, zero, suc, ◌+◌, ◌<◌, ◌≤◌, ◌∙◌, List, [], ◌∷◌, length, get_or, set, sum, Some, refl, sym, ap, subst, inl, inr, slice_get, arith}
use Rattle.std.specs.List.{AllByRecursion}
use Rattle.std.proofs.lemmas.Bool.{cases_eq, cases_lt}
use Rattle.std.proofs.lemmas.List.{get_or-set_same, get_or-set_other, length-set}
use Rattle.std.proofs.lemmas.List.Sums.{sum_by-set}
use Rattle.std.proofs.lemmas.Option.{same_Some, none-some}
use Rattle.book_base.specs.declared.call.Call.{Call}
use Rattle.book_base.specs.declared.call.Place.{Place}
use Rattle.book_base.specs.Cut.{Holds}
use Rattle.book_base.specs.Book.{Page, calls_of, IsCall}
use Rattle.book_base.specs.Order.{call_at, StandsAt}
use Rattle.book_base.proofs.ViewLemmas.{same_call}
use Rattle.set_order.specs.SetOrder.{callers_of, RiseFrom}
use Rattle.set_order.specs.Search.{raised_by}

-- a property of each element of a list is one of the element at a place
pub all_at : {X : Type 0} (P : X → Type 0) (xs : List X) (k : ℕ) (x : X) → AllByRecursion P xs
    → slice_get xs k ≡ Some x → P x
all_at P [] k x all e = absurd (none-some x e)
all_at P (y ∷ xs) zero x all e = subst P (same_Some y x e) all.0
all_at P (y ∷ xs) (suc k) x all e = all_at P xs k x all.1 e

-- a property of each element holds where it follows from another one of each element
pub all_so : {X : Type 0} (P Q : X → Type 0) (xs : List X) → ((x : X) → P x → Q x)
    → AllByRecursion P xs → AllByRecursion Q xs
all_so P Q [] so all = tt
all_so P Q (x ∷ xs) so all = (so x all.0, all_so P Q xs so all.1)

-- the place's call is the next one of its caller
abbrev pub IsNext : List ℕ → Place → Type 0
IsNext cut place = (place.caller < length cut) × (place.number ≡ get_or cut place.caller 0)

-- Each place's call is the next one of its caller, once those before it are in the cut.
abbrev pub AreNext : List ℕ → List Place → Type 0
AreNext cut [] = Unit {0}
AreNext cut (place ∷ places) = (place.caller < length cut)
    × (place.number ≡ get_or cut place.caller 0)
    × AreNext (set cut place.caller (place.number + 1)) places

one_same : (cut : List ℕ) (i n : ℕ) → i < length cut → get_or (set cut i n) i 0 ≡ n
one_same cut i n h = get_or-set_same cut i n 0 h

-- the cut with one more call holds what the cut holds
one_more : (cut : List ℕ) (place : Place) (j : ℕ) → IsNext cut place
    → get_or cut j 0 ≤ get_or (set cut place.caller (place.number + 1)) j 0
one_more cut place j h = elim (cases_eq j place.caller) [
  | inl same ↦
      omega (
        arith,
        one_same cut place.caller (place.number + 1) h.0,
        h.1,
        ap (λ (n : ℕ). get_or (set cut place.caller (place.number + 1)) n 0) same,
        ap (λ (n : ℕ). get_or cut n 0) same,
      )
  | inr other ↦ omega (arith, get_or-set_other cut place.caller j (place.number + 1) 0 other)
]

-- a call outside a cut that the cut with one more call holds is the added call
one_new : (cut : List ℕ) (place : Place) (call : Call) → IsNext cut place
    → get_or cut call.caller 0 ≤ call.number
    → Holds (set cut place.caller (place.number + 1)) call → call_at place ≡ call
one_new cut place call h out held = elim (cases_eq call.caller place.caller) [
  | inl same ↦
      let at : get_or (set cut place.caller (place.number + 1)) call.caller 0 ≡ place.number + 1 =
      ap (λ (n : ℕ). get_or (set cut place.caller (place.number + 1)) n 0) same
      ∙ one_same cut place.caller (place.number + 1) h.0 in
      let low : get_or cut call.caller 0 ≡ place.number =
      ap (λ (n : ℕ). get_or cut n 0) same ∙ sym h.1 in
      same_call (call_at place) call (sym same) (omega arith)
  | inr other ↦ absurd
      (omega (arith, get_or-set_other cut place.caller call.caller (place.number + 1) 0 other))
]

pub raised-more : (cut : List ℕ) (places : List Place) (j : ℕ) → AreNext cut places
    → get_or cut j 0 ≤ get_or (raised_by cut places) j 0
raised-more cut [] j h = omega arith
raised-more cut (place ∷ places) j h =
    omega (
      arith,
      one_more cut place j (h.0, h.1),
      raised-more (set cut place.caller (place.number + 1)) places j h.2,
    )

-- a call outside the cut that the raised cut holds is in the set
pub raised-new : (cut : List ℕ) (places : List Place) (call : Call) → AreNext cut places
    → get_or cut call.caller 0 ≤ call.number
    → Holds (raised_by cut places) call → (p : ℕ) × StandsAt places p call
raised-new cut [] call h out held = absurd (omega arith)
raised-new cut (place ∷ places) call h out held =
    elim (cases_lt call.number (get_or (set cut place.caller (place.number + 1)) call.caller 0)) [
      | inl here ↦ (0, (place, refl, one_new cut place call (h.0, h.1) out here))
      | inr later ↦
          let found =
          raised-new (set cut place.caller (place.number + 1)) places call h.2 later held in
          (suc found.0, found.1)
    ]

-- the raised cut holds each call of the set
pub raised-holds : (cut : List ℕ) (places : List Place) (p : ℕ) (call : Call) → AreNext cut places
    → StandsAt places p call → Holds (raised_by cut places) call
raised-holds cut [] p call h (place, at, is) = absurd (none-some place at)
raised-holds cut (first ∷ places) zero call h (place, at, is) =
    let e : call_at first ≡ call = ap call_at (same_Some first place at) ∙ is in
    let held : first.number
    < get_or (raised_by (set cut first.caller (first.number + 1)) places) first.caller 0 =
    omega (
      arith,
      one_same cut first.caller (first.number + 1) h.0,
      raised-more (set cut first.caller (first.number + 1)) places first.caller h.2,
    ) in
    subst
    (λ (c : Call). Holds (raised_by (set cut first.caller (first.number + 1)) places) c) e held
raised-holds cut (first ∷ places) (suc p) call h s =
    raised-holds (set cut first.caller (first.number + 1)) places p call h.2 s

-- each call of the set is outside the cut
pub stands-outside : (cut : List ℕ) (places : List Place) (p : ℕ) (call : Call) → AreNext cut places
    → StandsAt places p call → get_or cut call.caller 0 ≤ call.number
stands-outside cut [] p call h (place, at, is) = absurd (none-some place at)
stands-outside cut (first ∷ places) zero call h (place, at, is) =
    let e : call_at first ≡ call = ap call_at (same_Some first place at) ∙ is in
    subst (λ (c : Call). get_or cut c.caller 0 ≤ c.number) e (omega (arith, h.1))
stands-outside cut (first ∷ places) (suc p) call h s =
    omega (
      arith,
      one_more cut first call.caller (h.0, h.1),
      stands-outside (set cut first.caller (first.number + 1)) places p call h.2 s,
    )

not_later : (cut : List ℕ) (first : Place) (places : List Place) (p : ℕ) (call : Call)
    → AreNext cut (first ∷ places) → call_at first ≡ call → StandsAt places p call → ⊥
not_later cut first places p call h e s =
    let out : get_or (set cut first.caller (first.number + 1)) first.caller 0 ≤ first.number =
    subst (λ (c : Call). get_or (set cut first.caller (first.number + 1)) c.caller 0 ≤ c.number)
    (sym e)
    (stands-outside (set cut first.caller (first.number + 1)) places p call h.2 s) in
    absurd (omega (arith, one_same cut first.caller (first.number + 1) h.0))

-- no call stands twice in the set
pub stands-once : (cut : List ℕ) (places : List Place) (p q : ℕ) (call : Call) → AreNext cut places
    → StandsAt places p call → StandsAt places q call → p ≡ q
stands-once cut [] p q call h (place, at, is) t = absurd (none-some place at)
stands-once cut (first ∷ places) zero zero call h s t = refl
stands-once cut (first ∷ places) zero (suc q) call h (place, at, is) t =
    absurd (not_later cut first places q call h (ap call_at (same_Some first place at) ∙ is) t)
stands-once cut (first ∷ places) (suc p) zero call h s (place, at, is) =
    absurd (not_later cut first places p call h (ap call_at (same_Some first place at) ∙ is) s)
stands-once cut (first ∷ places) (suc p) (suc q) call h s t =
    ap suc (stands-once (set cut first.caller (first.number + 1)) places p q call h.2 s t)

pub raised-length : (cut : List ℕ) (places : List Place)
    → length (raised_by cut places) ≡ length cut
raised-length cut [] = refl
raised-length cut (place ∷ places) =
    raised-length (set cut place.caller (place.number + 1)) places
    ∙ length-set cut place.caller (place.number + 1)

-- the raised cut holds as many calls more as the set has
pub raised-sum : (cut : List ℕ) (places : List Place) → AreNext cut places
    → sum (raised_by cut places) ≡ sum cut + length places
raised-sum cut [] h = omega arith
raised-sum cut (place ∷ places) h =
    omega (
      arith,
      raised-sum (set cut place.caller (place.number + 1)) places h.2,
      sum_by-set (λ (n : ℕ). n) cut place.caller (place.number + 1) 0 h.0,
      h.1,
    )

-- the raised cut counts no more calls than the book has
pub raised-within : (book : List Page) (cut : List ℕ) (places : List Place) → AreNext cut places
    → AllByRecursion (λ place. IsCall book (call_at place)) places
    → ((i : ℕ) → get_or cut i 0 ≤ calls_of book i) → (i : ℕ)
    → get_or (raised_by cut places) i 0 ≤ calls_of book i
raised-within book cut [] h calls within i = within i
raised-within book cut (place ∷ places) h calls within i =
    raised-within book (set cut place.caller (place.number + 1)) places h.2 calls.1
    (λ (j : ℕ). elim (cases_eq j place.caller) [
      | inl same ↦
          omega (
            arith,
            ap (λ (n : ℕ). get_or (set cut place.caller (place.number + 1)) n 0) same,
            one_same cut place.caller (place.number + 1) h.0,
            calls.0,
            ap (calls_of book) same,
          )
      | inr other ↦
          omega (arith, get_or-set_other cut place.caller j (place.number + 1) 0 other, within j)
    ])
    i

still_next : (cut : List ℕ) (first : Place) (low : ℕ) (places : List Place) → first.caller < low
    → RiseFrom low (callers_of places) → AllByRecursion (IsNext cut) places
    → AllByRecursion (IsNext (set cut first.caller (first.number + 1))) places
still_next cut first low [] above rise all = tt
still_next cut first low (place ∷ places) above rise all =
    let other : place.caller ≢ first.caller =
    λ (e : place.caller ≡ first.caller). absurd (omega (arith, rise.0)) in
    let inside : place.caller < length (set cut first.caller (first.number + 1)) =
    omega (arith, all.0.0, length-set cut first.caller (first.number + 1)) in
    let number : place.number ≡ get_or (set cut first.caller (first.number + 1)) place.caller 0 =
    all.0.1 ∙ sym (get_or-set_other cut first.caller place.caller (first.number + 1) 0 other) in (
      (inside, number),
      still_next cut first (place.caller + 1) places (omega (arith, rise.0)) rise.1 all.1,
    )

-- Where callers rise, each place's call is the next one of its caller once those before it are in
-- the cut.
pub next-from_rise : (cut : List ℕ) (low : ℕ) (places : List Place)
    → RiseFrom low (callers_of places) → AllByRecursion (IsNext cut) places → AreNext cut places
next-from_rise cut low [] rise all = tt
next-from_rise cut low (place ∷ places) rise all = (
  all.0.0,
  all.0.1,
  next-from_rise (set cut place.caller (place.number + 1)) (place.caller + 1) places rise.1
      (still_next cut place (place.caller + 1) places (omega arith) rise.1 all.1),
)
