-- Legal set orders, one set after another: the sets of a legal set order after the calls of a cut
-- are those that continue an order from there.
use Rattle.std.proofs.Common.{◌≡◌, ℕ, zero, suc, ◌<◌, ◌≤◌, ◌∙◌, List, [], ◌∷◌, length, get_or, Option, Some, refl, sym, ap, subst, inl, inr, slice_get, arith}
use Rattle.std.specs.List.{AllByRecursion}
use Rattle.std.proofs.lemmas.Bool.{cases_lt}
use Rattle.std.proofs.lemmas.Option.{same_Some, none-some, slice_get_within}
use Rattle.list_laws.proofs.Options.{some_from_is_some_and}
use Rattle.book_base.specs.declared.call.Call.{Call}
use Rattle.book_base.specs.declared.call.Record.{Record}
use Rattle.book_base.specs.declared.call.Place.{Place}
use Rattle.book_base.specs.Book.{Page, IsCall, IsAnswered, record_of, Precedes}
use Rattle.book_base.specs.Order.{call_at, StandsAt}
use Rattle.book_base.proofs.ViewLemmas.{answer_stands}
use Rattle.book_base.proofs.PageLemmas.{caller_from_call}
use Rattle.book_base.specs.Next.{MayComeNext}
use Rattle.legal_orders.proofs.LegalOrder.{same_place}
use Rattle.set_order.specs.SetOrder.{callers_of, RiseFrom, StandsIn, IsServedFrom, IsLegalSetOrder}
use Rattle.set_order.specs.Search.{raised_by, MayStandIn, MayStandTogether, SetsContinue}
use Rattle.set_order.proofs.Raising.{all_at, all_so, IsNext, AreNext, next-from_rise, raised-more, raised-new, raised-holds, raised-length, stands-outside, stands-once}

-- The rest of a legal set order after the calls of a cut, from a list of the object on: the fields
-- of a legal set order, said of the calls that the cut doesn't hold.
pub record IsLegalSetRest (served : List ℕ → List ℕ → Option (List ℕ × List ℕ)) (book : List Page)
    (cut list : List ℕ) (sets : List (List Place)) : Type 0 where
  pub some : (k : ℕ) (places : List Place) → slice_get sets k ≡ Some places → 1 ≤ length places
  pub by_caller : (k : ℕ) (places : List Place) → slice_get sets k ≡ Some places
      → RiseFrom 0 (callers_of places)
  pub calls : (k p : ℕ) (call : Call) → StandsIn sets k p call → IsCall book call
  pub outside : (k p : ℕ) (call : Call) → StandsIn sets k p call
      → get_or cut call.caller 0 ≤ call.number
  pub once : (j p k q : ℕ) (call : Call) → StandsIn sets j p call → StandsIn sets k q call
      → (j ≡ k) × (p ≡ q)
  pub earlier : (k p : ℕ) (call : Call) → StandsIn sets k p call → (number : ℕ)
      → get_or cut call.caller 0 ≤ number → number < call.number
      → (j : ℕ) × (j < k) × (q : ℕ)
      × StandsIn sets j q (record { caller = call.caller; number = number })
  pub answered : (call : Call) (r : Record) → record_of book call ≡ Some r
      → get_or cut call.caller 0 ≤ call.number
      → (k : ℕ) × (places : List Place) × (slice_get sets k ≡ Some places) × (p : ℕ)
      × (slice_get places p
      ≡ Some (record { caller = call.caller; number = call.number; reply = r.reply }))
  pub served_so : IsServedFrom served book list sets
  pub precedence : (j p k q : ℕ) (a b : Call) → StandsIn sets j p a → StandsIn sets k q b
      → Precedes book a b → j < k

-- a call of the order's set with index 0 is one of the first set
in_first : (places : List Place) (sets : List (List Place)) (p : ℕ) (call : Call)
    → StandsIn (places ∷ sets) 0 p call → StandsAt places p call
in_first places sets p call (found, at, s) =
    subst (λ (x : List Place). StandsAt x p call) (sym (same_Some places found at)) s

nothing_stands : (k p : ℕ) (call : Call) → StandsIn [] k p call → ⊥
nothing_stands k p call (places, at, s) = none-some places at

-- the calls of a set that may stand next are the next ones of their callers
pub next-from_each : (book : List Page) (cut : List ℕ) (places : List Place)
    → length book ≤ length cut → RiseFrom 0 (callers_of places)
    → AllByRecursion (MayStandIn book cut) places → AreNext cut places
next-from_each book cut places wide rise each =
    next-from_rise cut 0 places rise
    (all_so (MayStandIn book cut) (IsNext cut) places
    (λ (place : Place) (may : MayStandIn book cut place).
    let there : place.caller < length book =
    caller_from_call book place.caller place.number may.may_come.is_call in
    let inside : place.caller < length cut = omega arith in
    (inside, may.may_come.next))
    each)

may_stand : (book : List Page) (cut : List ℕ) (places : List Place) (p : ℕ) (call : Call)
    → AllByRecursion (MayStandIn book cut) places → StandsAt places p call
    → MayComeNext book cut call
may_stand book cut places p call each (place, at, is) =
    subst (λ (c : Call). MayComeNext book cut c) is
    (all_at (MayStandIn book cut) places p place each at).may_come

-- The first set and the rest after it, each with the properties that a legal rest needs of it.
record Parts (served : List ℕ → List ℕ → Option (List ℕ × List ℕ)) (book : List Page)
    (cut list : List ℕ) (places : List Place) (after : List ℕ)
    (sets : List (List Place)) : Type 0 where
  first : MayStandTogether served book cut list places after
  later : IsLegalSetRest served book (raised_by cut places) after sets
  next : AreNext cut places

cons-some : (served : List ℕ → List ℕ → Option (List ℕ × List ℕ)) (book : List Page)
    (cut list : List ℕ) (places : List Place) (after : List ℕ) (sets : List (List Place))
    → Parts served book cut list places after sets → (k : ℕ) (found : List Place)
    → slice_get (places ∷ sets) k ≡ Some found → 1 ≤ length found
cons-some served book cut list places after sets h zero found at =
    subst (λ (x : List Place). 1 ≤ length x) (same_Some places found at) h.first.some
cons-some served book cut list places after sets h (suc k) found at = h.later.some k found at

cons-by_caller : (served : List ℕ → List ℕ → Option (List ℕ × List ℕ)) (book : List Page)
    (cut list : List ℕ) (places : List Place) (after : List ℕ) (sets : List (List Place))
    → Parts served book cut list places after sets → (k : ℕ) (found : List Place)
    → slice_get (places ∷ sets) k ≡ Some found → RiseFrom 0 (callers_of found)
cons-by_caller served book cut list places after sets h zero found at = subst
    (λ (x : List Place). RiseFrom 0 (callers_of x)) (same_Some places found at) h.first.by_caller
cons-by_caller served book cut list places after sets h (suc k) found at =
    h.later.by_caller k found at

cons-calls : (served : List ℕ → List ℕ → Option (List ℕ × List ℕ)) (book : List Page)
    (cut list : List ℕ) (places : List Place) (after : List ℕ) (sets : List (List Place))
    → Parts served book cut list places after sets → (k p : ℕ) (call : Call)
    → StandsIn (places ∷ sets) k p call → IsCall book call
cons-calls served book cut list places after sets h zero p call s =
    (may_stand book cut places p call h.first.each (in_first places sets p call s)).is_call
cons-calls served book cut list places after sets h (suc k) p call s = h.later.calls k p call s

cons-outside : (served : List ℕ → List ℕ → Option (List ℕ × List ℕ)) (book : List Page)
    (cut list : List ℕ) (places : List Place) (after : List ℕ) (sets : List (List Place))
    → Parts served book cut list places after sets → (k p : ℕ) (call : Call)
    → StandsIn (places ∷ sets) k p call → get_or cut call.caller 0 ≤ call.number
cons-outside served book cut list places after sets h zero p call s =
    stands-outside cut places p call h.next (in_first places sets p call s)
cons-outside served book cut list places after sets h (suc k) p call s =
    omega (arith, raised-more cut places call.caller h.next, h.later.outside k p call s)

-- a call of the first set is in no later one
not_both : (served : List ℕ → List ℕ → Option (List ℕ × List ℕ)) (book : List Page)
    (cut list : List ℕ) (places : List Place) (after : List ℕ) (sets : List (List Place))
    → Parts served book cut list places after sets → (p k q : ℕ) (call : Call)
    → StandsIn (places ∷ sets) 0 p call → StandsIn sets k q call → ⊥
not_both served book cut list places after sets h p k q call s t =
    let held : call.number < get_or (raised_by cut places) call.caller 0 =
    raised-holds cut places p call h.next (in_first places sets p call s) in
    absurd (omega (arith, h.later.outside k q call t))

cons-once : (served : List ℕ → List ℕ → Option (List ℕ × List ℕ)) (book : List Page)
    (cut list : List ℕ) (places : List Place) (after : List ℕ) (sets : List (List Place))
    → Parts served book cut list places after sets → (j p k q : ℕ) (call : Call)
    → StandsIn (places ∷ sets) j p call → StandsIn (places ∷ sets) k q call → (j ≡ k) × (p ≡ q)
cons-once served book cut list places after sets h zero p zero q call s t = (
  refl,
  stands-once cut places p q call h.next (in_first places sets p call s)
      (in_first places sets q call t),
)
cons-once served book cut list places after sets h zero p (suc k) q call s t =
    absurd (not_both served book cut list places after sets h p k q call s t)
cons-once served book cut list places after sets h (suc j) p zero q call s t =
    absurd (not_both served book cut list places after sets h q j p call t s)
cons-once served book cut list places after sets h (suc j) p (suc k) q call s t = let same =
    h.later.once j p k q call s t in (ap suc same.0, same.1)

cons-earlier : (served : List ℕ → List ℕ → Option (List ℕ × List ℕ)) (book : List Page)
    (cut list : List ℕ) (places : List Place) (after : List ℕ) (sets : List (List Place))
    → Parts served book cut list places after sets → (k p : ℕ) (call : Call)
    → StandsIn (places ∷ sets) k p call → (number : ℕ) → get_or cut call.caller 0 ≤ number
    → number < call.number
    → (j : ℕ) × (j < k) × (q : ℕ)
    × StandsIn (places ∷ sets) j q (record { caller = call.caller; number = number })
cons-earlier served book cut list places after sets h zero p call s number low high =
    absurd (omega
    (arith, (may_stand book cut places p call h.first.each (in_first places sets p call s)).next))
cons-earlier served book cut list places after sets h (suc k) p call s number low high =
    let it : Call = record { caller = call.caller; number = number } in
    elim (cases_lt number (get_or (raised_by cut places) call.caller 0)) [
      | inl held ↦ let found = raised-new cut places it h.next low held in
          (0, omega arith, found.0, (places, refl, found.1))
      | inr out ↦ let found = h.later.earlier k p call s number out high in
          (suc found.0, omega (arith, found.1), found.2, found.3)
    ]

cons-answered : (served : List ℕ → List ℕ → Option (List ℕ × List ℕ)) (book : List Page)
    (cut list : List ℕ) (places : List Place) (after : List ℕ) (sets : List (List Place))
    → Parts served book cut list places after sets → (call : Call) (r : Record)
    → record_of book call ≡ Some r → get_or cut call.caller 0 ≤ call.number
    → (k : ℕ) × (found : List Place) × (slice_get (places ∷ sets) k ≡ Some found) × (p : ℕ)
    × (slice_get found p
    ≡ Some (record { caller = call.caller; number = call.number; reply = r.reply }))
cons-answered served book cut list places after sets h call r known low =
    let it : Place = record { caller = call.caller; number = call.number; reply = r.reply } in
    elim (cases_lt call.number (get_or (raised_by cut places) call.caller 0)) [
      | inl held ↦
          let found = raised-new cut places call h.next low held in
          let place : Place = found.1.0 in
          let is : call_at place ≡ call = found.1.2 in
          let may = all_at (MayStandIn book cut) places found.0 place h.first.each found.1.1 in
          let reply : place.reply ≡ r.reply =
          sym (may.recorded r (ap (record_of book) is ∙ known)) in
          let same : place ≡ it = same_place place it (ap (λ (c : Call). c.caller) is)
          (ap (λ (c : Call). c.number) is) reply in
          (0, places, refl, found.0, found.1.1 ∙ ap (λ (x : Place). Some x) same)
      | inr out ↦ let found = h.later.answered call r known out in
          (suc found.0, found.1, found.2, found.3, found.4)
    ]

cons-precedence : (served : List ℕ → List ℕ → Option (List ℕ × List ℕ)) (book : List Page)
    (cut list : List ℕ) (places : List Place) (after : List ℕ) (sets : List (List Place))
    → Parts served book cut list places after sets → (j p k q : ℕ) (a b : Call)
    → StandsIn (places ∷ sets) j p a → StandsIn (places ∷ sets) k q b → Precedes book a b → j < k
cons-precedence served book cut list places after sets h zero p zero q a b s t before =
    let held : a.number < get_or cut a.caller 0 =
    (may_stand book cut places q b h.first.each (in_first places sets q b t)).preceded a before in
    absurd (omega (arith, stands-outside cut places p a h.next (in_first places sets p a s)))
cons-precedence served book cut list places after sets h zero p (suc k) q a b s t before =
    omega arith
cons-precedence served book cut list places after sets h (suc j) p zero q a b s t before =
    let held : a.number < get_or cut a.caller 0 =
    (may_stand book cut places q b h.first.each (in_first places sets q b t)).preceded a before in
    absurd (omega (arith, raised-more cut places a.caller h.next, h.later.outside j p a s))
cons-precedence served book cut list places after sets h (suc j) p (suc k) q a b s t before =
    omega (arith, h.later.precedence j p k q a b s t before)

pub legal_rest-cons : (served : List ℕ → List ℕ → Option (List ℕ × List ℕ)) (book : List Page)
    (cut list : List ℕ) (places : List Place) (after : List ℕ) (sets : List (List Place))
    → length book ≤ length cut → MayStandTogether served book cut list places after
    → IsLegalSetRest served book (raised_by cut places) after sets
    → IsLegalSetRest served book cut list (places ∷ sets)
legal_rest-cons served book cut list places after sets wide first later =
    let h : Parts served book cut list places after sets = record {
      first = first;
      later = later;
      next = next-from_each book cut places wide first.by_caller first.each;
    } in
    record {
      some = cons-some served book cut list places after sets h;
      by_caller = cons-by_caller served book cut list places after sets h;
      calls = cons-calls served book cut list places after sets h;
      outside = cons-outside served book cut list places after sets h;
      once = cons-once served book cut list places after sets h;
      earlier = cons-earlier served book cut list places after sets h;
      answered = cons-answered served book cut list places after sets h;
      served_so = (after, first.served_so, later.served_so);
      precedence = cons-precedence served book cut list places after sets h;
    }

-- A call of the first set of the rest of a legal set order may come next.
first_may_come : (served : List ℕ → List ℕ → Option (List ℕ × List ℕ)) (book : List Page)
    (cut list : List ℕ) (places : List Place) (sets : List (List Place))
    → IsLegalSetRest served book cut list (places ∷ sets) → (p : ℕ) (call : Call)
    → StandsAt places p call → MayComeNext book cut call
first_may_come served book cut list places sets whole p call s =
    let stands : StandsIn (places ∷ sets) 0 p call = (places, refl, s) in
    let low : get_or cut call.caller 0 ≤ call.number = whole.outside 0 p call stands in
    let at : call.number ≡ get_or cut call.caller 0 =
    elim (cases_lt (get_or cut call.caller 0) call.number) [
      | inl lt ↦ let none =
          whole.earlier 0 p call stands (get_or cut call.caller 0) (omega arith) lt in
          absurd (omega (arith, none.1))
      | inr le ↦ omega arith
    ] in
    record {
      is_call = whole.calls 0 p call stands;
      next = at;
      preceded = λ (a : Call) (before : Precedes book a call).
          elim (cases_lt a.number (get_or cut a.caller 0)) [
            | inl held ↦ held
            | inr out ↦ elim before [
              | inl answered ↦
                  let known = some_from_is_some_and (record_of book a)
                  (λ (r : Record). get_or r.view call.caller 0 ≤ call.number) answered in
                  let found = whole.answered a known.0 known.1 out in
                  let it : Place =
                  record { caller = a.caller; number = a.number; reply = known.0.reply } in
                  let none : found.0 < 0 = whole.precedence found.0 found.3 0 p a call
                  (found.1, found.2, (it, found.4, refl)) stands (inl answered) in
                  absurd (omega arith)
              | inr own ↦ absurd (omega (arith, own.1, ap (λ (i : ℕ). get_or cut i 0) own.0))
            ]
          ];
    }

-- A reply of the first set of the rest of a legal set order is the recorded one, where the call is
-- answered.
first_recorded : (served : List ℕ → List ℕ → Option (List ℕ × List ℕ)) (book : List Page)
    (cut list : List ℕ) (places : List Place) (sets : List (List Place))
    → IsLegalSetRest served book cut list (places ∷ sets) → (p : ℕ) (place : Place)
    → slice_get places p ≡ Some place
    → (r : Record) → record_of book (call_at place) ≡ Some r → r.reply ≡ place.reply
first_recorded served book cut list places sets whole p place at r known =
    let s : StandsIn (places ∷ sets) 0 p (call_at place) = (places, refl, (place, at, refl)) in
    let found = whole.answered (call_at place) r known (whole.outside 0 p (call_at place) s) in
    let it : Place = record { caller = place.caller; number = place.number; reply = r.reply } in
    let t : StandsIn (places ∷ sets) found.0 found.3 (call_at place) =
    (found.1, found.2, (it, found.4, refl)) in
    let same = whole.once found.0 found.3 0 p (call_at place) t s in
    let first : slice_get (places ∷ sets) 0 ≡ Some found.1 =
    subst (λ (k : ℕ). slice_get (places ∷ sets) k ≡ Some found.1) same.0 found.2 in
    let here : slice_get found.1 p ≡ Some it =
    subst (λ (q : ℕ). slice_get found.1 q ≡ Some it) same.1 found.4 in
    let there : slice_get places p ≡ Some it = subst (λ (x : List Place). slice_get x p ≡ Some it)
    (sym (same_Some places found.1 first)) here in
    ap (λ (x : Place). x.reply) (same_Some it place (sym there ∙ at))

-- what holds of the element at each place of a list holds of each element
all_from : {X : Type 0} (P : X → Type 0) (xs : List X)
    → ((k : ℕ) (x : X) → slice_get xs k ≡ Some x → P x) → AllByRecursion P xs
all_from P [] h = tt
all_from P (x ∷ xs) h = (h 0 x refl, all_from P xs (λ k y e. h (suc k) y e))

uncons-outside : (served : List ℕ → List ℕ → Option (List ℕ × List ℕ)) (book : List Page)
    (cut list : List ℕ) (places : List Place) (sets : List (List Place))
    → AreNext cut places → IsLegalSetRest served book cut list (places ∷ sets)
    → (k p : ℕ) (call : Call) → StandsIn sets k p call
    → get_or (raised_by cut places) call.caller 0 ≤ call.number
uncons-outside served book cut list places sets next whole k p call s =
    elim (cases_lt call.number (get_or (raised_by cut places) call.caller 0)) [
      | inl held ↦
          let found = raised-new cut places call next (whole.outside (suc k) p call s) held in
          let twice = whole.once 0 found.0 (suc k) p call (places, refl, found.1) s in
          absurd (omega (arith, twice.0))
      | inr out ↦ out
    ]

not_in_first : (cut : List ℕ) (places : List Place) (sets : List (List Place)) (p : ℕ) (call : Call)
    → AreNext cut places
    → get_or (raised_by cut places) call.caller 0 ≤ call.number
    → StandsIn (places ∷ sets) 0 p call → ⊥
not_in_first cut places sets p call next out s =
    let held : call.number < get_or (raised_by cut places) call.caller 0 =
    raised-holds cut places p call next (in_first places sets p call s) in
    absurd (omega arith)

uncons-earlier : (cut : List ℕ) (places : List Place) (sets : List (List Place)) (k : ℕ)
    (call : Call) → AreNext cut places → get_or (raised_by cut places) call.caller 0 ≤ call.number
    → (j : ℕ) → j < suc k → (q : ℕ) → StandsIn (places ∷ sets) j q call → (j : ℕ) × (j < k)
    × (q : ℕ) × StandsIn sets j q call
uncons-earlier cut places sets k call next out zero lt q s =
    absurd (not_in_first cut places sets q call next out s)
uncons-earlier cut places sets k call next out (suc j) lt q s = (j, omega arith, q, s)

uncons-answered : (cut : List ℕ) (places : List Place) (sets : List (List Place)) (it : Place)
    → AreNext cut places → get_or (raised_by cut places) it.caller 0 ≤ it.number
    → (k : ℕ) (found : List Place) → slice_get (places ∷ sets) k ≡ Some found → (p : ℕ)
    → slice_get found p ≡ Some it
    → (k : ℕ) × (found : List Place) × (slice_get sets k ≡ Some found) × (p : ℕ)
    × (slice_get found p ≡ Some it)
uncons-answered cut places sets it next out zero found at p s =
    absurd (not_in_first cut places sets p (call_at it) next out (found, at, (it, s, refl)))
uncons-answered cut places sets it next out (suc k) found at p s = (k, found, at, p, s)

-- The rest of a legal set order is a set that may come next, followed by the rest of a legal set
-- order after this set.
pub legal_rest-uncons : (served : List ℕ → List ℕ → Option (List ℕ × List ℕ)) (book : List Page)
    (cut list : List ℕ) (places : List Place) (sets : List (List Place))
    → length book ≤ length cut → IsLegalSetRest served book cut list (places ∷ sets)
    → (after : List ℕ) × MayStandTogether served book cut list places after
    × IsLegalSetRest served book (raised_by cut places) after sets
legal_rest-uncons served book cut list places sets wide whole =
    let after : List ℕ = whole.served_so.0 in
    let each : AllByRecursion (MayStandIn book cut) places = all_from (MayStandIn book cut) places
    (λ (p : ℕ) (place : Place) (at : slice_get places p ≡ Some place). record {
      may_come =
          first_may_come served book cut list places sets whole p (call_at place) (place, at, refl);
      recorded = first_recorded served book cut list places sets whole p place at;
    }) in
    let rise : RiseFrom 0 (callers_of places) = whole.by_caller 0 places refl in
    let next : AreNext cut places = next-from_each book cut places wide rise each in
    let low = λ (call : Call) (out : get_or (raised_by cut places) call.caller 0 ≤ call.number).
    let more : get_or cut call.caller 0 ≤ call.number =
    omega (arith, raised-more cut places call.caller next) in more in (
      after,
      record {
        some = whole.some 0 places refl;
        by_caller = rise;
        each = each;
        served_so = whole.served_so.1;
      },
      record {
        some = λ k found at. whole.some (suc k) found at;
        by_caller = λ k found at. whole.by_caller (suc k) found at;
        calls = λ k p call s. whole.calls (suc k) p call s;
        outside = uncons-outside served book cut list places sets next whole;
        once = λ j p k q call s t. let same = whole.once (suc j) p (suc k) q call s t in
            (omega (arith, same.0), same.1);
        earlier = λ k p call s number out high.
            let it : Call = record { caller = call.caller; number = number } in
            let found = whole.earlier (suc k) p call s number (low it out) high in
            uncons-earlier cut places sets k it next out found.0 found.1 found.2 found.3;
        answered = λ call r known out.
            let it : Place =
            record { caller = call.caller; number = call.number; reply = r.reply } in
            let found = whole.answered call r known (low call out) in
            uncons-answered cut places sets it next out found.0 found.1 found.2 found.3 found.4;
        served_so = whole.served_so.2;
        precedence = λ j p k q a b s t before. let lt : suc j < suc k =
            whole.precedence (suc j) p (suc k) q a b s t before in omega arith;
      },
    )

pub legal_rest_from_continue : (served : List ℕ → List ℕ → Option (List ℕ × List ℕ))
    (book : List Page) (cut list : List ℕ) (sets : List (List Place)) → length book ≤ length cut
    → SetsContinue served book cut list sets → IsLegalSetRest served book cut list sets
legal_rest_from_continue served book cut list [] wide h = record {
  some = λ k places at. absurd (none-some places at);
  by_caller = λ k places at. absurd (none-some places at);
  calls = λ k p call s. absurd (nothing_stands k p call s);
  outside = λ k p call s. absurd (nothing_stands k p call s);
  once = λ j p k q call s t. absurd (nothing_stands j p call s);
  earlier = λ k p call s number low high. absurd (nothing_stands k p call s);
  answered = λ call r known out. let held : call.number < get_or cut call.caller 0 =
      h call (slice_get_within _ call.number r known) in absurd (omega arith);
  served_so = tt;
  precedence = λ j p k q a b s t before. absurd (nothing_stands j p a s);
}
legal_rest_from_continue served book cut list (places ∷ sets) wide h =
    let wider : length book ≤ length (raised_by cut places) =
    omega (arith, raised-length cut places) in
    legal_rest-cons served book cut list places h.0 sets wide h.1
    (legal_rest_from_continue served book (raised_by cut places) h.0 sets wider h.2)

pub continue_from_legal_rest : (served : List ℕ → List ℕ → Option (List ℕ × List ℕ))
    (book : List Page) (cut list : List ℕ) (sets : List (List Place)) → length book ≤ length cut
    → IsLegalSetRest served book cut list sets → SetsContinue served book cut list sets
continue_from_legal_rest served book cut list [] wide h =
    λ (call : Call) (answered : IsAnswered book call).
    elim (cases_lt call.number (get_or cut call.caller 0)) [
      | inl held ↦ held
      | inr out ↦
          let known = answer_stands book call answered in
          let found = h.answered call known.0 known.1 out in
          absurd (none-some found.1 found.2)
    ]
continue_from_legal_rest served book cut list (places ∷ sets) wide h =
    let parts = legal_rest-uncons served book cut list places sets wide h in
    let wider : length book ≤ length (raised_by cut places) =
    omega (arith, raised-length cut places) in (
      parts.0,
      parts.1,
      continue_from_legal_rest served book (raised_by cut places) parts.0 sets wider parts.2,
    )

-- A legal set order is a list of sets that continue an order from the start: after the cut that
-- holds no call, from the object's first list on.
pub legal_order_from_continue : (init : List ℕ)
    (served : List ℕ → List ℕ → Option (List ℕ × List ℕ)) (book : List Page) (cut : List ℕ)
    (order : List (List Place))
    → length book ≤ length cut → ((i : ℕ) → get_or cut i 0 ≡ 0)
    → SetsContinue served book cut init order → IsLegalSetOrder init served book order
legal_order_from_continue init served book cut order wide zeros h =
    let whole = legal_rest_from_continue served book cut init order wide h in
    record {
      some = whole.some;
      by_caller = whole.by_caller;
      calls = whole.calls;
      once = whole.once;
      earlier = λ k p call s number high.
          whole.earlier k p call s number (omega (arith, zeros call.caller)) high;
      answered = λ call r known. whole.answered call r known (omega (arith, zeros call.caller));
      served_so = whole.served_so;
      precedence = whole.precedence;
    }

pub continue_from_legal_order : (init : List ℕ)
    (served : List ℕ → List ℕ → Option (List ℕ × List ℕ)) (book : List Page) (cut : List ℕ)
    (order : List (List Place))
    → length book ≤ length cut → ((i : ℕ) → get_or cut i 0 ≡ 0)
    → IsLegalSetOrder init served book order → SetsContinue served book cut init order
continue_from_legal_order init served book cut order wide zeros h =
    continue_from_legal_rest served book cut init order wide (record {
      some = h.some;
      by_caller = h.by_caller;
      calls = h.calls;
      outside = λ k p call s. omega (arith, zeros call.caller);
      once = h.once;
      earlier = λ k p call s number low high. h.earlier k p call s number high;
      answered = λ call r known low. h.answered call r known;
      served_so = h.served_so;
      precedence = h.precedence;
    })
