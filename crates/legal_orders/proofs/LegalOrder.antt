-- Legal orders, one call after another: the places of a legal order after the calls of a cut are
-- those that continue an order from there.
use Rattle.std.proofs.Common.{◌≡◌, ◌≢◌, ℕ, zero, suc, ◌+◌, ◌<◌, ◌≤◌, ◌⊎◌, ◌∙◌, List, [], ◌∷◌, length, map, get_or, set, Some, refl, sym, ap, subst, inl, inr, slice_get, slice_index, arith}
use Rattle.std.proofs.lemmas.Bool.{cases_eq, cases_lt}
use Rattle.std.proofs.lemmas.List.{get_or-set_same, get_or-set_other, length-set, set_comm}
use Rattle.std.proofs.lemmas.Option.{same_Some, none-some, slice_get_within, slice_get_cases}
use Rattle.list_laws.proofs.Options.{some_from_is_some_and}
use Rattle.book_base.specs.declared.call.Call.{Call}
use Rattle.book_base.specs.declared.call.Record.{Record}
use Rattle.book_base.specs.declared.call.Place.{Place}
use Rattle.book_base.specs.SeqSpec.{SeqSpec}
use Rattle.book_base.specs.Cut.{Holds}
use Rattle.book_base.specs.Book.{Page, page_of, IsCall, IsAnswered, record_of, Precedes}
use Rattle.book_base.specs.Sequential.{IsRunFrom}
use Rattle.book_base.specs.Order.{call_at, StandsAt, step_at, IsLegalOrder}
use Rattle.book_base.proofs.PageLemmas.{caller_from_call}
pub use Rattle.book_base.proofs.ViewLemmas.{same_call, answer_stands}
use Rattle.book_base.specs.Next.{raised, MayComeNext, MayStandNext, list_after, Continues}

-- The rest of a legal order after the calls of a cut, from a list of the object on: the fields of a
-- legal order, said of the calls that the cut doesn't hold.
pub record IsLegalRest (book : List Page) (next : List ℕ → ℕ → List ℕ × ℕ) (cut list : List ℕ)
    (rest : List Place) : Type 0 where
  pub calls : (k : ℕ) (call : Call) → StandsAt rest k call → IsCall book call
  pub outside : (k : ℕ) (call : Call) → StandsAt rest k call
      → slice_index cut call.caller ≤ call.number
  pub once : (j k : ℕ) (call : Call) → StandsAt rest j call → StandsAt rest k call → j ≡ k
  pub earlier : (k : ℕ) (call : Call) → StandsAt rest k call → (number : ℕ)
      → slice_index cut call.caller ≤ number → number < call.number
      → (j : ℕ) × (j < k) × StandsAt rest j (record { caller = call.caller; number = number })
  pub answered : (call : Call) (r : Record) → record_of book call ≡ Some r
      → slice_index cut call.caller ≤ call.number
      → (k : ℕ) × (slice_get rest k
      ≡ Some (record { caller = call.caller; number = call.number; reply = r.reply }))
  pub run : IsRunFrom next list (map (step_at book) rest)
  pub precedence : (j k : ℕ) (a b : Call) → StandsAt rest j a → StandsAt rest k b
      → Precedes book a b → j < k

-- a raised cut counts one more for the caller
pub raised_same : (cut : List ℕ) (i : ℕ) → i < length cut
    → get_or (raised cut i) i 0 ≡ get_or cut i 0 + 1
raised_same cut i h = get_or-set_same cut i (get_or cut i 0 + 1) 0 h

-- a raised cut counts as many as before for each other caller
pub raised_other : (cut : List ℕ) (i j : ℕ) → j ≢ i → get_or (raised cut i) j 0 ≡ get_or cut j 0
raised_other cut i j h = get_or-set_other cut i j (get_or cut i 0 + 1) 0 h

-- a raised cut holds all that the cut holds
pub raised_more : (cut : List ℕ) (i j : ℕ) → i < length cut
    → get_or cut j 0 ≤ get_or (raised cut i) j 0
raised_more cut i j h =
    elim (cases_eq j i) [
      | inl same ↦ omega (
        arith,
        raised_same cut i h,
        ap (λ (n : ℕ). get_or (raised cut i) n 0) same,
        ap (λ (n : ℕ). get_or cut n 0) same,
      )
      | inr other ↦ omega (arith, raised_other cut i j other)
    ]

-- a call that a raised cut holds is one that the cut holds, or the new one
pub raised_cases : (cut : List ℕ) (i : ℕ) (call : Call) → i < length cut → Holds (raised cut i) call
    → Holds cut call ⊎ ((call.caller ≡ i) × (call.number ≡ get_or cut i 0))
raised_cases cut i call h held =
    elim (cases_eq call.caller i) [
      | inl same ↦
          let at : call.number < get_or (raised cut i) i 0 =
          subst (λ (n : ℕ). call.number < get_or (raised cut i) n 0) same held in
          elim (cases_lt call.number (get_or cut i 0)) [
            | inl below ↦ inl (subst (λ (n : ℕ). call.number < get_or cut n 0) (sym same) below)
            | inr above ↦ inr (same, omega (arith, raised_same cut i h))
          ]
      | inr other ↦
          inl (subst (λ (n : ℕ). call.number < n) (raised_other cut i call.caller other) held)
    ]

-- raising the counts of two callers in either order makes the same cut
pub raised_twice : (cut : List ℕ) (i j : ℕ) → i ≢ j
    → raised (raised cut i) j ≡ raised (raised cut j) i
raised_twice cut i j apart =
    ap (λ (n : ℕ). set (raised cut i) j (n + 1)) (raised_other cut i j (λ e. apart (sym e)))
    ∙ (set_comm cut i j (get_or cut i 0 + 1) (get_or cut j 0 + 1) apart
    ∙ ap (λ (n : ℕ). set (raised cut j) i (n + 1)) (sym (raised_other cut j i apart)))

-- a call that may come next may still do so when another caller's call has come
pub comes_later : (book : List Page) (cut : List ℕ) (i : ℕ) (call : Call) → i < length cut
    → call.caller ≢ i → MayComeNext book cut call → MayComeNext book (raised cut i) call
comes_later book cut i call inside apart may = record {
  is_call = may.is_call;
  next = may.next ∙ sym (raised_other cut i call.caller apart);
  preceded = λ (a : Call) (p : Precedes book a call).
      let held : a.number < get_or cut a.caller 0 = may.preceded a p in
      omega (arith, held, raised_more cut i a.caller inside);
}

-- a call at the first place of an order is the one of this place
pub stands_first : (place : Place) (rest : List Place) (call : Call)
    → StandsAt (place ∷ rest) 0 call → call_at place ≡ call
stands_first place rest call (found, at, is) = let e : place ≡ found = cc in ap call_at e ∙ is

pub stands_at_first : (place : Place) (rest : List Place)
    → StandsAt (place ∷ rest) 0 (call_at place)
stands_at_first place rest = (place, refl, refl)

-- the call outside the cut that a raised cut holds is the new one
raised_new : (cut : List ℕ) (i : ℕ) (call : Call) → i < length cut
    → get_or cut call.caller 0 ≤ call.number → Holds (raised cut i) call
    → (call.caller ≡ i) × (call.number ≡ get_or cut i 0)
raised_new cut i call h out held =
    elim (raised_cases cut i call h held) [
      | inl old ↦ absurd (omega arith)
      | inr new ↦ new
    ]

-- a cut has a count for a caller that made a call
pub within_cut : (book : List Page) (cut : List ℕ) (call : Call) → length book ≤ length cut
    → IsCall book call → call.caller < length cut
within_cut book cut call wide h = let below : call.caller < length book =
    caller_from_call book call.caller call.number h in omega arith

-- two places with the same call and reply are equal
pub same_place : (a b : Place) → a.caller ≡ b.caller → a.number ≡ b.number
    → a.reply ≡ b.reply → a ≡ b
same_place a b caller number reply =
    let made : ℕ → ℕ → ℕ → Place = λ i n r. record { caller = i; number = n; reply = r } in
    ap (λ (i : ℕ). made i a.number a.reply) caller
    ∙ (ap (λ (n : ℕ). made b.caller n a.reply) number ∙ ap (made b.caller b.number) reply)

-- a call that the cut raised by a place's call doesn't hold isn't the call of this place
not_first : (cut : List ℕ) (place : Place) (call : Call) → place.caller < length cut
    → place.number ≡ get_or cut place.caller 0
    → get_or (raised cut place.caller) call.caller 0 ≤ call.number → call_at place ≡ call → ⊥
not_first cut place call inside at out is =
    let here : get_or (raised cut place.caller) place.caller 0 ≤ place.number =
    subst (λ (c : Call). get_or (raised cut place.caller) c.caller 0 ≤ c.number) (sym is) out in
    absurd (omega (arith, raised_same cut place.caller inside))

-- an order without places has no call
nothing_stands : (k : ℕ) (call : Call) → StandsAt [] k call → ⊥
nothing_stands k call (place, at, is) = none-some place at

-- A place that may come next, and the rest of a legal order after it.
record Parts (book : List Page) (next : List ℕ → ℕ → List ℕ × ℕ) (cut list : List ℕ) (place : Place)
    (rest : List Place) : Type 0 where
  first : MayStandNext book next cut list place
  later : IsLegalRest book next (raised cut place.caller) (list_after book next list place) rest
  inside : place.caller < length cut

cons-calls : (book : List Page) (next : List ℕ → ℕ → List ℕ × ℕ) (cut list : List ℕ) (place : Place)
    (rest : List Place) → Parts book next cut list place rest
    → (k : ℕ) (call : Call) → StandsAt (place ∷ rest) k call → IsCall book call
cons-calls book next cut list place rest h zero call s =
    subst (λ (c : Call). IsCall book c) (stands_first place rest call s) h.first.may_come.is_call
cons-calls book next cut list place rest h (suc k) call s = h.later.calls k call s

cons-outside : (book : List Page) (next : List ℕ → ℕ → List ℕ × ℕ) (cut list : List ℕ)
    (place : Place) (rest : List Place) → Parts book next cut list place rest
    → (k : ℕ) (call : Call) → StandsAt (place ∷ rest) k call
    → get_or cut call.caller 0 ≤ call.number
cons-outside book next cut list place rest h zero call s =
    subst (λ (c : Call). get_or cut c.caller 0 ≤ c.number) (stands_first place rest call s)
    (omega (arith, h.first.may_come.next))
cons-outside book next cut list place rest h (suc k) call s =
    omega (arith, raised_more cut place.caller call.caller h.inside, h.later.outside k call s)

cons-once : (book : List Page) (next : List ℕ → ℕ → List ℕ × ℕ) (cut list : List ℕ) (place : Place)
    (rest : List Place) → Parts book next cut list place rest
    → (j k : ℕ) (call : Call) → StandsAt (place ∷ rest) j call
    → StandsAt (place ∷ rest) k call → j ≡ k
cons-once book next cut list place rest h zero zero call s t = refl
cons-once book next cut list place rest h zero (suc k) call s t =
    absurd (not_first cut place call h.inside h.first.may_come.next (h.later.outside k call t)
    (stands_first place rest call s))
cons-once book next cut list place rest h (suc j) zero call s t =
    absurd (not_first cut place call h.inside h.first.may_come.next (h.later.outside j call s)
    (stands_first place rest call t))
cons-once book next cut list place rest h (suc j) (suc k) call s t =
    ap suc (h.later.once j k call s t)

cons-earlier : (book : List Page) (next : List ℕ → ℕ → List ℕ × ℕ) (cut list : List ℕ)
    (place : Place) (rest : List Place) → Parts book next cut list place rest
    → (k : ℕ) (call : Call) → StandsAt (place ∷ rest) k call → (number : ℕ)
    → get_or cut call.caller 0 ≤ number → number < call.number
    → (j : ℕ) × (j < k)
    × StandsAt (place ∷ rest) j (record { caller = call.caller; number = number })
cons-earlier book next cut list place rest h zero call s number low high =
    let none : get_or cut place.caller 0 < place.number =
    subst (λ (c : Call). get_or cut c.caller 0 < c.number) (sym (stands_first place rest call s))
    (omega arith) in
    absurd (omega (arith, h.first.may_come.next))
cons-earlier book next cut list place rest h (suc k) call s number low high =
    let it : Call = record { caller = call.caller; number = number } in
    elim (cases_lt number (get_or (raised cut place.caller) call.caller 0)) [
      | inl held ↦
          let new = raised_new cut place.caller it h.inside low held in (
            0,
            omega arith,
            (
              place,
              refl,
              same_call (call_at place) it (sym new.0) (h.first.may_come.next ∙ sym new.1),
            ),
          )
      | inr out ↦ let found = h.later.earlier k call s number out high in
          (suc found.0, omega (arith, found.1), found.2)
    ]

cons-answered : (book : List Page) (next : List ℕ → ℕ → List ℕ × ℕ) (cut list : List ℕ)
    (place : Place) (rest : List Place) → Parts book next cut list place rest
    → (call : Call) (r : Record) → record_of book call ≡ Some r
    → get_or cut call.caller 0 ≤ call.number
    → (k : ℕ) × (slice_get (place ∷ rest) k
    ≡ Some (record { caller = call.caller; number = call.number; reply = r.reply }))
cons-answered book next cut list place rest h call r known low =
    let it : Place = record { caller = call.caller; number = call.number; reply = r.reply } in
    elim (cases_lt call.number (get_or (raised cut place.caller) call.caller 0)) [
      | inl held ↦
          let new = raised_new cut place.caller call h.inside low held in
          let number : place.number ≡ call.number = h.first.may_come.next ∙ sym new.1 in
          let same : call_at place ≡ call = same_call (call_at place) call (sym new.0) number in
          let reply : place.reply ≡ r.reply =
          sym (h.first.recorded r (ap (record_of book) same ∙ known)) in
          (0, ap (λ (p : Place). Some p) (same_place place it (sym new.0) number reply))
      | inr out ↦ let found = h.later.answered call r known out in (suc found.0, found.1)
    ]

cons-precedence : (book : List Page) (next : List ℕ → ℕ → List ℕ × ℕ) (cut list : List ℕ)
    (place : Place) (rest : List Place) → Parts book next cut list place rest
    → (j k : ℕ) (a b : Call) → StandsAt (place ∷ rest) j a → StandsAt (place ∷ rest) k b
    → Precedes book a b → j < k
cons-precedence book next cut list place rest h zero zero a b s t p =
    let q : Precedes book a (call_at place) =
    subst (λ (c : Call). Precedes book a c) (sym (stands_first place rest b t)) p in
    let held : Holds cut (call_at place) = subst (λ (c : Call). Holds cut c)
    (sym (stands_first place rest a s)) (h.first.may_come.preceded a q) in
    absurd (omega (arith, h.first.may_come.next))
cons-precedence book next cut list place rest h zero (suc k) a b s t p = omega arith
cons-precedence book next cut list place rest h (suc j) zero a b s t p =
    let q : Precedes book a (call_at place) =
    subst (λ (c : Call). Precedes book a c) (sym (stands_first place rest b t)) p in
    let held : a.number < get_or cut a.caller 0 = h.first.may_come.preceded a q in
    absurd (omega (arith, raised_more cut place.caller a.caller h.inside, h.later.outside j a s))
cons-precedence book next cut list place rest h (suc j) (suc k) a b s t p =
    omega (arith, h.later.precedence j k a b s t p)

pub legal_rest-cons : (book : List Page) (next : List ℕ → ℕ → List ℕ × ℕ) (cut list : List ℕ)
    (place : Place) (rest : List Place) → length book ≤ length cut
    → MayStandNext book next cut list place
    → IsLegalRest book next (raised cut place.caller) (list_after book next list place) rest
    → IsLegalRest book next cut list (place ∷ rest)
legal_rest-cons book next cut list place rest wide first later =
    let h : Parts book next cut list place rest = record {
      first = first;
      later = later;
      inside = within_cut book cut (call_at place) wide first.may_come.is_call;
    } in
    record {
      calls = cons-calls book next cut list place rest h;
      outside = cons-outside book next cut list place rest h;
      once = cons-once book next cut list place rest h;
      earlier = cons-earlier book next cut list place rest h;
      answered = cons-answered book next cut list place rest h;
      run = (first.reply, later.run);
      precedence = cons-precedence book next cut list place rest h;
    }

-- The first call of the rest of a legal order may come next.
pub first_may_come : (book : List Page) (next : List ℕ → ℕ → List ℕ × ℕ) (cut list : List ℕ)
    (place : Place) (rest : List Place) → IsLegalRest book next cut list (place ∷ rest)
    → MayComeNext book cut (call_at place)
first_may_come book next cut list place rest whole =
    let stands : StandsAt (place ∷ rest) 0 (call_at place) = stands_at_first place rest in
    let low : get_or cut place.caller 0 ≤ place.number = whole.outside 0 (call_at place) stands in
    let at : place.number ≡ get_or cut place.caller 0 =
    elim (cases_lt (get_or cut place.caller 0) place.number) [
      | inl lt ↦ let none =
          whole.earlier 0 (call_at place) stands (get_or cut place.caller 0) (omega arith) lt in
          absurd (omega (arith, none.1))
      | inr le ↦ omega arith
    ] in
    record {
      is_call = whole.calls 0 (call_at place) stands;
      next = at;
      preceded = λ (a : Call) (p : Precedes book a (call_at place)).
          elim (cases_lt a.number (get_or cut a.caller 0)) [
            | inl held ↦ held
            | inr out ↦ elim p [
              | inl answered ↦
                  let known = some_from_is_some_and (record_of book a)
                  (λ (r : Record). get_or r.view place.caller 0 ≤ place.number) answered in
                  let found = whole.answered a known.0 known.1 out in
                  let none : found.0 < 0 = whole.precedence found.0 0 a (call_at place) (
                    record { caller = a.caller; number = a.number; reply = known.0.reply },
                    found.1,
                    refl,
                  ) stands (inl answered) in
                  absurd (omega arith)
              | inr own ↦ absurd (omega (arith, own.1, ap (λ (i : ℕ). get_or cut i 0) own.0))
            ]
          ];
    }

uncons-outside : (book : List Page) (next : List ℕ → ℕ → List ℕ × ℕ) (cut list : List ℕ)
    (place : Place) (rest : List Place) → place.caller < length cut
    → IsLegalRest book next cut list (place ∷ rest) → place.number ≡ get_or cut place.caller 0
    → (k : ℕ) (call : Call) → StandsAt rest k call
    → get_or (raised cut place.caller) call.caller 0 ≤ call.number
uncons-outside book next cut list place rest inside whole at k call s =
    elim (cases_lt call.number (get_or (raised cut place.caller) call.caller 0)) [
      | inl held ↦
          let new = raised_new cut place.caller call inside (whole.outside (suc k) call s) held in
          let same : call_at place ≡ call =
          same_call (call_at place) call (sym new.0) (at ∙ sym new.1) in
          let twice : 0 ≡ suc k = whole.once 0 (suc k) call (place, refl, same) s in
          absurd (omega arith)
      | inr out ↦ out
    ]

uncons-earlier : (cut : List ℕ) (place : Place) (rest : List Place) (k : ℕ) (call : Call)
    → place.caller < length cut → place.number ≡ get_or cut place.caller 0
    → get_or (raised cut place.caller) call.caller 0 ≤ call.number
    → (j : ℕ) → j < suc k → StandsAt (place ∷ rest) j call → (j : ℕ) × (j < k)
    × StandsAt rest j call
uncons-earlier cut place rest k call inside at out zero lt s =
    absurd (not_first cut place call inside at out (stands_first place rest call s))
uncons-earlier cut place rest k call inside at out (suc j) lt s = (j, omega arith, s)

uncons-answered : (cut : List ℕ) (place : Place) (rest : List Place) (it : Place)
    → place.caller < length cut → place.number ≡ get_or cut place.caller 0
    → get_or (raised cut place.caller) it.caller 0 ≤ it.number
    → (k : ℕ) → slice_get (place ∷ rest) k ≡ Some it → (k : ℕ) × (slice_get rest k ≡ Some it)
uncons-answered cut place rest it inside at out zero s =
    absurd (not_first cut place (call_at it) inside at out (ap call_at (same_Some place it s)))
uncons-answered cut place rest it inside at out (suc k) s = (k, s)

-- The first reply of the rest of a legal order is the recorded one, where the call is answered.
first_recorded : (book : List Page) (next : List ℕ → ℕ → List ℕ × ℕ) (cut list : List ℕ)
    (place : Place) (rest : List Place) → IsLegalRest book next cut list (place ∷ rest)
    → (r : Record) → record_of book (call_at place) ≡ Some r → r.reply ≡ place.reply
first_recorded book next cut list place rest whole r known =
    let stands : StandsAt (place ∷ rest) 0 (call_at place) = stands_at_first place rest in
    let it : Place = record { caller = place.caller; number = place.number; reply = r.reply } in
    let found = whole.answered (call_at place) r known (whole.outside 0 (call_at place) stands) in
    let zeroth : 0 ≡ found.0 = whole.once 0 found.0 (call_at place) stands (it, found.1, refl) in
    let here : slice_get (place ∷ rest) 0 ≡ Some it =
    subst (λ (k : ℕ). slice_get (place ∷ rest) k ≡ Some it) (sym zeroth) found.1 in
    sym (ap (λ (p : Place). p.reply) (same_Some place it here))

-- The rest of a legal order is a place that may come next, followed by the rest of a legal order
-- after this place.
pub legal_rest-uncons : (book : List Page) (next : List ℕ → ℕ → List ℕ × ℕ) (cut list : List ℕ)
    (place : Place) (rest : List Place) → length book ≤ length cut
    → IsLegalRest book next cut list (place ∷ rest)
    → MayStandNext book next cut list place
    × IsLegalRest book next (raised cut place.caller) (list_after book next list place) rest
legal_rest-uncons book next cut list place rest wide whole =
    let may : MayComeNext book cut (call_at place) =
    first_may_come book next cut list place rest whole in
    let inside : place.caller < length cut = within_cut book cut (call_at place) wide may.is_call in
    let low = λ (call : Call) (out : get_or (raised cut place.caller) call.caller 0 ≤ call.number).
    let more : get_or cut call.caller 0 ≤ call.number =
    omega (arith, raised_more cut place.caller call.caller inside) in more in (
      record {
        may_come = may;
        recorded = first_recorded book next cut list place rest whole;
        reply = whole.run.0;
      },
      record {
        calls = λ k call s. whole.calls (suc k) call s;
        outside = uncons-outside book next cut list place rest inside whole may.next;
        once = λ j k call s t. let e : suc j ≡ suc k = whole.once (suc j) (suc k) call s t in
            omega arith;
        earlier = λ k call s number out high.
            let it : Call = record { caller = call.caller; number = number } in
            let found = whole.earlier (suc k) call s number (low it out) high in
            uncons-earlier cut place rest k it inside may.next out found.0 found.1 found.2;
        answered = λ call r known out.
            let it : Place =
            record { caller = call.caller; number = call.number; reply = r.reply } in
            let found = whole.answered call r known (low call out) in
            uncons-answered cut place rest it inside may.next out found.0 found.1;
        run = whole.run.1;
        precedence = λ j k a b s t p. let lt : suc j < suc k =
            whole.precedence (suc j) (suc k) a b s t p in omega arith;
      },
    )

-- Places continue an order exactly where they are the rest of a legal order after the calls of a
-- cut.
pub legal_rest_from_continues : (book : List Page) (next : List ℕ → ℕ → List ℕ × ℕ)
    (cut list : List ℕ) (rest : List Place) → length book ≤ length cut
    → Continues book next cut list rest → IsLegalRest book next cut list rest
legal_rest_from_continues book next cut list [] wide h = record {
  calls = λ k call s. absurd (nothing_stands k call s);
  outside = λ k call s. absurd (nothing_stands k call s);
  once = λ j k call s t. absurd (nothing_stands j call s);
  earlier = λ k call s number low high. absurd (nothing_stands k call s);
  answered = λ call r known out. let held : call.number < get_or cut call.caller 0 =
      h call (slice_get_within _ call.number r known) in absurd (omega arith);
  run = tt;
  precedence = λ j k a b s t p. absurd (nothing_stands j a s);
}
legal_rest_from_continues book next cut list (place ∷ rest) wide h =
    let wider : length book ≤ length (raised cut place.caller) =
    omega (arith, length-set cut place.caller (get_or cut place.caller 0 + 1)) in
    legal_rest-cons book next cut list place rest wide h.0 (legal_rest_from_continues book next
    (raised cut place.caller) (list_after book next list place) rest wider h.1)

pub continues_from_legal_rest : (book : List Page) (next : List ℕ → ℕ → List ℕ × ℕ)
    (cut list : List ℕ) (rest : List Place) → length book ≤ length cut
    → IsLegalRest book next cut list rest → Continues book next cut list rest
continues_from_legal_rest book next cut list [] wide h =
    λ (call : Call) (answered : IsAnswered book call).
    elim (cases_lt call.number (get_or cut call.caller 0)) [
      | inl held ↦ held
      | inr out ↦
          let known = answer_stands book call answered in
          let found = h.answered call known.0 known.1 out in
          absurd (none-some _ found.1)
    ]
continues_from_legal_rest book next cut list (place ∷ rest) wide h =
    let parts = legal_rest-uncons book next cut list place rest wide h in
    let wider : length book ≤ length (raised cut place.caller) =
    omega (arith, length-set cut place.caller (get_or cut place.caller 0 + 1)) in (
      parts.0,
      continues_from_legal_rest book next (raised cut place.caller)
          (list_after book next list place) rest wider parts.1,
    )

-- A legal order is a list of places that continue an order from the start: after the cut that holds
-- no call, from the object's first list on.
pub legal_order_from_continues : (book : List Page) (spec : SeqSpec) (cut : List ℕ)
    (order : List Place) → length book ≤ length cut → ((i : ℕ) → get_or cut i 0 ≡ 0)
    → Continues book spec.next cut spec.init order → IsLegalOrder spec book order
legal_order_from_continues book spec cut order wide zeros h =
    let whole = legal_rest_from_continues book spec.next cut spec.init order wide h in
    record {
      calls = whole.calls;
      once = whole.once;
      earlier = λ k call s number high.
          whole.earlier k call s number (omega (arith, zeros call.caller)) high;
      answered = λ call r known. whole.answered call r known (omega (arith, zeros call.caller));
      run = whole.run;
      precedence = whole.precedence;
    }

pub continues_from_legal_order : (book : List Page) (spec : SeqSpec) (cut : List ℕ)
    (order : List Place) → length book ≤ length cut → ((i : ℕ) → get_or cut i 0 ≡ 0)
    → IsLegalOrder spec book order → Continues book spec.next cut spec.init order
continues_from_legal_order book spec cut order wide zeros h =
    continues_from_legal_rest book spec.next cut spec.init order wide (record {
      calls = h.calls;
      outside = λ k call s. omega (arith, zeros call.caller);
      once = h.once;
      earlier = λ k call s number low high. h.earlier k call s number high;
      answered = λ call r known low. h.answered call r known;
      run = h.run;
      precedence = h.precedence;
    })
