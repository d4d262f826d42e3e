-- Places, tried one after another: how a place passes its tests, and what follows from that.
use Rattle.std.proofs.Common.{◌≡◌, ◌≢◌, ℕ, zero, suc, ◌+◌, ◌-◌, ◌*◌, ◌<◌, ◌≤◌, ◌⊎◌, ◌∙◌, List, length, sum, get_or, All, Option, Some, unwrap_or, refl, sym, ap, subst, inl, inr, slice_get, arith}
use Rattle.std.proofs.lemmas.Bool.{cases_eq, cases_lt}
use Rattle.std.proofs.lemmas.List.{length-set}
use Rattle.std.proofs.lemmas.List.Sums.{sum_by-set, sum_by-le, fold_more}
use Rattle.std.proofs.lemmas.List.Elements.{All-from_get_or}
use Rattle.std.proofs.lemmas.Option.{same_Some, slice_get_within}
use Rattle.std.specs.Option.{IsSomeAnd}
use Rattle.list_laws.proofs.Options.{some_from_is_some_and}
use Rattle.book_base.specs.declared.call.Call.{Call}
use Rattle.book_base.specs.declared.call.Record.{Record as Answer}
use Rattle.book_base.specs.declared.call.Place.{Place}
use Rattle.book_base.specs.declared.TheConstants.{MAX_CALLERS, MAX_CALLS}
use Rattle.book_base.specs.SeqSpec.{SeqSpec}
use Rattle.book_base.specs.Cut.{Holds, IsWithin}
use Rattle.book_base.specs.Book.{Page, calls_of, answers_of, IsCall, IsAnswered, IsValid, IsSmall, operation_of, record_of, Precedes}
use Rattle.book_base.specs.Order.{call_at, StandsAt, step_at, IsLegalOrder}
use Rattle.book_base.proofs.PageLemmas.{caller_from_call}
use Rattle.book_base.specs.Next.{raised, list_after, HoldsAnswered}
use Rattle.legal_orders.proofs.LegalOrder.{same_call, raised_same, raised_other, raised_more, raised_cases}
use Rattle.order_check.specs.declared.fault.OrderFault.{OrderFault}
use Rattle.order_check.specs.declared.fault.OrderFault.TheVariants.{Unknown, Twice, Skipped, Late, Record, Run, Missing}
use Rattle.order_check.specs.Fault.{FailsTest, list_before, reply_after_places, place_of, turn_of, step_of, HasTurnBefore, IsTriedBefore, IsFirstFault}
use Rattle.order_check.specs.Standing.{IsStanding, IsInPlace, IsFirstAt}
use Rattle.order_check.proofs.Faults.{no_place, run_from_replies, stands_here, same_stands}

-- the reply at place p is the one that the object gives there
abbrev pub IsGiven : SeqSpec → List Page → List Place → ℕ → Type 0
IsGiven spec book order p = (place : Place) → slice_get order p ≡ Some place
    → reply_after_places spec book order p place ≡ place.reply

-- place p passes the test of this turn
abbrev pub PassesTest : SeqSpec → List Page → List Place → ℕ → ℕ → Type 0
PassesTest spec book order p zero = (call : Call) → StandsAt order p call → IsCall book call
PassesTest spec book order p (suc zero) = (j : ℕ) (call : Call) → StandsAt order p call → j < p
    → StandsAt order j call → ⊥
PassesTest spec book order p (suc (suc zero)) = (call : Call) → StandsAt order p call
    → (number : ℕ) → number + 1 ≡ call.number
    → (j : ℕ) × (j < p) × StandsAt order j (record { caller = call.caller; number = number })
PassesTest spec book order p (suc (suc (suc zero))) = (j : ℕ) (a b : Call) → StandsAt order p a
    → j < p → StandsAt order j b → Precedes book a b → ⊥
PassesTest spec book order p (suc (suc (suc (suc zero)))) = (place : Place) (r : Answer)
    → slice_get order p ≡ Some place → record_of book (call_at place) ≡ Some r
    → r.reply ≡ place.reply
PassesTest spec book order p (suc (suc (suc (suc (suc zero))))) =
    IsGiven spec book order p
PassesTest spec book order p (suc (suc (suc (suc (suc (suc s)))))) = Unit {0}

-- a test that a place passes isn't failed there
refuted : (spec : SeqSpec) (book : List Page) (order : List Place) (f : OrderFault)
    → place_of order f < length order → PassesTest spec book order (place_of order f) (turn_of f)
    → FailsTest spec book order f → ⊥
refuted spec book order (Unknown p) inside pass f = f.2 (pass f.0 f.1)
refuted spec book order (Twice p) inside pass f = pass f.2 f.0 f.1 f.3 f.4
refuted spec book order (Skipped p) inside pass f = let before = pass f.0 f.1 f.2 f.3 in
    f.4 before.0 before.1 before.2
refuted spec book order (Late q p) inside pass f = pass q f.0 f.1 f.2 f.4 f.3 f.5
refuted spec book order (Record p wanted found) inside pass f =
    f.6 (f.4 ∙ (pass f.0 f.1 f.2 f.3 ∙ sym f.5))
refuted spec book order (Run p wanted found) inside pass f =
    f.4 (f.2 ∙ (pass f.0 f.1 ∙ sym f.3))
refuted spec book order (Missing caller number) inside pass f = absurd (omega arith)

-- a place whose call is in place passes its first five tests
pub passes_in_place : (spec : SeqSpec) (book : List Page) (order : List Place) (p : ℕ)
    → IsInPlace book order p → (s : ℕ) → s < 5 → PassesTest spec book order p s
passes_in_place spec book order p h zero less = h.known
passes_in_place spec book order p h (suc zero) less = h.once
passes_in_place spec book order p h (suc (suc zero)) less = h.in_turn
passes_in_place spec book order p h (suc (suc (suc zero))) less = h.in_time
passes_in_place spec book order p h (suc (suc (suc (suc zero)))) less = h.recorded
passes_in_place spec book order p h (suc (suc (suc (suc (suc s))))) less = absurd (omega arith)

-- a place whose call is in place and whose reply is the object's passes all of its tests
passes_all : (spec : SeqSpec) (book : List Page) (order : List Place) (p : ℕ)
    → IsInPlace book order p → IsGiven spec book order p → (s : ℕ) → PassesTest spec book order p s
passes_all spec book order p h given zero = h.known
passes_all spec book order p h given (suc zero) = h.once
passes_all spec book order p h given (suc (suc zero)) = h.in_turn
passes_all spec book order p h given (suc (suc (suc zero))) = h.in_time
passes_all spec book order p h given (suc (suc (suc (suc zero)))) = h.recorded
passes_all spec book order p h given (suc (suc (suc (suc (suc zero))))) = given
passes_all spec book order p h given (suc (suc (suc (suc (suc (suc s)))))) = tt

-- A fault is the first of its place where the place passes the tests of all earlier turns, and
-- within its turn nothing fails before.
pub first_at : (spec : SeqSpec) (book : List Page) (order : List Place) (p : ℕ) (fault : OrderFault)
    → p < length order → FailsTest spec book order fault → place_of order fault ≡ p
    → ((s : ℕ) → s < turn_of fault → PassesTest spec book order p s)
    → ((other : OrderFault) → place_of order other ≡ p → turn_of other ≡ turn_of fault
    → step_of other < step_of fault → FailsTest spec book order other → ⊥)
    → IsFirstAt spec book order p fault
first_at spec book order p fault inside fails there below ties = record {
  fails = fails;
  there = there;
  first =
      λ (other : OrderFault) (here : place_of order other ≡ p) (before : HasTurnBefore other fault)
      (failed : FailsTest spec book order other). elim before [
        | inl less ↦ refuted spec book order other (omega (arith, here, inside))
            (subst (λ (k : ℕ). PassesTest spec book order k (turn_of other)) (sym here)
            (below (turn_of other) less)) failed
        | inr tie ↦ ties other here tie.0 tie.1 failed
      ];
}

-- a late call's earlier place is the least where its call precedes none before
pub late_ties : (spec : SeqSpec) (book : List Page) (order : List Place) (p q : ℕ) (call : Call)
    → p < length order → StandsAt order p call
    → ((j : ℕ) (other : Call) → j < q → StandsAt order j other → Precedes book call other → ⊥)
    → (other : OrderFault) → place_of order other ≡ p → turn_of other ≡ 3 → step_of other < q
    → FailsTest spec book order other → ⊥
late_ties spec book order p q call inside at least (Unknown k) here turn less f =
    absurd (omega (arith, turn))
late_ties spec book order p q call inside at least (Twice k) here turn less f =
    absurd (omega (arith, turn))
late_ties spec book order p q call inside at least (Skipped k) here turn less f =
    absurd (omega (arith, turn))
late_ties spec book order p q call inside at least (Late j k) here turn less f =
    let one : f.0 ≡ call =
    same_stands order p f.0 call (subst (λ (m : ℕ). StandsAt order m f.0) here f.2) at in
    least j f.1 less f.3 (subst (λ (a : Call). Precedes book a f.1) one f.5)
late_ties spec book order p q call inside at least (Record k wanted found) here turn less f =
    absurd (omega (arith, turn))
late_ties spec book order p q call inside at least (Run k wanted found) here turn less f =
    absurd (omega (arith, turn))
late_ties spec book order p q call inside at least (Missing caller number) here turn less f =
    absurd (omega (arith, here, inside))

-- The first fault of a place is the first one of the list, where all earlier places pass their
-- tests.
pub first_fault : (spec : SeqSpec) (book : List Page) (order : List Place) (p : ℕ)
    (fault : OrderFault) → p < length order → ((k : ℕ) → k < p → IsInPlace book order k)
    → ((k : ℕ) → k < p → IsGiven spec book order k) → IsFirstAt spec book order p fault
    → IsFirstFault spec book order fault
first_fault spec book order p fault inside in_place given h = record {
  fails = h.fails;
  first = λ (other : OrderFault) (before : IsTriedBefore order other fault)
      (failed : FailsTest spec book order other). elim before [
        | inl earlier ↦
            let k : ℕ = place_of order other in
            let less : k < p = omega (arith, earlier, h.there) in
            refuted spec book order other (omega (arith, less, inside))
            (passes_all spec book order k (in_place k less) (given k less) (turn_of other))
            failed
        | inr same ↦ h.first other (same.0 ∙ h.there) same.1 failed
      ];
}

-- another reply than the object's is the first fault of a place whose call is in place
pub run_first : (spec : SeqSpec) (book : List Page) (order : List Place) (p : ℕ) (place : Place)
    (wanted : ℕ) → slice_get order p ≡ Some place → IsInPlace book order p
    → wanted ≡ reply_after_places spec book order p place → wanted ≢ place.reply
    → IsFirstAt spec book order p (Run p wanted place.reply)
run_first spec book order p place wanted at in_place is other =
    first_at spec book order p (Run p wanted place.reply) (slice_get_within order p place at)
    (place, at, is, refl, other) refl
    (passes_in_place spec book order p in_place)
    (λ f here turn less failed. absurd (omega (arith, less)))

-- a test of a place fails within the list
fails_inside : (spec : SeqSpec) (book : List Page) (order : List Place) (caller number : ℕ)
    → ((other : Call) → IsAnswered book other → (other.caller < caller)
    ⊎ ((other.caller ≡ caller) × (other.number < number)) → (k : ℕ) × StandsAt order k other)
    → (other : OrderFault) → place_of order other ≡ length order
    → HasTurnBefore other (Missing caller number) → FailsTest spec book order other → ⊥
fails_inside spec book order caller number least (Unknown p) here before f =
    absurd (omega (arith, here, slice_get_within order p f.1.0 f.1.1))
fails_inside spec book order caller number least (Twice p) here before f =
    absurd (omega (arith, here, slice_get_within order p f.1.0 f.1.1))
fails_inside spec book order caller number least (Skipped p) here before f =
    absurd (omega (arith, here, slice_get_within order p f.1.0 f.1.1))
fails_inside spec book order caller number least (Late q p) here before f =
    absurd (omega (arith, here, slice_get_within order p f.2.0 f.2.1))
fails_inside spec book order caller number least (Record p wanted found) here before f =
    absurd (omega (arith, here, slice_get_within order p f.0 f.2))
fails_inside spec book order caller number least (Run p wanted found) here before f =
    absurd (omega (arith, here, slice_get_within order p f.0 f.1))
fails_inside spec book order caller number least (Missing i k) here before f =
    let other : Call = record { caller = i; number = k } in
    let there = least other f.0 before in f.1 there.0 there.1

-- A missing call is the list's first fault, where all places pass their tests and it is the least
-- such call.
pub missing_first : (spec : SeqSpec) (book : List Page) (order : List Place) (standing : List ℕ)
    (call : Call) → ((k : ℕ) → k < length order → IsInPlace book order k)
    → ((k : ℕ) → k < length order → IsGiven spec book order k)
    → IsStanding book order (length order) standing → IsAnswered book call
    → get_or standing call.caller 0 ≤ call.number
    → ((other : Call) → IsAnswered book other → (other.caller < call.caller)
    ⊎ ((other.caller ≡ call.caller) × (other.number < call.number)) → Holds standing other)
    → IsFirstFault spec book order (Missing call.caller call.number)
missing_first spec book order standing call in_place given h is out least = record {
  fails = (
    is,
    λ (k : ℕ) (at : StandsAt order k call).
        absurd (omega (arith, out, h.stands k call (slice_get_within order k at.0 at.1) at)),
  );
  first =
      λ (other : OrderFault) (before : IsTriedBefore order other (Missing call.caller call.number))
      (failed : FailsTest spec book order other). elim before [
        | inl earlier ↦
            let k : ℕ = place_of order other in
            refuted spec book order other earlier (passes_all spec book order k
            (in_place k earlier) (given k earlier) (turn_of other)) failed
        | inr same ↦
            fails_inside spec book order call.caller call.number
            (λ (a : Call) (answered : IsAnswered book a)
            (less : (a.caller < call.caller)
            ⊎ ((a.caller ≡ call.caller) × (a.number < call.number))).
            let there = h.held a (least a answered less) in (there.0, there.2))
            other same.0 same.1 failed
      ];
}

-- The calls before a place, and the next place.

-- the call at a place is the next one of its caller after the cut, where it stands at no earlier
-- place and the previous one does
pub number_in_line : (book : List Page) (order : List Place) (p : ℕ) (standing : List ℕ)
    (place : Place) → IsStanding book order p standing → IsInPlace book order p
    → slice_get order p ≡ Some place → place.number ≡ get_or standing place.caller 0
number_in_line book order p standing place h here at =
    let call : Call = call_at place in
    let stands = stands_here order p place at in
    elim (cases_lt place.number (get_or standing place.caller 0)) [
      | inl held ↦ let before = h.held call held in
          absurd (here.once before.0 call stands before.1 before.2)
      | inr out ↦ elim (cases_lt (get_or standing place.caller 0) place.number) [
        | inl more ↦
            let previous : ℕ = place.number - 1 in
            let it : Call = record { caller = place.caller; number = previous } in
            let before = here.in_turn call stands previous (omega (arith, more)) in
            absurd (omega (arith, h.stands before.0 it before.1 before.2, more))
        | inr less ↦ omega arith
      ]
    ]

-- the calls up to the next place are those of the raised cut
pub standing_more : (book : List Page) (order : List Place) (p : ℕ) (standing : List ℕ)
    (place : Place) → IsStanding book order p standing → IsInPlace book order p
    → slice_get order p ≡ Some place → IsStanding book order (p + 1) (raised standing place.caller)
standing_more book order p standing place h here at =
    let call : Call = call_at place in
    let stands = stands_here order p place at in
    let is : IsCall book call = here.known call stands in
    let inside : place.caller < length standing =
    (let there = caller_from_call book place.caller place.number is in omega (arith, h.wide)) in
    let number : place.number ≡ get_or standing place.caller 0 =
    number_in_line book order p standing place h here at in
    record {
      wide = length-set standing place.caller (get_or standing place.caller 0 + 1) ∙ h.wide;
      calls =
          λ (j : ℕ) (c : Call) (less : j < p + 1) (bt : StandsAt order j c). elim (cases_eq j p) [
            | inl same ↦ here.known c (subst (λ (k : ℕ). StandsAt order k c) same bt)
            | inr other ↦ h.calls j c (omega (arith, less, other)) bt
          ];
      held = λ (c : Call) (held : Holds (raised standing place.caller) c).
          elim (raised_cases standing place.caller c inside held) [
            | inl old ↦ let there = h.held c old in (there.0, omega (arith, there.1), there.2)
            | inr new ↦ (
              p,
              omega arith,
              subst (λ (a : Call). StandsAt order p a)
                  (same_call call c (sym new.0) (number ∙ sym new.1)) stands,
            )
          ];
      stands =
          λ (j : ℕ) (c : Call) (less : j < p + 1) (bt : StandsAt order j c). elim (cases_eq j p) [
            | inl same ↦
                let one : call ≡ c =
                same_stands order p call c stands (subst (λ (k : ℕ). StandsAt order k c) same bt) in
                subst (Holds (raised standing place.caller)) one
                (omega (arith, raised_same standing place.caller inside, number))
            | inr other ↦ omega (
              arith,
              raised_more standing place.caller c.caller inside,
              h.stands j c (omega (arith, less, other)) bt,
            )
          ];
    }

-- the calls before the first place are those of a cut that holds none
pub standing_none : (book : List Page) (order : List Place) (standing : List ℕ) → length standing
    ≡ length book → ((i : ℕ) → get_or standing i 0 ≡ 0) → IsStanding book order 0 standing
standing_none book order standing wide none = record {
  wide = wide;
  calls = λ (j : ℕ) (call : Call) (less : j < 0) (at : StandsAt order j call). absurd (omega arith);
  held =
      λ (call : Call) (held : Holds standing call). absurd (omega (arith, none call.caller, held));
  stands =
      λ (j : ℕ) (call : Call) (less : j < 0) (at : StandsAt order j call). absurd (omega arith);
}

-- A call of the book is in place where it is its caller's next one, precedes no call at an earlier
-- place, and has its recorded reply if it is answered.
pub in_place : (book : List Page) (order : List Place) (p : ℕ) (standing : List ℕ) (place : Place)
    → IsStanding book order p standing → slice_get order p ≡ Some place
    → IsCall book (call_at place) → place.number ≡ get_or standing place.caller 0
    → ((j : ℕ) (b : Call) → j < p → StandsAt order j b → Precedes book (call_at place) b → ⊥)
    → ((r : Answer) → record_of book (call_at place) ≡ Some r → r.reply ≡ place.reply)
    → IsInPlace book order p
in_place book order p standing place h at is number in_time recorded =
    let call : Call = call_at place in
    let stands = stands_here order p place at in
    record {
      known = λ (c : Call) (here : StandsAt order p c).
          subst (IsCall book) (same_stands order p call c stands here) is;
      once =
          λ (j : ℕ) (c : Call) (here : StandsAt order p c) (less : j < p) (bt : StandsAt order j c).
          let held : Holds standing call = subst (Holds standing)
          (sym (same_stands order p call c stands here)) (h.stands j c less bt) in
          absurd (omega (arith, held, number));
      in_turn = λ (c : Call) (here : StandsAt order p c) (n : ℕ) (e : n + 1 ≡ c.number).
          let one : c ≡ call = same_stands order p c call here stands in
          let it : Call = record { caller = c.caller; number = n } in
          h.held it (omega (
            arith,
            e,
            number,
            ap (λ (x : Call). x.number) one,
            ap (λ (x : Call). get_or standing x.caller 0) one,
          ));
      in_time = λ (j : ℕ) (a b : Call) (here : StandsAt order p a) (less : j < p)
          (bt : StandsAt order j b) (prec : Precedes book a b).
          in_time j b less bt
          (subst (λ (x : Call). Precedes book x b) (same_stands order p a call here stands) prec);
      recorded = λ (q : Place) (r : Answer) (bt : slice_get order p ≡ Some q).
          subst (λ (x : Place). record_of book (call_at x) ≡ Some r → r.reply ≡ x.reply)
          (same_Some place q (sym at ∙ bt)) (recorded r);
    }

-- an unanswered next call of a caller precedes no call at an earlier place
pub unanswered_in_time : (book : List Page) (order : List Place) (p : ℕ) (standing : List ℕ)
    (call : Call) → IsStanding book order p standing → call.number ≡ get_or standing call.caller 0
    → answers_of book call.caller ≤ call.number → (j : ℕ) (b : Call) → j < p → StandsAt order j b
    → Precedes book call b → ⊥
unanswered_in_time book order p standing call h number unanswered j b less bt (inl seen) =
    let known = some_from_is_some_and (record_of book call)
    (λ (r : Answer). get_or r.view b.caller 0 ≤ b.number) seen in
    absurd (omega (arith, unanswered, slice_get_within _ call.number known.0 known.1))
unanswered_in_time book order p standing call h number unanswered j b less bt (inr own) =
    absurd
    (omega (arith, own.1, number, h.stands j b less bt, ap (λ (i : ℕ). get_or standing i 0) own.0))

-- an answered call whose view holds all calls at earlier places precedes none of them
pub seen_in_time : (book : List Page) (order : List Place) (p : ℕ) (standing : List ℕ) (call : Call)
    (r : Answer) → IsStanding book order p standing → call.number ≡ get_or standing call.caller 0
    → record_of book call ≡ Some r → IsWithin standing r.view → (j : ℕ) (b : Call) → j < p
    → StandsAt order j b → Precedes book call b → ⊥
seen_in_time book order p standing call r h number known within j b less bt (inl unseen) =
    let says : Answer → Type 0 = λ x. get_or x.view b.caller 0 ≤ b.number in
    let low : says r = subst (λ o. IsSomeAnd o says) known unseen in
    absurd (omega (arith, low, within b.caller, h.stands j b less bt))
seen_in_time book order p standing call r h number known within j b less bt (inr own) =
    absurd
    (omega (arith, own.1, number, h.stands j b less bt, ap (λ (i : ℕ). get_or standing i 0) own.0))

-- Where all places pass their tests and all answered calls are at some place, the list is a legal
-- order.

-- the earlier calls of a caller are at earlier places
earlier_stands : (book : List Page) (order : List Place)
    → ((k : ℕ) → k < length order → IsInPlace book order k) → (d k : ℕ) (call : Call) (number : ℕ)
    → StandsAt order k call
    → number + suc d ≡ call.number → (j : ℕ) × (j < k)
    × StandsAt order j (record { caller = call.caller; number = number })
earlier_stands book order all zero k call number at gap =
    (all k (slice_get_within order k at.0 at.1)).in_turn call at number (omega (arith, gap))
earlier_stands book order all (suc d) k call number at gap =
    let previous : ℕ = number + suc d in
    let it : Call = record { caller = call.caller; number = previous } in
    let there =
    (all k (slice_get_within order k at.0 at.1)).in_turn call at previous (omega (arith, gap)) in
    let found = earlier_stands book order all d there.0 it number there.2 refl in
    (found.0, omega (arith, found.1, there.1), found.2)

-- two places with the same call and reply are equal
same_place : (a b : Place) → a.caller ≡ b.caller → a.number ≡ b.number → a.reply ≡ b.reply → a ≡ b
same_place a b caller number reply =
    let made : ℕ → ℕ → ℕ → Place = λ i n r. record { caller = i; number = n; reply = r } in
    ap (λ (i : ℕ). made i a.number a.reply) caller
    ∙ (ap (λ (n : ℕ). made b.caller n a.reply) number ∙ ap (made b.caller b.number) reply)

-- no call of a valid book precedes itself
precedes_itself : (book : List Page) (call : Call) → IsValid book → Precedes book call call → ⊥
precedes_itself book call valid (inl unseen) =
    let says : Answer → Type 0 = λ x. get_or x.view call.caller 0 ≤ call.number in
    let known = some_from_is_some_and (record_of book call) says unseen in
    let low : says known.0 = subst (λ o. IsSomeAnd o says) known.1 unseen in
    absurd (omega (arith, low, valid.own call known.0 known.1))
precedes_itself book call valid (inr own) = absurd (omega (arith, own.1))

pub legal : (spec : SeqSpec) (book : List Page) (order : List Place) (standing : List ℕ)
    → IsValid book → ((k : ℕ) → k < length order → IsInPlace book order k)
    → ((k : ℕ) → k < length order → IsGiven spec book order k)
    → IsStanding book order (length order) standing → HoldsAnswered book standing
    → IsLegalOrder spec book order
legal spec book order standing valid all given h answered = record {
  calls = λ (k : ℕ) (call : Call) (at : StandsAt order k call).
      (all k (slice_get_within order k at.0 at.1)).known call at;
  once = λ (j k : ℕ) (call : Call) (at : StandsAt order j call) (bt : StandsAt order k call).
      elim (cases_lt j k) [
        | inl less ↦ absurd ((all k (slice_get_within order k bt.0 bt.1)).once j call bt less at)
        | inr more ↦ elim (cases_lt k j) [
          | inl less ↦ absurd ((all j (slice_get_within order j at.0 at.1)).once k call at less bt)
          | inr same ↦ omega arith
        ]
      ];
  earlier = λ (k : ℕ) (call : Call) (at : StandsAt order k call) (number : ℕ)
      (less : number < call.number).
      earlier_stands book order all (call.number - number - 1) k call number at
      (omega (arith, less));
  answered = λ (call : Call) (r : Answer) (known : record_of book call ≡ Some r).
      let there = h.held call (answered call (slice_get_within _ call.number r known)) in
      let place : Place = there.2.0 in
      let it : Place = record { caller = call.caller; number = call.number; reply = r.reply } in
      let is : call_at place ≡ call = there.2.2 in
      let reply : r.reply ≡ place.reply =
      (all there.0 there.1).recorded place r there.2.1 (ap (record_of book) is ∙ known) in (
        there.0,
        there.2.1 ∙ ap (λ (x : Place). Some x) (same_place place it (ap (λ (x : Call). x.caller) is)
            (ap (λ (x : Call). x.number) is) (sym reply)),
      );
  run = run_from_replies spec.next book spec.init order
      (λ (k : ℕ) (place : Place) (at : slice_get order k ≡ Some place).
      given k (slice_get_within order k place at) place at);
  precedence = λ (j k : ℕ) (a b : Call) (at : StandsAt order j a) (bt : StandsAt order k b)
      (prec : Precedes book a b). elim (cases_lt j k) [
        | inl less ↦ less
        | inr more ↦ elim (cases_eq j k) [
          | inl same ↦
              let one : a ≡ b =
              same_stands order k a b (subst (λ (m : ℕ). StandsAt order m a) same at) bt in
              absurd
              (precedes_itself book a valid
              (subst (λ (x : Call). Precedes book a x) (sym one) prec))
          | inr other ↦ absurd ((all j (slice_get_within order j at.0 at.1)).in_time k a b at
              (omega (arith, more, other)) bt prec)
        ]
      ];
}

-- The object's list along the places.

-- a cut raised by one more call counts no more calls than were made
pub made_more : (book : List Page) (standing : List ℕ) (place : Place) → place.caller
    < length standing → place.number ≡ get_or standing place.caller 0 → IsCall book (call_at place)
    → ((i : ℕ) → get_or standing i 0 ≤ calls_of book i) → (i : ℕ)
    → get_or (raised standing place.caller) i 0 ≤ calls_of book i
made_more book standing place inside number is made i =
    elim (cases_eq i place.caller) [
      | inl same ↦ subst (λ (k : ℕ). get_or (raised standing place.caller) k 0 ≤ calls_of book k)
          (sym same) (omega (arith, raised_same standing place.caller inside, number, is))
      | inr other ↦ omega (arith, raised_other standing place.caller i other, made i)
    ]

-- a raised cut holds one call more
pub sum-raised : (cut : List ℕ) (i : ℕ) → i < length cut → sum (raised cut i) ≡ sum cut + 1
sum-raised cut i there = omega (arith, sum_by-set (λ (n : ℕ). n) cut i (get_or cut i 0 + 1) 0 there)

-- a cut of calls of a book holds no more calls than a book may have
pub few_stand : (book : List Page) (standing : List ℕ) → IsSmall book
    → length standing ≡ length book → ((i : ℕ) → get_or standing i 0 ≤ calls_of book i)
    → sum standing ≤ MAX_CALLERS * MAX_CALLS
few_stand book standing small wide made =
    let few : All (λ (n : ℕ). n ≤ MAX_CALLS) standing = All-from_get_or (λ (n : ℕ). n ≤ MAX_CALLS)
    standing 0 (λ (i : ℕ) (lt : i < length standing). omega (arith, made i, small.calls i)) in
    let total : sum standing ≤ length standing * MAX_CALLS =
    sum_by-le (λ (n : ℕ). n) MAX_CALLS standing few in
    omega (arith, small.callers, wide, total)

-- the operation of a place is that of its call
pub step_is : (book : List Page) (place : Place) (op : ℕ)
    → operation_of book (call_at place) ≡ Some op → (step_at book place).0 ≡ op
step_is book place op at = ap (λ (o : Option ℕ). unwrap_or o 0) at

-- the object's list before the next place is the one that a place's operation makes of the list
-- before it
pub list_more : (spec : SeqSpec) (book : List Page) (order : List Place) (p op : ℕ) (words : List ℕ)
    → p < length order → operation_of book (call_at (get_or order p no_place)) ≡ Some op → words
    ≡ list_before spec book order p → (spec.next words op).0 ≡ list_before spec book order (p + 1)
list_more spec book order p op words inside at is =
    let here : Place = get_or order p no_place in
    ap (λ (w : List ℕ). (spec.next w op).0) is ∙ (ap
    (λ (o : ℕ). (spec.next (list_before spec book order p) o).0) (sym (step_is book here op at))
    ∙ sym (fold_more (list_after book spec.next) spec.init order p no_place inside))

-- the object's reply at a place is the one to the place's operation at the list before it
pub reply_more : (spec : SeqSpec) (book : List Page) (order : List Place) (p op : ℕ)
    (words : List ℕ) (place : Place) → operation_of book (call_at place) ≡ Some op
    → words ≡ list_before spec book order p
    → (spec.next words op).1 ≡ reply_after_places spec book order p place
reply_more spec book order p op words place at is =
    ap (λ (w : List ℕ). (spec.next w op).1) is ∙ ap
    (λ (o : ℕ). (spec.next (list_before spec book order p) o).1) (sym (step_is book place op at))

-- the reply at an index is the object's where the place there has the object's reply
pub given_here : (spec : SeqSpec) (book : List Page) (order : List Place) (p : ℕ) (place : Place)
    → slice_get order p ≡ Some place → reply_after_places spec book order p place ≡ place.reply
    → IsGiven spec book order p
given_here spec book order p place at is other there =
    subst (λ (x : Place). reply_after_places spec book order p x ≡ x.reply)
    (same_Some place other (sym at ∙ there)) is
