-- What orders reach, one place after another, and which calls must come first.
use Rattle.std.proofs.Common.{◌≡◌, ℕ, ◌+◌, ◌-◌, ◌<◌, ◌≤◌, ◌⊎◌, ◌∙◌, List, [], ◌∷◌, ◌++◌, length, map, set, get_or, inl, inr, refl, sym, ap, subst, arith}
use Rattle.std.proofs.lemmas.Bool.{cases_eq, cases_lt}
use Rattle.std.proofs.lemmas.List.{get_or-set_same, get_or-set_other, ext_get_or, length-append, length-map}
use Rattle.std.proofs.lemmas.Option.{none-some}
use Rattle.list_laws.proofs.Options.{some_from_is_some_and}
use Rattle.list_laws.proofs.Places.{slice_get-push_old, slice_get-push_last, slice_get-push_cases, get_or-replicate_default}
use Rattle.book_base.specs.declared.call.Call.{Call}
use Rattle.book_base.specs.declared.call.Place.{Place}
use Rattle.book_base.specs.declared.call.Record.{Record}
use Rattle.book_base.specs.SeqSpec.{SeqSpec}
use Rattle.book_base.specs.Cut.{Holds}
use Rattle.book_base.specs.Book.{Page, record_of}
use Rattle.book_base.specs.Sequential.{IsRunFrom}
use Rattle.book_base.specs.Order.{call_at, StandsAt, step_at}
use Rattle.book_base.specs.Reaching.{list_after_run, SufficesAfter, IsCapacityFor, Reaches}
use Rattle.book_base.specs.ReachingLaws.{NoPlacesReachTheStart, OneMorePlaceReachesOn, OneCutIsReached, ReadOnlyMayBeLeftOut}
use Rattle.book_base.proofs.ViewLemmas.{same_call}

-- the object's list after one more place is the one that its operation makes of the list before it
list_after_run-push : (next : List ℕ → ℕ → List ℕ × ℕ) (book : List Page) (list : List ℕ)
    (before : List Place) (place : Place)
    → list_after_run next list (map (step_at book) (before ++ place ∷ []))
    ≡ (next (list_after_run next list (map (step_at book) before)) (step_at book place).0).0
list_after_run-push next book list [] place = refl
list_after_run-push next book list (first ∷ before) place =
    list_after_run-push next book (next list (step_at book first).0).0 before place

-- a cut raised by a call holds this call, and all that it held before
raised_holds : (cut : List ℕ) (place : Place) (call : Call) → place.caller < length cut
    → place.number ≡ get_or cut place.caller 0
    → Holds cut call ⊎ (call_at place ≡ call) → Holds (set cut place.caller (place.number + 1)) call
raised_holds cut place call inside at (inl held) =
    elim (cases_eq call.caller place.caller) [
      | inr apart ↦ omega
          (arith, held, get_or-set_other cut place.caller call.caller (place.number + 1) 0 apart)
      | inl same ↦
          let below : call.number < get_or cut place.caller 0 =
          subst (λ (i : ℕ). call.number < get_or cut i 0) same held in
          subst (λ (i : ℕ). call.number < get_or (set cut place.caller (place.number + 1)) i 0)
          (sym same)
          (omega (arith, get_or-set_same cut place.caller (place.number + 1) 0 inside))
    ]
raised_holds cut place call inside at (inr is) =
    subst (λ (c : Call). c.number < get_or (set cut place.caller (place.number + 1)) c.caller 0) is
    (omega (arith, get_or-set_same cut place.caller (place.number + 1) 0 inside))

-- a cut raised by a call holds only this call and those that it held before
raised_held : (cut : List ℕ) (place : Place) (call : Call) → place.caller < length cut
    → place.number ≡ get_or cut place.caller 0
    → Holds (set cut place.caller (place.number + 1)) call → Holds cut call ⊎ (call_at place ≡ call)
raised_held cut place call inside at held =
    elim (cases_eq call.caller place.caller) [
      | inr apart ↦ inl (omega
          (arith, held, get_or-set_other cut place.caller call.caller (place.number + 1) 0 apart))
      | inl same ↦
          let below : call.number < get_or (set cut place.caller (place.number + 1)) place.caller 0
          = subst (λ (i : ℕ). call.number < get_or (set cut place.caller (place.number + 1)) i 0)
          same held in
          elim (cases_lt call.number place.number) [
            | inl less ↦
                inl (subst (λ (i : ℕ). call.number < get_or cut i 0) (sym same) (omega arith))
            | inr more ↦ inr (same_call (call_at place) call (sym same)
                (omega (arith, get_or-set_same cut place.caller (place.number + 1) 0 inside)))
          ]
    ]

pub no_places_reach_the_start : NoPlacesReachTheStart
no_places_reach_the_start spec book n = record {
  holds = λ k call (place, at, is). absurd (none-some place at);
  held =
      λ call held. absurd (omega (arith, held, get_or-replicate_default {X = ℕ} n call.caller 0));
  reached = refl;
}

pub one_more_place_reaches_on : OneMorePlaceReachesOn
one_more_place_reaches_on spec book before cut list place reaches inside at = record {
  holds = λ k call stands. elim (slice_get-push_cases before place k stands.0 stands.1) [
    | inl old ↦
        raised_holds cut place call inside at (inl (reaches.holds k call (stands.0, old, stands.2)))
    | inr new ↦ raised_holds cut place call inside at (inr (sym (ap call_at new.1) ∙ stands.2))
  ];
  held = λ call held. elim (raised_held cut place call inside at held) [
    | inl old ↦ let found = reaches.held call old in (
      found.0,
      (found.1.0, slice_get-push_old before place found.0 found.1.0 found.1.1, found.1.2),
    )
    | inr is ↦ (length before, (place, slice_get-push_last before place, is))
  ];
  reached = list_after_run-push spec.next book spec.init before place
      ∙ ap (λ (l : List ℕ). (spec.next l (step_at book place).0).0) reaches.reached;
}

-- where an order reaches two cuts, each call that one of them holds is in the order, so that the
-- other holds it
reached_within : (spec : SeqSpec) (book : List Page) (order : List Place) (a b x y : List ℕ)
    → Reaches spec book order a x → Reaches spec book order b y → (i : ℕ)
    → get_or a i 0 ≤ get_or b i 0
reached_within spec book order a b x y first second i = elim (cases_lt 0 (get_or a i 0)) [
  | inl some ↦
      let call : Call = record { caller = i; number = get_or a i 0 - 1 } in
      let stands = first.held call (omega (arith, some)) in
      let holds : call.number < get_or b i 0 = second.holds stands.0 call stands.1 in
      omega (arith, holds, some)
  | inr none ↦ omega (arith, none)
]

pub one_cut_is_reached : OneCutIsReached
one_cut_is_reached spec book order a b x y wide first second = (
  ext_get_or 0 a b wide (λ i inside. omega (
    arith,
    reached_within spec book order a b x y first second i,
    reached_within spec book order b a y x second first i,
  )),
  sym first.reached ∙ second.reached,
)

pub read_only_may_be_left_out : ReadOnlyMayBeLeftOut
read_only_may_be_left_out next op reply list steps leaves gives =
    let same : (next list op).0 ≡ list = leaves list gives in (
      λ run. subst (λ (l : List ℕ). IsRunFrom next l steps) same run.1,
      λ run. (gives, subst (λ (l : List ℕ). IsRunFrom next l steps) (sym same) run),
    )

-- the object's list after two runs, one after the other
list_after_run-append : (next : List ℕ → ℕ → List ℕ × ℕ) (list : List ℕ)
    (first later : List (ℕ × ℕ))
    → list_after_run next list (first ++ later)
    ≡ list_after_run next (list_after_run next list first) later
list_after_run-append next list [] later = refl
list_after_run-append next list (step ∷ first) later =
    list_after_run-append next (next list step.0).0 first later

-- A capacity that suffices for operations after a list suffices for fewer of them.
pub suffices-fewer : (next : List ℕ → ℕ → List ℕ × ℕ) (list : List ℕ) (fewer more capacity : ℕ)
    → fewer ≤ more → SufficesAfter next list more capacity → SufficesAfter next list fewer capacity
suffices-fewer next list fewer more capacity low fits steps few =
    fits steps (omega (arith, low, few))

-- A capacity that suffices for operations after a list is at least as long as the list.
pub suffices-list : (next : List ℕ → ℕ → List ℕ × ℕ) (list : List ℕ) (operations capacity : ℕ)
    → SufficesAfter next list operations capacity → length list ≤ capacity
suffices-list next list operations capacity fits = fits [] (omega arith)

-- A capacity that suffices for an operation after a list is at least as long as the next list.
pub suffices-next : (next : List ℕ → ℕ → List ℕ × ℕ) (list : List ℕ) (operations capacity op : ℕ)
    → 1 ≤ operations → SufficesAfter next list operations capacity
    → length (next list op).0 ≤ capacity
suffices-next next list operations capacity op some fits = fits ((op, 0) ∷ []) (omega (arith, some))

-- After one operation a capacity suffices for all but one of the operations.
pub suffices-step : (next : List ℕ → ℕ → List ℕ × ℕ) (list : List ℕ)
    (operations left capacity op : ℕ) → left + 1 ≤ operations
    → SufficesAfter next list operations capacity
    → SufficesAfter next (next list op).0 left capacity
suffices-step next list operations left capacity op low fits steps few =
    fits ((op, 0) ∷ steps) (omega (arith, low, few))

-- A capacity for some operations of an object suffices after an order for those that the order
-- leaves.
pub suffices-order : (spec : SeqSpec) (book : List Page) (order : List Place) (cut list : List ℕ)
    (operations left capacity : ℕ) → Reaches spec book order cut list
    → length order + left ≤ operations → IsCapacityFor spec operations capacity
    → SufficesAfter spec.next list left capacity
suffices-order spec book order cut list operations left capacity reaches few fits steps low =
    let before : List (ℕ × ℕ) = map (step_at book) order in
    let same : list_after_run spec.next spec.init (before ++ steps)
    ≡ list_after_run spec.next list steps =
    list_after_run-append spec.next spec.init before steps
    ∙ ap (λ (l : List ℕ). list_after_run spec.next l steps) reaches.reached in
    subst (λ (l : List ℕ). length l ≤ capacity) same
    (fits (before ++ steps)
    (omega (arith, few, low, length-append before steps, length-map order (step_at book))))

-- a run of operations, each of which makes a list at most one word longer
length-run : (next : List ℕ → ℕ → List ℕ × ℕ)
    → ((list : List ℕ) (op : ℕ) → length (next list op).0 ≤ length list + 1) → (list : List ℕ)
    (steps : List (ℕ × ℕ)) → length (list_after_run next list steps) ≤ length list + length steps
length-run next grows list [] = omega arith
length-run next grows list (step ∷ steps) =
    omega (arith, grows list step.0, length-run next grows (next list step.0).0 steps)

-- Where each operation makes a list at most one word longer, a capacity suffices that is as long as
-- the first list and as many words more as there are operations.
pub capacity-by_steps : (spec : SeqSpec)
    → ((list : List ℕ) (op : ℕ) → length (spec.next list op).0 ≤ length list + 1)
    → (operations capacity : ℕ) → length spec.init + operations ≤ capacity
    → IsCapacityFor spec operations capacity
capacity-by_steps spec grows operations capacity enough steps few =
    omega (arith, enough, few, length-run spec.next grows spec.init steps)
