-- The lanes of a book: the intervals of its calls, by caller and number.
use Rattle.std.proofs.Common.{◌≡◌, ℕ, ◌+◌, ◌<◌, ◌∙◌, List, [], ◌∷◌, ◌++◌, length, get_or, below_more, Some, Vec, sym, ap, subst, inl, inr, slice_get, arith}
use Rattle.std.proofs.lemmas.Bool.{cases_lt}
use Rattle.std.proofs.lemmas.List.{get_or_past, get_or_push, get_or_append_left, map-append, length-append}
use Rattle.std.proofs.lemmas.Option.{none-some, slice_get_cases}
use Rattle.std.specs.declared.alloc.Global.{Global}
use Rattle.list_laws.proofs.Places.{slice_get-push_cases}
use Rattle.book_base.specs.declared.call.Call.{Call}
use Rattle.book_base.specs.Book.{Page, IsValid, calls_of}
use Rattle.book_base.proofs.PageLemmas.{caller_from_call}
use Rattle.sketch.specs.declared.event.Event.{Event}
use Rattle.sketch.specs.Sketch.{IsSketch}
use Rattle.sketch.specs.declared.interval.Interval.{Interval}
use Rattle.sketch.specs.Intervals.{rows_of, IsIntervalOf, IsLaneOf, StandsOn, StandOnTheirLanes, HaveOneEach, AreTold, LieWithin, AreApart, Meet}
use Rattle.sketch.proofs.IntervalLemmas.{ends_before, precedes_later, lies_within}

-- These are the intervals of a caller's first calls, by number.
pub record IsPrefixOf (book : List Page) (events : List Event) (caller : ℕ)
    (lane : List Interval) : Type 0 where
  pub named : (number : ℕ) (interval : Interval) → slice_get lane number ≡ Some interval
      → interval.call ≡ record { caller = caller; number = number }
  pub told : (number : ℕ) (interval : Interval) → slice_get lane number ≡ Some interval
      → IsIntervalOf book events interval

-- an empty list is a prefix of each caller's intervals
pub prefix_none : (book : List Page) (events : List Event) (caller : ℕ) (lane : List Interval)
    → lane ≡ [] → IsPrefixOf book events caller lane
prefix_none book events caller lane empty =
    let none : (number : ℕ) (interval : Interval) → slice_get lane number ≡ Some interval → ⊥ =
    λ number interval at.
    none-some interval (sym (ap (λ (xs : List Interval). slice_get xs number) empty) ∙ at) in
    record {
      named = λ number interval at. absurd (none number interval at);
      told = λ number interval at. absurd (none number interval at);
    }

-- a prefix of a caller's intervals, with the interval of the caller's next call, is one too
pub prefix_more : (book : List Page) (events : List Event) (caller : ℕ) (lane : List Interval)
    (interval : Interval) → IsPrefixOf book events caller lane
    → interval.call ≡ record { caller = caller; number = length lane }
    → IsIntervalOf book events interval → IsPrefixOf book events caller (lane ++ interval ∷ [])
prefix_more book events caller lane interval prefix named told = record {
  named = λ number other at. elim (slice_get-push_cases lane interval number other at) [
    | inl old ↦ prefix.named number other old
    | inr new ↦ let made : ℕ → Call = λ n. record { caller = caller; number = n } in
        ap (λ (x : Interval). x.call) new.1 ∙ (named ∙ ap made (sym new.0))
  ];
  told = λ number other at. elim (slice_get-push_cases lane interval number other at) [
    | inl old ↦ prefix.told number other old
    | inr new ↦ subst (IsIntervalOf book events) (sym new.1) told
  ];
}

-- the intervals of all calls of a caller are its lane
pub prefix_whole : (book : List Page) (events : List Event) (caller : ℕ) (lane : List Interval)
    → IsPrefixOf book events caller lane
    → length lane ≡ calls_of book caller → IsLaneOf book events caller lane
prefix_whole book events caller lane prefix all = record {
  calls = λ number. (λ less. omega (arith, less), λ is. omega (arith, is));
  named = prefix.named;
  told = prefix.told;
}

-- Each caller of a book has its lane.
pub record AreLanesOf (book : List Page) (events : List Event)
    (lanes : List (List Interval)) : Type 0 where
  pub callers : length lanes ≡ length book
  pub own : (caller : ℕ) → caller < length lanes
      → IsLaneOf book events caller (get_or lanes caller [])

-- where n lists are the lanes of the first n callers, and one more list is the lane of caller n,
-- they are together the lanes of the first n + 1 callers
pub lanes_more : (book : List Page) (events : List Event) (lanes : List (Vec Interval Global))
    (lane : Vec Interval Global) (n : ℕ) → length (rows_of lanes) ≡ n
    → ((i : ℕ) → i < n → IsLaneOf book events i (get_or (rows_of lanes) i []))
    → IsLaneOf book events n lane.items
    → (length (rows_of (lanes ++ lane ∷ [])) ≡ n + 1)
    × ((i : ℕ) → i < n + 1 → IsLaneOf book events i (get_or (rows_of (lanes ++ lane ∷ [])) i []))
lanes_more book events lanes lane n count own last =
    let grown : rows_of (lanes ++ lane ∷ []) ≡ rows_of lanes ++ lane.items ∷ [] =
    map-append (λ (v : Vec Interval Global). v.items) lanes (lane ∷ []) in
    let Own : List (List Interval) → ℕ → Type 0 =
    λ rows i. IsLaneOf book events i (get_or rows i []) in
    let here : Own (rows_of lanes ++ lane.items ∷ []) n = subst (IsLaneOf book events n)
    (sym (get_or_push (rows_of lanes) lane.items [] n count)) last in (
      omega (
        arith,
        ap (length {A = List Interval}) grown,
        length-append (rows_of lanes) (lane.items ∷ []),
        count,
      ),
      λ i. subst (λ rows. i < n + 1 → Own rows i) (sym grown)
          (below_more (Own (rows_of lanes ++ lane.items ∷ [])) n
          (λ k less. subst (IsLaneOf book events k) (sym (get_or_append_left (rows_of lanes)
          (lane.items ∷ []) [] k (omega (arith, count, less)))) (own k less)) here i),
    )

-- an interval on a lane is that of the caller's call with this number
pub standing : (book : List Page) (events : List Event) (lanes : List (List Interval))
    → AreLanesOf book events lanes → (caller place : ℕ) (interval : Interval)
    → StandsOn lanes caller place interval
    → (interval.call ≡ record { caller = caller; number = place })
    × IsIntervalOf book events interval
standing book events lanes are caller place interval at =
    elim (cases_lt caller (length lanes)) [
      | inl here ↦
          let own = are.own caller here in
          (own.named place interval at, own.told place interval at)
      | inr past ↦ absurd (none-some interval (ap (λ (lane : List Interval). slice_get lane place)
          (sym (get_or_past lanes caller [] past)) ∙ at))
    ]

pub stand_on_their_lanes : (book : List Page) (events : List Event) (lanes : List (List Interval))
    → AreLanesOf book events lanes → StandOnTheirLanes lanes
stand_on_their_lanes book events lanes are caller place interval at =
    let known = standing book events lanes are caller place interval at in
    ap (λ (call : Call). call.caller) known.0

pub have_one_each : (book : List Page) (events : List Event) (lanes : List (List Interval))
    → AreLanesOf book events lanes → HaveOneEach book lanes
have_one_each book events lanes are call is =
    let here : call.caller < length lanes =
    omega (arith, are.callers, caller_from_call book call.caller call.number is) in
    let own = are.own call.caller here in
    let there : call.number < length (get_or lanes call.caller []) = (own.calls call.number).1 is in
    elim (slice_get_cases (get_or lanes call.caller []) call.number).1 [
      | inl found ↦ record {
        caller = call.caller;
        place = call.number;
        interval = found.0;
        stands = found.2;
        is_its = own.named call.number found.0 found.2;
        only = λ i k other at same.
            let known = standing book events lanes are i k other at in
            let one : record { caller = i; number = k } ≡ call = sym known.0 ∙ same in
            (ap (λ (c : Call). c.caller) one, ap (λ (c : Call). c.number) one);
      }
      | inr past ↦ absurd (omega (arith, past.0))
    ]

pub are_told : (book : List Page) (events : List Event) (lanes : List (List Interval))
    → AreLanesOf book events lanes → AreTold book events lanes
are_told book events lanes are caller place interval at = let known =
    standing book events lanes are caller place interval at in known.1

pub lie_within : (book : List Page) (events : List Event) (lanes : List (List Interval))
    → IsValid book → IsSketch book events → AreLanesOf book events lanes → LieWithin events lanes
lie_within book events lanes valid h are caller place interval at = lies_within book events valid h
    interval (are_told book events lanes are caller place interval at)

pub are_apart : (book : List Page) (events : List Event) (lanes : List (List Interval))
    → IsValid book → IsSketch book events → AreLanesOf book events lanes → AreApart book lanes
are_apart book events lanes valid h are i j k l a b at bt before =
    let is = are_told book events lanes are i k a at in
    let bis = are_told book events lanes are j l b bt in
    ends_before book events valid h a b.call b.begin is bis.call bis.begins before

pub meet : (book : List Page) (events : List Event) (lanes : List (List Interval))
    → IsSketch book events → AreLanesOf book events lanes → Meet book lanes
meet book events lanes h are i j k l a b at bt answered less =
    precedes_later book events h a b (are_told book events lanes are i k a at)
    (are_told book events lanes are j l b bt) answered less
