-- What the objects have received after one event more.
use Rattle.std.proofs.Common.{◌≡◌, ◌≢◌, ◌∙◌, ℕ, zero, suc, ◌+◌, ◌<◌, Bool, true, false, List, [], ◌∷◌, ◌++◌, length, set, Some, slice_get, if◌then◌else◌, refl, sym, ap, subst, arith, append-nil, length-append, inl, inr}
use Rattle.std.specs.Prelude.{◌==◌}
use Rattle.std.proofs.lemmas.Bool.{cases_eq, eq-eqb, ne_eqb}
use Rattle.list_laws.proofs.Places.{slice_get-push_cases}
use Rattle.streams.specs.Stream.{StreamEvent}
use Rattle.seq_objects.specs.declared.kind.Kind.{Kind}
use Rattle.stream_text.specs.Stream.{ObjectEvent, Said, events_of, with_event}
use Rattle.watch.specs.Lines.{head_lines, lines_from, lines_of}
use Rattle.watch.specs.Watching.{IsWatched, AreWatched, AreNamed, IsNext}
use Rattle.watch.specs.declared.objects.Object.{Object}
use Rattle.watch.proofs.OnLines.{events_of-cons, events_of-append, lines_from-push}
use Rattle.watch.specs.declared.settings.Settings.{Settings}

set_here : {X : Type 0} (xs : List X) (i : ℕ) (x y : X) → slice_get (set xs i x) i ≡ Some y → y ≡ x
set_here [] i x y e = absurd cc
set_here (z ∷ xs) zero x y e = cc
set_here (z ∷ xs) (suc i) x y e = set_here xs i x y e

set_other : {X : Type 0} (xs : List X) (i k : ℕ) (x y : X) → k ≢ i
    → slice_get (set xs i x) k ≡ Some y → slice_get xs k ≡ Some y
set_other [] i k x y ne e = absurd cc
set_other (z ∷ xs) zero zero x y ne e = absurd (ne refl)
set_other (z ∷ xs) zero (suc k) x y ne e = e
set_other (z ∷ xs) (suc i) zero x y ne e = e
set_other (z ∷ xs) (suc i) (suc k) x y ne e = set_other xs i k x y (λ s. ne (ap suc s)) e

events_after : (object k : ℕ) (event : StreamEvent) (events : List ObjectEvent)
    → events_of k (events ++ record { object = object; event = event } ∷ [])
    ≡ events_of k events ++ (if object == k then event ∷ [] else [])
events_after object k event events =
    let one : ObjectEvent = record { object = object; event = event } in
    events_of-append k events (one ∷ [])
    ∙ ap (λ (l : List StreamEvent). events_of k events ++ l) (events_of-cons k one [])

-- an object has the events that it had where another one has an event more
pub events_same : (object other : ℕ) (event : StreamEvent) (events : List ObjectEvent)
    → other ≢ object
    → events_of other (events ++ record { object = object; event = event } ∷ [])
    ≡ events_of other events
events_same object other event events ne =
    let no : (object == other) ≡ false = ne_eqb object other (λ e. ne (sym e)) in
    events_after object other event events
    ∙ (ap (λ (b : Bool). events_of other events ++ (if b then event ∷ [] else [])) no
    ∙ append-nil (events_of other events))

-- an object received an event more, and the others none
pub watched_more : (asked : Settings) (said : Said) (names : List (List ℕ)) (object : ℕ)
    (event : StreamEvent) (objects : List Object) (one : Object)
    → AreWatched asked objects said
    → IsWatched one said.kind asked (events_of object said.events ++ event ∷ [])
    (lines_of object said.events ++ (head_lines + 1 + length said.events) ∷ [])
    → AreWatched asked (set objects object one) (with_event said names object event)
watched_more asked said names object event objects one watched here k other at =
    let events = events_after object k event said.events in
    let lines = lines_from-push k (head_lines + 1) said.events
    (record { object = object; event = event }) in
    let line = head_lines + 1 + length said.events in
    elim (cases_eq k object) [
      | inl same ↦
          let is = set_here objects object one other
          (subst (λ (n : ℕ). slice_get (set objects object one) n ≡ Some other) same at) in
          let yes : (object == k) ≡ true = eq-eqb object k (sym same) in
          let es = events ∙ ap (λ (b : Bool). events_of k said.events
          ++ (if b then event ∷ [] else [])) yes in
          let ls = lines ∙ ap (λ (b : Bool). lines_of k said.events
          ++ (if b then line ∷ [] else [])) yes in
          let after = said.events ++ record { object = object; event = event } ∷ [] in
          subst (λ o. IsWatched o said.kind asked (events_of k after) (lines_of k after)) (sym is)
          (subst (λ (l : List ℕ). IsWatched one said.kind asked (events_of k after) l) (sym ls)
          (subst (λ (l : List StreamEvent). IsWatched one said.kind asked l
          (lines_of k said.events ++ line ∷ [])) (sym es)
          (subst (λ (n : ℕ). IsWatched one said.kind asked (events_of n said.events ++ event ∷ [])
          (lines_of n said.events ++ line ∷ [])) (sym same) here)))
      | inr different ↦
          let no : (object == k) ≡ false = ne_eqb object k (λ e. different (sym e)) in
          let es = events_same object k event said.events different in
          let ls = lines ∙ (ap (λ (b : Bool). lines_of k said.events
          ++ (if b then line ∷ [] else [])) no ∙ append-nil (lines_of k said.events)) in
          let after = said.events ++ record { object = object; event = event } ∷ [] in
          subst (λ (l : List ℕ). IsWatched other said.kind asked (events_of k after) l) (sym ls)
          (subst (λ (l : List StreamEvent). IsWatched other said.kind asked l
          (lines_of k said.events)) (sym es)
          (watched k other (set_other objects object k one other different at)))
    ]

-- a new object has a new name
pub one_more : (said : Said) (names : List (List ℕ)) (object : ℕ) → IsNext said names object
    → object ≡ length said.names → length said.names + 1 ≡ length names
one_more said names object next at =
    elim next [
      | inl (same, low) ↦ absurd (omega (arith, low, at))
      | inr (new, more, is, fresh) ↦ omega (arith, ap length more, length-append said.names (new ∷ []))
    ]

none_of : (object line : ℕ) (events : List ObjectEvent)
    → ((k : ℕ) (one : ObjectEvent) → slice_get events k ≡ Some one → one.object < object)
    → (events_of object events ≡ []) × (lines_from object line events ≡ [])
none_of object line [] less = (refl, refl)
none_of object line (x ∷ xs) less =
    let here = less 0 x refl in
    let no : (x.object == object) ≡ false = ne_eqb x.object object
    (λ e. absurd (omega (arith, here, e))) in
    let rest = none_of object (line + 1) xs (λ k one at. less (suc k) one at) in (
      events_of-cons object x xs ∙ (ap (λ (b : Bool). if b then x.event ∷ events_of object xs
          else events_of object xs) no ∙ rest.0),
      ap (λ (b : Bool). if b then line ∷ lines_from object (line + 1) xs
          else lines_from object (line + 1) xs) no ∙ rest.1,
    )

-- a new object has received no event, and the others what they had
pub watched_push : (asked : Settings) (said : Said) (objects : List Object) (one : Object)
    → AreNamed said → length objects ≡ length said.names → AreWatched asked objects said
    → IsWatched one said.kind asked [] [] → AreWatched asked (objects ++ one ∷ []) said
watched_push asked said objects one named size watched fresh k other at =
    elim (slice_get-push_cases objects one k other at) [
      | inl old ↦ watched k other old
      | inr new ↦
          let none = none_of k (head_lines + 1) said.events
          (λ j event here. omega (arith, named j event here, new.0, size)) in
          subst (λ o. IsWatched o said.kind asked (events_of k said.events) (lines_of k said.events))
          (sym new.1)
          (subst (λ (l : List ℕ). IsWatched one said.kind asked (events_of k said.events) l)
          (sym none.1)
          (subst (λ (l : List StreamEvent). IsWatched one said.kind asked l []) (sym none.0) fresh))
    ]

-- one of the objects is replaced by one that has received what it had received
pub watched_set : (asked : Settings) (said : Said) (objects : List Object) (object : ℕ)
    (old new : Object) → slice_get objects object ≡ Some old
    → ((kind : Kind) (asked : Settings) (stream : List StreamEvent) (lines : List ℕ)
    → IsWatched old kind asked stream lines → IsWatched new kind asked stream lines)
    → AreWatched asked objects said → AreWatched asked (set objects object new) said
watched_set asked said objects object old new here keeps watched k other at =
    elim (cases_eq k object) [
      | inl same ↦
          let is = set_here objects object new other
          (subst (λ (n : ℕ). slice_get (set objects object new) n ≡ Some other) same at) in
          subst (λ o. IsWatched o said.kind asked (events_of k said.events) (lines_of k said.events))
          (sym is) (keeps said.kind asked (events_of k said.events) (lines_of k said.events)
          (watched k old (subst (λ (n : ℕ). slice_get objects n ≡ Some old) (sym same) here)))
      | inr different ↦ watched k other (set_other objects object k new other different at)
    ]
