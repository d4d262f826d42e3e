-- The values that appear, and the tables of operations.
use Rattle.std.proofs.Common.{◌≡◌, ℕ, zero, suc, ◌+◌, ◌%◌, ◌<◌, ◌≤◌, ◌∙◌, ◌==◌, ltb, List, Vec, [], ◌∷◌, ◌++◌, length, slice_get, get_or, drop, Option, Some, None, unwrap_or, refl, sym, ap, subst, inl, inr, arith}
use Rattle.std.specs.List.{AllByRecursion, Contains, list_any, position_or_len}
use Rattle.std.proofs.lemmas.Bool.{cases_lt, cond-true, cond_both, eqb-true, eqb-false, lt-ltb}
use Rattle.std.proofs.lemmas.List.Elements.{Contains-append_left, Contains-push}
use Rattle.std.proofs.lemmas.List.Folds.{Any-from_list_any}
use Rattle.std.proofs.lemmas.List.Sums.{fails_before_first, passes_at_first}
use Rattle.std.proofs.lemmas.Option.{same_Some}
use Rattle.std.proofs.lemmas.List.{length-map, get_or-map, get_or_past, at_drop_more}
use Rattle.std.specs.declared.alloc.Global.{Global}
use Rattle.book_base.specs.declared.call.Call.{Call}
use Rattle.book_base.specs.Book.{Page}
use Rattle.seq_objects.specs.declared.kind.Kind.{Kind}
use Rattle.seq_objects.specs.declared.kind.Kind.TheVariants as kinds
use Rattle.seq_objects.specs.Words.{entries}
use Rattle.sketch.specs.declared.event.Event.{Event}
use Rattle.sketch.specs.declared.event.Event.TheVariants.{Invoke, Return}
use Rattle.sketch.specs.Sketch.{StandsIn}
use Rattle.book_picture.specs.MarkedCalls.{numbers_in}
use Rattle.book_picture.specs.Values.{has_argument, takes_number, value_of_call, with_value, with_event, values_after, place_among, colour_of}

-- the operations with an argument are those that the tables have with one
pub by_table : (kind : Kind) → AllByRecursion
    (λ entry. has_argument kind entry.code ≡ takes_number entry.arity) (entries kind)
unfolding entries
by_table kinds.Queue = (refl, (refl, tt))
by_table kinds.Stack = (refl, (refl, tt))
by_table kinds.Register = (refl, (refl, tt))
by_table kinds.Counter = (refl, tt)
by_table kinds.IntSet = (refl, (refl, (refl, tt)))
by_table kinds.Pqueue = (refl, (refl, tt))
by_table kinds.CasRegister = (refl, (refl, (refl, tt)))
by_table kinds.Map = (refl, (refl, (refl, tt)))

-- the event at a place adds its value, so that the events after it lead to the same values in the
-- end
pub values_turn : (kind : Kind) (book : List Page) (values more all : List ℕ) (events : List Event)
    (i : ℕ) (d : Event) → i < length events
    → more ≡ with_event kind book values (get_or events i d)
    → values_after kind book values (drop i events) ≡ all
    → values_after kind book more (drop (i + 1) events) ≡ all
values_turn kind book values more all events i d less grown was =
    ap (λ (vs : List ℕ). values_after kind book vs (drop (i + 1) events)) grown
    ∙ (sym (at_drop_more (values_after kind book values) events i d less) ∙ was)

-- the list in memory at a place, as a list
pub named_at : (rows : List (Vec ℕ Global)) (i : ℕ) (row : Vec ℕ Global) → i < length rows
    → row ≡ get_or rows i row → get_or (numbers_in rows) i [] ≡ row.items
named_at rows i row inside is =
    let items : Vec ℕ Global → List ℕ = λ r. r.items in
    get_or-map items rows i row [] inside ∙ ap items (sym is)

-- there is no list past the end
pub named_past : (rows : List (Vec ℕ Global)) (i : ℕ) → length rows ≤ i
    → get_or (numbers_in rows) i [] ≡ []
named_past rows i past = get_or_past
    (numbers_in rows) i [] (omega (arith, length-map rows (λ (r : Vec ℕ Global). r.items), past))

-- ---- values that appear

kept_value : (values : List ℕ) (other : Option ℕ) (v : ℕ) → Contains values v
    → Contains (with_value values other) v
kept_value values None v has = has
kept_value values (Some w) v has =
    cond_both {A = List ℕ} (list_any (λ x. x == w) values) values (values ++ w ∷ [])
    (λ xs. Contains xs v) (λ _. has) (λ _. Contains-append_left values (w ∷ []) v has)

kept_event : (kind : Kind) (book : List Page) (values : List ℕ) (event : Event) (v : ℕ)
    → Contains values v → Contains (with_event kind book values event) v
kept_event kind book values (Invoke call) v has =
    kept_value values (value_of_call kind book call) v has
kept_event kind book values (Return call) v has = has

kept_after : (kind : Kind) (book : List Page) (events : List Event) (values : List ℕ) (v : ℕ)
    → Contains values v → Contains (values_after kind book values events) v
kept_after kind book [] values v has = has
kept_after kind book (event ∷ events) values v has = kept_after kind book events
    (with_event kind book values event) v (kept_event kind book values event v has)

-- the new value is among the values
added : (values : List ℕ) (v : ℕ) → Contains (with_value values (Some v)) v
added values v =
    cond_both {A = List ℕ} (list_any (λ x. x == v) values) values (values ++ v ∷ [])
    (λ xs. Contains xs v)
    (λ is.
    let found = Any-from_list_any (λ x. x == v) values is in
    let same : found.1 ≡ v = eqb-true found.1 v found.4 in
    subst (Contains values) same (found.0, found.2, found.3))
    (λ _. Contains-push values v)

appears_after : (kind : Kind) (book : List Page) (events : List Event) (values : List ℕ)
    (call : Call) (v : ℕ) (k : ℕ) → slice_get events k ≡ Some (Invoke call)
    → value_of_call kind book call ≡ Some v → Contains (values_after kind book values events) v
appears_after kind book [] values call v k at shows = absurd cc
appears_after kind book (event ∷ events) values call v zero at shows =
    let is : event ≡ Invoke call = same_Some event (Invoke call) at in
    let grown : with_event kind book values event ≡ with_value values (Some v) =
    ap (with_event kind book values) is ∙ ap (with_value values) shows in
    kept_after kind book events (with_event kind book values event) v
    (subst (λ (xs : List ℕ). Contains xs v) (sym grown) (added values v))
appears_after kind book (event ∷ events) values call v (suc k) at shows =
    appears_after kind book events (with_event kind book values event) call v k at shows

pub each_appears : (kind : Kind) (book : List Page) (events : List Event) (call : Call) (v : ℕ)
    → StandsIn events (Invoke call) → value_of_call kind book call ≡ Some v
    → Contains (values_after kind book [] events) v
each_appears kind book events call v stands shows =
    appears_after kind book events [] call v stands.0 stands.1 shows

-- ---- colours

-- The first place of a value in a list, or the list's length where the value isn't in it.
abbrev first_place : List ℕ → ℕ → ℕ
first_place values v = position_or_len (λ x. x == v) values

-- a value that appears has a first place
inside : (values : List ℕ) (v : ℕ) → Contains values v → first_place values v < length values
inside values v (k, within, is) = elim (cases_lt (first_place values v) (length values)) [
  | inl less ↦ less
  | inr past ↦ absurd (eqb-false (get_or values k v) v
      (fails_before_first (λ x. x == v) values k v (omega (arith, within, past))) is)
]

-- the place of a value has this value
there : (values : List ℕ) (v : ℕ) → first_place values v < length values
    → get_or values (first_place values v) 0 ≡ v
there values v less = eqb-true (get_or values (first_place values v) 0) v
    (passes_at_first (λ x. x == v) values 0 less)

-- the place of a value that appears is its first place
counts : (values : List ℕ) (v : ℕ) → first_place values v < length values
    → place_among values v ≡ first_place values v
counts values v less =
    ap (λ (o : Option ℕ). unwrap_or o 0) (cond-true (ltb (first_place values v) (length values))
    (Some (first_place values v)) None (lt-ltb (first_place values v) (length values) less))

same_small : (a b p q n : ℕ) → n ≤ 8 → p < n → q < n → a ≡ p → b ≡ q → a % 8 ≡ b % 8 → p ≡ q
same_small a b p q n few p_in q_in first second same =
    omega (arith, few, p_in, q_in, first, second, same)

-- few values have colours of their own
pub told_apart : (values : List ℕ) (v w : ℕ) → length values ≤ 8 → Contains values v
    → Contains values w → colour_of values (Some v) ≡ colour_of values (Some w) → v ≡ w
told_apart values v w few has_v has_w same =
    let v_in = inside values v has_v in
    let w_in = inside values w has_w in
    let colours : place_among values v % 8 ≡ place_among values w % 8 =
    same_Some (place_among values v % 8) (place_among values w % 8) same in
    let places : first_place values v ≡ first_place values w
    = same_small (place_among values v) (place_among values w) (first_place values v)
    (first_place values w) (length values) few v_in w_in (counts values v v_in)
    (counts values w w_in) colours in
    sym (there values v v_in) ∙ (ap (λ (k : ℕ). get_or values k 0) places ∙ there values w w_in)
