-- A sight that lists a book's calls, call by call.
use Rattle.std.proofs.Common.{◌≡◌, ℕ, zero, suc, ◌+◌, ◌<◌, ◌⊎◌, ◌==◌, ◌∙◌, true, false, if◌then◌else◌, length-append, List, [], ◌∷◌, ◌++◌, length, map, get_or, set, slice_get, Option, None, Some, refl, sym, ap, subst, inl, inr, arith}
use Rattle.std.specs.Option.{IfSome, is_some}
use Rattle.std.proofs.lemmas.Bool.{cases_lt, cases_Bool, cond-true, cond-false, eqb-true, eq-eqb}
use Rattle.std.proofs.lemmas.Option.{same_Some, slice_get_within}
use Rattle.book_base.specs.declared.call.Call.{Call}
use Rattle.book_base.specs.declared.call.Record.{Record}
use Rattle.search_hints.specs.declared.sight.Labelled.{Labelled}
use Rattle.search_hints.specs.declared.sight.Sight.{Sight}
use Rattle.search_hints.specs.declared.marked_callers.MarkedCallers.{MarkedCallers}
use Rattle.book_base.specs.Book.{Page, page_of, calls_of, IsCall}
use Rattle.book_base.proofs.PageLemmas.{caller_from_call}
use Rattle.book_base.proofs.ViewLemmas.{same_call}
use Rattle.legal_orders.specs.Container.{Puts, Takes, Reading}
use Rattle.legal_orders.specs.Calls.{PutsIn, TakesOut}
use Rattle.book_base.specs.Next.{next_call}
use Rattle.search_hints.specs.Marks.{IsMarked, MarksAllNext}
use Rattle.list_laws.proofs.Places.{slice_get-push_old, slice_get-push_last}
use Rattle.list_pruning.specs.LeastFirst.{IsBelowFirst, IsLeastTake, PutsLeast}
use Rattle.list_pruning.specs.Sights.{place_of, puts_at, shows_at, puts_of, shows_of, IsListed, IsReadTo, HasItsPlaces, HasPlace, HasPut, HasTake, ListsRead, ListsValues}

-- a caller's call by number
abbrev call_of : ℕ → ℕ → Call
call_of caller number = record { caller = caller; number = number }

-- one more call is read
read_cases : (i n : ℕ) (c : Call) → IsReadTo i (n + 1) c → IsReadTo i n c ⊎ (c ≡ call_of i n)
read_cases i n c (inl lt) = inl (inl lt)
read_cases i n c (inr h) = elim (cases_lt c.number n) [
  | inl lt ↦ inl (inr (h.0, lt))
  | inr le ↦ inr (same_call c (call_of i n) h.0 (omega (arith, h.1)))
]

-- once all calls of a caller are read, each call of the book of a caller up to this one is read
read_caller : (book : List Page) (i : ℕ) (c : Call) → IsCall book c → IsReadTo (i + 1) 0 c
    → IsReadTo i (calls_of book i) c
read_caller book i c is (inl lt) = elim (cases_lt c.caller i) [
  | inl less ↦ inl less
  | inr le ↦ let same : c.caller ≡ i = omega arith in
      inr (same, subst (λ (j : ℕ). c.number < calls_of book j) same is)
]
read_caller book i c is (inr h) = absurd (omega (arith, h.1))

read_none : (c : Call) → IsReadTo 0 0 c → ⊥
read_none c (inl lt) = omega (arith, lt)
read_none c (inr h) = omega (arith, h.1)

-- a call that puts in or takes out is a call of the book
call_from_put : (reading : Reading) (book : List Page) (c : Call) (v : ℕ) → PutsIn reading book c v
    → IsCall book c
call_from_put reading book c v puts =
    slice_get_within (page_of book c.caller).operations c.number puts.0 puts.1

call_from_take : (reading : Reading) (book : List Page) (c : Call) (v : ℕ)
    → TakesOut reading book c v → IsCall book c
call_from_take reading book c v takes =
    slice_get_within (page_of book c.caller).operations c.number takes.0 takes.2

-- a call puts in at most one value
puts_one : (reading : Reading) (book : List Page) (c : Call) (v w : ℕ) → PutsIn reading book c v
    → PutsIn reading book c w → v ≡ w
puts_one reading book c v w one other =
    let same : one.0 ≡ other.0 = same_Some one.0 other.0 (sym one.1 ∙ other.1) in
    let both : Puts v ≡ Puts w = sym one.2 ∙ (ap reading.deed same ∙ other.2) in
    cc

-- a call takes out at most one value
takes_one : (reading : Reading) (book : List Page) (c : Call) (v w : ℕ) → TakesOut reading book c v
    → TakesOut reading book c w → v ≡ w
takes_one reading book c v w one other =
    let same : one.1 ≡ other.1 = same_Some one.1 other.1 (sym one.3 ∙ other.3) in
    same_Some v w (sym one.5 ∙ (ap (λ (r : Record). reading.shown r.reply) same ∙ other.5))

-- a call doesn't both put in and take out
pub puts_or_takes : (reading : Reading) (book : List Page) (c : Call) (v w : ℕ)
    → PutsIn reading book c v → TakesOut reading book c w → ⊥
puts_or_takes reading book c v w puts takes =
    let same : puts.0 ≡ takes.0 = same_Some puts.0 takes.0 (sym puts.1 ∙ takes.2) in
    let both : Puts v ≡ Takes = sym puts.2 ∙ (ap reading.deed same ∙ takes.4) in
    cc

-- a sight with one more put lists all calls that are read once this put is read
pub lists_put : (reading : Reading) (book : List Page) (call : Call) (v : ℕ) (old new : Sight)
    → PutsIn reading book call v
    → ListsRead reading book call.caller call.number old → HasPut old new v call
    → ListsRead reading book call.caller (call.number + 1) new
lists_put reading book call v old new does is has = record {
  places = has.places;
  puts = λ (c : Call) (w : ℕ) read puts. elim (read_cases call.caller call.number c read) [
    | inl before ↦ has.more.puts w c (is.puts c w before puts)
    | inr this ↦
        let same : v ≡ w = puts_one reading book call v w does
        (subst (λ (x : Call). PutsIn reading book x w) this puts) in
        subst (λ (x : ℕ). IsListed (puts_of new x) c) same
        (subst (λ (x : Call). IsListed (puts_of new v) x) (sym this) has.listed)
  ];
  shows = λ (c : Call) (w : ℕ) read takes. elim (read_cases call.caller call.number c read) [
    | inl before ↦ has.more.shows w c (is.shows c w before takes)
    | inr this ↦ absurd (puts_or_takes reading book call v w does
        (subst (λ (x : Call). TakesOut reading book x w) this takes))
  ];
}

-- a sight with one more take lists all calls that are read once this take is read
pub lists_take : (reading : Reading) (book : List Page) (call : Call) (v : ℕ) (old new : Sight)
    → TakesOut reading book call v
    → ListsRead reading book call.caller call.number old → HasTake old new v call
    → ListsRead reading book call.caller (call.number + 1) new
lists_take reading book call v old new does is has = record {
  places = has.places;
  puts = λ (c : Call) (w : ℕ) read puts. elim (read_cases call.caller call.number c read) [
    | inl before ↦ has.more.puts w c (is.puts c w before puts)
    | inr this ↦ absurd (puts_or_takes reading book call w v
        (subst (λ (x : Call). PutsIn reading book x w) this puts) does)
  ];
  shows = λ (c : Call) (w : ℕ) read takes. elim (read_cases call.caller call.number c read) [
    | inl before ↦ has.more.shows w c (is.shows c w before takes)
    | inr this ↦
        let same : v ≡ w = takes_one reading book call v w does
        (subst (λ (x : Call). TakesOut reading book x w) this takes) in
        subst (λ (x : ℕ). IsListed (shows_of new x) c) same
        (subst (λ (x : Call). IsListed (shows_of new v) x) (sym this) has.listed)
  ];
}

-- a call that is neither a put nor a take adds nothing to what is listed
pub lists_neither : (reading : Reading) (book : List Page) (call : Call) (sight : Sight)
    → ((v : ℕ) → PutsIn reading book call v → ⊥)
    → ((v : ℕ) → TakesOut reading book call v → ⊥)
    → ListsRead reading book call.caller call.number sight
    → ListsRead reading book call.caller (call.number + 1) sight
lists_neither reading book call sight no_put no_take is = record {
  places = is.places;
  puts = λ (c : Call) (w : ℕ) read puts. elim (read_cases call.caller call.number c read) [
    | inl before ↦ is.puts c w before puts
    | inr this ↦ absurd (no_put w (subst (λ (x : Call). PutsIn reading book x w) this puts))
  ];
  shows = λ (c : Call) (w : ℕ) read takes. elim (read_cases call.caller call.number c read) [
    | inl before ↦ is.shows c w before takes
    | inr this ↦ absurd (no_take w (subst (λ (x : Call). TakesOut reading book x w) this takes))
  ];
}

-- Once all calls of a caller are read, the sight lists all calls of the callers up to this one.
pub lists_caller : (reading : Reading) (book : List Page) (caller number : ℕ) (sight : Sight)
    → number ≡ calls_of book caller → ListsRead reading book caller number sight
    → ListsRead reading book (caller + 1) 0 sight
lists_caller reading book caller number sight all is =
    let before : ListsRead reading book caller (calls_of book caller) sight =
    subst (λ (n : ℕ). ListsRead reading book caller n sight) all is in
    record {
      places = before.places;
      puts = λ (c : Call) (w : ℕ) read puts. before.puts c w
          (read_caller book caller c (call_from_put reading book c w puts) read) puts;
      shows = λ (c : Call) (w : ℕ) read takes. before.shows c w
          (read_caller book caller c (call_from_take reading book c w takes) read) takes;
    }

-- At the start, when no call is read, a sight lists all that was read.
pub lists_none : (reading : Reading) (book : List Page) (sight : Sight) → HasItsPlaces sight
    → ListsRead reading book 0 0 sight
lists_none reading book sight places = record {
  places = places;
  puts = λ (c : Call) (w : ℕ) read puts. absurd (read_none c read);
  shows = λ (c : Call) (w : ℕ) read takes. absurd (read_none c read);
}

-- The sight lists all calls of the book once all are read.
pub lists_all : (reading : Reading) (book : List Page) (callers : ℕ) (sight : Sight) → callers
    ≡ length book → ListsRead reading book callers 0 sight → ListsValues reading book sight
lists_all reading book callers sight all is = record {
  puts = λ (c : Call) (v : ℕ) puts.
      let inside : c.caller < length book =
      caller_from_call book c.caller c.number (call_from_put reading book c v puts) in
      is.puts c v (inl (omega (arith, inside, all))) puts;
  takes = λ (c : Call) (v : ℕ) takes.
      let inside : c.caller < length book =
      caller_from_call book c.caller c.number (call_from_take reading book c v takes) in
      is.shows c v (inl (omega (arith, inside, all))) takes;
}

-- two calls of a list of one call are equal
pub one_listed : (calls : List Call) (a b : Call) → length calls ≡ 1 → IsListed calls a
    → IsListed calls b → a ≡ b
one_listed calls a b one at_a at_b =
    let same : at_a.0 ≡ at_b.0 = omega
    (arith, one, slice_get_within calls at_a.0 a at_a.1, slice_get_within calls at_b.0 b at_b.1) in
    same_Some a b (sym at_a.1 ∙ (ap (slice_get calls) same ∙ at_b.1))

-- ---- places

-- one more place at the end doesn't change the calls at a place before it
at_pushed : (f : Labelled → List Call) (xs : List Labelled) (new : Labelled) (k : ℕ) → k < length xs
    → get_or (map f xs) k [] ≡ get_or (map f (xs ++ new ∷ [])) k []
at_pushed f [] new k inside = absurd (omega (arith, inside))
at_pushed f (x ∷ xs) new zero inside = refl
at_pushed f (x ∷ xs) new (suc k) inside = at_pushed f xs new k (omega (arith, inside))

-- calls that are listed at a place stay so where some place is replaced by one that lists all its
-- calls
listed_set : (f : Labelled → List Call) (xs : List Labelled) (i : ℕ) (new : Labelled) (k : ℕ)
    (c : Call) → (IsListed (get_or (map f xs) i []) c → IsListed (f new) c)
    → IsListed (get_or (map f xs) k []) c → IsListed (get_or (map f (set xs i new)) k []) c
listed_set f [] i new k c more is = is
listed_set f (x ∷ xs) zero new zero c more is = more is
listed_set f (x ∷ xs) zero new (suc k) c more is = is
listed_set f (x ∷ xs) (suc i) new zero c more is = is
listed_set f (x ∷ xs) (suc i) new (suc k) c more is = listed_set f xs i new k c more is

at_set : (f : Labelled → List Call) (xs : List Labelled) (i : ℕ) (new : Labelled) → i < length xs
    → f new ≡ get_or (map f (set xs i new)) i []
at_set f [] i new inside = absurd (omega (arith, inside))
at_set f (x ∷ xs) zero new inside = refl
at_set f (x ∷ xs) (suc i) new inside = at_set f xs i new (omega (arith, inside))

at_is : (f : Labelled → List Call) (xs : List Labelled) (i : ℕ) (old : Labelled) → i < length xs
    → old ≡ get_or xs i old → get_or (map f xs) i [] ≡ f old
at_is f [] i old inside is = absurd (omega (arith, inside))
at_is f (x ∷ xs) zero old inside is = ap f (sym is)
at_is f (x ∷ xs) (suc i) old inside is = at_is f xs i old (omega (arith, inside)) is

length-set_ : (xs : List Labelled) (i : ℕ) (new : Labelled) → length (set xs i new) ≡ length xs
length-set_ [] i new = refl
length-set_ (x ∷ xs) zero new = refl
length-set_ (x ∷ xs) (suc i) new = ap suc (length-set_ xs i new)

-- nothing is listed in an empty list
none_listed : (c : Call) → IsListed [] c → ⊥
none_listed c listed = omega (arith, slice_get_within {A = Call} [] listed.0 c listed.1)

-- the calls that are listed at a place stay listed where a new place is added after it
listed_on : (f : Labelled → List Call) (at : Option ℕ → List Call) (xs : List Labelled)
    (new : Labelled) (at_new : Option ℕ → List Call) (o : Option ℕ) (c : Call)
    → ((k : ℕ) → at (Some k) ≡ get_or (map f xs) k [])
    → ((k : ℕ) → at_new (Some k) ≡ get_or (map f (xs ++ new ∷ [])) k []) → at None ≡ []
    → ((k : ℕ) → o ≡ Some k → k < length xs) → IsListed (at o) c → IsListed (at_new o) c
listed_on f at xs new at_new None c old some none inside is =
    absurd (none_listed c (subst (λ (l : List Call). IsListed l c) none is))
listed_on f at xs new at_new (Some k) c old some none inside is =
    subst (λ (l : List Call). IsListed l c)
    (old k ∙ (at_pushed f xs new k (inside k refl) ∙ sym (some k))) is

abbrev puts_in : Labelled → List Call
puts_in l = l.puts.items

abbrev shows_in : Labelled → List Call
shows_in l = l.shows.items

same_number : (v : ℕ) → (v == v) ≡ false → ⊥
same_number v fails = let holds : (v == v) ≡ true = eq-eqb v v refl in cc

-- A sight with a new place for a value that had none has a place for it, and lists all that it did.
pub has_place : (old new : Sight) (v place : ℕ) (l : Labelled) → HasItsPlaces old
    → place_of old v ≡ None → place ≡ length old.labelled.items
    → new.labelled.items ≡ old.labelled.items ++ l ∷ []
    → ((w : ℕ) → place_of new w ≡ (if w == v then Some place else place_of old w))
    → HasPlace old new v place
has_place old new v place l places none size items at =
    let this : (w : ℕ) → (w == v) ≡ true → place_of new w ≡ Some place =
    λ (w : ℕ) (e : (w == v) ≡ true). at w ∙ cond-true (w == v) (Some place) (place_of old w) e in
    let longer : length new.labelled.items ≡ length old.labelled.items + 1 =
    ap length items ∙ omega (arith, length-append old.labelled.items (l ∷ [])) in
    let cases : (w : ℕ) → ((w ≡ v) × (place_of new w ≡ Some place))
    ⊎ (place_of new w ≡ place_of old w) = λ (w : ℕ). elim (cases_Bool (w == v)) [
      | inl same ↦ inl (eqb-true w v same, this w same)
      | inr apart ↦ inr (at w ∙ cond-false (w == v) (Some place) (place_of old w) apart)
    ] in
    record {
      places = λ (w k : ℕ) (e : place_of new w ≡ Some k). elim (cases w) [
        | inl same ↦ omega (arith, size, longer, same_Some place k (sym same.1 ∙ e))
        | inr kept ↦ let below : k < length old.labelled.items = places w k (sym kept ∙ e) in
            omega (arith, below, longer)
      ];
      more = record {
        puts = λ (w : ℕ) (c : Call) listed. elim (cases w) [
          | inl same ↦ absurd (none_listed c (subst (λ (o : Option ℕ). IsListed (puts_at old o) c)
              (ap (place_of old) same.0 ∙ none) listed))
          | inr kept ↦
              subst (λ (o : Option ℕ). IsListed (puts_at new o) c) (sym kept)
              (listed_on puts_in (puts_at old) old.labelled.items l (puts_at new) (place_of old w) c
              (λ k. refl) (λ k. ap (λ xs. get_or (map puts_in xs) k []) items) refl
              (λ k e. places w k e) listed)
        ];
        shows = λ (w : ℕ) (c : Call) listed. elim (cases w) [
          | inl same ↦ absurd (none_listed c (subst (λ (o : Option ℕ). IsListed (shows_at old o) c)
              (ap (place_of old) same.0 ∙ none) listed))
          | inr kept ↦
              subst (λ (o : Option ℕ). IsListed (shows_at new o) c) (sym kept)
              (listed_on shows_in (shows_at old) old.labelled.items l (shows_at new)
              (place_of old w) c (λ k. refl)
              (λ k. ap (λ xs. get_or (map shows_in xs) k []) items) refl
              (λ k e. places w k e) listed)
        ];
      };
      place = elim (cases v) [
        | inl same ↦ same.1
        | inr kept ↦ elim (cases_Bool (v == v)) [
          | inl holds ↦ this v holds
          | inr fails ↦ absurd (same_number v fails)
        ]
      ];
    }

-- calls that are listed for a value stay so where some place is replaced by one that lists all its
-- calls
listed_kept : (f : Labelled → List Call) (at at_new : Option ℕ → List Call) (xs : List Labelled)
    (place : ℕ) (new : Labelled) (o : Option ℕ) (c : Call)
    → ((k : ℕ) → at (Some k) ≡ get_or (map f xs) k [])
    → ((k : ℕ) → at_new (Some k) ≡ get_or (map f (set xs place new)) k []) → at None ≡ []
    → (IsListed (get_or (map f xs) place []) c → IsListed (f new) c) → IsListed (at o) c
    → IsListed (at_new o) c
listed_kept f at at_new xs place new None c old some none more is =
    absurd (none_listed c (subst (λ (l : List Call). IsListed l c) none is))
listed_kept f at at_new xs place new (Some k) c old some none more is =
    subst (λ (l : List Call). IsListed l c) (sym (some k))
    (listed_set f xs place new k c more (subst (λ (l : List Call). IsListed l c) (old k) is))

-- A sight with one more put at a value's place lists one more put of the value.
pub has_put : (old mid new : Sight) (v place : ℕ) (call : Call) (was now : Labelled)
    → HasPlace old mid v place → was ≡ get_or mid.labelled.items place was
    → ((w : ℕ) → place_of new w ≡ place_of mid w) → new.labelled.items
    ≡ set mid.labelled.items place now → now.puts.items ≡ was.puts.items ++ call ∷ []
    → now.shows.items ≡ was.shows.items → HasPut old new v call
has_put old mid new v place call was now is there same items puts shows =
    let inside : place < length mid.labelled.items = is.places v place is.place in
    record {
      places = λ (w k : ℕ) (e : place_of new w ≡ Some k).
          let below : k < length mid.labelled.items = is.places w k (sym (same w) ∙ e) in
          omega (arith, below, ap length items, length-set_ mid.labelled.items place now);
      more = record {
        puts = λ (w : ℕ) (c : Call) listed.
            subst (λ (o : Option ℕ). IsListed (puts_at new o) c) (sym (same w))
            (listed_kept puts_in (puts_at mid) (puts_at new) mid.labelled.items place now
            (place_of mid w) c (λ k. refl) (λ k. ap (λ xs. get_or (map puts_in xs) k []) items) refl
            (λ at. let old_at : IsListed was.puts.items c = subst (λ (l : List Call). IsListed l c)
            (at_is puts_in mid.labelled.items place was inside there) at in
            subst (λ (l : List Call). IsListed l c) (sym puts)
            (old_at.0, slice_get-push_old was.puts.items call old_at.0 c old_at.1))
            (is.more.puts w c listed));
        shows = λ (w : ℕ) (c : Call) listed.
            subst (λ (o : Option ℕ). IsListed (shows_at new o) c) (sym (same w))
            (listed_kept shows_in (shows_at mid) (shows_at new) mid.labelled.items place now
            (place_of mid w) c (λ k. refl)
            (λ k. ap (λ xs. get_or (map shows_in xs) k []) items) refl
            (λ at. subst (λ (l : List Call). IsListed l c)
            (at_is shows_in mid.labelled.items place was inside there ∙ sym shows) at)
            (is.more.shows w c listed));
      };
      listed =
          let at : puts_of new v ≡ now.puts.items
          = ap (puts_at new) (same v ∙ is.place)
          ∙ (ap (λ xs. get_or (map puts_in xs) place []) items
          ∙ sym (at_set puts_in mid.labelled.items place now inside)) in
          subst (λ (l : List Call). IsListed l call) (sym (at ∙ puts))
          (length was.puts.items, slice_get-push_last was.puts.items call);
    }

-- A sight with one more take at a value's place lists one more take of the value.
pub has_take : (old mid new : Sight) (v place : ℕ) (call : Call) (was now : Labelled)
    → HasPlace old mid v place → was ≡ get_or mid.labelled.items place was
    → ((w : ℕ) → place_of new w ≡ place_of mid w)
    → new.labelled.items ≡ set mid.labelled.items place now → now.puts.items ≡ was.puts.items
    → now.shows.items ≡ was.shows.items ++ call ∷ [] → HasTake old new v call
has_take old mid new v place call was now is there same items puts shows =
    let inside : place < length mid.labelled.items = is.places v place is.place in
    record {
      places = λ (w k : ℕ) (e : place_of new w ≡ Some k).
          let below : k < length mid.labelled.items = is.places w k (sym (same w) ∙ e) in
          omega (arith, below, ap length items, length-set_ mid.labelled.items place now);
      more = record {
        puts = λ (w : ℕ) (c : Call) listed.
            subst (λ (o : Option ℕ). IsListed (puts_at new o) c) (sym (same w))
            (listed_kept puts_in (puts_at mid) (puts_at new) mid.labelled.items place now
            (place_of mid w) c (λ k. refl) (λ k. ap (λ xs. get_or (map puts_in xs) k []) items) refl
            (λ at. subst (λ (l : List Call). IsListed l c)
            (at_is puts_in mid.labelled.items place was inside there ∙ sym puts) at)
            (is.more.puts w c listed));
        shows = λ (w : ℕ) (c : Call) listed.
            subst (λ (o : Option ℕ). IsListed (shows_at new o) c) (sym (same w))
            (listed_kept shows_in (shows_at mid) (shows_at new) mid.labelled.items place now
            (place_of mid w) c (λ k. refl)
            (λ k. ap (λ xs. get_or (map shows_in xs) k []) items) refl
            (λ at. let old_at : IsListed was.shows.items c = subst (λ (l : List Call). IsListed l c)
            (at_is shows_in mid.labelled.items place was inside there) at in
            subst (λ (l : List Call). IsListed l c) (sym shows)
            (old_at.0, slice_get-push_old was.shows.items call old_at.0 c old_at.1))
            (is.more.shows w c listed));
      };
      listed =
          let at : shows_of new v ≡ now.shows.items
          = ap (shows_at new) (same v ∙ is.place)
          ∙ (ap (λ xs. get_or (map shows_in xs) place []) items
          ∙ sym (at_set shows_in mid.labelled.items place now inside)) in
          subst (λ (l : List Call). IsListed l call) (sym (at ∙ shows))
          (length was.shows.items, slice_get-push_last was.shows.items call);
    }

-- `PutsLeast` holds of a caller where its next call is the only one that puts in some value less
-- than all items, and the take of this value with the least view may come next.
pub puts_least : (reading : Reading) (book : List Page) (cut list : List ℕ) (sight : Sight)
    (marks : MarkedCallers) (caller v : ℕ) (taker : Option ℕ) → ListsValues reading book sight
    → MarksAllNext book cut marks → PutsIn reading book (next_call cut caller) v
    → IsBelowFirst v list → length (puts_of sight v) ≡ 1 → is_some taker ≡ true
    → IfSome taker (IsMarked marks)
    → IfSome taker (λ i. IsLeastTake reading book cut v (next_call cut i))
    → PutsLeast reading book cut list caller
puts_least reading book cut list sight marks caller v None lists all puts below one some marked
    takes = absurd cc
puts_least reading book cut list sight marks caller v
    (Some i) lists all puts below one some marked takes = record {
      value = v;
      taker = i;
      alone = (
        puts,
        λ (other : Call) (also : PutsIn reading book other v).
            one_listed (puts_of sight v) other (next_call cut caller) one (lists.puts other v also)
            (lists.puts (next_call cut caller) v puts),
      );
      below = below;
      may_come = (all i).0 marked;
      takes = takes;
    }
