-- Which places of an order still follow one another: in a book that grows, with more places, and up
-- to a mark.
use Rattle.std.proofs.Common.{◌≡◌, ℕ, zero, suc, ◌+◌, ◌-◌, ◌<◌, ◌≤◌, ◌∙◌, List, [], ◌∷◌, ◌++◌, length, get_or, sum, take, drop, map, replicate, Some, refl, sym, ap, subst, inl, inr, arith}
use Rattle.std.specs.List.{remove}
use Rattle.std.specs.Option.{unwrap_or}
use Rattle.std.proofs.lemmas.Bool.{cases_eq, cases_lt}
use Rattle.std.proofs.lemmas.List.{append-nil, append_assoc, length-append, length-map, length-replicate, length-set, take-append-drop, take-append-le, take_all, take-take}
use Rattle.std.proofs.lemmas.Option.{same_Some, slice_get_within, slice_get-get_or}
use Rattle.book_base.specs.declared.call.Call.{Call}
use Rattle.book_base.specs.declared.call.Place.{Place}
use Rattle.book_base.specs.declared.call.Record.{Record}
use Rattle.book_base.specs.SeqSpec.{SeqSpec}
use Rattle.book_base.specs.Book.{Page, page_of, calls_of, answered, record_of, operation_of, IsCall, IsValid, IsSmall}
use Rattle.book_base.specs.Order.{call_at, step_at}
use Rattle.book_base.specs.Reaching.{list_after_run, Reaches}
use Rattle.book_base.specs.Next.{raised, list_after}
use Rattle.book_base.proofs.PageLemmas.{caller_from_call, caller_from_answer}
use Rattle.book_base.proofs.ViewLemmas.{answer_stands, answered_at}
use Rattle.legal_orders.proofs.LegalOrder.{raised_same, raised_other}
use Rattle.frontier_check.specs.declared.prefix.Prefix.{Prefix}
use Rattle.frontier_check.specs.declared.kept_order.OrderMark.{OrderMark}
use Rattle.frontier_check.specs.declared.kept_order.KeptOrder.{KeptOrder}
use Rattle.frontier_check.specs.Prefix.{no_calls, IsBookCapacity, Follow, IsPut}
use Rattle.frontier_check.specs.Standing.{HasGrown, IsQuiet, IsMark, AreMarks, IsStandingFor, IsAsWide, StillStands, IsMarkAtEnd, AddsMarks}
use Rattle.frontier_check.proofs.Following.{stands-fit}

-- ---- books that grow

grown_here : (book : List Page) → HasGrown book book
grown_here book = record { callers = refl; operations = λ call op e. e; records = λ call r e. e }

grown_on : (a b c : List Page) → HasGrown a b → HasGrown b c → HasGrown a c
grown_on a b c one two = record {
  callers = two.callers ∙ one.callers;
  operations = λ call op e. two.operations call op (one.operations call op e);
  records = λ call r e. two.records call r (one.records call r e);
}

module _ (a b : List Page) (grown : HasGrown a b) where
  -- the operation of a call is the one on its caller's page
  op_of : (call : Call) → IsCall a call
      → operation_of a call ≡ Some (get_or (page_of a call.caller).operations call.number 0)
  op_of call there = slice_get-get_or (page_of a call.caller).operations call.number 0 there

  call_stays : (call : Call) → IsCall a call → IsCall b call
  call_stays call there =
      slice_get_within (page_of b call.caller).operations call.number
      (get_or (page_of a call.caller).operations call.number 0)
      (grown.operations call (get_or (page_of a call.caller).operations call.number 0)
      (op_of call there))

  calls_rise : (i : ℕ) → calls_of a i ≤ calls_of b i
  calls_rise i =
      elim (cases_lt 0 (calls_of a i)) [
        | inl some ↦
            let call : Call = record { caller = i; number = calls_of a i - 1 } in
            let there : IsCall a call = omega (arith, some) in
            omega (arith, some, call_stays call there)
        | inr none ↦ omega (arith, none)
      ]

  step_stays : (place : Place) → IsCall a (call_at place) → step_at a place ≡ step_at b place
  step_stays place there =
      let op = get_or (page_of a place.caller).operations place.number 0 in
      ap (λ o. (unwrap_or o 0, place.reply)) (op_of (call_at place) there
      ∙ sym (grown.operations (call_at place) op (op_of (call_at place) there)))

-- places that follow one another lead to a cut with no lesser count than the cut where they begin
follow_rises : (book : List Page) (next : List ℕ → ℕ → List ℕ × ℕ) (cut list : List ℕ)
    (places : List Place) (to_cut to_list : List ℕ) → length book ≤ length cut
    → Follow book next cut list places to_cut to_list → (i : ℕ) → get_or cut i 0 ≤ get_or to_cut i 0
follow_rises book next cut list [] to_cut to_list wide (same_cut, same_list) i =
    omega (arith, ap (λ (c : List ℕ). get_or c i 0) same_cut)
follow_rises book next cut list (place ∷ places) to_cut to_list wide (is, reply, later) i =
    let there : place.caller < length book =
    caller_from_call book place.caller place.number is.is_call in
    let inside : place.caller < length cut = omega (arith, there, wide) in
    let longer = length-set cut place.caller (get_or cut place.caller 0 + 1) in
    let on = follow_rises book next (raised cut place.caller)
    (list_after book next list place) places to_cut to_list (omega (arith, longer, wide)) later i in
    elim (cases_eq i place.caller) [
      | inl same ↦
          omega (
            arith,
            on,
            ap (λ (j : ℕ). get_or (raised cut place.caller) j 0) same,
            raised_same cut place.caller inside,
            ap (λ (j : ℕ). get_or cut j 0) same,
          )
      | inr other ↦ omega (arith, on, raised_other cut place.caller i other)
    ]

-- Each call of a cut with a record in the new book has that record in the old book: no call of the
-- cut was answered while the book grew.
abbrev NoneAnswered : List Page → List Page → List ℕ → Type 0
NoneAnswered a b cut = (call : Call) (r : Record) → call.number < get_or cut call.caller 0
    → record_of b call ≡ Some r → record_of a call ≡ Some r

none_answered : (a b : List Page) (cut before : List ℕ) → HasGrown a b → before ≡ answered a
    → IsQuiet cut before b → NoneAnswered a b cut
none_answered a b cut before grown records quiet call r held e =
    let made = slice_get_within (page_of b call.caller).records call.number r e in
    let low = caller_from_answer b call.caller call.number made in
    let known : get_or before call.caller 0 ≡ length (page_of a call.caller).records =
    ap (λ (c : List ℕ). get_or c call.caller 0) records ∙ answered_at a call.caller in
    let early : call.number < length (page_of a call.caller).records =
    elim (quiet call.caller low) [
      | inl few ↦ omega (arith, held, few, known)
      | inr few ↦ omega (arith, made, few, known)
    ] in
    let there = answer_stands a call early in
    subst (λ (x : Record). record_of a call ≡ Some x)
    (same_Some there.0 r (sym (grown.records call there.0 there.1) ∙ e)) there.1

module _ (a b : List Page) (next : List ℕ → ℕ → List ℕ × ℕ) (grown : HasGrown a b) (end : List ℕ)
    (none : NoneAnswered a b end) where
  -- places that follow one another in the old book up to a cut none of whose calls was answered
  -- since do so in the new book
  follow_stays : (cut list : List ℕ) (places : List Place) (to_list : List ℕ)
      → length a ≤ length cut
      → Follow a next cut list places end to_list → Follow b next cut list places end to_list
  follow_stays cut list [] to_list wide same = same
  follow_stays cut list (place ∷ places) to_list wide (is, reply, later) =
      let there : place.caller < length a =
      caller_from_call a place.caller place.number is.is_call in
      let inside : place.caller < length cut = omega (arith, there, wide) in
      let longer = length-set cut place.caller (get_or cut place.caller 0 + 1) in
      let same : step_at a place ≡ step_at b place = step_stays a b grown place is.is_call in
      let rises = follow_rises a next (raised cut place.caller) (list_after a next list place)
      places end to_list (omega (arith, longer, wide)) later place.caller in
      let held : place.number < get_or end place.caller 0 =
      omega (arith, is.next, raised_same cut place.caller inside, rises) in
      let on = follow_stays (raised cut place.caller) (list_after a next list place) places to_list
      (omega (arith, longer, wide)) later in (
        record {
          is_call = call_stays a b grown (call_at place) is.is_call;
          next = is.next;
          recorded = λ r e. is.recorded r (none (call_at place) r held e);
        },
        subst (λ (s : ℕ × ℕ). (next list s.0).1 ≡ place.reply) same reply,
        subst (λ (s : ℕ × ℕ).
            Follow b next (raised cut place.caller) (next list s.0).0 places end to_list) same on,
      )

  steps_stay : (cut list : List ℕ) (places : List Place) (to_list : List ℕ)
      → Follow a next cut list places end to_list → map (step_at a) places ≡ map (step_at b) places
  steps_stay cut list [] to_list same = refl
  steps_stay cut list (place ∷ places) to_list (is, reply, later) =
      let same = step_stays a b grown place is.is_call in
      let on =
      steps_stay (raised cut place.caller) (list_after a next list place) places to_list later in
      λ i. same i ∷ on i

-- A prefix that is put in a book is put in a valid and small one that has grown from it, where no
-- call of its cut was answered since; and so is a prefix with equal places, cut and list.
put_stays : (spec : SeqSpec) (a b : List Page) (old new : Prefix) → HasGrown a b
    → NoneAnswered a b old.cut → IsValid b → IsSmall b → IsPut spec a old → new.places.items
    ≡ old.places.items → new.cut ≡ old.cut → new.here.words ≡ old.here.words → IsPut spec b new
put_stays spec a b old new grown none valid small put places cut list =
    let s = put.stands in
    let steps = steps_stay a b spec.next grown old.cut none
    (no_calls a) spec.init old.places.items old.here.words put.follow in
    let long : length (no_calls a) ≡ length a = length-replicate (length a) 0 in
    let follow : Follow b spec.next (no_calls b) spec.init old.places.items old.cut old.here.words =
    subst (λ (n : ℕ).
    Follow b spec.next (replicate n 0) spec.init old.places.items old.cut old.here.words)
    (sym grown.callers)
    (follow_stays a b spec.next grown old.cut none
    (no_calls a) spec.init old.places.items old.here.words
    (omega (arith, long)) put.follow) in
    let reaches : Reaches spec b old.places.items old.cut old.here.words = record {
      holds = s.reaches.holds;
      held = s.reaches.held;
      reached =
          ap (λ (ss : List (ℕ × ℕ)). list_after_run spec.next spec.init ss) (sym steps)
          ∙ s.reaches.reached;
    } in
    record {
      stands = record {
        valid = valid;
        small = small;
        wide = ap (λ (c : List ℕ). length c) cut ∙ (s.wide ∙ sym grown.callers);
        within = λ (i : ℕ). omega
            (arith, ap (λ (c : List ℕ). get_or c i 0) cut, s.within i, calls_rise a b grown i);
        calls = omega (
          arith,
          s.calls,
          ap (λ (order : List Place). length order) places,
          ap (λ (c : List ℕ). sum c) cut,
        );
        reaches = subst (λ (order : List Place). Reaches spec b order new.cut new.here.words)
            (sym places)
            (subst (λ (c : List ℕ). Reaches spec b old.places.items c new.here.words) (sym cut)
            (subst (λ (l : List ℕ). Reaches spec b old.places.items old.cut l)
            (sym list) reaches));
      };
      follow = subst
          (λ (order : List Place).
          Follow b spec.next (no_calls b) spec.init order new.cut new.here.words)
          (sym places)
          (subst (λ (c : List ℕ).
          Follow b spec.next (no_calls b) spec.init old.places.items c new.here.words)
          (sym cut)
          (subst
          (λ (l : List ℕ). Follow b spec.next (no_calls b) spec.init old.places.items old.cut l)
          (sym list) follow));
    }

-- ---- marks

module _ (spec : SeqSpec) where
  mark_stays : (a b : List Page) (order : List Place) (m : OrderMark) → HasGrown a b
      → IsMark spec a order m → IsMark spec b order m
  mark_stays a b order m grown is = record {
    earlier = is.earlier;
    grown = grown_on is.earlier a b is.grown grown;
    records = is.records;
    prefix = is.prefix;
    rest = is.rest;
    begins = is.begins;
    len = is.len;
    cut = is.cut;
    words = is.words;
    put = is.put;
  }

  mark_of : (book : List Page) (order other rest : List Place) (m : OrderMark)
      (is : IsMark spec book order m) → other ≡ is.prefix.places.items ++ rest
      → IsMark spec book other m
  mark_of book order other rest m is begins = record {
    earlier = is.earlier;
    grown = is.grown;
    records = is.records;
    prefix = is.prefix;
    rest = rest;
    begins = begins;
    len = is.len;
    cut = is.cut;
    words = is.words;
    put = is.put;
  }

  mark_longer : (book : List Page) (order more : List Place) (m : OrderMark)
      → IsMark spec book order m → IsMark spec book (order ++ more) m
  mark_longer book order more m is =
      mark_of book order (order ++ more) (is.rest ++ more) m is
      (ap (λ (o : List Place). o ++ more) is.begins
      ∙ append_assoc is.prefix.places.items is.rest more)

  mark_shorter : (book : List Page) (order : List Place) (n : ℕ) (m : OrderMark) → m.len ≤ n
      → IsMark spec book order m → IsMark spec book (take n order) m
  mark_shorter book order n m low is =
      let first = is.prefix.places.items in
      let len = length first in
      let within : len ≤ n = omega (arith, low, is.len) in
      let same : take len (take n order) ≡ first =
      take-take len n order within ∙ (ap (λ (o : List Place). take len o) is.begins
      ∙ (take-append-le len first is.rest (omega arith) ∙ take_all len first (omega arith))) in
      mark_of book order (take n order) (drop len (take n order)) m is
      (sym (take-append-drop len (take n order))
      ∙ ap (λ (o : List Place). o ++ drop len (take n order)) same)

  mark_low : (book : List Page) (order : List Place) (m : OrderMark) → IsMark spec book order m
      → m.len ≤ length order
  mark_low book order m is = omega (
    arith,
    is.len,
    ap (λ (o : List Place). length o) is.begins,
    length-append is.prefix.places.items is.rest,
  )

  mark_wide : (book : List Page) (order : List Place) (m : OrderMark) → IsMark spec book order m
      → IsAsWide book m
  mark_wide book order m is = (
    ap (λ (c : List ℕ). length c) (sym is.cut) ∙ (is.put.stands.wide ∙ sym is.grown.callers),
    ap (λ (c : List ℕ). length c) is.records
        ∙ (length-map is.earlier (λ (p : Page). length p.records) ∙ sym is.grown.callers),
  )

  mark_fits : (book : List Page) (order : List Place) (m : OrderMark) → IsMark spec book order m
      → (capacity : ℕ) → IsBookCapacity spec capacity → length m.words.items ≤ capacity
  mark_fits book order m is capacity big = omega (
    arith,
    ap (λ (l : List ℕ). length l) is.words,
    stands-fit spec is.earlier is.prefix is.put.stands capacity big,
  )

  -- a mark at the end of a prefix that is put is a mark of its places
  mark_here : (book : List Page) (prefix : Prefix) (m : OrderMark) → IsPut spec book prefix
      → IsMarkAtEnd prefix (answered book) m → IsMark spec book prefix.places.items m
  mark_here book prefix m put e = record {
    earlier = book;
    grown = grown_here book;
    records = e.answered;
    prefix = prefix;
    rest = [];
    begins = sym (append-nil prefix.places.items);
    len = e.len;
    cut = sym e.cut;
    words = sym e.words;
    put = put;
  }

  pub marks_stay : (a b : List Page) (order : List Place) (least : ℕ) (ms : List OrderMark)
      → HasGrown a b → AreMarks spec a order least ms → AreMarks spec b order least ms
  marks_stay a b order least [] grown h = tt
  marks_stay a b order least (m ∷ ms) grown (low, is, later) =
      (low, mark_stays a b order m grown is, marks_stay a b order m.len ms grown later)

  -- The marks of a kept order stay marks of it in a book that has grown.
  pub standing_stays : (a b : List Page) (s : KeptOrder) → HasGrown a b → IsStandingFor spec a s
      → IsStandingFor spec b s
  standing_stays a b s grown h = marks_stay a b s.order.items 0 s.marks.items grown h

  -- The marks of an order are marks of a longer order that begins with it.
  pub marks_longer : (book : List Page) (order more : List Place) (least : ℕ) (ms : List OrderMark)
      → AreMarks spec book order least ms → AreMarks spec book (order ++ more) least ms
  marks_longer book order more least [] h = tt
  marks_longer book order more least (m ∷ ms) (low, is, later) =
      (low, mark_longer book order more m is, marks_longer book order more m.len ms later)

  marks_more : (book : List Page) (order : List Place) (least : ℕ) (ms : List OrderMark)
      (m : OrderMark) → IsMark spec book order m → m.len ≡ length order → least ≤ length order
      → AreMarks spec book order least ms → AreMarks spec book order least (ms ++ m ∷ [])
  marks_more book order least [] m is here low h = (omega (arith, here, low), is, tt)
  marks_more book order least (x ∷ ms) m is here low (le, first, later) =
      (le, first, marks_more book order x.len ms m is here (mark_low book order x first) later)

  -- The marks of a prefix that is put, and then one at its end, are marks of its places.
  pub marks_push : (book : List Page) (prefix : Prefix) (ms : List OrderMark) (m : OrderMark)
      → IsPut spec book prefix → IsMarkAtEnd prefix (answered book) m
      → AreMarks spec book prefix.places.items 0 ms
      → AreMarks spec book prefix.places.items 0 (ms ++ m ∷ [])
  marks_push book prefix ms m put e h = marks_more book prefix.places.items 0 ms m
      (mark_here book prefix m put e) e.len (omega arith) h

  marks_at : (book : List Page) (order : List Place) (least : ℕ) (ms : List OrderMark) (k : ℕ)
      (m : OrderMark) → k < length ms → m ≡ get_or ms k m → AreMarks spec book order least ms
      → (least ≤ m.len) × IsMark spec book order m
  marks_at book order least [] k m low is h = absurd (omega (arith, low))
  marks_at book order least (x ∷ ms) zero m low is (le, first, later) = (
    omega (arith, le, ap (λ (y : OrderMark). y.len) is),
    subst (λ (y : OrderMark). IsMark spec book order y) (sym is) first,
  )
  marks_at book order least (x ∷ ms) (suc k) m low is (le, first, later) =
      let found = marks_at book order x.len ms k m (omega (arith, low)) is later in
      (omega (arith, le, found.0), found.1)

  marks_cut : (book : List Page) (order : List Place) (least : ℕ) (ms : List OrderMark) (k : ℕ)
      (m : OrderMark) → k < length ms → m ≡ get_or ms k m → AreMarks spec book order least ms
      → AreMarks spec book (take m.len order) least (take (suc k) ms)
  marks_cut book order least [] k m low is h = absurd (omega (arith, low))
  marks_cut book order least (x ∷ ms) zero m low is (le, first, later) = (
    le,
    mark_shorter book order m.len x (omega (arith, ap (λ (y : OrderMark). y.len) is)) first,
    tt,
  )
  marks_cut book order least (x ∷ ms) (suc k) m low is (le, first, later) =
      let found = marks_at book order x.len ms k m (omega (arith, low)) is later in (
        le,
        mark_shorter book order m.len x found.0 first,
        marks_cut book order x.len ms k m (omega (arith, low)) is later,
      )

  -- The cut and the numbers of records of each mark of an order have one count for each caller of
  -- the book.
  pub marks_wide : (book : List Page) (order : List Place) (ms : List OrderMark)
      → AreMarks spec book order 0 ms → (k : ℕ) (m : OrderMark) → k < length ms → m ≡ get_or ms k m
      → IsAsWide book m
  marks_wide book order ms h k m low is =
      mark_wide book order m (marks_at book order 0 ms k m low is h).1

  -- Each mark of an order counts no more places than the order has, and its words fit a capacity
  -- that suffices in each book.
  pub marks_fit : (book : List Page) (order : List Place) (ms : List OrderMark)
      → AreMarks spec book order 0 ms → (k : ℕ) (m : OrderMark) → k < length ms → m ≡ get_or ms k m
      → (capacity : ℕ) → IsBookCapacity spec capacity
      → (m.len ≤ length order) × (length m.words.items ≤ capacity)
  marks_fit book order ms h k m low is capacity big =
      let found = (marks_at book order 0 ms k m low is h).1 in
      (mark_low book order m found, mark_fits book order m found capacity big)

  -- The marks up to one of them, and that one with them, are marks of the places before it.
  pub marks_taken : (book : List Page) (order places : List Place) (ms some : List OrderMark)
      (k : ℕ) (m : OrderMark) → k < length ms → m ≡ get_or ms k m → AreMarks spec book order 0 ms
      → places ≡ take m.len order → some ≡ take (k + 1) ms → AreMarks spec book places 0 some
  marks_taken book order places ms some k m low is h prefix fewer =
      let on : k + 1 ≡ suc k = omega arith in
      subst (λ (ps : List Place). AreMarks spec book ps 0 some) (sym prefix)
      (subst (λ (xs : List OrderMark). AreMarks spec book (take m.len order) 0 xs)
      (sym (fewer ∙ ap (λ (n : ℕ). take n ms) on)) (marks_cut book order 0 ms k m low is h))

  -- A prefix is put where its places are those before a mark which may still begin an order of the
  -- book, and its cut and its list are those of the mark.
  pub mark_resumed : (book : List Page) (order : List Place) (ms : List OrderMark) (k : ℕ)
      (m : OrderMark) (new : Prefix) → IsValid book → IsSmall book → k < length ms
      → m ≡ get_or ms k m → AreMarks spec book order 0 ms → StillStands book m → new.places.items
      ≡ take m.len order → new.cut ≡ m.cut → new.here.words ≡ m.words.items → IsPut spec book new
  mark_resumed book order ms k m new valid small low at h stands places cut words =
      let is = (marks_at book order 0 ms k m low at h).1 in
      let first = is.prefix.places.items in
      let quiet : IsQuiet is.prefix.cut m.answered book =
      subst (λ (c : List ℕ). IsQuiet c m.answered book) (sym is.cut) stands.0 in
      let taken : take m.len order ≡ first =
      (λ i. take (is.len i) (is.begins i)) ∙ (take-append-le (length first) first is.rest
      (omega arith) ∙ take_all (length first) first (omega arith)) in
      put_stays spec is.earlier book is.prefix new is.grown
      (none_answered is.earlier book is.prefix.cut m.answered is.grown is.records quiet) valid
      small is.put
      (places ∙ taken) (cut ∙ sym is.cut) (words ∙ sym is.words)

  marks_lower : (book : List Page) (order : List Place) (least most : ℕ) (ms : List OrderMark)
      → least ≤ most → AreMarks spec book order most ms → AreMarks spec book order least ms
  marks_lower book order least most [] low h = tt
  marks_lower book order least most (m ∷ ms) low (le, is, later) =
      (omega (arith, low, le), is, later)

  -- the marks of an order without one of them are marks of it
  marks_removed : (book : List Page) (order : List Place) (least : ℕ) (ms : List OrderMark) (k : ℕ)
      → AreMarks spec book order least ms → AreMarks spec book order least (remove ms k)
  marks_removed book order least [] zero h = tt
  marks_removed book order least [] (suc k) h = tt
  marks_removed book order least (m ∷ ms) zero (le, is, later) =
      marks_lower book order least m.len ms le later
  marks_removed book order least (m ∷ ms) (suc k) (le, is, later) =
      (le, is, marks_removed book order m.len ms k later)

  -- The first marks of an order, this many, are marks of it.
  pub marks_fewer : (book : List Page) (order : List Place) (least n : ℕ) (ms : List OrderMark)
      → AreMarks spec book order least ms → AreMarks spec book order least (take n ms)
  marks_fewer book order least zero ms h = tt
  marks_fewer book order least (suc n) [] h = tt
  marks_fewer book order least (suc n) (m ∷ ms) (le, is, later) =
      (le, is, marks_fewer book order m.len n ms later)

  -- Where marks become others at the end of a prefix that is put, and the old ones are marks of its
  -- places but the last, the new ones are marks of its places.
  pub marks_put : (book : List Page) (prefix : Prefix) (before : List Place) (place : Place)
      (records : List ℕ) (marks more : List OrderMark) → IsPut spec book prefix
      → records ≡ answered book
      → prefix.places.items ≡ before ++ place ∷ [] → AddsMarks prefix records marks more
      → AreMarks spec book before 0 marks → AreMarks spec book prefix.places.items 0 more
  marks_put book prefix before place records marks more put same longer keeps h =
      keeps spec book put same (subst (λ (ps : List Place). AreMarks spec book ps 0 marks)
      (sym longer) (marks_longer book before (place ∷ []) 0 marks h))

-- ---- marks that become others at the end of a prefix

pub keeps_same : (prefix : Prefix) (records : List ℕ) (marks more : List OrderMark) → more ≡ marks
    → AddsMarks prefix records marks more
keeps_same prefix records marks more same spec book put known h =
    subst (λ (ms : List OrderMark). AreMarks spec book prefix.places.items 0 ms) (sym same) h

-- The marks of a prefix, with one more at its end, are marks of it.
pub keeps_one : (prefix : Prefix) (records : List ℕ) (marks more : List OrderMark) (m : OrderMark)
    → IsMarkAtEnd prefix records m → more ≡ marks ++ m ∷ [] → AddsMarks prefix records marks more
keeps_one prefix records marks more m ends longer spec book put known h =
    subst (λ (ms : List OrderMark). AreMarks spec book prefix.places.items 0 ms) (sym longer)
    (marks_push spec book prefix marks m put
    (subst (λ (c : List ℕ). IsMarkAtEnd prefix c m) known ends) h)

-- Where the marks of a prefix become other marks of it, they may become those others without one of
-- them.
pub keeps_removed : (prefix : Prefix) (records : List ℕ) (marks more fewer : List OrderMark) (k : ℕ)
    → AddsMarks prefix records marks more → fewer ≡ remove more k
    → AddsMarks prefix records marks fewer
keeps_removed prefix records marks more fewer k keeps one spec book put known h =
    subst (λ (ms : List OrderMark). AreMarks spec book prefix.places.items 0 ms) (sym one)
    (marks_removed spec book prefix.places.items 0 more k (keeps spec book put known h))
