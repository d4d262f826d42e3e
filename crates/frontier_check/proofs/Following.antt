-- The places of a prefix: with one more, and with places that continue an order after them.
use Rattle.std.proofs.Common.{◌≡◌, ℕ, ◌+◌, ◌*◌, ◌<◌, ◌≤◌, ◌∙◌, List, [], ◌∷◌, ◌++◌, length, get_or, set, sum, Some, refl, sym, ap, subst, inl, inr, arith}
use Rattle.std.specs.Option.{IsSomeAnd}
use Rattle.std.proofs.lemmas.Bool.{cases_eq}
use Rattle.std.proofs.lemmas.List.{length_push, length-set, length-replicate}
use Rattle.list_laws.proofs.Options.{some_from_is_some_and}
use Rattle.book_base.specs.declared.call.Call.{Call}
use Rattle.book_base.specs.declared.call.Place.{Place}
use Rattle.book_base.specs.declared.call.Record.{Record}
use Rattle.book_base.specs.declared.TheConstants.{MAX_CALLERS, MAX_CALLS}
use Rattle.book_base.specs.SeqSpec.{SeqSpec}
use Rattle.book_base.specs.Book.{Page, IsCall, IsValid, IsSmall, IsAnswered, record_of, Precedes}
use Rattle.book_base.specs.Order.{call_at, step_at, IsLegalOrder}
use Rattle.book_base.specs.Reaching.{SufficesAfter, Reaches}
use Rattle.book_base.proofs.PageLemmas.{caller_from_call}
use Rattle.book_base.proofs.ViewLemmas.{same_call}
use Rattle.book_base.proofs.ReachingLemmas.{no_places_reach_the_start, one_more_place_reaches_on, suffices-list, suffices-order}
use Rattle.book_base.specs.Next.{next_call, raised, list_after, MayComeNext, Continues}
use Rattle.legal_orders.proofs.LegalOrder.{raised_other, raised_more, raised_same, legal_order_from_continues}
use Rattle.legal_orders.proofs.Precedence.{may_come_next-from_first}
use Rattle.frontier_check.specs.declared.prefix.Prefix.{Prefix}
use Rattle.frontier_check.specs.declared.walk.TheConstants.{MOST_CALLS}
use Rattle.frontier_check.specs.Prefix.{no_calls, IsBookCapacity, IsNext, Follow, LeavesOpen, PrefixReaches, IsPut, IsPrefix}
use Rattle.frontier_check.proofs.Leading.{zeros, raised_within, sum_raised, sum_small}

-- places that follow one another still do with one more after them, which is next and has the reply
-- that the object gives
follow-push : (book : List Page) (next : List ℕ → ℕ → List ℕ × ℕ) (cut list : List ℕ)
    (places : List Place) (to_cut to_list : List ℕ) (place : Place)
    → Follow book next cut list places to_cut to_list → IsNext book to_cut place
    → (next to_list (step_at book place).0).1 ≡ place.reply
    → Follow book next cut list (places ++ place ∷ []) (raised to_cut place.caller)
    (list_after book next to_list place)
follow-push book next cut list [] to_cut to_list place (same_cut, same_list) is gives = (
  subst (λ (c : List ℕ). IsNext book c place) (sym same_cut) is,
  subst (λ (l : List ℕ). (next l (step_at book place).0).1 ≡ place.reply) (sym same_list) gives,
  (
    ap (λ (c : List ℕ). raised c place.caller) same_cut,
    ap (λ (l : List ℕ). list_after book next l place) same_list,
  ),
)
follow-push book next cut list (first ∷ places) to_cut to_list place (at, reply, later) is gives = (
  at,
  reply,
  follow-push book next (raised cut first.caller)
      (list_after book next list first) places to_cut to_list place later is gives,
)

-- the next call of a caller after a cut that is raised for another caller is its next call after
-- the cut
same_next : (cut : List ℕ) (i j : ℕ) → (j ≡ i → ⊥) → next_call (raised cut i) j ≡ next_call cut j
same_next cut i j other =
    same_call (next_call (raised cut i) j) (next_call cut j) refl (raised_other cut i j other)

-- The call at a place that is next may come next, where after it each answered call that is its
-- caller's next has a view that holds the raised cut.
next-may_come : (book : List Page) (cut : List ℕ) (place : Place) → IsValid book
    → place.caller < length cut → IsNext book cut place → LeavesOpen book (raised cut place.caller)
    → MayComeNext book cut (call_at place)
next-may_come book cut place valid inside is leaves =
    may_come_next-from_first book cut (call_at place) valid is.is_call is.next
    (λ (i : ℕ) (answered : IsAnswered book (next_call cut i))
    (p : Precedes book (next_call cut i) (call_at place)). elim (cases_eq i place.caller) [
      | inl same ↦ elim p [
        | inl early ↦
            let says : Record → Type 0 = λ r. get_or r.view place.caller 0 ≤ place.number in
            let known = some_from_is_some_and (record_of book (next_call cut i)) says early in
            let later : IsSomeAnd (Some known.0) says =
            subst (λ o. IsSomeAnd o says) known.1 early in
            let own = valid.own (next_call cut i) known.0 known.1 in
            absurd (omega (
              arith,
              own,
              later,
              is.next,
              ap (λ (j : ℕ). get_or cut j 0) same,
              ap (λ (j : ℕ). get_or known.0.view j 0) same,
            ))
        | inr before ↦
            absurd (omega (arith, before.1, is.next, ap (λ (j : ℕ). get_or cut j 0) same))
      ]
      | inr other ↦ elim p [
        | inl early ↦
            let says : Record → Type 0 = λ r. get_or r.view place.caller 0 ≤ place.number in
            let known = some_from_is_some_and (record_of book (next_call cut i)) says early in
            let later : IsSomeAnd (Some known.0) says =
            subst (λ o. IsSomeAnd o says) known.1 early in
            let there = subst (λ (c : Call). record_of book c ≡ Some known.0)
            (sym (same_next cut place.caller i other)) known.1 in
            let holds = leaves i known.0 there place.caller in
            absurd (omega (arith, holds, later, is.next, raised_same cut place.caller inside))
        | inr before ↦ absurd (other before.0)
      ]
    ])

-- Where each answered call that is its caller's next after a place has a view that holds the raised
-- cut, each answered call that is its caller's next before the place has a view that holds the cut.
leaves-before : (book : List Page) (cut : List ℕ) (place : Place) → place.caller < length cut
    → IsNext book cut place → LeavesOpen book (raised cut place.caller) → LeavesOpen book cut
leaves-before book cut place inside is leaves i r known =
    elim (cases_eq i place.caller) [
      | inl same ↦
          let number : get_or cut i 0 ≡ place.number =
          ap (λ (j : ℕ). get_or cut j 0) same ∙ sym is.next in
          (is.recorded r (subst (λ (c : Call). record_of book c ≡ Some r)
          (same_call (next_call cut i) (call_at place) same number) known)).1
      | inr other ↦
          let there = subst (λ (c : Call). record_of book c ≡ Some r)
          (sym (same_next cut place.caller i other)) known in
          λ (j : ℕ). omega (arith, leaves i r there j, raised_more cut place.caller j inside)
    ]

-- Places that follow one another lead on: where any places continue an order from where they lead
-- to, they and then those continue one from where they begin. Where the next call of a caller after
-- the first cut is answered, its view holds that cut.
pub record Closing (book : List Page) (next : List ℕ → ℕ → List ℕ × ℕ) (cut list : List ℕ)
    (places : List Place) (to_cut to_list : List ℕ) : Type 0 where
  pub goes : (rest : List Place) → Continues book next to_cut to_list rest
      → Continues book next cut list (places ++ rest)
  pub leaves : LeavesOpen book cut

closing : (book : List Page) (next : List ℕ → ℕ → List ℕ × ℕ) (cut list : List ℕ)
    (places : List Place) (to_cut to_list : List ℕ) → IsValid book → length book ≤ length cut
    → Follow book next cut list places to_cut to_list → LeavesOpen book to_cut
    → Closing book next cut list places to_cut to_list
closing book next cut list [] to_cut to_list valid wide (same_cut, same_list) leaves = record {
  goes = λ rest goes. subst (λ (c : List ℕ). Continues book next c list rest) (sym same_cut)
      (subst (λ (l : List ℕ). Continues book next to_cut l rest) (sym same_list) goes);
  leaves = subst (λ (c : List ℕ). LeavesOpen book c) (sym same_cut) leaves;
}
closing book next cut list (first ∷ places) to_cut to_list valid wide (at, reply, later) leaves =
    let there : first.caller < length book =
    caller_from_call book first.caller first.number at.is_call in
    let inside : first.caller < length cut = omega arith in
    let longer : length (raised cut first.caller) ≡ length cut =
    length-set cut first.caller (get_or cut first.caller 0 + 1) in
    let rest = closing book next (raised cut first.caller)
    (list_after book next list first) places to_cut to_list valid (omega arith) later leaves in
    record {
      goes = λ more goes. (
        record {
          may_come = next-may_come book cut first valid inside at rest.leaves;
          recorded = λ r known. (at.recorded r known).0;
          reply = reply;
        },
        rest.goes more goes,
      );
      leaves = leaves-before book cut first inside at rest.leaves;
    }

-- The places of a prefix that is put may begin legal orders, where each answered call that is its
-- caller's next after them has a view that holds the prefix's cut.
pub prefix-from_put : (spec : SeqSpec) (book : List Page) (prefix : Prefix) → IsPut spec book prefix
    → LeavesOpen book prefix.cut → IsPrefix spec book prefix
prefix-from_put spec book prefix put leaves =
    let long : length (no_calls book) ≡ length book = length-replicate (length book) 0 in
    let closed = closing book spec.next (no_calls book) spec.init prefix.places.items prefix.cut
    prefix.here.words put.stands.valid (omega arith) put.follow leaves in
    record {
      stands = put.stands;
      legal = λ rest goes. legal_order_from_continues book spec (no_calls book)
          (prefix.places.items ++ rest) (omega arith) (zeros book) (closed.goes rest goes);
    }

-- The prefix without places reaches the cut without calls and the first list of the object.
pub stands-start : (spec : SeqSpec) (book : List Page) (prefix : Prefix) → IsValid book
    → IsSmall book → prefix.places.items ≡ [] → prefix.cut ≡ no_calls book
    → prefix.here.words ≡ spec.init → PrefixReaches spec book prefix
stands-start spec book prefix valid small places cut list =
    let long : length (no_calls book) ≡ length book = length-replicate (length book) 0 in
    record {
      valid = valid;
      small = small;
      wide = ap (λ (c : List ℕ). length c) cut ∙ long;
      within = λ (i : ℕ). omega (arith, zeros book i, ap (λ (c : List ℕ). get_or c i 0) cut);
      calls = omega (arith, ap (λ (order : List Place). length order) places);
      reaches =
          subst (λ (order : List Place). Reaches spec book order prefix.cut prefix.here.words)
          (sym places)
          (subst (λ (c : List ℕ). Reaches spec book [] c prefix.here.words) (sym cut)
          (subst (λ (l : List ℕ). Reaches spec book [] (no_calls book) l) (sym list)
          (no_places_reach_the_start spec book (length book))));
    }

-- The prefix without places is put.
pub put-start : (spec : SeqSpec) (book : List Page) (prefix : Prefix) → IsValid book → IsSmall book
    → prefix.places.items ≡ [] → prefix.cut ≡ no_calls book
    → prefix.here.words ≡ spec.init → IsPut spec book prefix
put-start spec book prefix valid small places cut list = record {
  stands = stands-start spec book prefix valid small places cut list;
  follow = subst (λ (order : List Place). Follow book spec.next
      (no_calls book) spec.init order prefix.cut prefix.here.words) (sym places)
      (sym cut, sym list);
}

-- After the prefix without places, whatever places continue an order make a legal one.
pub prefix-start : (spec : SeqSpec) (book : List Page) (prefix : Prefix) → IsValid book
    → IsSmall book → prefix.places.items ≡ [] → prefix.cut ≡ no_calls book
    → prefix.here.words ≡ spec.init → IsPrefix spec book prefix
prefix-start spec book prefix valid small places cut list =
    let long : length (no_calls book) ≡ length book = length-replicate (length book) 0 in
    record {
      stands = stands-start spec book prefix valid small places cut list;
      legal = λ rest goes.
          subst (λ (order : List Place). IsLegalOrder spec book (order ++ rest)) (sym places)
          (legal_order_from_continues book spec (no_calls book) rest (omega arith) (zeros book)
          (subst (λ (c : List ℕ). Continues book spec.next c spec.init rest) cut
          (subst (λ (l : List ℕ). Continues book spec.next prefix.cut l rest) list goes)));
    }

-- bounds for a place that is next after a prefix: on its caller, its number, and the places before
pub record Putting (book : List Page) (prefix : Prefix) (place : Place) : Type 0 where
  pub caller : place.caller < length prefix.cut
  pub number : place.number < MAX_CALLS
  pub calls : length prefix.places.items < MOST_CALLS

-- After a prefix that reaches its cut and its list, a book that has a further call of a caller has
-- more calls than the prefix has places.
pub calls_left : (spec : SeqSpec) (book : List Page) (prefix : Prefix) (call : Call)
    → PrefixReaches spec book prefix → IsCall book call
    → call.number ≡ get_or prefix.cut call.caller 0 → length prefix.places.items < MOST_CALLS
calls_left spec book prefix call s is at =
    let there : call.caller < length book = caller_from_call book call.caller call.number is in
    let inside : call.caller < length prefix.cut = omega (arith, s.wide) in
    let longer : length (raised prefix.cut call.caller) ≡ length book =
    length-set prefix.cut call.caller (get_or prefix.cut call.caller 0 + 1) ∙ s.wide in
    let few : sum (raised prefix.cut call.caller) ≤ MAX_CALLERS * MAX_CALLS =
    sum_small book (raised prefix.cut call.caller) s.small longer
    (raised_within book prefix.cut call inside is at s.within) in
    omega (arith, s.calls, few, sum_raised prefix.cut call.caller inside)

-- The bounds hold for each place that is next after a prefix that reaches its cut and its list.
pub putting : (spec : SeqSpec) (book : List Page) (prefix : Prefix) (place : Place)
    → PrefixReaches spec book prefix → IsNext book prefix.cut place → Putting book prefix place
putting spec book prefix place s is =
    let there : place.caller < length book =
    caller_from_call book place.caller place.number is.is_call in
    record {
      caller = omega (arith, s.wide);
      number = omega (arith, is.is_call, s.small.calls place.caller);
      calls = calls_left spec book prefix (call_at place) s is.is_call is.next;
    }

-- After the places of a prefix a capacity that suffices in each book suffices for the operations
-- that a book may have beside them.
pub suffices-prefix : (spec : SeqSpec) (book : List Page) (prefix : Prefix) (left capacity : ℕ)
    → PrefixReaches spec book prefix → length prefix.places.items + left ≤ MOST_CALLS
    → IsBookCapacity spec capacity → SufficesAfter spec.next prefix.here.words left capacity
suffices-prefix spec book prefix left capacity s few big =
    suffices-order spec book prefix.places.items prefix.cut prefix.here.words MOST_CALLS left
    capacity s.reaches few big

-- A prefix that is put stays so with one more place, which is next and has the reply that the
-- object gives.
pub put-more : (spec : SeqSpec) (book : List Page) (old new : Prefix) (place : Place)
    → IsPut spec book old → IsNext book old.cut place
    → (spec.next old.here.words (step_at book place).0).1 ≡ place.reply
    → new.places.items ≡ old.places.items ++ place ∷ [] → new.cut ≡ raised old.cut place.caller
    → new.here.words ≡ list_after book spec.next old.here.words place → IsPut spec book new
put-more spec book old new place put is gives places cut list =
    let s = put.stands in
    let p = putting spec book old place s is in
    let one : Reaches spec book (old.places.items ++ place ∷ []) (raised old.cut place.caller)
    (list_after book spec.next old.here.words place) =
    subst (λ (n : ℕ). Reaches spec book (old.places.items ++ place ∷ [])
    (set old.cut place.caller (n + 1)) (list_after book spec.next old.here.words place)) is.next
    (one_more_place_reaches_on spec book old.places.items old.cut old.here.words place
    s.reaches p.caller is.next) in
    let follow = follow-push book spec.next
    (no_calls book) spec.init old.places.items old.cut old.here.words place put.follow is gives in
    let longer : length (raised old.cut place.caller) ≡ length old.cut =
    length-set old.cut place.caller (get_or old.cut place.caller 0 + 1) in
    record {
      stands = record {
        valid = s.valid;
        small = s.small;
        wide = ap (λ (c : List ℕ). length c) cut ∙ (longer ∙ s.wide);
        within = λ (i : ℕ). omega (
          arith,
          raised_within book old.cut (call_at place) p.caller is.is_call is.next s.within i,
          ap (λ (c : List ℕ). get_or c i 0) cut,
        );
        calls = omega (
          arith,
          s.calls,
          ap (λ (order : List Place). length order) places,
          length_push old.places.items place,
          ap (λ (c : List ℕ). sum c) cut,
          sum_raised old.cut place.caller p.caller,
        );
        reaches =
            subst (λ (order : List Place). Reaches spec book order new.cut new.here.words)
            (sym places)
            (subst (λ (c : List ℕ).
            Reaches spec book (old.places.items ++ place ∷ []) c new.here.words) (sym cut)
            (subst (λ (l : List ℕ). Reaches spec book (old.places.items ++ place ∷ [])
            (raised old.cut place.caller) l) (sym list) one));
      };
      follow = subst (λ (order : List Place).
          Follow book spec.next (no_calls book) spec.init order new.cut new.here.words) (sym places)
          (subst (λ (c : List ℕ). Follow book spec.next (no_calls book) spec.init
          (old.places.items ++ place ∷ []) c new.here.words) (sym cut)
          (subst (λ (l : List ℕ). Follow book spec.next (no_calls book) spec.init
          (old.places.items ++ place ∷ []) (raised old.cut place.caller) l) (sym list) follow));
    }

-- The list of a prefix that reaches it fits a capacity that suffices in each book.
pub stands-fit : (spec : SeqSpec) (book : List Page) (prefix : Prefix)
    → PrefixReaches spec book prefix → (capacity : ℕ) → IsBookCapacity spec capacity
    → length prefix.here.words ≤ capacity
stands-fit spec book prefix s capacity big =
    let few : sum prefix.cut ≤ MAX_CALLERS * MAX_CALLS =
    sum_small book prefix.cut s.small s.wide s.within in
    suffices-list spec.next prefix.here.words 0 capacity
    (suffices-prefix spec book prefix 0 capacity s (omega (arith, s.calls)) big)
