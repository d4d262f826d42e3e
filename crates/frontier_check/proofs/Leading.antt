-- The frames of a walk: with one more, with one fewer, and the order that their places make.
use Rattle.std.proofs.Common.{◌≡◌, ℕ, ◌+◌, ◌*◌, ◌<◌, ◌≤◌, ◌∙◌, List, [], ◌∷◌, ◌++◌, length, get_or, set, sum, Result, Ok, Err, IfOk, refl, sym, ap, subst, inl, inr, arith}
use Rattle.std.specs.List.{All}
use Rattle.std.proofs.lemmas.Bool.{cases_eq}
use Rattle.std.proofs.lemmas.List.{append-nil, append_assoc, length-append, length-map, length-set, length-replicate, set-set, set-get_or}
use Rattle.std.proofs.lemmas.List.Sums.{sum_by-set, sum_by-le}
use Rattle.std.proofs.lemmas.List.Elements.{All-from_get_or}
use Rattle.list_laws.proofs.Places.{get_or-replicate_default}
use Rattle.book_base.specs.declared.call.Call.{Call}
use Rattle.book_base.specs.declared.call.Place.{Place}
use Rattle.book_base.specs.declared.TheConstants.{MAX_CALLERS, MAX_CALLS}
use Rattle.book_base.specs.SeqSpec.{SeqSpec}
use Rattle.book_base.specs.Book.{Page, calls_of, IsCall, IsSmall}
use Rattle.book_base.specs.Order.{call_at, IsLegalOrder, HasLegalOrder}
use Rattle.book_base.specs.Reaching.{SufficesAfter, Reaches}
use Rattle.book_base.proofs.ReachingLemmas.{one_more_place_reaches_on, suffices-list, suffices-next, suffices-order}
use Rattle.book_base.proofs.PageLemmas.{caller_from_call}
use Rattle.book_base.specs.Next.{raised, list_after, HoldsAnswered, MayComeNext, Continues}
use Rattle.legal_orders.proofs.LegalOrder.{raised_same, raised_other, within_cut, continues_from_legal_order}
use Rattle.frontier_check.specs.declared.walk.WalkFrame.{WalkFrame}
use Rattle.frontier_check.specs.declared.walk.TheConstants.{MOST_CALLS}
use Rattle.frontier_check.specs.declared.prefix.Prefix.{Prefix}
use Rattle.frontier_check.specs.Prefix.{no_calls, IsBookCapacity, IsPrefix}
use Rattle.book_base.specs.Pruning.{IsDeadEnd, IsReached}
use Rattle.search_hints.specs.declared.decision.Decision.{Decision}
use Rattle.search_hints.specs.declared.decision.Decision.TheVariants.{Order, NoOrder, Unsaid}
use Rattle.search_hints.specs.Decision.{IsRightDecision}
use Rattle.frontier_check.specs.Search.{places_of, IsOpen, IsRightAfter, FramesLead, MayGrow, order_of}

-- Frames with one more at their end lead to the cut and the list after the call at its place.
pub leads-push : (book : List Page) (next : List ℕ → ℕ → List ℕ × ℕ) (cut list : List ℕ)
    (frames : List WalkFrame) (to_cut to_list : List ℕ) (frame : WalkFrame)
    → FramesLead book next cut list frames to_cut to_list → frame.words.items ≡ to_list
    → IsOpen book next to_cut to_list (frame.place ∷ places_of frame.choices.items)
    → FramesLead book next cut list (frames ++ frame ∷ []) (raised to_cut frame.place.caller)
    (list_after book next to_list frame.place)
leads-push book next cut list [] to_cut to_list frame (same_cut, same_list) words here = (
  words ∙ sym same_list,
  subst (λ (c : List ℕ). IsOpen book next c list (frame.place ∷ places_of frame.choices.items))
      (sym same_cut)
      (subst
      (λ (l : List ℕ). IsOpen book next to_cut l (frame.place ∷ places_of frame.choices.items))
      (sym same_list) here),
  (
    ap (λ (c : List ℕ). raised c frame.place.caller) same_cut,
    ap (λ (l : List ℕ). list_after book next l frame.place) same_list,
  ),
)
leads-push book next cut list (first ∷ frames) to_cut to_list frame (at, way, later) words here = (
  at,
  way,
  leads-push book next (raised cut first.place.caller)
      (list_after book next list first.place) frames to_cut to_list frame later words here,
)

-- the cut and the list from which the last frame of a walk leads on
pub record Back (book : List Page) (next : List ℕ → ℕ → List ℕ × ℕ) (cut list : List ℕ)
    (frames : List WalkFrame) (frame : WalkFrame) (to_cut to_list : List ℕ) : Type 0 where
  pub from : List ℕ
  pub leads : FramesLead book next cut list frames from frame.words.items
  pub here : IsOpen book next from frame.words.items (frame.place ∷ places_of frame.choices.items)
  pub to_cut_is : to_cut ≡ raised from frame.place.caller
  pub to_list_is : to_list ≡ list_after book next frame.words.items frame.place

-- Frames without the last one lead to the cut and the list before the call at its place.
pub leads-pop : (book : List Page) (next : List ℕ → ℕ → List ℕ × ℕ) (cut list : List ℕ)
    (frames : List WalkFrame) (frame : WalkFrame) (to_cut to_list : List ℕ)
    → FramesLead book next cut list (frames ++ frame ∷ []) to_cut to_list
    → Back book next cut list frames frame to_cut to_list
leads-pop book next cut list [] frame to_cut to_list (words, here, (cut_is, list_is)) = record {
  from = cut;
  leads = (refl, sym words);
  here =
      subst (λ (l : List ℕ). IsOpen book next cut l (frame.place ∷ places_of frame.choices.items))
      (sym words) here;
  to_cut_is = sym cut_is;
  to_list_is = sym list_is ∙ ap (λ (l : List ℕ). list_after book next l frame.place) (sym words);
}
leads-pop book next cut list (first ∷ frames) frame to_cut to_list (words, here, later) =
    let back = leads-pop book next (raised cut first.place.caller)
    (list_after book next list first.place) frames frame to_cut to_list later in
    record {
      from = back.from;
      leads = (words, here, back.leads);
      here = back.here;
      to_cut_is = back.to_cut_is;
      to_list_is = back.to_list_is;
    }

-- where frames lead to a cut that holds all answered calls, their places continue an order from
-- where the frames begin
leads-continues : (book : List Page) (next : List ℕ → ℕ → List ℕ × ℕ) (cut list : List ℕ)
    (frames : List WalkFrame) (to_cut to_list : List ℕ)
    → FramesLead book next cut list frames to_cut to_list → HoldsAnswered book to_cut
    → Continues book next cut list (order_of frames)
leads-continues book next cut list [] to_cut to_list (same_cut, same_list) all =
    subst (λ (c : List ℕ). HoldsAnswered book c) (sym same_cut) all
leads-continues book next cut list (first ∷ frames) to_cut to_list (words, here, later) all = (
  here.sound.0,
  leads-continues book next (raised cut first.place.caller)
      (list_after book next list first.place) frames to_cut to_list later all,
)

-- Each count of the cut without calls is 0.
pub zeros : (book : List Page) (i : ℕ) → get_or (no_calls book) i 0 ≡ 0
zeros book i = get_or-replicate_default (length book) i 0

-- where places continue an order from where frames lead to, the places of the frames and then these
-- continue one from where the frames begin
leads-more : (book : List Page) (next : List ℕ → ℕ → List ℕ × ℕ) (cut list : List ℕ)
    (frames : List WalkFrame) (to_cut to_list : List ℕ) (rest : List Place)
    → FramesLead book next cut list frames to_cut to_list → Continues book next to_cut to_list rest
    → Continues book next cut list (order_of frames ++ rest)
leads-more book next cut list [] to_cut to_list rest (same_cut, same_list) goes =
    subst (λ (c : List ℕ). Continues book next c list rest) (sym same_cut)
    (subst (λ (l : List ℕ). Continues book next to_cut l rest) (sym same_list) goes)
leads-more book next cut list (first ∷ frames) to_cut to_list rest (words, here, later) goes = (
  here.sound.0,
  leads-more book next (raised cut first.place.caller)
      (list_after book next list first.place) frames to_cut to_list rest later goes,
)

-- where an order reaches the cut and the list where frames begin, that order and then their places
-- reach those to which they lead
leads-reaches : (spec : SeqSpec) (book : List Page) (before : List Place) (cut list : List ℕ)
    (frames : List WalkFrame) (to_cut to_list : List ℕ) → length book ≤ length cut
    → Reaches spec book before cut list → FramesLead book spec.next cut list frames to_cut to_list
    → Reaches spec book (before ++ order_of frames) to_cut to_list
leads-reaches spec book before cut list [] to_cut to_list wide reaches (same_cut, same_list) =
    subst (λ (order : List Place). Reaches spec book order to_cut to_list)
    (sym (append-nil before))
    (subst (λ (c : List ℕ). Reaches spec book before c to_list) same_cut
    (subst (λ (l : List ℕ). Reaches spec book before cut l) same_list reaches))
leads-reaches spec book before cut list (first ∷ frames) to_cut to_list wide reaches
    (words, here, later) =
    let may : MayComeNext book cut (call_at first.place) = here.sound.0.may_come in
    let inside : first.place.caller < length cut =
    within_cut book cut (call_at first.place) wide may.is_call in
    let longer : length (raised cut first.place.caller) ≡ length cut =
    length-set cut first.place.caller (get_or cut first.place.caller 0 + 1) in
    let one : Reaches spec book (before ++ first.place ∷ []) (raised cut first.place.caller)
    (list_after book spec.next list first.place) =
    subst (λ (n : ℕ). Reaches spec book (before ++ first.place ∷ [])
    (set cut first.place.caller (n + 1)) (list_after book spec.next list first.place)) may.next
    (one_more_place_reaches_on spec book before cut list first.place reaches inside
    may.next) in
    subst (λ (order : List Place). Reaches spec book order to_cut to_list)
    (append_assoc before (first.place ∷ []) (order_of frames))
    (leads-reaches spec book (before ++ first.place ∷ []) (raised cut first.place.caller)
    (list_after book spec.next list first.place) frames to_cut to_list (omega arith) one later)

-- Where frames lead from the end of a prefix to a cut and a list, some order reaches these, and
-- whatever places continue it from there make a legal order with it.
pub reached-from_leads : (spec : SeqSpec) (book : List Page) (prefix : Prefix)
    (frames : List WalkFrame) (cut list : List ℕ) → IsPrefix spec book prefix
    → FramesLead book spec.next prefix.cut prefix.here.words frames cut list
    → IsReached spec book cut list
reached-from_leads spec book prefix frames cut list f leads = record {
  before = prefix.places.items ++ order_of frames;
  reaches = leads-reaches spec book prefix.places.items prefix.cut prefix.here.words frames cut
      list (omega (arith, f.stands.wide)) f.stands.reaches leads;
  legal = λ rest goes. subst (λ (order : List Place). IsLegalOrder spec book order)
      (sym (append_assoc prefix.places.items (order_of frames) rest))
      (f.legal (order_of frames ++ rest)
      (leads-more book spec.next prefix.cut prefix.here.words frames cut list rest leads goes));
}

-- A cut that is raised for a caller for which it has a count counts one call more.
pub sum_raised : (cut : List ℕ) (i : ℕ) → i < length cut → sum (raised cut i) ≡ sum cut + 1
sum_raised cut i h = omega (arith, sum_by-set (λ (n : ℕ). n) cut i (get_or cut i 0 + 1) 0 h)

-- Where a cut counts no more calls of any caller than a book has, the cut that is raised by a
-- caller's next call, which the book has, counts no more of any caller than the book has either.
pub raised_within : (book : List Page) (cut : List ℕ) (call : Call) → call.caller < length cut
    → IsCall book call → call.number ≡ get_or cut call.caller 0
    → ((i : ℕ) → get_or cut i 0 ≤ calls_of book i) → (i : ℕ)
    → get_or (raised cut call.caller) i 0 ≤ calls_of book i
raised_within book cut call inside is at within i =
    elim (cases_eq i call.caller) [
      | inl same ↦ omega (
        arith,
        raised_same cut call.caller inside,
        ap (λ (j : ℕ). get_or (raised cut call.caller) j 0) same,
        is,
        at,
        ap (calls_of book) same,
      )
      | inr other ↦ omega (arith, raised_other cut call.caller i other, within i)
    ]

-- how far frames lead: the cut there has as many counts as the first one, counts one call more for
-- each frame, and no more calls than the book has
pub record Reach (book : List Page) (cut : List ℕ) (frames : List WalkFrame)
    (to_cut : List ℕ) : Type 0 where
  pub wide : length to_cut ≡ length cut
  pub calls : sum to_cut ≡ sum cut + length frames
  pub within : (i : ℕ) → get_or to_cut i 0 ≤ calls_of book i

leads-reach : (book : List Page) (next : List ℕ → ℕ → List ℕ × ℕ) (cut list : List ℕ)
    (frames : List WalkFrame) (to_cut to_list : List ℕ)
    → length book ≤ length cut → ((i : ℕ) → get_or cut i 0 ≤ calls_of book i)
    → FramesLead book next cut list frames to_cut to_list
    → Reach book cut frames to_cut
leads-reach book next cut list [] to_cut to_list wide within (same_cut, same_list) = record {
  wide = ap (λ (c : List ℕ). length c) (sym same_cut);
  calls = omega (arith, ap (λ (c : List ℕ). sum c) same_cut);
  within = λ (i : ℕ). omega (arith, within i, ap (λ (c : List ℕ). get_or c i 0) same_cut);
}
leads-reach book next cut list (first ∷ frames) to_cut to_list wide within
    (words, here, later) =
    let may : MayComeNext book cut (call_at first.place) = here.sound.0.may_come in
    let inside : first.place.caller < length cut = (let there =
    caller_from_call book first.place.caller first.place.number may.is_call in omega arith) in
    let long : length (raised cut first.place.caller) ≡ length cut =
    length-set cut first.place.caller (get_or cut first.place.caller 0 + 1) in
    let rest = leads-reach book next (raised cut first.place.caller)
    (list_after book next list first.place) frames to_cut to_list (omega arith)
    (raised_within book cut (call_at first.place) inside may.is_call may.next within) later in
    record {
      wide = rest.wide ∙ long;
      calls = omega (arith, rest.calls, sum_raised cut first.place.caller inside);
      within = rest.within;
    }

-- Counts within those of a small book sum up to no more than the most calls of a book.
pub sum_small : (book : List Page) (counts : List ℕ) → IsSmall book → length counts ≡ length book
    → ((i : ℕ) → get_or counts i 0 ≤ calls_of book i) → sum counts ≤ MAX_CALLERS * MAX_CALLS
sum_small book counts small wide within =
    let few : All (λ (n : ℕ). n ≤ MAX_CALLS) counts =
    All-from_get_or (λ (n : ℕ). n ≤ MAX_CALLS) counts 0 (λ (i : ℕ) (lt : i < length counts). let a =
    within i in let b = small.calls i in omega (arith, a, b)) in
    let callers = small.callers in
    omega (arith, sum_by-le (λ (n : ℕ). n) MAX_CALLS counts few)

-- Where a capacity suffices for one operation after a list, the list and each next one fit it.
pub may_grow : (next : List ℕ → ℕ → List ℕ × ℕ) (list : List ℕ) (capacity : ℕ)
    → SufficesAfter next list 1 capacity → MayGrow next list capacity
may_grow next list capacity fits = record {
  here = suffices-list next list 1 capacity fits;
  after = λ op. suffices-next next list 1 capacity op (omega arith) fits;
}

-- Bounds at the cut and the list of a walk after which the call at a place may come next: on the
-- caller and the number of that place, on the frames, and on the words of the list.
pub record WalkFacts (book : List Page) (spec : SeqSpec) (frames : List WalkFrame)
    (cut list : List ℕ) (place : Place) : Type 0 where
  pub wide : length cut ≡ length book
  pub caller : place.caller < length cut
  pub number : place.number < MAX_CALLS
  pub depth : length frames < MOST_CALLS
  pub fits : (capacity : ℕ) → IsBookCapacity spec capacity → MayGrow spec.next list capacity

-- Where frames lead from the end of a prefix to a cut and a list after which a call may come next,
-- these bounds hold there.
pub standing : (book : List Page) (prefix : Prefix) (spec : SeqSpec) (frames : List WalkFrame)
    (cut list : List ℕ) (place : Place) → IsPrefix spec book prefix
    → FramesLead book spec.next prefix.cut prefix.here.words frames cut list
    → MayComeNext book cut (call_at place) → WalkFacts book spec frames cut list place
standing book prefix spec frames cut list place f leads may =
    let small = f.stands.small in
    let reach = leads-reach book spec.next prefix.cut prefix.here.words frames cut list
    (omega (arith, f.stands.wide)) f.stands.within leads in
    let wide : length cut ≡ length book = reach.wide ∙ f.stands.wide in
    let there : place.caller < length book =
    caller_from_call book place.caller place.number may.is_call in
    let inside : place.caller < length cut = omega arith in
    let longer : length (raised cut place.caller) ≡ length book =
    length-set cut place.caller (get_or cut place.caller 0 + 1) ∙ wide in
    let few : sum (raised cut place.caller) ≤ MAX_CALLERS * MAX_CALLS =
    sum_small book (raised cut place.caller) small longer
    (raised_within book cut (call_at place) inside may.is_call may.next reach.within) in
    let more = sum_raised cut place.caller inside in
    let order = prefix.places.items ++ order_of frames in
    let long : length order ≡ length prefix.places.items + length frames =
    length-append prefix.places.items (order_of frames)
    ∙ ap (λ (n : ℕ). length prefix.places.items + n)
    (length-map frames (λ (frame : WalkFrame). frame.place)) in
    record {
      wide = wide;
      caller = inside;
      number = omega (arith, may.is_call, small.calls place.caller);
      depth = omega (arith, reach.calls);
      fits = λ capacity big. may_grow spec.next list capacity
          (suffices-order spec book order cut list MOST_CALLS 1 capacity
          (leads-reaches spec book prefix.places.items prefix.cut prefix.here.words frames cut list
          (omega (arith, f.stands.wide)) f.stands.reaches leads)
          (omega (arith, long, reach.calls, f.stands.calls)) big);
    }

-- A cut to which frames lead from the end of a prefix has one count for each caller.
pub leads-wide : (book : List Page) (prefix : Prefix) (spec : SeqSpec) (frames : List WalkFrame)
    (cut list : List ℕ) → IsPrefix spec book prefix
    → FramesLead book spec.next prefix.cut prefix.here.words frames cut list
    → length cut ≡ length book
leads-wide book prefix spec frames cut list f leads =
    (leads-reach book spec.next prefix.cut prefix.here.words frames cut list
    (omega (arith, f.stands.wide)) f.stands.within leads).wide ∙ f.stands.wide

-- Where frames lead from the end of a prefix to a cut with all answered calls, the places of the
-- prefix and then of the frames are a legal order.
pub legal-from_leads : (book : List Page) (prefix : Prefix) (spec : SeqSpec)
    (frames : List WalkFrame) (cut list : List ℕ) → IsPrefix spec book prefix
    → FramesLead book spec.next prefix.cut prefix.here.words frames cut list
    → HoldsAnswered book cut
    → IsLegalOrder spec book (prefix.places.items ++ order_of frames)
legal-from_leads book prefix spec frames cut list f leads all =
    f.legal (order_of frames)
    (leads-continues book spec.next prefix.cut prefix.here.words frames cut list leads all)

-- Where the cut without calls and the first list are a dead end, the book has no legal order.
pub none-from_dead : (book : List Page) (spec : SeqSpec)
    → IsDeadEnd book spec.next (no_calls book) spec.init → HasLegalOrder spec book → ⊥
none-from_dead book spec dead legal =
    let long : length (no_calls book) ≡ length book = length-replicate (length book) 0 in
    dead legal.0 (continues_from_legal_order book spec (no_calls book) legal.0 (omega arith)
    (zeros book) legal.1)

-- A raised cut with the old count set again is the cut from before.
pub lowered : (cut : List ℕ) (i n : ℕ) → n ≡ get_or cut i 0 → set (raised cut i) i n ≡ cut
lowered cut i n e =
    set-set cut i (get_or cut i 0 + 1) n ∙ (ap (λ (m : ℕ). set cut i m) e ∙ set-get_or cut i 0)

-- What a search says after a prefix without places, which has the object as it is at first, decides
-- the book.
pub decision-from_after : {E : Type 0} (book : List Page) (spec : SeqSpec) (prefix : Prefix)
    (result : Result Decision E) → prefix.places.items ≡ [] → prefix.cut ≡ no_calls book
    → prefix.here.words ≡ spec.init → IfOk result (IsRightAfter spec book prefix)
    → IfOk result (IsRightDecision spec book)
decision-from_after book spec prefix (Ok (Order rest)) no_places same_cut same_list legal =
    subst (λ (places : List Place). IsLegalOrder spec book (places ++ rest.items)) no_places legal
decision-from_after book spec prefix (Ok NoOrder) no_places same_cut same_list dead =
    none-from_dead book spec (subst (λ (c : List ℕ). IsDeadEnd book spec.next c spec.init) same_cut
    (subst (λ (l : List ℕ). IsDeadEnd book spec.next prefix.cut l) same_list dead))
decision-from_after book spec prefix (Ok Unsaid) no_places same_cut same_list said = tt
decision-from_after book spec prefix (Err e) no_places same_cut same_list said = tt
