-- Frames that lead from one cut and state to another.
use Rattle.std.proofs.Common.{◌≡◌, ℕ, suc, ◌+◌, ◌<◌, ◌≤◌, ◌∙◌, List, [], ◌∷◌, ◌++◌, length, map, replicate, get_or, sum, refl, sym, ap, subst, arith}
use Rattle.std.proofs.lemmas.List.{length-set, length-map, length-replicate}
use Rattle.std.proofs.lemmas.List.Sums.{sum_by-cons}
use Rattle.list_laws.proofs.Places.{get_or-replicate_default}
use Rattle.book_base.specs.declared.call.Place.{Place}
use Rattle.book_base.specs.SeqSpec.{SeqSpec}
use Rattle.book_base.specs.Book.{Page, IsCall, calls_of}
use Rattle.book_base.specs.Order.{call_at, step_at}
use Rattle.book_base.specs.Next.{raised, list_after, MayStandNext, Continues}
use Rattle.legal_orders.proofs.LegalOrder.{within_cut}
use Rattle.legal_orders.proofs.Orders.{has_operation}
use Rattle.search_hints.specs.Marks.{IsMarked}
use Rattle.frontier_check.proofs.Leading.{sum_raised, raised_within}
use Rattle.told_models.specs.Table.{Table}
use Rattle.told_models.specs.Agreement.{AgreesBy}
use Rattle.told_models.specs.Closed.{Leads, HaveWords, IsNear, IsWordOf, number_of_calls}
use Rattle.told_models.specs.declared.walk.Frame.{Frame}
use Rattle.told_models.specs.Walking.{IsNode, Enters, FramesLead, order_of}

-- Frames that lead to a cut and a state lead on by one frame more.
pub leads_push : (table : Table) (book : List Page) (cut : List ℕ) (state : ℕ)
    (frames : List Frame) (to_cut : List ℕ) (to_state : ℕ) (frame : Frame) (next : ℕ)
    → FramesLead table book cut state frames to_cut to_state → frame.state ≡ to_state
    → IsNode table book to_cut to_state frame.waiting → IsMarked frame.waiting frame.place.caller
    → Enters table book to_cut to_state frame.place next
    → FramesLead table book cut state (frames ++ frame ∷ []) (raised to_cut frame.place.caller) next
leads_push table book cut state [] to_cut to_state frame next leads at node marked enters =
    subst (λ (c : List ℕ). FramesLead table book c state (frame ∷ [])
    (raised to_cut frame.place.caller) next) (sym leads.0)
    (subst (λ (s : ℕ). FramesLead table book to_cut s (frame ∷ [])
    (raised to_cut frame.place.caller) next) (sym leads.1)
    (at, node, marked, next, enters, (refl, refl)))
leads_push table book cut state (first ∷ frames) to_cut to_state frame next leads at node marked
    enters = (
      leads.0,
      leads.1,
      leads.2,
      leads.3,
      leads.4,
      leads_push table book
          (raised cut first.place.caller) leads.3 frames to_cut to_state frame next
          leads.5 at node marked enters,
    )

-- What frames say of the last one among them.
pub record Back (table : Table) (book : List Page) (cut : List ℕ) (state : ℕ) (frames : List Frame)
    (frame : Frame) (to_cut : List ℕ) (to_state : ℕ) : Type 0 where
  pub from : List ℕ
  pub leads : FramesLead table book cut state frames from frame.state
  pub node : IsNode table book from frame.state frame.waiting
  pub marked : IsMarked frame.waiting frame.place.caller
  pub enters : Enters table book from frame.state frame.place to_state
  pub raised_is : raised from frame.place.caller ≡ to_cut

pub leads_pop : (table : Table) (book : List Page) (cut : List ℕ) (state : ℕ)
    (frames : List Frame) (frame : Frame) (to_cut : List ℕ) (to_state : ℕ)
    → FramesLead table book cut state (frames ++ frame ∷ []) to_cut to_state
    → Back table book cut state frames frame to_cut to_state
leads_pop table book cut state [] frame to_cut to_state leads = record {
  from = cut;
  leads = (refl, sym leads.0);
  node = subst (λ (s : ℕ). IsNode table book cut s frame.waiting) (sym leads.0) leads.1;
  marked = leads.2;
  enters = subst (λ (s : ℕ). Enters table book cut s frame.place to_state) (sym leads.0)
      (subst (λ (s : ℕ). Enters table book cut state frame.place s) leads.5.1 leads.4);
  raised_is = leads.5.0;
}
leads_pop table book cut state (first ∷ frames) frame to_cut to_state leads =
    let back = leads_pop table book (raised cut first.place.caller) leads.3 frames frame to_cut
    to_state leads.5 in record {
      from = back.from;
      leads = (leads.0, leads.1, leads.2, leads.3, leads.4, back.leads);
      node = back.node;
      marked = back.marked;
      enters = back.enters;
      raised_is = back.raised_is;
    }

-- A place that enters may stand next for each object that agrees, and leads to the list of the next
-- state.
pub may_stand : (table : Table) (book : List Page) (cut : List ℕ) (state : ℕ) (place : Place)
    (next : ℕ) (list_of : ℕ → List ℕ) (spec : SeqSpec) → Enters table book cut state place next
    → AgreesBy list_of table spec → MayStandNext book spec.next cut (list_of state) place
may_stand table book cut state place next list_of spec enters agrees = record {
  may_come = enters.may;
  recorded = enters.recorded;
  reply = ap (λ (p : List ℕ × ℕ). p.1)
      (agrees.steps state (step_at book place).0 (record { next = next; reply = place.reply })
      enters.told);
}

pub list_after_is : (table : Table) (book : List Page) (cut : List ℕ) (state : ℕ) (place : Place)
    (next : ℕ) (list_of : ℕ → List ℕ) (spec : SeqSpec) → Enters table book cut state place next
    → AgreesBy list_of table spec
    → list_after book spec.next (list_of state) place ≡ list_of next
list_after_is table book cut state place next list_of spec enters agrees =
    ap (λ (p : List ℕ × ℕ). p.0)
    (agrees.steps state (step_at book place).0 (record { next = next; reply = place.reply })
    enters.told)

-- Where places continue an order from where frames lead to, the places of the frames and then these
-- continue one from where the frames begin.
pub leads_continue : (table : Table) (book : List Page) (list_of : ℕ → List ℕ) (spec : SeqSpec)
    → AgreesBy list_of table spec → (cut : List ℕ) (state : ℕ) (frames : List Frame)
    (to_cut : List ℕ) (to_state : ℕ) (rest : List Place)
    → FramesLead table book cut state frames to_cut to_state
    → Continues book spec.next to_cut (list_of to_state) rest
    → Continues book spec.next cut (list_of state) (order_of frames ++ rest)
leads_continue table book list_of spec agrees cut state [] to_cut to_state rest leads goes =
    subst (λ (c : List ℕ). Continues book spec.next c (list_of state) rest) (sym leads.0)
    (subst (λ (s : ℕ). Continues book spec.next to_cut (list_of s) rest) (sym leads.1) goes)
leads_continue table book list_of spec agrees cut state (frame ∷ frames) to_cut to_state rest leads
    goes =
    let place : Place = frame.place in
    let enters = subst (λ (s : ℕ). Enters table book cut s place leads.3) refl leads.4 in (
      may_stand table book cut state place leads.3 list_of spec enters agrees,
      subst (λ (l : List ℕ). Continues book spec.next (raised cut place.caller) l
          (order_of frames ++ rest))
          (sym (list_after_is table book cut state place leads.3 list_of spec enters agrees))
          (leads_continue table book list_of spec agrees (raised cut place.caller) leads.3 frames
          to_cut to_state rest leads.5 goes),
    )

-- What frames say of the counts that they lead to.
pub record Reach (book : List Page) (frames : List Frame) (cut to_cut : List ℕ) : Type 0 where
  pub wide : length to_cut ≡ length cut
  pub within : (i : ℕ) → get_or to_cut i 0 ≤ calls_of book i
  pub calls : sum to_cut ≡ sum cut + length frames

pub leads_reach : (table : Table) (book : List Page) (cut : List ℕ) (state : ℕ)
    (frames : List Frame) (to_cut : List ℕ) (to_state : ℕ) → length book ≤ length cut
    → ((i : ℕ) → get_or cut i 0 ≤ calls_of book i)
    → FramesLead table book cut state frames to_cut to_state → Reach book frames cut to_cut
leads_reach table book cut state [] to_cut to_state wide within leads = record {
  wide = sym (ap (λ (c : List ℕ). length c) leads.0);
  within = subst (λ (c : List ℕ). (i : ℕ) → get_or c i 0 ≤ calls_of book i) leads.0 within;
  calls = omega (arith, ap (λ (c : List ℕ). sum c) leads.0);
}
leads_reach table book cut state (frame ∷ frames) to_cut to_state wide within leads =
    let call = call_at frame.place in
    let may = leads.4.may in
    let inside = within_cut book cut call wide may.is_call in
    let long = length-set cut frame.place.caller (get_or cut frame.place.caller 0 + 1) in
    let rest = leads_reach table book (raised cut frame.place.caller) leads.3 frames to_cut to_state
    (omega (arith, wide, long)) (raised_within book cut call inside may.is_call may.next within)
    leads.5 in record {
      wide = rest.wide ∙ long;
      within = rest.within;
      calls = omega (arith, rest.calls, sum_raised cut frame.place.caller inside);
    }

-- Counts within those of a book sum up to no more than the number of its calls.
pub sum_within : (counts : List ℕ) (book : List Page) → length counts ≡ length book
    → ((i : ℕ) → get_or counts i 0 ≤ calls_of book i) → sum counts ≤ number_of_calls book
sum_within [] book same within = omega arith
sum_within (n ∷ counts) [] same within = absurd (omega (arith, same))
sum_within (n ∷ counts) (page ∷ book) same within = omega (
  arith,
  within 0,
  sum_within counts book (omega (arith, same)) (λ i. within (suc i)),
  sum_by-cons (λ (k : ℕ). k) n counts,
  sum_by-cons (λ (p : Page). length p.operations) page book,
)

-- the steps of the places of some frames
steps_of : List Page → List Frame → List (ℕ × ℕ)
steps_of book frames = map (λ (frame : Frame). step_at book frame.place) frames

leads_told : (table : Table) (book : List Page) (cut : List ℕ) (state : ℕ) (frames : List Frame)
    (to_cut : List ℕ) (to_state : ℕ) → FramesLead table book cut state frames to_cut to_state
    → Leads table state (steps_of book frames) to_state
unfolding steps_of
leads_told table book cut state [] to_cut to_state leads = leads.1
leads_told table book cut state (frame ∷ frames) to_cut to_state leads = (
  record { next = leads.3; reply = frame.place.reply },
  leads.4.told,
  refl,
  leads_told table book (raised cut frame.place.caller) leads.3 frames to_cut to_state leads.5,
)

leads_words : (table : Table) (book : List Page) (cut : List ℕ) (state : ℕ) (frames : List Frame)
    (to_cut : List ℕ) (to_state : ℕ) → FramesLead table book cut state frames to_cut to_state
    → HaveWords (IsWordOf book) (steps_of book frames)
unfolding steps_of
leads_words table book cut state [] to_cut to_state leads = tt
leads_words table book cut state (frame ∷ frames) to_cut to_state leads = (
  (call_at frame.place, has_operation book (call_at frame.place) leads.4.may.is_call),
  leads_words table book (raised cut frame.place.caller) leads.3 frames to_cut to_state leads.5,
)

-- The cut without calls.
pub start_wide : (book : List Page) → length {A = ℕ} (replicate (length book) 0) ≡ length book
start_wide book = length-replicate (length book) 0

pub start_zeros : (book : List Page) (i : ℕ) → get_or {A = ℕ} (replicate (length book) 0) i 0 ≡ 0
start_zeros book i = get_or-replicate_default (length book) i 0

pub start_reach : (table : Table) (book : List Page) (frames : List Frame) (to_cut : List ℕ)
    (to_state : ℕ)
    → FramesLead table book (replicate (length book) 0) table.init frames to_cut to_state
    → Reach book frames (replicate (length book) 0) to_cut
start_reach table book frames to_cut to_state leads =
    leads_reach table book (replicate (length book) 0) table.init frames to_cut to_state
    (omega (arith, start_wide book)) (λ i. omega (arith, start_zeros book i)) leads

-- Frames that lead to a cut where one more call may come next are fewer than the book's calls.
pub frames_few : (table : Table) (book : List Page) (frames : List Frame) (to_cut : List ℕ)
    (to_state caller : ℕ)
    → FramesLead table book (replicate (length book) 0) table.init frames to_cut to_state
    → IsCall book (record { caller = caller; number = get_or to_cut caller 0 })
    → length frames < number_of_calls book
frames_few table book frames to_cut to_state caller leads call =
    let reach = start_reach table book frames to_cut to_state leads in
    let wide = start_wide book in
    let inside =
    within_cut book to_cut (record { caller = caller; number = get_or to_cut caller 0 })
    (omega (arith, wide, reach.wide)) call in
    let more = raised_within book to_cut
    (record { caller = caller; number = get_or to_cut caller 0 }) inside call refl reach.within in
    let long = length-set to_cut caller (get_or to_cut caller 0 + 1) in
    let few = sum_within (raised to_cut caller) book (long ∙ (reach.wide ∙ wide)) more in
    omega (arith, few, sum_raised to_cut caller inside, reach.calls)

-- Fewer told steps of the book's words than the book has calls lead to the state of a walk, where
-- one more call may come next.
pub near : (table : Table) (book : List Page) (frames : List Frame) (to_cut : List ℕ)
    (to_state caller : ℕ)
    → FramesLead table book (replicate (length book) 0) table.init frames to_cut to_state
    → IsCall book (record { caller = caller; number = get_or to_cut caller 0 })
    → IsNear table (IsWordOf book) (number_of_calls book) to_state
unfolding steps_of
near table book frames to_cut to_state caller leads call = record {
  steps = steps_of book frames;
  few = omega (
    arith,
    frames_few table book frames to_cut to_state caller leads call,
    length-map frames (λ (frame : Frame). step_at book frame.place),
  );
  words =
      leads_words table book (replicate (length book) 0) table.init frames to_cut to_state leads;
  reached =
      leads_told table book (replicate (length book) 0) table.init frames to_cut to_state leads;
}
