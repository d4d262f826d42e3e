-- The frames of a walk: one more, one fewer, the order that they make, and the cut and list that
-- they lead to.
use Rattle.std.proofs.Common.{◌≡◌, ℕ, ◌+◌, ◌-◌, ◌*◌, ◌<◌, ◌≤◌, ◌∙◌, List, [], ◌∷◌, ◌++◌, length, get_or, sum, replicate, Option, Some, refl, sym, ap, subst, arith}
use Rattle.std.specs.List.{All}
use Rattle.std.proofs.lemmas.List.{length-map, length-replicate}
use Rattle.std.proofs.lemmas.List.Sums.{sum_by-le}
use Rattle.std.proofs.lemmas.List.Elements.{All-from_get_or}
use Rattle.list_laws.proofs.Places.{get_or-replicate_default}
use Rattle.book_base.specs.declared.call.Place.{Place}
use Rattle.book_base.specs.declared.TheConstants.{MAX_CALLERS, MAX_CALLS}
use Rattle.book_base.specs.Book.{Page, calls_of, IsSmall, IsCall}
use Rattle.book_base.specs.Order.{call_at, step_at}
use Rattle.book_base.specs.Next.{HoldsAnswered}
use Rattle.frontier_check.proofs.Leading.{sum_small}
use Rattle.set_order.specs.declared.walk.SetFrame.{SetFrame}
use Rattle.set_order.specs.declared.walk.TheConstants.{MOST_CALLS}
use Rattle.set_order.specs.Serving.{SufficesAfter}
use Rattle.set_order.specs.SetOrder.{operations_of, IsLegalSetOrder, HasLegalSetOrder}
use Rattle.set_order.specs.Search.{IsBookCapacity, no_calls, raised_by, MayStandIn, MayStandTogether, SetsContinue, IsDeadEnd, IsFrame, FramesLead, order_of}
use Rattle.set_order.proofs.Raising.{all_so, raised-length, raised-sum, raised-within}
use Rattle.set_order.proofs.SetOrders.{next-from_each, legal_order_from_continue, continue_from_legal_order}

sum-zeros : (n : ℕ) → sum (replicate n 0) ≡ 0
sum-zeros n = let all : All (λ (m : ℕ). m ≤ 0) (replicate n 0) = All-from_get_or (λ (m : ℕ). m ≤ 0)
    (replicate n 0) 0 (λ (i : ℕ) (lt : i < length (replicate n 0)).
    omega (arith, get_or-replicate_default {X = ℕ} n i 0)) in
    omega (arith, sum_by-le (λ (m : ℕ). m) 0 (replicate n 0) all)

-- the cut without calls has the count 0 for each caller
pub zeros : (book : List Page) (i : ℕ) → get_or (no_calls book) i 0 ≡ 0
zeros book i = get_or-replicate_default (length book) i 0

-- a frame belongs to a cut and a list also by other names for these
moved_frame : (served : List ℕ → List ℕ → Option (List ℕ × List ℕ)) (book : List Page)
    (cut new_cut list new_list : List ℕ) (frame : SetFrame) (after : List ℕ)
    → cut ≡ new_cut → list ≡ new_list → IsFrame served book new_cut new_list frame after
    → IsFrame served book cut list frame after
moved_frame served book cut new_cut list new_list frame after e f h =
    subst (λ (c : List ℕ). IsFrame served book c list frame after) (sym e)
    (subst (λ (l : List ℕ). IsFrame served book new_cut l frame after) (sym f) h)

-- the frames of a walk with one more
pub leads-push : (served : List ℕ → List ℕ → Option (List ℕ × List ℕ)) (book : List Page)
    (cut list : List ℕ) (frames : List SetFrame) (to_cut to_list : List ℕ) (frame : SetFrame)
    (after : List ℕ)
    → FramesLead served book cut list frames to_cut to_list
    → IsFrame served book to_cut to_list frame after
    → FramesLead served book cut list (frames ++ frame ∷ []) (raised_by to_cut frame.set) after
leads-push served book cut list [] to_cut to_list frame after (same_cut, same_list) here = (
  after,
  moved_frame served book cut to_cut list to_list frame after same_cut same_list here,
  (ap (λ (c : List ℕ). raised_by c frame.set) same_cut, refl),
)
leads-push served book cut list (first ∷ frames) to_cut to_list frame after
    (between, at, later) here = (
      between,
      at,
      leads-push served book
          (raised_by cut first.set) between frames to_cut to_list frame after later here,
    )

-- the cut and list that a walk had before its last frame
pub record Back (served : List ℕ → List ℕ → Option (List ℕ × List ℕ)) (book : List Page)
    (cut list : List ℕ) (frames : List SetFrame) (frame : SetFrame)
    (to_cut to_list : List ℕ) : Type 0 where
  pub leads : FramesLead served book cut list frames frame.counts.items frame.words.items
  pub here : IsFrame served book frame.counts.items frame.words.items frame to_list
  pub to_cut_is : to_cut ≡ raised_by frame.counts.items frame.set

-- the frames of a walk without the last one
pub leads-pop : (served : List ℕ → List ℕ → Option (List ℕ × List ℕ)) (book : List Page)
    (cut list : List ℕ) (frames : List SetFrame) (frame : SetFrame) (to_cut to_list : List ℕ)
    → FramesLead served book cut list (frames ++ frame ∷ []) to_cut to_list
    → Back served book cut list frames frame to_cut to_list
leads-pop served book cut list [] frame to_cut to_list (after, at, (cut_is, list_is)) = record {
  leads = (sym at.counts, sym at.words);
  here = subst (λ (l : List ℕ). IsFrame served book frame.counts.items frame.words.items frame l)
      list_is (moved_frame served book frame.counts.items cut frame.words.items list frame after
      at.counts at.words at);
  to_cut_is = sym cut_is ∙ ap (λ (c : List ℕ). raised_by c frame.set) (sym at.counts);
}
leads-pop served book cut list (first ∷ frames) frame to_cut to_list (between, at, later) =
    let back =
    leads-pop served book (raised_by cut first.set) between frames frame to_cut to_list later in
    record { leads = (between, at, back.leads); here = back.here; to_cut_is = back.to_cut_is }

-- the sets of frames continue an order from where the frames begin, where the cut to which they
-- lead holds all answered calls
leads-continue : (served : List ℕ → List ℕ → Option (List ℕ × List ℕ)) (book : List Page)
    (cut list : List ℕ) (frames : List SetFrame) (to_cut to_list : List ℕ)
    → FramesLead served book cut list frames to_cut to_list → HoldsAnswered book to_cut
    → SetsContinue served book cut list (order_of frames)
leads-continue served book cut list [] to_cut to_list (same_cut, same_list) all =
    subst (λ (c : List ℕ). HoldsAnswered book c) (sym same_cut) all
leads-continue served book cut list (first ∷ frames) to_cut to_list (between, at, later) all = (
  between,
  at.stands,
  leads-continue served book (raised_by cut first.set) between frames to_cut to_list later all,
)

-- The frames that lead to a cut with all answered calls make a legal set order.
pub legal-from_leads : (init : List ℕ) (served : List ℕ → List ℕ → Option (List ℕ × List ℕ))
    (book : List Page) (frames : List SetFrame) (cut list : List ℕ)
    → FramesLead served book (no_calls book) init frames cut list → HoldsAnswered book cut
    → IsLegalSetOrder init served book (order_of frames)
legal-from_leads init served book frames cut list leads all =
    let long : length (no_calls book) ≡ length book = length-replicate (length book) 0 in
    legal_order_from_continue init served book (no_calls book) (order_of frames) (omega arith)
    (zeros book) (leads-continue served book (no_calls book) init frames cut list leads all)

-- Where the start is a dead end, the book has no legal set order.
pub none-from_dead : (init : List ℕ) (served : List ℕ → List ℕ → Option (List ℕ × List ℕ))
    (book : List Page) → IsDeadEnd served book (no_calls book) init
    → HasLegalSetOrder init served book → ⊥
none-from_dead init served book dead legal =
    let long : length (no_calls book) ≡ length book = length-replicate (length book) 0 in
    dead legal.0 (continue_from_legal_order init served book (no_calls book) legal.0 (omega arith)
    (zeros book) legal.1)

-- A capacity that suffices for operations after a list fits the list.
pub suffices-list : (served : List ℕ → List ℕ → Option (List ℕ × List ℕ)) (list : List ℕ)
    (operations capacity : ℕ) → SufficesAfter served list operations capacity
    → length list ≤ capacity
suffices-list served list operations capacity fits = fits [] list refl (omega arith)

-- After a set a capacity suffices for all operations but those of the set.
pub suffices-served : (served : List ℕ → List ℕ → Option (List ℕ × List ℕ))
    (list ops after replies : List ℕ) (operations left capacity : ℕ)
    → served list ops ≡ Some (after, replies) → length ops + left ≤ operations
    → SufficesAfter served list operations capacity → SufficesAfter served after left capacity
suffices-served served list ops after replies operations left capacity is few fits sets later to low
    = fits (ops ∷ sets) later (after, replies, is, to) (omega (arith, few, low))

-- how far frames lead: to a cut with at least one more call for each frame, and to a list after
-- which a capacity suffices for all operations but those of the calls on the way
pub record Reach (served : List ℕ → List ℕ → Option (List ℕ × List ℕ)) (book : List Page)
    (cut list : List ℕ) (frames : List SetFrame) (to_cut to_list : List ℕ) : Type 0 where
  pub wide : length to_cut ≡ length cut
  pub deep : sum cut + length frames ≤ sum to_cut
  pub fits : (most capacity : ℕ) → sum to_cut ≤ most
      → SufficesAfter served list (most - sum cut) capacity
      → SufficesAfter served to_list (most - sum to_cut) capacity
  pub within : (i : ℕ) → get_or to_cut i 0 ≤ calls_of book i

-- how far one set leads: to a cut with the set's calls
pub record Step (book : List Page) (cut : List ℕ) (places : List Place) : Type 0 where
  pub wide : length (raised_by cut places) ≡ length cut
  pub calls : sum (raised_by cut places) ≡ sum cut + length places
  pub within : (i : ℕ) → get_or (raised_by cut places) i 0 ≤ calls_of book i

pub one_step : (served : List ℕ → List ℕ → Option (List ℕ × List ℕ)) (book : List Page)
    (cut list : List ℕ) (places : List Place) (after : List ℕ)
    → length book ≤ length cut → ((i : ℕ) → get_or cut i 0 ≤ calls_of book i)
    → MayStandTogether served book cut list places after → Step book cut places
one_step served book cut list places after wide within may =
    let next = next-from_each book cut places wide may.by_caller may.each in
    record {
      wide = raised-length cut places;
      calls = raised-sum cut places next;
      within = raised-within book cut places next
          (all_so (MayStandIn book cut) (λ (place : Place). IsCall book (call_at place)) places
          (λ place one. one.may_come.is_call) may.each) within;
    }

leads-reach : (served : List ℕ → List ℕ → Option (List ℕ × List ℕ)) (book : List Page)
    (cut list : List ℕ) (frames : List SetFrame) (to_cut to_list : List ℕ)
    → length book ≤ length cut → ((i : ℕ) → get_or cut i 0 ≤ calls_of book i)
    → FramesLead served book cut list frames to_cut to_list
    → Reach served book cut list frames to_cut to_list
leads-reach served book cut list [] to_cut to_list wide within (same_cut, same_list) =
    record {
      wide = ap (λ (c : List ℕ). length c) (sym same_cut);
      deep = omega (arith, ap (λ (c : List ℕ). sum c) same_cut);
      fits = λ most capacity few fits.
          subst (λ (l : List ℕ). SufficesAfter served l (most - sum to_cut) capacity) same_list
          (subst (λ (c : List ℕ). SufficesAfter served list (most - sum c) capacity) same_cut fits);
      within = λ (i : ℕ). omega (arith, within i, ap (λ (c : List ℕ). get_or c i 0) same_cut);
    }
leads-reach served book cut list (first ∷ frames) to_cut to_list wide within
    (between, at, later) =
    let step = one_step served book cut list first.set between wide within at.stands in
    let rest = leads-reach served book (raised_by cut first.set) between frames to_cut to_list
    (omega (arith, step.wide)) step.within later in
    let some = at.stands.some in
    record {
      wide = rest.wide ∙ step.wide;
      deep = omega (arith, rest.deep, step.calls, some);
      fits = λ most capacity few fits. rest.fits most capacity few
          (suffices-served served list (operations_of book first.set) between _ (most - sum cut)
          (most - sum (raised_by cut first.set)) capacity at.stands.served_so
          (omega (
            arith,
            few,
            rest.deep,
            step.calls,
            length-map first.set (λ (place : Place). (step_at book place).0),
          )) fits);
      within = rest.within;
    }

-- What is known of the cut and list to which a walk from the start leads.
pub record WalkFacts (init : List ℕ) (served : List ℕ → List ℕ → Option (List ℕ × List ℕ))
    (book : List Page) (frames : List SetFrame) (cut list : List ℕ) : Type 0 where
  pub wide : length cut ≡ length book
  pub depth : length frames ≤ MAX_CALLERS * MAX_CALLS
  pub fits : (capacity : ℕ) → IsBookCapacity init served capacity
      → SufficesAfter served list (MOST_CALLS - sum cut) capacity
  pub within : (i : ℕ) → get_or cut i 0 ≤ calls_of book i

pub standing : (init : List ℕ) (served : List ℕ → List ℕ → Option (List ℕ × List ℕ))
    (book : List Page) (frames : List SetFrame) (cut list : List ℕ)
    → IsSmall book → FramesLead served book (no_calls book) init frames cut list
    → WalkFacts init served book frames cut list
standing init served book frames cut list small leads =
    let long : length (no_calls book) ≡ length book = length-replicate (length book) 0 in
    let reach = leads-reach served book (no_calls book) init frames cut list (omega arith)
    (λ (i : ℕ). omega (arith, zeros book i)) leads in
    let wide : length cut ≡ length book = reach.wide ∙ long in
    let few : sum cut ≤ MAX_CALLERS * MAX_CALLS = sum_small book cut small wide reach.within in
    let none : sum (no_calls book) ≡ 0 = sum-zeros (length book) in
    record {
      wide = wide;
      depth = omega (arith, reach.deep);
      fits = λ capacity big. reach.fits MOST_CALLS capacity (omega (arith, few))
          (λ sets later to low. big sets later to (omega (arith, low)));
      within = reach.within;
    }
