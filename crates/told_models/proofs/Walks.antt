-- A walk from one step to the next.
use Rattle.std.proofs.Common.{◌≡◌, ℕ, ◌+◌, ◌<◌, ◌≤◌, ◌∙◌, ◌⊎◌, ◌↔◌, List, [], ◌∷◌, ◌++◌, length, replicate, get_or, set, IsTrue, Option, Some, None, unwrap_or, refl, sym, ap, subst, inl, inr, arith, slice_get}
use Rattle.std.proofs.lemmas.List.{get_or_default}
use Rattle.std.proofs.lemmas.Option.{none-some}
use Rattle.std.specs.Prelude.{Vec}
use Rattle.std.specs.declared.alloc.Global.{Global}
use Rattle.book_base.specs.declared.TheConstants.{MAX_CALLERS}
use Rattle.book_base.specs.declared.call.Call.{Call}
use Rattle.book_base.specs.declared.call.Place.{Place}
use Rattle.book_base.specs.declared.call.Record.{Record}
use Rattle.book_base.specs.SeqSpec.{SeqSpec}
use Rattle.book_base.specs.Book.{Page, IsValid, IsSmall, IsCall, operation_of, record_of}
use Rattle.book_base.specs.Order.{IsLegalOrder, HasLegalOrder, call_at}
use Rattle.book_base.specs.Next.{next_call, raised, HoldsAnswered, MayComeNext, Continues}
use Rattle.book_base.specs.Pruning.{HasOneOpen, IsForced}
use Rattle.legal_orders.proofs.LegalOrder.{within_cut, legal_order_from_continues, continues_from_legal_order}
use Rattle.legal_orders.specs.Standing.{word_of}
use Rattle.search_hints.specs.declared.marked_callers.MarkedCallers.{MarkedCallers}
use Rattle.search_hints.specs.Marks.{IsMarked, MarksAllNext}
use Rattle.frontier_check.specs.declared.memo.Memo.{Memo}
use Rattle.frontier_check.specs.Memo.{IsMemo, Remembers}
use Rattle.frontier_check.proofs.Leading.{lowered}
use Rattle.told_models.specs.declared.table.Transition.{Transition}
use Rattle.told_models.specs.Table.{Table, told_step, IsPromised, Extends}
use Rattle.told_models.specs.Agreement.{AgreesBy, Agrees}
use Rattle.told_models.specs.Closed.{IsWordOf, number_of_calls}
use Rattle.told_models.specs.Dialogue.{IsAsk}
use Rattle.told_models.specs.declared.walk.Frame.{Frame}
use Rattle.told_models.specs.declared.walk.Walk.{Walk}
use Rattle.told_models.specs.declared.walk.Step.{Step}
use Rattle.told_models.specs.declared.walk.Step.TheVariants.{Found, NoneLeft, Asks, GoesOn}
use Rattle.told_models.specs.Walking.{IsDead, IsNode, Enters, FramesLead, AllDead, IsRecorded, IsWalk, IsLeftOut, order_of}
use Rattle.told_models.specs.Searching.{IsAt}
use Rattle.told_models.specs.Weighing.{number_marked, weigh, weight, IsLighter}
use Rattle.told_models.specs.SearchLaws.{SearchesStay}
use Rattle.told_models.proofs.Frames.{Back, leads_push, leads_pop, may_stand, leads_continue, start_wide, start_zeros, start_reach, frames_few, near}
use Rattle.told_models.proofs.Sufficing.{AreWithout, node_fresh, node_unreplied, node_idle, node_served, node_dead, node_at_once, node_ends}
use Rattle.told_models.proofs.Weighing.{number_marked-few, number_marked-without, weigh-push, weigh-less, weigh-within, weigh-pop}

-- Who agrees with a table agrees with one that it extends, by the same numbers.
pub agrees_with_old : (old new : Table) (list_of : ℕ → List ℕ) (spec : SeqSpec) → Extends old new
    → AgreesBy list_of new spec → AgreesBy list_of old spec
agrees_with_old old new list_of spec extends agrees = record {
  init = agrees.init ∙ ap list_of extends.init;
  steps = λ state op transition told.
      agrees.steps state op transition (extends.steps state op transition told);
  promises = λ op reply promised. agrees.promises op reply (extends.promises op reply promised);
}

node_stays : (old new : Table) (book : List Page) (cut : List ℕ) (state : ℕ)
    (waiting : MarkedCallers) → Extends old new → IsNode old book cut state waiting
    → IsNode new book cut state waiting
node_stays old new book cut state waiting extends node = record {
  unended = node.unended;
  may = node.may;
  suffice = λ list_of spec agrees.
      node.suffice list_of spec (agrees_with_old old new list_of spec extends agrees);
}

leads_stay : (old new : Table) (book : List Page) (cut : List ℕ) (state : ℕ) (frames : List Frame)
    (to_cut : List ℕ) (to_state : ℕ) → Extends old new
    → FramesLead old book cut state frames to_cut to_state
    → FramesLead new book cut state frames to_cut to_state
leads_stay old new book cut state [] to_cut to_state extends leads = leads
leads_stay old new book cut state (frame ∷ frames) to_cut to_state extends leads = (
  leads.0,
  node_stays old new book cut state frame.waiting extends leads.1,
  leads.2,
  leads.3,
  record {
    may = leads.4.may;
    recorded = leads.4.recorded;
    told = extends.steps state _ _ leads.4.told;
  },
  leads_stay old new book (raised cut frame.place.caller) leads.3 frames to_cut to_state extends
      leads.5,
)

-- A walk goes on where more was told.
pub walk_stays : (old new : Table) (book : List Page) (walk : Walk) → Extends old new
    → IsWalk old book walk → IsWalk new book walk
walk_stays old new book walk extends h = record {
  leads = subst
      (λ (s : ℕ). FramesLead new book (replicate (length book) 0) s walk.frames.items
      walk.counts.items walk.state) (sym extends.init)
      (leads_stay old new book (replicate (length book) 0) old.init walk.frames.items
      walk.counts.items walk.state extends h.leads);
  here = node_stays old new book walk.counts.items walk.state walk.waiting extends h.here;
  dead = λ cut state there list_of spec agrees.
      h.dead cut state there list_of spec (agrees_with_old old new list_of spec extends agrees);
  memo = h.memo;
  callers = h.callers;
  one_open = h.one_open;
  valid = h.valid;
  small = h.small;
}

search_stays : (old new : Table) (book : List Page) (walk : Option Walk) → Extends old new
    → IsAt old book walk → IsAt new book walk
search_stays old new book None extends h = h
search_stays old new book (Some walk) extends h = walk_stays old new book walk extends h

pub searches_stay : SearchesStay
searches_stay old new book search extends h = search_stays old new book search.walk extends h

-- a walk counts the calls of each caller of the book
pub walk_wide : (table : Table) (book : List Page) (walk : Walk) → IsWalk table book walk
    → length walk.counts.items ≡ length book
walk_wide table book walk h =
    (start_reach table book walk.frames.items walk.counts.items walk.state h.leads).wide
    ∙ start_wide book

-- the caller of a call of the book is one that a walk counts
pub walk_counts : (table : Table) (book : List Page) (walk : Walk) (call : Call)
    → IsWalk table book walk → IsCall book call → call.caller < length walk.counts.items
walk_counts table book walk call h is_call =
    within_cut book walk.counts.items call (omega (arith, walk_wide table book walk h)) is_call

-- a waiting caller's number is below the greatest number of callers
pub walk_low : (table : Table) (book : List Page) (walk : Walk) (caller : ℕ)
    → IsWalk table book walk → IsMarked walk.waiting caller → caller < MAX_CALLERS
walk_low table book walk caller h marked = omega (
  arith,
  walk_counts table book walk (next_call walk.counts.items caller) h
      (h.here.may caller marked).is_call,
  walk_wide table book walk h,
  h.small.callers,
)

-- what is read of the counts of a walk at a waiting caller
pub walk_number : (table : Table) (book : List Page) (walk : Walk) (caller n : ℕ)
    → IsWalk table book walk → IsMarked walk.waiting caller
    → n ≡ get_or walk.counts.items caller n → n ≡ get_or walk.counts.items caller 0
walk_number table book walk caller n h marked is = is ∙ get_or_default walk.counts.items caller n 0
    (walk_counts table book walk (next_call walk.counts.items caller) h
    (h.here.may caller marked).is_call)

-- the call that is read of the counts of a walk at a waiting caller is its next call
pub walk_call : (table : Table) (book : List Page) (walk : Walk) (caller read number : ℕ)
    → IsWalk table book walk → IsMarked walk.waiting caller
    → read ≡ get_or walk.counts.items caller read → number ≡ read
    → ◌≡◌ {A = Call} (record { caller = caller; number = number })
    (next_call walk.counts.items caller)
walk_call table book walk caller read number h marked is same =
    ap (λ (n : ℕ). record { caller = caller; number = n })
    (same ∙ walk_number table book walk caller read h marked is)

-- and it is one of the book's
pub walk_has_call : (table : Table) (book : List Page) (walk : Walk) (caller read number : ℕ)
    → IsWalk table book walk → IsMarked walk.waiting caller
    → read ≡ get_or walk.counts.items caller read → number ≡ read
    → IsCall book (record { caller = caller; number = number })
walk_has_call table book walk caller read number h marked is same =
    subst (λ (call : Call). IsCall book call)
    (sym (walk_call table book walk caller read number h marked is same))
    (h.here.may caller marked).is_call

-- A walk with the memo of another one.
pub walk_from : (table : Table) (book : List Page) (old new : Walk) → IsWalk table book old
    → new.memo ≡ old.memo → new.one_open ≡ old.one_open
    → FramesLead table book (replicate (length book) 0) table.init new.frames.items
    new.counts.items new.state → IsNode table book new.counts.items new.state new.waiting
    → IsWalk table book new
walk_from table book old new h memo same_open leads node = record {
  leads = leads;
  here = node;
  dead = subst (AllDead table book) (sym memo) h.dead;
  memo = subst (λ (m : Memo). IsMemo m) (sym memo) h.memo;
  callers = ap (λ (m : Memo). m.callers) memo ∙ h.callers;
  one_open = subst (λ b. IsTrue b → HasOneOpen book) (sym same_open) h.one_open;
  valid = h.valid;
  small = h.small;
}

-- A walk with the same counts, where other callers wait.
pub walk_waits : (table : Table) (book : List Page) (walk : Walk) (counts : Vec ℕ Global)
    (waiting : MarkedCallers) → IsWalk table book walk → counts.items ≡ walk.counts.items
    → IsNode table book walk.counts.items walk.state waiting
    → IsWalk table book (record walk { counts = counts; waiting = waiting })
walk_waits table book walk counts waiting h same node =
    walk_from table book walk (record walk { counts = counts; waiting = waiting }) h refl refl
    (subst (λ (c : List ℕ). FramesLead table book (replicate (length book) 0) table.init
    walk.frames.items c walk.state) (sym same) h.leads)
    (subst (λ (c : List ℕ). IsNode table book c walk.state waiting) (sym same) node)

-- A memo without entries remembers nothing.
remembers_none : (memo : Memo) (cut list : List ℕ) → memo.entries.items ≡ []
    → Remembers memo cut list → ⊥
remembers_none memo cut list none there = absurd (none-some there.1
    (ap (λ es. slice_get es there.0) (sym none) ∙ there.2))

-- A walk without frames, with an empty memo, where all callers wait whose next calls may come next.
pub walk_begins : (table : Table) (book : List Page) (walk : Walk) (forced : ℕ) → IsValid book
    → IsSmall book → walk.frames.items ≡ [] → walk.counts.items ≡ replicate (length book) 0
    → walk.state ≡ table.init → IsForced book walk.counts.items forced
    → MarksAllNext book walk.counts.items walk.waiting → IsMemo walk.memo
    → walk.memo.callers ≡ length book → walk.memo.entries.items ≡ []
    → (IsTrue walk.one_open → HasOneOpen book) → IsWalk table book walk
walk_begins table book walk forced valid small frames counts state least all memo callers none
    is_open = record {
      leads = subst
          (λ (fs : List Frame). FramesLead table book (replicate (length book) 0) table.init fs
          walk.counts.items walk.state) (sym frames) (sym counts, sym state);
      here = node_fresh table book walk.counts.items walk.state forced walk.waiting least all;
      dead = λ cut state there. absurd (remembers_none walk.memo cut (state ∷ []) none there);
      memo = memo;
      callers = callers;
      one_open = is_open;
      valid = valid;
      small = small;
    }

-- A walk at which no caller waits remembers where it is.
pub walk_remembers : (table : Table) (book : List Page) (walk : Walk) (memo : Memo)
    (counts : List ℕ) → IsWalk table book walk → ((i : ℕ) → IsMarked walk.waiting i → ⊥)
    → counts ≡ walk.counts.items → IsMemo memo → memo.callers ≡ walk.memo.callers
    → ((cut list : List ℕ) → Remembers memo cut list → Remembers walk.memo cut list
    ⊎ ((cut ≡ counts) × (list ≡ walk.state ∷ [])))
    → IsWalk table book (record walk { memo = memo })
walk_remembers table book walk memo counts h none here is_memo callers only = record {
  leads = h.leads;
  here = h.here;
  dead = λ cut state there. elim (only cut (state ∷ []) there) [
    | inl before ↦ h.dead cut state before
    | inr now ↦ subst (λ (c : List ℕ). IsDead table book c state) (sym (now.0 ∙ here))
        (subst (λ (s : ℕ). IsDead table book walk.counts.items s)
        (sym (ap (λ (l : List ℕ). get_or l 0 0) now.1))
        (node_ends table book walk.counts.items walk.state walk.waiting h.here none))
  ];
  memo = is_memo;
  callers = callers ∙ h.callers;
  one_open = h.one_open;
  valid = h.valid;
  small = h.small;
}

-- What is left out needn't wait.
pub node_left_out : (table : Table) (book : List Page) (walk : Walk) (new : MarkedCallers)
    (caller : ℕ) (transition : Transition) → IsWalk table book walk
    → IsMarked walk.waiting caller → AreWithout new walk.waiting caller
    → told_step table walk.state (word_of book (next_call walk.counts.items caller))
    ≡ Some transition → IsLeftOut book walk caller transition
    → IsNode table book walk.counts.items walk.state new
node_left_out table book walk new caller transition h marked without told left =
    let cut : List ℕ = walk.counts.items in
    let wide : length book ≤ length cut = omega (arith, walk_wide table book walk h) in
    elim left [
      | inl wrong ↦ node_unreplied table book cut walk.state walk.waiting new caller transition
          without h.here told wrong
      | inr free ↦ elim free.2 [
        | inl idle ↦ node_idle table book cut walk.state walk.waiting new caller transition without
            h.here told wide (h.one_open free.0) idle.0 idle.1
        | inr served ↦ node_served table book cut walk.state walk.waiting new caller transition
            without h.here told wide h.valid (h.one_open free.0) free.1 served.0 served.1 served.2
            marked served.3
      ]
    ]

-- An order that is found is legal for each object that agrees.
pub walk_found : (table : Table) (book : List Page) (walk : Walk) (place : Place) (next : ℕ)
    → IsWalk table book walk → Enters table book walk.counts.items walk.state place next
    → HoldsAnswered book (raised walk.counts.items place.caller) → (spec : SeqSpec)
    → Agrees table spec → IsLegalOrder spec book (order_of walk.frames.items ++ place ∷ [])
walk_found table book walk place next h enters all spec agrees =
    legal_order_from_continues book spec (replicate (length book) 0)
    (order_of walk.frames.items ++ place ∷ []) (omega (arith, start_wide book)) (start_zeros book)
    (subst (λ (l : List ℕ). Continues book spec.next (replicate (length book) 0) l
    (order_of walk.frames.items ++ place ∷ [])) (sym agrees.1.init)
    (leads_continue table book agrees.0 spec agrees.1 (replicate (length book) 0) table.init
    walk.frames.items walk.counts.items walk.state (place ∷ []) h.leads (
      may_stand table book walk.counts.items walk.state place next agrees.0 spec enters agrees.1,
      all,
    )))

-- Where no call is answered, the empty order is legal for each object.
pub nothing_found : (book : List Page) → HoldsAnswered book (replicate (length book) 0)
    → (spec : SeqSpec) → IsLegalOrder spec book []
nothing_found book all spec = legal_order_from_continues book spec (replicate (length book) 0) []
    (omega (arith, start_wide book)) (start_zeros book) all

-- A walk without frames at which no caller waits says that there is no legal order.
pub walk_ends : (table : Table) (book : List Page) (walk : Walk) → IsWalk table book walk
    → walk.frames.items ≡ [] → ((i : ℕ) → IsMarked walk.waiting i → ⊥) → (spec : SeqSpec)
    → Agrees table spec → HasLegalOrder spec book → ⊥
walk_ends table book walk h empty none spec agrees legal =
    let leads : FramesLead table book (replicate (length book) 0) table.init [] walk.counts.items
    walk.state = subst (λ (fs : List Frame). FramesLead table book (replicate (length book) 0)
    table.init fs walk.counts.items walk.state) empty h.leads in
    let dead : IsDead table book (replicate (length book) 0) table.init =
    subst (λ (c : List ℕ). IsDead table book c table.init) (sym leads.0)
    (subst (λ (s : ℕ). IsDead table book walk.counts.items s) (sym leads.1)
    (node_ends table book walk.counts.items walk.state walk.waiting h.here none)) in
    dead agrees.0 spec agrees.1 legal.0
    (subst (λ (l : List ℕ). Continues book spec.next (replicate (length book) 0) l legal.0)
    agrees.1.init
    (continues_from_legal_order book spec (replicate (length book) 0) legal.0
    (omega (arith, start_wide book)) (start_zeros book) legal.1))

-- A walk goes one frame deeper.
pub walk_enters : (table : Table) (book : List Page) (old new : Walk) (place : Place) (next : ℕ)
    → IsWalk table book old → IsMarked old.waiting place.caller
    → Enters table book old.counts.items old.state place next
    → new.frames.items ≡ old.frames.items
    ++ record { place = place; state = old.state; waiting = old.waiting } ∷ []
    → new.counts.items ≡ raised old.counts.items place.caller → new.state ≡ next
    → IsNode table book new.counts.items new.state new.waiting → new.memo ≡ old.memo
    → new.one_open ≡ old.one_open → IsWalk table book new
walk_enters table book old new place next h marked enters frames counts state node memo same_open =
    let frame : Frame = record { place = place; state = old.state; waiting = old.waiting } in
    walk_from table book old new h memo same_open
    (subst (λ (fs : List Frame). FramesLead table book (replicate (length book) 0) table.init
    fs new.counts.items new.state) (sym frames)
    (subst (λ (c : List ℕ). FramesLead table book (replicate (length book) 0) table.init
    (old.frames.items ++ frame ∷ []) c new.state) (sym counts)
    (subst (λ (s : ℕ). FramesLead table book (replicate (length book) 0) table.init
    (old.frames.items ++ frame ∷ []) (raised old.counts.items place.caller) s) (sym state)
    (leads_push table book (replicate (length book) 0) table.init old.frames.items
    old.counts.items old.state frame next h.leads refl h.here marked enters)))) node

-- The count of a place's caller, raised by the place.
pub counts_raised : (table : Table) (book : List Page) (cut : List ℕ) (state next : ℕ)
    (place : Place) → Enters table book cut state place next
    → set cut place.caller (place.number + 1) ≡ raised cut place.caller
counts_raised table book cut state next place enters =
    ap (λ (n : ℕ). set cut place.caller (n + 1)) enters.may.next

-- The count that a place raised, set back.
pub counts_lowered : (table : Table) (book : List Page) (cut mid new : List ℕ) (state next : ℕ)
    (place : Place) → Enters table book cut state place next
    → mid ≡ set cut place.caller (place.number + 1) → new ≡ set mid place.caller place.number
    → new ≡ cut
counts_lowered table book cut mid new state next place enters up down =
    down ∙ (ap (λ (c : List ℕ). set c place.caller place.number)
    (up ∙ counts_raised table book cut state next place enters)
    ∙ lowered cut place.caller place.number enters.may.next)

-- A caller waits no more whose place enters a dead end.
pub entered_dead : (table : Table) (book : List Page) (cut : List ℕ) (state next : ℕ)
    (old new : MarkedCallers) (place : Place) → AreWithout new old place.caller
    → IsNode table book cut state old → Enters table book cut state place next
    → IsDead table book (raised cut place.caller) next → IsNode table book cut state new
entered_dead table book cut state next old new place without node enters dead =
    let same : call_at place ≡ next_call cut place.caller =
    ap (λ (n : ℕ). record { caller = place.caller; number = n }) enters.may.next in
    node_dead table book cut state old new place.caller
    (record { next = next; reply = place.reply }) without node
    (ap (λ (c : Call). told_step table state (word_of book c)) (sym same) ∙ enters.told) dead

-- What the frames of a walk say of the last one.
pub walk_back : (table : Table) (book : List Page) (walk : Walk) (frames : List Frame)
    (frame : Frame) → IsWalk table book walk → walk.frames.items ≡ frames ++ frame ∷ []
    → Back table book (replicate (length book) 0) table.init frames frame walk.counts.items
    walk.state
walk_back table book walk frames frame h are =
    leads_pop table book (replicate (length book) 0) table.init frames frame walk.counts.items
    walk.state (subst (λ (fs : List Frame). FramesLead table book (replicate (length book) 0)
    table.init fs walk.counts.items walk.state) are h.leads)

-- A walk goes back by its last frame, whose call led to a dead end.
pub walk_retreats : (table : Table) (book : List Page) (old new : Walk) (frames : List Frame)
    (frame : Frame) → IsWalk table book old → ((i : ℕ) → IsMarked old.waiting i → ⊥)
    → old.frames.items ≡ frames ++ frame ∷ [] → new.frames.items ≡ frames
    → new.counts.items ≡ set old.counts.items frame.place.caller frame.place.number
    → new.state ≡ frame.state → AreWithout new.waiting frame.waiting frame.place.caller
    → new.memo ≡ old.memo → new.one_open ≡ old.one_open → IsWalk table book new
walk_retreats table book old new frames frame h none is_frames frames_are counts state without memo
    same_open =
    let back : Back table book (replicate (length book) 0) table.init frames frame old.counts.items
    old.state = walk_back table book old frames frame h is_frames in
    let caller : ℕ = frame.place.caller in
    let counts_are : new.counts.items ≡ back.from =
    counts ∙ (ap (λ (c : List ℕ). set c caller frame.place.number) (sym back.raised_is)
    ∙ lowered back.from caller frame.place.number back.enters.may.next) in
    let dead : IsDead table book (raised back.from caller) old.state =
    subst (λ (c : List ℕ). IsDead table book c old.state) (sym back.raised_is)
    (node_ends table book old.counts.items old.state old.waiting h.here none) in
    let node : IsNode table book back.from frame.state new.waiting =
    entered_dead table book back.from frame.state old.state frame.waiting new.waiting frame.place
    without back.node back.enters dead in
    walk_from table book old new h memo same_open
    (subst (λ (fs : List Frame). FramesLead table book (replicate (length book) 0) table.init
    fs new.counts.items new.state) (sym frames_are)
    (subst (λ (c : List ℕ). FramesLead table book (replicate (length book) 0) table.init
    frames c new.state) (sym counts_are)
    (subst (λ (s : ℕ). FramesLead table book (replicate (length book) 0) table.init frames
    back.from s) (sym state) back.leads)))
    (subst (λ (c : List ℕ). IsNode table book c new.state new.waiting) (sym counts_are)
    (subst (λ (s : ℕ). IsNode table book back.from s new.waiting) (sym state) node))

-- The next call of a waiting caller enters, where its step is told and its reply is the recorded
-- one.
pub walk_may_enter : (table : Table) (book : List Page) (walk : Walk) (place : Place) (op : ℕ)
    (transition : Transition) → IsWalk table book walk → IsMarked walk.waiting place.caller
    → call_at place ≡ next_call walk.counts.items place.caller → place.reply ≡ transition.reply
    → operation_of book (call_at place) ≡ Some op
    → told_step table walk.state op ≡ Some transition
    → IsRecorded book (next_call walk.counts.items place.caller) transition.reply
    → Enters table book walk.counts.items walk.state place transition.next
walk_may_enter table book walk place op transition h marked same gives is_op told recorded =
    record {
      may = subst (λ (c : Call). MayComeNext book walk.counts.items c) (sym same)
          (h.here.may place.caller marked);
      recorded =
          λ r at. recorded r (ap (λ (c : Call). record_of book c) (sym same) ∙ at) ∙ sym gives;
      told = ap (λ (o : Option ℕ). told_step table walk.state (unwrap_or o 0)) is_op ∙ (told
          ∙ ap (λ (n : ℕ). Some (record { next = transition.next; reply = n })) (sym gives));
    }

-- What the next call of a waiting caller does may be asked for, where it isn't told.
pub walk_asks : (table : Table) (book : List Page) (walk : Walk) (caller op : ℕ)
    → IsWalk table book walk → IsMarked walk.waiting caller
    → operation_of book (next_call walk.counts.items caller) ≡ Some op
    → told_step table walk.state op ≡ None
    → IsAsk table (IsWordOf book) (number_of_calls book) walk.state op
walk_asks table book walk caller op h marked is_op untold = record {
  untold = untold;
  word = (next_call walk.counts.items caller, is_op);
  near = near table book walk.frames.items walk.counts.items walk.state caller h.leads
      (h.here.may caller marked).is_call;
}

-- A caller waits no more whose next call is left out.
pub walk_leaves_out : (table : Table) (book : List Page) (walk : Walk) (new : MarkedCallers)
    (caller op : ℕ) (transition : Transition) → IsWalk table book walk
    → IsMarked walk.waiting caller → AreWithout new walk.waiting caller
    → operation_of book (next_call walk.counts.items caller) ≡ Some op
    → told_step table walk.state op ≡ Some transition → IsLeftOut book walk caller transition
    → IsWalk table book (record walk { waiting = new })
walk_leaves_out table book walk new caller op transition h marked without is_op told left =
    walk_waits table book walk walk.counts new h refl
    (node_left_out table book walk new caller transition h marked without
    (ap (λ (o : Option ℕ). told_step table walk.state (unwrap_or o 0)) is_op ∙ told) left)

-- A caller waits no more, and the walk weighs less.
pub lighter_without : (table : Table) (book : List Page) (walk : Walk) (new : MarkedCallers)
    (caller : ℕ) → IsWalk table book walk → IsMarked walk.waiting caller
    → AreWithout new walk.waiting caller
    → weigh (number_of_calls book) walk.frames.items (number_marked new) + 1 ≤ weight book walk
lighter_without table book walk new caller h marked without = omega (
  arith,
  weigh-less (number_of_calls book) walk.frames.items (number_marked new)
      (number_marked walk.waiting) (number_marked-without new walk.waiting caller without marked
      (walk_low table book walk caller h marked)),
)

-- A walk that is one frame deeper weighs less.
pub lighter_deeper : (table : Table) (book : List Page) (old : Walk) (place : Place)
    (frames : List Frame) (waiting : MarkedCallers) → IsWalk table book old
    → IsMarked old.waiting place.caller → frames ≡ old.frames.items
    ++ record { place = place; state = old.state; waiting = old.waiting } ∷ []
    → weigh (number_of_calls book) frames (number_marked waiting) + 1 ≤ weight book old
lighter_deeper table book old place frames waiting h marked are =
    let frame : Frame = record { place = place; state = old.state; waiting = old.waiting } in
    omega (
      arith,
      ap (λ (fs : List Frame). weigh (number_of_calls book) fs (number_marked waiting)) are,
      weigh-push (number_of_calls book) old.frames.items frame (number_marked old.waiting)
          (number_marked waiting) (frames_few table book old.frames.items old.counts.items
          old.state place.caller h.leads (h.here.may place.caller marked).is_call)
          (number_marked-few waiting) (omega arith),
    )

-- A walk that goes back by a frame weighs less.
pub lighter_back : (table : Table) (book : List Page) (old : Walk) (frames : List Frame)
    (frame : Frame) (waiting : MarkedCallers) → IsWalk table book old
    → old.frames.items ≡ frames ++ frame ∷ []
    → AreWithout waiting frame.waiting frame.place.caller
    → weigh (number_of_calls book) frames (number_marked waiting) + 1 ≤ weight book old
lighter_back table book old frames frame waiting h is_frames without =
    let back : Back table book (replicate (length book) 0) table.init frames frame old.counts.items
    old.state = walk_back table book old frames frame h is_frames in
    let low : frame.place.caller < MAX_CALLERS = omega (
      arith,
      walk_counts table book old (call_at frame.place) h back.enters.may.is_call,
      walk_wide table book old h,
      h.small.callers,
    ) in
    let was : weight book old
    ≡ weigh (number_of_calls book) (frames ++ frame ∷ []) (number_marked old.waiting) =
    ap (λ (fs : List Frame). weigh (number_of_calls book) fs (number_marked old.waiting))
    is_frames in
    omega (
      arith,
      was,
      weigh-pop (number_of_calls book) frames frame (number_marked waiting)
          (number_marked old.waiting) (number_marked-without waiting frame.waiting
          frame.place.caller without back.marked low),
    )

-- A step makes a walk lighter than one that is no lighter.
pub lighter_from : (book : List Page) (old mid new : Walk) (step : Step)
    → weight book mid ≤ weight book old → IsLighter book mid step new → IsLighter book old step new
lighter_from book old mid new (Found order) less falls = omega (arith, less, falls)
lighter_from book old mid new NoneLeft less falls = omega (arith, less, falls)
lighter_from book old mid new (Asks state op) less falls = omega (arith, less, falls)
lighter_from book old mid new GoesOn less falls = omega (arith, less, falls)

-- The next call of a waiting caller is taken at once, where it is promised to change no state.
pub walk_at_once : (table : Table) (book : List Page) (walk : Walk) (new : MarkedCallers)
    (caller : ℕ) (call : Call) (transition : Transition) → IsWalk table book walk
    → IsMarked walk.waiting caller → ((i : ℕ) → IsMarked new i ↔ (i ≡ caller))
    → call ≡ next_call walk.counts.items caller
    → told_step table walk.state (word_of book (next_call walk.counts.items caller))
    ≡ Some transition
    → IsRecorded book (next_call walk.counts.items caller) transition.reply
    → (r : Record) × (record_of book call ≡ Some r) × IsPromised table (word_of book call) r.reply
    → IsWalk table book (record walk { waiting = new })
walk_at_once table book walk new caller call transition h marked only same told recorded promised =
    let r : Record = promised.0 in
    let known = ap (record_of book) (sym same) ∙ promised.1 in
    walk_waits table book walk walk.counts new h refl
    (node_at_once table book walk.counts.items walk.state walk.waiting new caller transition r only
    h.here marked (omega (arith, walk_wide table book walk h)) told known (recorded r known)
    (subst (λ (c : Call). IsPromised table (word_of book c) r.reply) same promised.2))

-- A walk at whose place no more callers wait weighs no more.
pub lighter_within : (book : List Page) (walk : Walk) (new : MarkedCallers)
    → number_marked new ≤ number_marked walk.waiting
    → weigh (number_of_calls book) walk.frames.items (number_marked new) ≤ weight book walk
lighter_within book walk new few = weigh-within (number_of_calls book) walk.frames.items
    (number_marked new) (number_marked walk.waiting) few
