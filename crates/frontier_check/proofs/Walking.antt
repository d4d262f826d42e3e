-- A walk through the pairs of a cut and a list: one step deeper, one choice fewer, one frame back.
use Rattle.std.proofs.Common.{◌≡◌, ℕ, ◌+◌, ◌<◌, ◌≤◌, ◌⊎◌, ◌∙◌, List, [], ◌∷◌, ◌++◌, length, get_or, set, refl, sym, ap, subst, inl, inr, arith}
use Rattle.std.proofs.lemmas.List.{length_push, length-set}
use Rattle.std.proofs.lemmas.Option.{same_Some}
use Rattle.book_base.specs.declared.call.Place.{Place}
use Rattle.book_base.specs.declared.call.Record.{Record}
use Rattle.book_base.specs.declared.TheConstants.{MAX_CALLS}
use Rattle.book_base.specs.SeqSpec.{SeqSpec}
use Rattle.book_base.specs.Book.{Page}
use Rattle.book_base.specs.Order.{IsLegalOrder}
use Rattle.book_base.specs.Next.{next_call, raised, list_after, HoldsAnswered, MayComeNext}
use Rattle.legal_orders.proofs.LegalOrder.{answer_stands}
use Rattle.frontier_check.specs.declared.choice.Choice.{Choice}
use Rattle.frontier_check.specs.declared.walk.WalkFrame.{WalkFrame}
use Rattle.frontier_check.specs.declared.walk.Walk.{Walk}
use Rattle.frontier_check.specs.declared.walk.TheConstants.{MOST_CALLS}
use Rattle.frontier_check.specs.Memo.{IsMemo, Remembers}
use Rattle.frontier_check.specs.declared.prefix.Prefix.{Prefix}
use Rattle.frontier_check.specs.Prefix.{IsBookCapacity, IsPrefix}
use Rattle.book_base.specs.Pruning.{IsLeast, IsDeadEnd, IsReached}
use Rattle.frontier_check.specs.Search.{places_of, MayGrow, IsOpen, FramesLead, IsWalk, order_of, weigh, weight}
use Rattle.search_hints.proofs.Least.{may_come-from_least}
use Rattle.frontier_check.proofs.Choosing.{open-last, open-rest, dead_end}
use Rattle.frontier_check.proofs.Leading.{leads-push, leads-pop, standing, reached-from_leads, legal-from_leads, lowered}
use Rattle.frontier_check.proofs.Weighing.{weigh-push, weigh-skip, weigh-pop}

-- frames lead from a cut and a list to others where equal frames lead from there to equal ones
same_leads : (book : List Page) (next : List ℕ → ℕ → List ℕ × ℕ) (cut list : List ℕ)
    (frames new_frames : List WalkFrame) (to_cut new_cut to_list new_list : List ℕ)
    → new_frames ≡ frames → new_cut ≡ to_cut → new_list ≡ to_list
    → FramesLead book next cut list frames to_cut to_list
    → FramesLead book next cut list new_frames new_cut new_list
same_leads book next cut list frames new_frames to_cut new_cut to_list new_list e f k h =
    subst (λ (ls : List WalkFrame). FramesLead book next cut list ls new_cut new_list) (sym e)
    (subst (λ (c : List ℕ). FramesLead book next cut list frames c new_list) (sym f)
    (subst (λ (l : List ℕ). FramesLead book next cut list frames to_cut l) (sym k) h))

-- What is to be tried at a cut and a list is what is to be tried at equal ones.
pub same_open : (book : List Page) (next : List ℕ → ℕ → List ℕ × ℕ)
    (cut new_cut list new_list : List ℕ) (places new_places : List Place)
    → new_cut ≡ cut → new_list ≡ list → new_places ≡ places → IsOpen book next cut list places
    → IsOpen book next new_cut new_list new_places
same_open book next cut new_cut list new_list places new_places e f k h =
    subst (λ (c : List ℕ). IsOpen book next c new_list new_places) (sym e)
    (subst (λ (l : List ℕ). IsOpen book next cut l new_places) (sym f)
    (subst (λ (ps : List Place). IsOpen book next cut list ps) (sym k) h))

-- A walk whose last choice is taken off has its place and the other choices to try, with as much
-- weight as before.
pub walk-choose : (book : List Page) (prefix : Prefix) (spec : SeqSpec) (old new : Walk)
    (choice : Choice) → IsWalk book prefix spec old (places_of old.choices.items)
    → old.choices.items ≡ new.choices.items ++ choice ∷ [] → new.frames ≡ old.frames
    → new.counts ≡ old.counts → new.here ≡ old.here → new.memo ≡ old.memo
    → IsWalk book prefix spec new (choice.place ∷ places_of new.choices.items)
    × (weigh MOST_CALLS new.frames.items (length new.choices.items + 1) ≡ weight old)
walk-choose book prefix spec old new choice h choices frames counts here memo =
    let more : IsOpen book spec.next old.counts.items old.here.words
    (places_of (new.choices.items ++ choice ∷ [])) =
    subst
    (λ (cs : List Choice). IsOpen book spec.next old.counts.items old.here.words (places_of cs))
    choices h.here in
    let long : length new.choices.items + 1 ≡ length old.choices.items =
    sym (ap (λ (cs : List Choice). length cs) choices ∙ length_push new.choices.items choice) in (
      record {
        begins = h.begins;
        leads =
            same_leads book spec.next prefix.cut prefix.here.words old.frames.items new.frames.items
            old.counts.items new.counts.items old.here.words new.here.words
            (ap (λ v. v.items) frames) (ap (λ v. v.items) counts) (ap (λ s. s.words) here) h.leads;
        here =
            same_open book spec.next old.counts.items new.counts.items old.here.words new.here.words
            (choice.place ∷ places_of new.choices.items)
            (choice.place ∷ places_of new.choices.items)
            (ap (λ v. v.items) counts) (ap (λ s. s.words) here) refl
            (open-last book spec.next old.counts.items old.here.words new.choices.items
            choice more);
        dead = λ cut list there. h.dead cut list (subst (λ m. Remembers m cut list) memo there);
        memo = subst (λ m. IsMemo m) (sym memo) h.memo;
        callers = ap (λ m. m.callers) memo ∙ h.callers;
        room = subst (λ s. IsBookCapacity spec s.room) (sym here) h.room;
      },
      ap (λ v. weigh MOST_CALLS v.items (length new.choices.items + 1)) frames
          ∙ ap (λ (n : ℕ). weigh MOST_CALLS old.frames.items n) long,
    )

-- A walk with nothing left to try stays right once its memo remembers its cut and its list as well.
pub walk-remember : (book : List Page) (prefix : Prefix) (spec : SeqSpec) (old new : Walk)
    → IsWalk book prefix spec old [] → new.frames ≡ old.frames → new.counts ≡ old.counts
    → new.here ≡ old.here → IsMemo new.memo → new.memo.callers ≡ old.memo.callers
    → ((cut list : List ℕ) → Remembers new.memo cut list → Remembers old.memo cut list
    ⊎ ((cut ≡ old.counts.items) × (list ≡ old.here.words))) → IsWalk book prefix spec new []
walk-remember book prefix spec old new h frames counts here memo callers only = record {
  begins = h.begins;
  leads = same_leads book spec.next prefix.cut prefix.here.words old.frames.items new.frames.items
      old.counts.items new.counts.items old.here.words new.here.words
      (ap (λ v. v.items) frames) (ap (λ v. v.items) counts) (ap (λ s. s.words) here) h.leads;
  here = same_open book spec.next old.counts.items new.counts.items old.here.words
      new.here.words [] [] (ap (λ v. v.items) counts) (ap (λ s. s.words) here) refl h.here;
  dead = λ (cut list : List ℕ) there. elim (only cut list there) [
    | inl before ↦ h.dead cut list before
    | inr now ↦
        subst (λ (c : List ℕ). IsDeadEnd book spec.next c list) (sym now.0)
        (subst (λ (l : List ℕ). IsDeadEnd book spec.next old.counts.items l) (sym now.1)
        (dead_end book spec.next old.counts.items old.here.words h.here))
  ];
  memo = memo;
  callers = callers ∙ h.callers;
  room = subst (λ s. IsBookCapacity spec s.room) (sym here) h.room;
}

-- A walk goes without a place that leads to a remembered dead end, and weighs less then.
pub walk-skip : (book : List Page) (prefix : Prefix) (spec : SeqSpec) (old new : Walk)
    (place : Place) → IsWalk book prefix spec old (place ∷ places_of old.choices.items)
    → Remembers old.memo (raised old.counts.items place.caller)
    (list_after book spec.next old.here.words place) → new.frames ≡ old.frames
    → new.counts.items ≡ old.counts.items → new.here ≡ old.here → new.choices ≡ old.choices
    → new.memo ≡ old.memo → IsWalk book prefix spec new (places_of new.choices.items)
    × (weight new < weigh MOST_CALLS old.frames.items (length old.choices.items + 1))
walk-skip book prefix spec old new place h there frames counts here choices memo =
    let dead = h.dead (raised old.counts.items place.caller)
    (list_after book spec.next old.here.words place) there in
    let same : weight new ≡ weigh MOST_CALLS old.frames.items (length old.choices.items) =
    ap (λ v. weigh MOST_CALLS v.items (length new.choices.items)) frames
    ∙ ap (λ v. weigh MOST_CALLS old.frames.items (length v.items)) choices in (
      record {
        begins = h.begins;
        leads =
            same_leads book spec.next prefix.cut prefix.here.words old.frames.items new.frames.items
            old.counts.items new.counts.items old.here.words new.here.words
            (ap (λ v. v.items) frames) counts (ap (λ s. s.words) here) h.leads;
        here =
            same_open book spec.next old.counts.items new.counts.items old.here.words new.here.words
            (places_of old.choices.items) (places_of new.choices.items)
            counts (ap (λ s. s.words) here) (ap (λ v. places_of v.items) choices) (open-rest book
            spec.next old.counts.items old.here.words place
            (places_of old.choices.items) dead h.here);
        dead = λ cut list at. h.dead cut list (subst (λ m. Remembers m cut list) memo at);
        memo = subst (λ m. IsMemo m) (sym memo) h.memo;
        callers = ap (λ m. m.callers) memo ∙ h.callers;
        room = subst (λ s. IsBookCapacity spec s.room) (sym here) h.room;
      },
      omega (arith, same, weigh-skip MOST_CALLS old.frames.items (length old.choices.items)),
    )

-- A walk is one frame deeper than another: a frame is put at its end that has the list and the
-- choices of the other walk, and the cut and the list become those after the call at its place.
pub record IsDeeper (book : List Page) (next : List ℕ → ℕ → List ℕ × ℕ) (old new : Walk)
    (frame : WalkFrame) : Type 0 where
  pub frames : new.frames.items ≡ old.frames.items ++ frame ∷ []
  pub words : frame.words.items ≡ old.here.words
  pub choices : frame.choices.items ≡ old.choices.items
  pub counts : new.counts.items ≡ raised old.counts.items frame.place.caller
  pub here : new.here.words ≡ list_after book next old.here.words frame.place
  pub room : new.here.room ≡ old.here.room
  pub memo : new.memo ≡ old.memo

deeper-leads : (book : List Page) (prefix : Prefix) (spec : SeqSpec) (old new : Walk)
    (frame : WalkFrame) → IsWalk book prefix spec old (frame.place ∷ places_of old.choices.items)
    → IsDeeper book spec.next old new frame → FramesLead book spec.next prefix.cut prefix.here.words
    new.frames.items new.counts.items new.here.words
deeper-leads book prefix spec old new frame h d =
    let here : IsOpen book spec.next old.counts.items old.here.words
    (frame.place ∷ places_of frame.choices.items) =
    subst (λ (cs : List Choice). IsOpen book spec.next old.counts.items old.here.words
    (frame.place ∷ places_of cs)) (sym d.choices) h.here in
    same_leads book spec.next prefix.cut prefix.here.words (old.frames.items ++ frame ∷ [])
    new.frames.items (raised old.counts.items frame.place.caller) new.counts.items
    (list_after book spec.next old.here.words frame.place) new.here.words d.frames d.counts d.here
    (leads-push book spec.next prefix.cut prefix.here.words old.frames.items old.counts.items
    old.here.words frame h.leads d.words here)

-- A walk that is one frame deeper is right, with less weight, where its choices are what is to be
-- tried and are no more than the callers of the book.
pub walk-deeper : (book : List Page) (prefix : Prefix) (spec : SeqSpec) (old new : Walk)
    (frame : WalkFrame)
    → IsWalk book prefix spec old (frame.place ∷ places_of old.choices.items)
    → IsDeeper book spec.next old new frame
    → IsOpen book spec.next new.counts.items new.here.words (places_of new.choices.items)
    → length new.choices.items ≤ length book
    → IsWalk book prefix spec new (places_of new.choices.items)
    × (weight new < weigh MOST_CALLS old.frames.items (length old.choices.items + 1))
walk-deeper book prefix spec old new frame h d here few =
    let s = standing book prefix spec old.frames.items old.counts.items old.here.words
    frame.place h.begins h.leads h.here.sound.0.may_come in
    let callers = h.begins.stands.small.callers in
    let same : weight new
    ≡ weigh MOST_CALLS (old.frames.items ++ frame ∷ []) (length new.choices.items) =
    ap (λ (ls : List WalkFrame). weigh MOST_CALLS ls (length new.choices.items)) d.frames in
    let more : weigh MOST_CALLS old.frames.items (length frame.choices.items + 1)
    ≡ weigh MOST_CALLS old.frames.items (length old.choices.items + 1) =
    ap (λ (cs : List Choice). weigh MOST_CALLS old.frames.items (length cs + 1)) d.choices in (
      record {
        begins = h.begins;
        leads = deeper-leads book prefix spec old new frame h d;
        here = here;
        dead = λ cut list at. h.dead cut list (subst (λ m. Remembers m cut list) d.memo at);
        memo = subst (λ m. IsMemo m) (sym d.memo) h.memo;
        callers = ap (λ m. m.callers) d.memo ∙ h.callers;
        room = subst (λ (n : ℕ). IsBookCapacity spec n) (sym d.room) h.room;
      },
      omega (
        arith,
        same,
        more,
        weigh-push MOST_CALLS old.frames.items frame (length new.choices.items) s.depth
            (omega arith),
      ),
    )

-- Where the cut of a walk that is one frame deeper holds all answered calls, the places of the
-- prefix and then of the frames are a legal order.
pub walk-found : (book : List Page) (prefix : Prefix) (spec : SeqSpec) (old new : Walk)
    (frame : WalkFrame) → IsWalk book prefix spec old (frame.place ∷ places_of old.choices.items)
    → IsDeeper book spec.next old new frame → HoldsAnswered book new.counts.items
    → IsLegalOrder spec book (prefix.places.items ++ order_of new.frames.items)
walk-found book prefix spec old new frame h d all =
    legal-from_leads book prefix spec new.frames.items new.counts.items new.here.words h.begins
    (deeper-leads book prefix spec old new frame h d) all

-- The cut and the list to which a frame with the list and the choices of a walk leads from there:
-- the ones after the call at its place.
pub record LeadsTo (book : List Page) (next : List ℕ → ℕ → List ℕ × ℕ) (old : Walk)
    (frame : WalkFrame)
    (cut list : List ℕ) : Type 0 where
  pub words : frame.words.items ≡ old.here.words
  pub choices : frame.choices.items ≡ old.choices.items
  pub cut_is : cut ≡ raised old.counts.items frame.place.caller
  pub list_is : list ≡ list_after book next old.here.words frame.place

leads-to : (book : List Page) (prefix : Prefix) (spec : SeqSpec) (old : Walk) (frame : WalkFrame)
    (cut list : List ℕ) → IsWalk book prefix spec old (frame.place ∷ places_of old.choices.items)
    → LeadsTo book spec.next old frame cut list
    → FramesLead book spec.next prefix.cut prefix.here.words
    (old.frames.items ++ frame ∷ []) cut list
leads-to book prefix spec old frame cut list h to =
    let here : IsOpen book spec.next old.counts.items old.here.words
    (frame.place ∷ places_of frame.choices.items) =
    subst (λ (cs : List Choice). IsOpen book spec.next old.counts.items old.here.words
    (frame.place ∷ places_of cs)) (sym to.choices) h.here in
    same_leads book spec.next prefix.cut prefix.here.words (old.frames.items ++ frame ∷ [])
    (old.frames.items ++ frame ∷ []) (raised old.counts.items frame.place.caller) cut
    (list_after book spec.next old.here.words frame.place) list refl to.cut_is to.list_is
    (leads-push book spec.next prefix.cut prefix.here.words old.frames.items old.counts.items
    old.here.words frame h.leads to.words here)

-- Where a frame leads from a walk to a cut after which an answered call is due, each next list fits
-- a capacity that suffices in each book.
pub deeper-fits : (book : List Page) (prefix : Prefix) (spec : SeqSpec) (old : Walk)
    (frame : WalkFrame) (cut list : List ℕ) (first : ℕ)
    → IsWalk book prefix spec old (frame.place ∷ places_of old.choices.items)
    → LeadsTo book spec.next old frame cut list → IsLeast book cut (length book) first
    → (capacity : ℕ) → IsBookCapacity spec capacity → MayGrow spec.next list capacity
deeper-fits book prefix spec old frame cut list first h to least =
    let valid = h.begins.stands.valid in
    let place : Place = record { caller = first; number = get_or cut first 0; reply = 0 } in
    let there = answer_stands book (next_call cut first) least.answered in
    let own = valid.own (next_call cut first) there.0 there.1 in
    let may : MayComeNext book cut (next_call cut first) =
    may_come-from_least book cut first first there.0.view valid least
    (λ (r : Record) at. ap (λ (x : Record). x.view) (same_Some r there.0 (sym at ∙ there.1)))
    (omega (arith, own)) in
    (standing book prefix spec (old.frames.items ++ frame ∷ []) cut list place h.begins
    (leads-to book prefix spec old frame cut list h to) may).fits

-- Some order reaches the cut and the list to which a frame leads from a walk, and whatever places
-- continue it from there make a legal order with it.
pub deeper-reached : (book : List Page) (prefix : Prefix) (spec : SeqSpec) (old : Walk)
    (frame : WalkFrame) (cut list : List ℕ)
    → IsWalk book prefix spec old (frame.place ∷ places_of old.choices.items)
    → LeadsTo book spec.next old frame cut list → IsReached spec book cut list
deeper-reached book prefix spec old frame cut list h to =
    reached-from_leads spec book prefix (old.frames.items ++ frame ∷ []) cut list h.begins
    (leads-to book prefix spec old frame cut list h to)

-- A walk that goes back by one frame from a dead end is right, with less weight.
pub walk-back : (book : List Page) (prefix : Prefix) (spec : SeqSpec) (old new : Walk)
    (frame : WalkFrame) → IsWalk book prefix spec old [] → old.frames.items ≡ new.frames.items
    ++ frame ∷ [] → new.counts.items ≡ set old.counts.items frame.place.caller frame.place.number
    → new.here.words ≡ frame.words.items → new.here.room ≡ old.here.room
    → new.choices ≡ frame.choices → new.memo ≡ old.memo
    → IsWalk book prefix spec new (places_of new.choices.items)
    × (weight new < weigh MOST_CALLS old.frames.items 0)
walk-back book prefix spec old new frame h frames counts here room choices memo =
    let back = leads-pop book spec.next prefix.cut prefix.here.words new.frames.items frame
    old.counts.items old.here.words
    (subst
    (λ (ls : List WalkFrame). FramesLead book spec.next prefix.cut prefix.here.words ls
    old.counts.items
    old.here.words) frames h.leads) in
    let cut : new.counts.items ≡ back.from =
    counts ∙ (ap (λ (c : List ℕ). set c frame.place.caller frame.place.number) back.to_cut_is
    ∙ lowered back.from frame.place.caller frame.place.number back.here.sound.0.may_come.next) in
    let dead : IsDeadEnd book spec.next (raised back.from frame.place.caller)
    (list_after book spec.next frame.words.items frame.place) =
    subst
    (λ (c : List ℕ).
    IsDeadEnd book spec.next c (list_after book spec.next frame.words.items frame.place))
    back.to_cut_is
    (subst (λ (l : List ℕ). IsDeadEnd book spec.next old.counts.items l) back.to_list_is
    (dead_end book spec.next old.counts.items old.here.words h.here)) in
    let same : weight new ≡ weigh MOST_CALLS new.frames.items (length frame.choices.items) =
    ap (λ v. weigh MOST_CALLS new.frames.items (length v.items)) choices in
    let old_is : weigh MOST_CALLS old.frames.items 0
    ≡ weigh MOST_CALLS (new.frames.items ++ frame ∷ []) 0 =
    ap (λ (ls : List WalkFrame). weigh MOST_CALLS ls 0) frames in (
      record {
        begins = h.begins;
        leads =
            same_leads book spec.next prefix.cut prefix.here.words new.frames.items new.frames.items
            back.from new.counts.items frame.words.items new.here.words refl cut here back.leads;
        here = same_open book spec.next back.from new.counts.items frame.words.items new.here.words
            (places_of frame.choices.items) (places_of new.choices.items) cut here
            (ap (λ v. places_of v.items) choices)
            (open-rest book spec.next back.from frame.words.items
            frame.place (places_of frame.choices.items) dead back.here);
        dead = λ c l at. h.dead c l (subst (λ m. Remembers m c l) memo at);
        memo = subst (λ m. IsMemo m) (sym memo) h.memo;
        callers = ap (λ m. m.callers) memo ∙ h.callers;
        room = subst (λ (n : ℕ). IsBookCapacity spec n) (sym room) h.room;
      },
      omega (arith, same, old_is, weigh-pop MOST_CALLS new.frames.items frame),
    )

-- bounds on the last frame of a walk: on the caller and the number of its place, and on its words
pub record LastLevel (spec : SeqSpec) (old : Walk) (frame : WalkFrame) : Type 0 where
  pub caller : frame.place.caller < length old.counts.items
  pub number : frame.place.number ≤ MAX_CALLS
  pub words : (capacity : ℕ) → IsBookCapacity spec capacity → length frame.words.items ≤ capacity

-- The bounds hold for the last frame of each walk with nothing left to try.
pub last_level : (book : List Page) (prefix : Prefix) (spec : SeqSpec) (old : Walk)
    (frames : List WalkFrame) (frame : WalkFrame)
    → IsWalk book prefix spec old [] → old.frames.items ≡ frames ++ frame ∷ []
    → LastLevel spec old frame
last_level book prefix spec old frames frame h is =
    let back =
    leads-pop book spec.next prefix.cut prefix.here.words frames frame old.counts.items
    old.here.words
    (subst (λ (ls : List WalkFrame).
    FramesLead book spec.next prefix.cut prefix.here.words ls old.counts.items old.here.words)
    is h.leads) in
    let s = standing book prefix spec frames back.from frame.words.items frame.place h.begins
    back.leads back.here.sound.0.may_come in
    let long : length old.counts.items ≡ length back.from =
    ap (λ (c : List ℕ). length c) back.to_cut_is
    ∙ length-set back.from frame.place.caller (get_or back.from frame.place.caller 0 + 1) in
    record {
      caller = omega (arith, s.caller);
      number = omega (arith, s.number);
      words = λ capacity big. (s.fits capacity big).here;
    }

-- Where a walk without frames has nothing left to try, the end of the prefix is a dead end.
pub walk-none : (book : List Page) (prefix : Prefix) (spec : SeqSpec) (walk : Walk)
    → IsWalk book prefix spec walk [] → walk.frames.items
    ≡ [] → IsDeadEnd book spec.next prefix.cut prefix.here.words
walk-none book prefix spec walk h none =
    let leads : FramesLead book spec.next prefix.cut prefix.here.words [] walk.counts.items
    walk.here.words =
    subst
    (λ (ls : List WalkFrame). FramesLead book spec.next prefix.cut prefix.here.words ls
    walk.counts.items
    walk.here.words) none h.leads in
    subst (λ (c : List ℕ). IsDeadEnd book spec.next c prefix.here.words) (sym leads.0)
    (subst (λ (l : List ℕ). IsDeadEnd book spec.next walk.counts.items l) (sym leads.1)
    (dead_end book spec.next walk.counts.items walk.here.words h.here))

-- A walk without frames, at the cut and the list of a prefix and with an empty memo, is right with
-- what is to be tried there.
pub walk-start : (book : List Page) (prefix : Prefix) (spec : SeqSpec) (walk : Walk)
    → IsPrefix spec book prefix → walk.frames.items ≡ [] → walk.counts.items ≡ prefix.cut
    → walk.here.words ≡ prefix.here.words → IsBookCapacity spec walk.here.room → IsMemo walk.memo
    → walk.memo.callers ≡ length book → ((cut list : List ℕ) → Remembers walk.memo cut list → ⊥)
    → IsOpen book spec.next walk.counts.items walk.here.words (places_of walk.choices.items)
    → IsWalk book prefix spec walk (places_of walk.choices.items)
walk-start book prefix spec walk f frames counts here room memo callers none start = record {
  begins = f;
  leads = subst (λ (ls : List WalkFrame). FramesLead book spec.next prefix.cut prefix.here.words ls
      walk.counts.items walk.here.words) (sym frames) (sym counts, sym here);
  here = start;
  dead = λ cut list there. absurd (none cut list there);
  memo = memo;
  callers = callers;
  room = room;
}

-- Each list next after that of a prefix, after whose cut an answered call is due, fits a capacity
-- that suffices in each book.
pub prefix-fits : (book : List Page) (prefix : Prefix) (spec : SeqSpec) (cut list : List ℕ)
    (first : ℕ) → IsPrefix spec book prefix → cut ≡ prefix.cut → list ≡ prefix.here.words
    → IsLeast book cut (length book) first → (capacity : ℕ) → IsBookCapacity spec capacity
    → MayGrow spec.next list capacity
prefix-fits book prefix spec cut list first f same_cut same_list least =
    let valid = f.stands.valid in
    let place : Place = record { caller = first; number = get_or cut first 0; reply = 0 } in
    let there = answer_stands book (next_call cut first) least.answered in
    let own = valid.own (next_call cut first) there.0 there.1 in
    let may : MayComeNext book cut (next_call cut first) =
    may_come-from_least book cut first first there.0.view valid least
    (λ (r : Record) at. ap (λ (x : Record). x.view) (same_Some r there.0 (sym at ∙ there.1)))
    (omega (arith, own)) in
    (standing book prefix spec [] cut list place f
    (sym same_cut, sym same_list) may).fits
