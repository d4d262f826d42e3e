-- A walk through the pairs of a cut and a list: one set deeper, one number fewer, one frame back.
use Rattle.std.proofs.Common.{◌≡◌, ℕ, ◌+◌, ◌-◌, ◌^◌, ◌<◌, ◌≤◌, ◌⊎◌, ◌∙◌, List, [], ◌∷◌, ◌++◌, length, map, sum, get_or, Option, Some, refl, sym, ap, subst, inl, inr, slice_get, arith}
use Rattle.std.specs.List.{AllByRecursion}
use Rattle.book_base.specs.declared.call.Place.{Place}
use Rattle.book_base.specs.declared.TheConstants.{MAX_CALLERS, MAX_CALLS}
use Rattle.book_base.specs.Book.{Page, calls_of, IsSmall, IsCall}
use Rattle.std.proofs.lemmas.List.{length-map}
use Rattle.book_base.specs.Order.{call_at, step_at}
use Rattle.book_base.proofs.PageLemmas.{caller_from_call}
use Rattle.book_base.specs.Next.{next_call, HoldsAnswered, MayComeNext}
use Rattle.std.proofs.lemmas.Option.{none-some}
use Rattle.frontier_check.specs.declared.memo.MemoEntry.{MemoEntry}
use Rattle.frontier_check.specs.declared.memo.Memo.{Memo}
use Rattle.frontier_check.specs.Memo.{IsMemo, Remembers}
use Rattle.frontier_check.proofs.Leading.{sum_small}
use Rattle.set_order.specs.declared.walk.SetFrame.{SetFrame}
use Rattle.set_order.specs.declared.walk.SetWalk.{SetWalk}
use Rattle.set_order.specs.declared.walk.TheConstants.{MOST_CALLS, DEPTH}
use Rattle.set_order.specs.SetOrder.{callers_of, operations_of, RiseFrom, IsLegalSetOrder, HasLegalSetOrder}
use Rattle.set_order.specs.Search.{IsBookCapacity, no_calls, raised_by, picked, MayStandIn, MayStandTogether, IsDeadEnd, LeadsNowhere, IsOpen, IsFrame, FramesLead, IsWalk, order_of, weigh, weight}
use Rattle.set_order.proofs.Raising.{IsNext, all_so, next-from_rise, raised-length, raised-sum, raised-within}
use Rattle.set_order.proofs.Trying.{nowhere-from_dead, open-less, dead_end, IsPart, part-from_open, candidates-few}
use Rattle.set_order.proofs.Leading.{leads-push, leads-pop, suffices-list, suffices-served, one_step, standing, legal-from_leads, none-from_dead}
use Rattle.set_order.proofs.Weighing.{weigh-push, weigh-skip, weigh-pop}

-- the frames of a walk lead also to the cut and list of another walk with the same ones
same_leads : (served : List ℕ → List ℕ → Option (List ℕ × List ℕ)) (book : List Page)
    (cut list : List ℕ) (frames new_frames : List SetFrame)
    (to_cut new_cut to_list new_list : List ℕ)
    → new_frames ≡ frames → new_cut ≡ to_cut → new_list ≡ to_list
    → FramesLead served book cut list frames to_cut to_list
    → FramesLead served book cut list new_frames new_cut new_list
same_leads served book cut list frames new_frames to_cut new_cut to_list new_list e f k h =
    subst (λ (ls : List SetFrame). FramesLead served book cut list ls new_cut new_list) (sym e)
    (subst (λ (c : List ℕ). FramesLead served book cut list frames c new_list) (sym f)
    (subst (λ (l : List ℕ). FramesLead served book cut list frames to_cut l) (sym k) h))

same_open : (served : List ℕ → List ℕ → Option (List ℕ × List ℕ)) (book : List Page)
    (cut new_cut list new_list callers new_callers : List ℕ) (left new_left : ℕ)
    → new_cut ≡ cut → new_list ≡ list → new_callers ≡ callers → new_left ≡ left
    → IsOpen served book cut list callers left
    → IsOpen served book new_cut new_list new_callers new_left
same_open served book cut new_cut list new_list callers new_callers left new_left e f k n h =
    subst (λ (c : List ℕ). IsOpen served book c new_list new_callers new_left) (sym e)
    (subst (λ (l : List ℕ). IsOpen served book cut l new_callers new_left) (sym f)
    (subst (λ (is : List ℕ). IsOpen served book cut list is new_left) (sym k)
    (subst (λ (m : ℕ). IsOpen served book cut list callers m) (sym n) h)))

-- The new walk differs from the old one in what is left and in its memo alone.
pub record IsSameWalk (old new : SetWalk) : Type 0 where
  pub frames : new.frames ≡ old.frames
  pub counts : new.counts ≡ old.counts
  pub here : new.here ≡ old.here
  pub callers : new.callers ≡ old.callers

-- the walk without one number, whose set leads nowhere
pub walk-skip : (init : List ℕ) (served : List ℕ → List ℕ → Option (List ℕ × List ℕ))
    (book : List Page) (old new : SetWalk) → IsWalk init served book old
    → LeadsNowhere served book old.counts.items old.here.words (picked old.left old.callers.items)
    → IsSameWalk old new → new.memo ≡ old.memo → new.left + 1 ≡ old.left
    → IsWalk init served book new × (weight new < weight old)
walk-skip init served book old new h nowhere same memo left =
    let weights : weight new ≡ weigh DEPTH old.frames.items new.left =
    ap (λ v. weigh DEPTH v.items new.left) same.frames in
    let before : weight old ≡ weigh DEPTH old.frames.items (new.left + 1) =
    ap (λ (n : ℕ). weigh DEPTH old.frames.items n) (sym left) in (
      record {
        leads = same_leads served book (no_calls book) init old.frames.items new.frames.items
            old.counts.items new.counts.items old.here.words new.here.words
            (ap (λ v. v.items) same.frames) (ap (λ v. v.items) same.counts)
            (ap (λ s. s.words) same.here) h.leads;
        here = same_open served book old.counts.items new.counts.items old.here.words new.here.words
            old.callers.items new.callers.items new.left new.left
            (ap (λ v. v.items) same.counts) (ap (λ s. s.words) same.here)
            (ap (λ v. v.items) same.callers) refl
            (open-less served book old.counts.items old.here.words old.callers.items old.left
            new.left left nowhere h.here);
        dead = λ cut list at. h.dead cut list (subst (λ m. Remembers m cut list) memo at);
        memo = subst (λ m. IsMemo m) (sym memo) h.memo;
        callers = ap (λ m. m.callers) memo ∙ h.callers;
        room = subst (λ s. IsBookCapacity init served s.room) (sym same.here) h.room;
      },
      omega (arith, weights, before, weigh-skip DEPTH old.frames.items new.left),
    )

-- the walk with one more remembered dead end
pub walk-remember : (init : List ℕ) (served : List ℕ → List ℕ → Option (List ℕ × List ℕ))
    (book : List Page) (old new : SetWalk) → IsWalk init served book old → old.left ≡ 0
    → IsSameWalk old new → new.left ≡ old.left → IsMemo new.memo
    → new.memo.callers ≡ old.memo.callers
    → ((cut list : List ℕ) → Remembers new.memo cut list → Remembers old.memo cut list
    ⊎ ((cut ≡ old.counts.items) × (list ≡ old.here.words)))
    → IsWalk init served book new × (weight new ≡ weight old)
walk-remember init served book old new h none same left memo callers only = (
  record {
    leads = same_leads served book (no_calls book) init old.frames.items new.frames.items
        old.counts.items new.counts.items old.here.words new.here.words
        (ap (λ v. v.items) same.frames) (ap (λ v. v.items) same.counts)
        (ap (λ s. s.words) same.here) h.leads;
    here = same_open served book old.counts.items new.counts.items old.here.words new.here.words
        old.callers.items new.callers.items old.left new.left
        (ap (λ v. v.items) same.counts) (ap (λ s. s.words) same.here)
        (ap (λ v. v.items) same.callers) left h.here;
    dead = λ (cut list : List ℕ) there. elim (only cut list there) [
      | inl before ↦ h.dead cut list before
      | inr now ↦
          let dead : IsDeadEnd served book old.counts.items old.here.words =
          dead_end served book old.counts.items old.here.words old.callers.items
          (subst (λ (n : ℕ). IsOpen served book old.counts.items old.here.words old.callers.items n)
          none h.here) in
          subst (λ (c : List ℕ). IsDeadEnd served book c list) (sym now.0)
          (subst (λ (l : List ℕ). IsDeadEnd served book old.counts.items l) (sym now.1) dead)
    ];
    memo = memo;
    callers = callers ∙ h.callers;
    room = subst (λ s. IsBookCapacity init served s.room) (sym same.here) h.room;
  },
  ap (λ v. weigh DEPTH v.items new.left) same.frames
      ∙ ap (λ (n : ℕ). weigh DEPTH old.frames.items n) left,
)

-- a set that leads to a remembered dead end leads nowhere
pub nowhere-from_memo : (init : List ℕ) (served : List ℕ → List ℕ → Option (List ℕ × List ℕ))
    (book : List Page) (old : SetWalk) (places : List Place) (after cut list : List ℕ)
    → IsWalk init served book old → callers_of places ≡ picked old.left old.callers.items
    → MayStandTogether served book old.counts.items old.here.words places after
    → cut ≡ raised_by old.counts.items places → list ≡ after → Remembers old.memo cut list
    → LeadsNowhere served book old.counts.items old.here.words (picked old.left old.callers.items)
nowhere-from_memo init served book old places after cut list h is stands cut_is list_is there =
    let dead : IsDeadEnd served book (raised_by old.counts.items places) after =
    subst (λ (c : List ℕ). IsDeadEnd served book c after) cut_is
    (subst (λ (l : List ℕ). IsDeadEnd served book cut l) list_is (h.dead cut list there)) in
    nowhere-from_dead served book old.counts.items old.here.words places after
    (picked old.left old.callers.items) is stands dead

-- a set that leads to a cut and a list that are a dead end leads nowhere
pub nowhere-from_lost : (init : List ℕ) (served : List ℕ → List ℕ → Option (List ℕ × List ℕ))
    (book : List Page) (old : SetWalk) (places : List Place) (after cut list : List ℕ)
    → callers_of places ≡ picked old.left old.callers.items
    → MayStandTogether served book old.counts.items old.here.words places after
    → cut ≡ raised_by old.counts.items places → list ≡ after → IsDeadEnd served book cut list
    → LeadsNowhere served book old.counts.items old.here.words (picked old.left old.callers.items)
nowhere-from_lost init served book old places after cut list is stands cut_is list_is lost =
    let dead : IsDeadEnd served book (raised_by old.counts.items places) after =
    subst (λ (c : List ℕ). IsDeadEnd served book c after) cut_is
    (subst (λ (l : List ℕ). IsDeadEnd served book cut l) list_is lost) in
    nowhere-from_dead served book old.counts.items old.here.words places after
    (picked old.left old.callers.items) is stands dead

-- A walk is deeper than another one by a set that is taken next.
pub record IsDeeper (served : List ℕ → List ℕ → Option (List ℕ × List ℕ)) (book : List Page)
    (old new : SetWalk) (frame : SetFrame) : Type 0 where
  pub frames : new.frames.items ≡ old.frames.items ++ frame ∷ []
  pub words : frame.words.items ≡ old.here.words
  pub level_counts : frame.counts.items ≡ old.counts.items
  pub level_callers : frame.callers.items ≡ old.callers.items
  pub level_left : frame.left + 1 ≡ old.left
  pub chosen : callers_of frame.set ≡ picked old.left old.callers.items
  pub stands : MayStandTogether served book old.counts.items old.here.words frame.set new.here.words
  pub counts : new.counts.items ≡ raised_by old.counts.items frame.set
  pub room : new.here.room ≡ old.here.room
  pub memo : new.memo ≡ old.memo

deeper-leads : (init : List ℕ) (served : List ℕ → List ℕ → Option (List ℕ × List ℕ))
    (book : List Page) (old new : SetWalk) (frame : SetFrame) → IsWalk init served book old
    → IsDeeper served book old new frame
    → FramesLead served book (no_calls book) init new.frames.items new.counts.items new.here.words
deeper-leads init served book old new frame h d =
    let here : IsFrame served book old.counts.items old.here.words frame new.here.words = record {
      counts = d.level_counts;
      words = d.words;
      open_here = same_open served book old.counts.items old.counts.items old.here.words
          old.here.words old.callers.items frame.callers.items old.left (frame.left + 1)
          refl refl d.level_callers d.level_left h.here;
      chosen = d.chosen ∙ (ap (λ (n : ℕ). picked n old.callers.items) (sym d.level_left)
          ∙ ap (λ (is : List ℕ). picked (frame.left + 1) is) (sym d.level_callers));
      stands = d.stands;
    } in
    same_leads served book (no_calls book) init (old.frames.items ++ frame ∷ []) new.frames.items
    (raised_by old.counts.items frame.set) new.counts.items new.here.words new.here.words
    d.frames d.counts refl (leads-push served book (no_calls book) init old.frames.items
    old.counts.items old.here.words frame new.here.words h.leads here)

pub walk-deeper : (init : List ℕ) (served : List ℕ → List ℕ → Option (List ℕ × List ℕ))
    (book : List Page) (old new : SetWalk) (frame : SetFrame) → IsSmall book
    → IsWalk init served book old → IsDeeper served book old new frame
    → IsOpen served book new.counts.items new.here.words new.callers.items new.left
    → new.left < 2 ^ MAX_CALLERS
    → IsWalk init served book new × (weight new < weight old)
walk-deeper init served book old new frame small h d here few =
    let s = standing init served book old.frames.items old.counts.items old.here.words small
    h.leads in
    let same : weight new ≡ weigh DEPTH (old.frames.items ++ frame ∷ []) new.left =
    ap (λ (ls : List SetFrame). weigh DEPTH ls new.left) d.frames in
    let more : weigh DEPTH old.frames.items (frame.left + 1) ≡ weight old =
    ap (λ (n : ℕ). weigh DEPTH old.frames.items n) d.level_left in
    let deep : length old.frames.items < DEPTH = omega (arith, s.depth) in (
      record {
        leads = deeper-leads init served book old new frame h d;
        here = here;
        dead = λ cut list at. h.dead cut list (subst (λ m. Remembers m cut list) d.memo at);
        memo = subst (λ m. IsMemo m) (sym d.memo) h.memo;
        callers = ap (λ m. m.callers) d.memo ∙ h.callers;
        room = subst (λ (n : ℕ). IsBookCapacity init served n) (sym d.room) h.room;
      },
      omega (arith, same, more, weigh-push DEPTH old.frames.items frame new.left deep few),
    )

pub walk-found : (init : List ℕ) (served : List ℕ → List ℕ → Option (List ℕ × List ℕ))
    (book : List Page) (old new : SetWalk) (frame : SetFrame) → IsWalk init served book old
    → IsDeeper served book old new frame → HoldsAnswered book new.counts.items
    → IsLegalSetOrder init served book (order_of new.frames.items)
walk-found init served book old new frame h d all =
    legal-from_leads init served book new.frames.items new.counts.items new.here.words
    (deeper-leads init served book old new frame h d) all

-- the walk after going back one frame from a dead end
pub walk-back : (init : List ℕ) (served : List ℕ → List ℕ → Option (List ℕ × List ℕ))
    (book : List Page) (old new : SetWalk) (frame : SetFrame) → IsWalk init served book old
    → old.left ≡ 0
    → old.frames.items ≡ new.frames.items ++ frame ∷ [] → new.counts ≡ frame.counts → new.here.words
    ≡ frame.words.items → new.here.room ≡ old.here.room → new.callers ≡ frame.callers
    → new.left ≡ frame.left → new.memo ≡ old.memo → IsWalk init served book new
    × (weight new < weight old)
walk-back init served book old new frame h none frames counts here room callers left memo =
    let back = leads-pop served book
    (no_calls book) init new.frames.items frame old.counts.items old.here.words
    (subst
    (λ (ls : List SetFrame).
    FramesLead served book (no_calls book) init ls old.counts.items old.here.words)
    frames h.leads) in
    let dead : IsDeadEnd served book (raised_by frame.counts.items frame.set) old.here.words =
    subst (λ (c : List ℕ). IsDeadEnd served book c old.here.words) back.to_cut_is
    (dead_end served book old.counts.items old.here.words old.callers.items
    (subst (λ (n : ℕ). IsOpen served book old.counts.items old.here.words old.callers.items n)
    none h.here)) in
    let nowhere : LeadsNowhere served book frame.counts.items frame.words.items
    (picked (frame.left + 1) frame.callers.items) =
    nowhere-from_dead served book frame.counts.items frame.words.items frame.set old.here.words
    (picked (frame.left + 1) frame.callers.items) back.here.chosen back.here.stands dead in
    let same : weight new ≡ weigh DEPTH new.frames.items frame.left =
    ap (λ (n : ℕ). weigh DEPTH new.frames.items n) left in
    let old_is : weight old ≡ weigh DEPTH (new.frames.items ++ frame ∷ []) 0 =
    ap (λ (ls : List SetFrame). weigh DEPTH ls old.left) frames
    ∙ ap (λ (n : ℕ). weigh DEPTH (new.frames.items ++ frame ∷ []) n) none in (
      record {
        leads = same_leads served book (no_calls book) init new.frames.items new.frames.items
            frame.counts.items new.counts.items frame.words.items new.here.words
            refl (ap (λ v. v.items) counts) here back.leads;
        here = same_open served book frame.counts.items new.counts.items frame.words.items
            new.here.words frame.callers.items new.callers.items frame.left new.left
            (ap (λ v. v.items) counts) here (ap (λ v. v.items) callers) left
            (open-less served book frame.counts.items frame.words.items frame.callers.items
            (frame.left + 1) frame.left refl nowhere back.here.open_here);
        dead = λ c l at. h.dead c l (subst (λ m. Remembers m c l) memo at);
        memo = subst (λ m. IsMemo m) (sym memo) h.memo;
        callers = ap (λ m. m.callers) memo ∙ h.callers;
        room = subst (λ (n : ℕ). IsBookCapacity init served n) (sym room) h.room;
      },
      omega (arith, same, old_is, weigh-pop DEPTH new.frames.items frame),
    )

-- the words of the last frame fit a capacity that suffices in each book
pub last_level : (init : List ℕ) (served : List ℕ → List ℕ → Option (List ℕ × List ℕ))
    (book : List Page) (old : SetWalk) (frames : List SetFrame) (frame : SetFrame) → IsSmall book
    → IsWalk init served book old → old.frames.items ≡ frames ++ frame ∷ [] → (capacity : ℕ)
    → IsBookCapacity init served capacity → length frame.words.items ≤ capacity
last_level init served book old frames frame small h is capacity big =
    let back =
    leads-pop served book (no_calls book) init frames frame old.counts.items old.here.words
    (subst
    (λ (ls : List SetFrame).
    FramesLead served book (no_calls book) init ls old.counts.items old.here.words)
    is h.leads) in
    let s = standing init served book frames frame.counts.items frame.words.items small
    back.leads in
    suffices-list served frame.words.items _ capacity (s.fits capacity big)

-- a dead end at the start shows that the book has no legal set order
pub walk-none : (init : List ℕ) (served : List ℕ → List ℕ → Option (List ℕ × List ℕ))
    (book : List Page) (walk : SetWalk) → IsWalk init served book walk → walk.left ≡ 0
    → walk.frames.items ≡ [] → HasLegalSetOrder init served book → ⊥
walk-none init served book walk h none frames =
    let leads : FramesLead served book (no_calls book) init [] walk.counts.items walk.here.words =
    subst (λ (ls : List SetFrame).
    FramesLead served book
    (no_calls book) init ls walk.counts.items walk.here.words) frames h.leads in
    none-from_dead init served book
    (subst (λ (c : List ℕ). IsDeadEnd served book c init) (sym leads.0)
    (subst (λ (l : List ℕ). IsDeadEnd served book walk.counts.items l) (sym leads.1)
    (dead_end served book walk.counts.items walk.here.words walk.callers.items
    (subst (λ (n : ℕ). IsOpen served book walk.counts.items walk.here.words walk.callers.items n)
    none h.here))))

-- the walk at the start
pub walk-start : (init : List ℕ) (served : List ℕ → List ℕ → Option (List ℕ × List ℕ))
    (book : List Page) (walk : SetWalk) → walk.frames.items ≡ [] → walk.counts.items ≡ no_calls book
    → walk.here.words ≡ init → IsBookCapacity init served walk.here.room
    → IsMemo walk.memo
    → walk.memo.callers ≡ length book → ((cut list : List ℕ) → Remembers walk.memo cut list → ⊥)
    → IsOpen served book walk.counts.items walk.here.words walk.callers.items walk.left
    → IsWalk init served book walk
walk-start init served book walk frames counts here room memo callers none start = record {
  leads = subst (λ (ls : List SetFrame). FramesLead served book
      (no_calls book) init ls walk.counts.items
      walk.here.words) (sym frames) (sym counts, sym here);
  here = start;
  dead = λ cut list there. absurd (none cut list there);
  memo = memo;
  callers = callers;
  room = room;
}

-- a set that may come next at a walk's cut fits the book's limits
pub record SetFits (counts : List ℕ) (places : List Place) : Type 0 where
  pub callers : AllByRecursion (λ place. place.caller < length counts) places
  pub numbers : AllByRecursion (λ place. place.number < MAX_CALLS) places

pub set_fits : (init : List ℕ) (served : List ℕ → List ℕ → Option (List ℕ × List ℕ))
    (book : List Page) (walk : SetWalk) (places : List Place) (after : List ℕ) → IsSmall book
    → IsWalk init served book walk
    → MayStandTogether served book walk.counts.items walk.here.words places after
    → (counts : List ℕ) (set : List Place) → counts ≡ walk.counts.items → set ≡ places
    → SetFits counts set
set_fits init served book walk places after small h may counts set e f =
    let cut : List ℕ = walk.counts.items in
    let s =
    standing init served book walk.frames.items cut walk.here.words small h.leads in
    let fits : SetFits cut places = record {
      callers = all_so (MayStandIn book cut) (λ (place : Place). place.caller < length cut) places
          (λ (place : Place) (one : MayStandIn book cut place). let there = caller_from_call book
          place.caller place.number one.may_come.is_call in omega (arith, there, s.wide)) may.each;
      numbers = all_so (MayStandIn book cut) (λ (place : Place). place.number < MAX_CALLS) places
          (λ (place : Place) (one : MayStandIn book cut place).
          omega (arith, one.may_come.is_call, small.calls place.caller)) may.each;
    } in
    subst (λ (c : List ℕ). SetFits c set) (sym e)
    (subst (λ (x : List Place). SetFits cut x) (sym f) fits)

-- a part of the candidates that is tried next fits the book's limits
pub record PartFits (book : List Page) (counts part : List ℕ) : Type 0 where
  pub inside : AllByRecursion (λ i. i < length counts) part
  pub calls : AllByRecursion (λ i. IsCall book (next_call counts i)) part

pub part_fits : (book : List Page) (cut part : List ℕ) → length cut ≡ length book
    → IsPart book cut part → (counts callers : List ℕ) → counts ≡ cut → callers ≡ part
    → PartFits book counts callers
part_fits book cut part wide h counts callers e f =
    let fits : PartFits book cut part = record {
      inside = all_so (λ (i : ℕ). MayComeNext book cut (next_call cut i))
          (λ (i : ℕ). i < length cut) part
          (λ (i : ℕ) (may : MayComeNext book cut (next_call cut i)). let there = caller_from_call
          book i (get_or cut i 0) may.is_call in omega (arith, there, wide)) h.may_come;
      calls = all_so (λ (i : ℕ). MayComeNext book cut (next_call cut i))
          (λ (i : ℕ). IsCall book (next_call cut i)) part (λ i may. may.is_call) h.may_come;
    } in
    subst (λ (c : List ℕ). PartFits book c callers) (sym e)
    (subst (λ (x : List ℕ). PartFits book cut x) (sym f) fits)

-- the list after a set fits a capacity that suffices in each book
pub after_fits : (init : List ℕ) (served : List ℕ → List ℕ → Option (List ℕ × List ℕ))
    (book : List Page) (walk : SetWalk) (places : List Place) (after : List ℕ) → IsSmall book
    → IsWalk init served book walk
    → MayStandTogether served book walk.counts.items walk.here.words places after → (capacity : ℕ)
    → IsBookCapacity init served capacity → length after ≤ capacity
after_fits init served book walk places after small h may capacity big =
    let cut : List ℕ = walk.counts.items in
    let s = standing init served book walk.frames.items cut walk.here.words small h.leads in
    let step = one_step served book cut walk.here.words places after (omega (arith, s.wide))
    s.within may in
    let few = sum_small book (raised_by cut places) small (step.wide ∙ s.wide) step.within in
    suffices-list served after 0 capacity
    (suffices-served served walk.here.words (operations_of book places) after _
    (MOST_CALLS - sum cut) 0 capacity may.served_so
    (omega (
      arith,
      few,
      step.calls,
      length-map places (λ (p : Place). (step_at book p).0),
    )) (s.fits capacity big))

-- the place of a caller's next call after a cut, with some reply
abbrev place_at : List ℕ → ℕ → Place
place_at cut i = record { caller = i; number = get_or cut i 0; reply = 0 }

rise_at : (cut : List ℕ) (low : ℕ) (part : List ℕ) → RiseFrom low part
    → RiseFrom low (callers_of (map (place_at cut) part))
rise_at cut low [] rise = tt
rise_at cut low (i ∷ part) rise = (rise.0, rise_at cut (i + 1) part rise.1)

next_at : (book : List Page) (cut part : List ℕ) → length cut ≡ length book
    → AllByRecursion (λ i. MayComeNext book cut (next_call cut i)) part
    → AllByRecursion (IsNext cut) (map (place_at cut) part)
next_at book cut [] wide may = tt
next_at book cut (i ∷ part) wide may =
    let there = caller_from_call book i (get_or cut i 0) may.0.is_call in
    ((omega (arith, there, wide), refl), next_at book cut part wide may.1)

calls_at : (book : List Page) (cut part : List ℕ)
    → AllByRecursion (λ i. MayComeNext book cut (next_call cut i)) part
    → AllByRecursion (λ place. IsCall book (call_at place)) (map (place_at cut) part)
calls_at book cut [] may = tt
calls_at book cut (i ∷ part) may = (may.0.is_call, calls_at book cut part may.1)

-- a cut and a part of the candidates after it have together no more calls than a book may have
part_few : (book : List Page) (cut part : List ℕ) → IsSmall book → length cut ≡ length book
    → ((i : ℕ) → get_or cut i 0 ≤ calls_of book i) → IsPart book cut part
    → sum cut + length part ≤ MOST_CALLS
part_few book cut part small wide within h =
    let places : List Place = map (place_at cut) part in
    let next = next-from_rise cut 0 places (rise_at cut 0 part h.rise)
    (next_at book cut part wide h.may_come) in
    let few = sum_small book (raised_by cut places) small (raised-length cut places ∙ wide)
    (raised-within book cut places next (calls_at book cut part h.may_come) within) in
    omega (arith, few, raised-sum cut places next, length-map part (place_at cut))

-- A walk with a part of the candidates that is to be tried: the walk's list fits a capacity that
-- suffices in each book, and so does each list after operations that are as many as the part.
pub record Trial (init : List ℕ) (served : List ℕ → List ℕ → Option (List ℕ × List ℕ))
    (book : List Page) (walk : SetWalk) : Type 0 where
  pub wide : length walk.counts.items ≡ length book
  pub part : IsPart book walk.counts.items (picked walk.left walk.callers.items)
  pub few : length (picked walk.left walk.callers.items) ≤ MAX_CALLERS
  pub here : (capacity : ℕ) → IsBookCapacity init served capacity
      → length walk.here.words ≤ capacity
  pub fits : (capacity : ℕ) → IsBookCapacity init served capacity → (ops after replies : List ℕ)
      → length ops ≡ length (picked walk.left walk.callers.items)
      → served walk.here.words ops ≡ Some (after, replies) → length after ≤ capacity

pub walk-part : (init : List ℕ) (served : List ℕ → List ℕ → Option (List ℕ × List ℕ))
    (book : List Page) (walk : SetWalk) → IsSmall book → IsWalk init served book walk
    → 1 ≤ walk.left → Trial init served book walk
walk-part init served book walk small h left =
    let cut : List ℕ = walk.counts.items in
    let s = standing init served book walk.frames.items cut walk.here.words small h.leads in
    let few = candidates-few book cut walk.callers.items h.here.candidates in
    let part = part-from_open served book cut walk.here.words walk.callers.items walk.left h.here
    left few in
    let fewer = part_few book cut (picked walk.left walk.callers.items) small s.wide s.within part
    in
    let callers = small.callers in
    record {
      wide = s.wide;
      part = part;
      few = omega (arith, part.few, callers);
      here = λ capacity big. suffices-list served walk.here.words _ capacity (s.fits capacity big);
      fits = λ capacity big ops after replies long is. suffices-list served after 0 capacity
          (suffices-served served walk.here.words ops after replies (MOST_CALLS - sum cut) 0
          capacity is (omega (arith, fewer, long)) (s.fits capacity big));
    }

-- a memo without entries remembers nothing
pub nothing_remembered : (memo : Memo) → memo.entries.items ≡ [] → (cut list : List ℕ)
    → Remembers memo cut list → ⊥
nothing_remembered memo none cut list there =
    none-some there.1 (sym (ap (λ (xs : List MemoEntry). slice_get xs there.0) none) ∙ there.2)
