-- Watches and logs.
use Rattle.std.proofs.Common.{◌≡◌, ◌∙◌, ℕ, ◌+◌, ◌<◌, ◌≤◌, List, [], ◌∷◌, ◌++◌, length, get_or, take, drop, refl, sym, ap, subst, append_assoc, append-nil, arith}
use Rattle.std.proofs.lemmas.List.{length-map, take-append-drop, take-take, take-append-le, drop-append-le, drop-drop, drop-take, drop_more, take-map, drop-map, map_more, map_push, take_all}
use Rattle.book_base.specs.SeqSpec.{SeqSpec}
use Rattle.streams.specs.Stream.{StreamEvent}
use Rattle.streams.specs.StreamOrder.{HasLegalStreamOrder}
use Rattle.watch_core.specs.declared.event.Event.{Event}
use Rattle.watch_core.specs.Event.{event_of}
use Rattle.watch_core.specs.Watch.{Watched, HasTaken}
use Rattle.windowed_watch.specs.Ahead.{events_of, IsTakable, IsAt}
use Rattle.windowed_watch.proofs.Refusing.{takable_front}
use Rattle.windowed_watch.proofs.Further.{taken_further, taken_seen}

-- the first n + m items of a list are the first n ones, and m after these
pub take_parts : {X : Type 0} (n m : ℕ) (xs : List X)
    → take n xs ++ take m (drop n xs) ≡ take (n + m) xs
take_parts {X} n m xs =
    let less : n ≤ n + m = omega arith in
    ap (λ (l : List X). l ++ take m (drop n xs)) (sym (take-take n (n + m) xs less))
    ∙ (ap (λ (l : List X). take n (take (n + m) xs) ++ l) (sym (drop-take n m xs))
    ∙ take-append-drop n (take (n + m) xs))

-- the events of a log that is parted
pub parted : (before : List StreamEvent) (n : ℕ) (events : List StreamEvent)
    → (before ++ take n events) ++ drop n events ≡ before ++ events
parted before n events = append_assoc before (take n events) (drop n events)
    ∙ ap (λ (l : List StreamEvent). before ++ l) (take-append-drop n events)

-- the events that a watch has taken, with the next one of a log
more_taken : (before : List StreamEvent) (items : List Event) (t : ℕ) (d event : Event)
    → t < length items → event ≡ get_or items t d
    → (before ++ take t (events_of items)) ++ event_of event ∷ []
    ≡ before ++ take (t + 1) (events_of items)
more_taken before items t d event less here =
    let more : take (t + 1) (events_of items) ≡ take t (events_of items) ++ event_of event ∷ [] =
    take-map event_of (t + 1) items ∙ (map_more event_of items t d less
    ∙ (ap (λ (e : Event). events_of (take t items) ++ event_of e ∷ []) (sym here)
    ∙ ap (λ (l : List StreamEvent). l ++ event_of event ∷ []) (sym (take-map event_of t items)))) in
    append_assoc before (take t (events_of items)) (event_of event ∷ [])
    ∙ ap (λ (l : List StreamEvent). before ++ l) (sym more)

-- a watch takes the next event of a log
pub stepped : (before : List StreamEvent) (items coming : List Event) (t : ℕ) (d event : Event)
    (old new : Watched) → t < length items → event ≡ get_or items t d
    → coming ≡ drop (t + 1) items
    → ((stream : List StreamEvent) → HasTaken old stream (event_of event ∷ events_of coming)
    → HasTaken new (stream ++ event_of event ∷ []) (events_of coming))
    → HasTaken old (before ++ take t (events_of items)) (drop t (events_of items))
    → HasTaken new (before ++ take (t + 1) (events_of items)) (drop (t + 1) (events_of items))
stepped before items coming t d event old new less here rest step has =
    let last : drop (t + 1) (events_of items) ≡ events_of coming =
    drop-map event_of (t + 1) items ∙ ap (λ (l : List Event). events_of l) (sym rest) in
    let next : drop t (events_of items) ≡ event_of event ∷ events_of coming =
    drop-map event_of t items ∙ (ap (λ (l : List Event). events_of l) (drop_more items t d less)
    ∙ (ap (λ (e : Event). event_of e ∷ events_of (drop (t + 1) items)) (sym here)
    ∙ ap (λ (l : List Event). event_of event ∷ events_of l) (sym rest))) in
    subst (λ (s : List StreamEvent). HasTaken new s (drop (t + 1) (events_of items)))
    (more_taken before items t d event less here)
    (subst (λ (l : List StreamEvent).
    HasTaken new ((before ++ take t (events_of items)) ++ event_of event ∷ []) l) (sym last)
    (step (before ++ take t (events_of items))
    (subst
    (λ (l : List StreamEvent). HasTaken old (before ++ take t (events_of items)) l) next has)))

-- where a watch can take the events of a stream, it can take the next one of a log
pub takable_next : (before : List StreamEvent) (items : List Event) (t : ℕ) (d : Event)
    → t < length items → IsTakable (before ++ events_of items)
    → IsTakable ((before ++ take t (events_of items)) ++ event_of (get_or items t d) ∷ [])
takable_next before items t d less takable =
    let next = (before ++ take t (events_of items)) ++ event_of (get_or items t d) ∷ [] in
    let parts : before ++ events_of items ≡ next ++ drop (t + 1) (events_of items) =
    sym (ap (λ (l : List StreamEvent). l ++ drop (t + 1) (events_of items))
    (more_taken before items t d (get_or items t d) less refl)
    ∙ parted before (t + 1) (events_of items)) in
    takable_front next (drop (t + 1) (events_of items))
    (subst (λ (s : List StreamEvent). IsTakable s) parts takable)

module _ (before events more : List StreamEvent) (taken : ℕ) (watch : Watched)
    (within : taken ≤ length events) where
  -- more events at the end of a log
  pub at_longer : (seen : ℕ) → seen ≤ length events → IsAt before events taken seen watch
      → IsAt before (events ++ more) taken seen watch
  at_longer seen less has =
      subst (λ (l : List StreamEvent). HasTaken watch (before ++ l)
      (drop taken (take seen (events ++ more)))) (sym (take-append-le taken events more within))
      (subst (λ (l : List StreamEvent). HasTaken watch (before ++ take taken events) (drop taken l))
      (sym (take-append-le seen events more less)) has)

  pub taken_longer : HasTaken watch (before ++ take taken events) (drop taken events)
      → HasTaken watch (before ++ take taken (events ++ more)) (drop taken (events ++ more))
  taken_longer has =
      subst (λ (l : List StreamEvent). HasTaken watch (before ++ l) (drop taken (events ++ more)))
      (sym (take-append-le taken events more within))
      (subst (λ (l : List StreamEvent). HasTaken watch (before ++ take taken events) l)
      (sym (drop-append-le taken events more within))
      (taken_further watch (before ++ take taken events) (drop taken events) more has))

-- a log with one more event
module _ (before : List StreamEvent) (items more : List Event) (event : Event)
    (is : more ≡ items ++ event ∷ []) where
  pushed_events : events_of more ≡ events_of items ++ event_of event ∷ []
  pushed_events = ap (λ (l : List Event). events_of l) is ∙ map_push event_of items event

  within_events : (n : ℕ) → n ≤ length items → n ≤ length (events_of items)
  within_events n less = omega (arith, less, length-map items event_of)

  pub whole_more : (stream : List StreamEvent) → stream ≡ before ++ events_of items
      → stream ++ event_of event ∷ [] ≡ before ++ events_of more
  whole_more stream whole = ap (λ (s : List StreamEvent). s ++ event_of event ∷ []) whole
      ∙ (append_assoc before (events_of items) (event_of event ∷ [])
      ∙ ap (λ (l : List StreamEvent). before ++ l) (sym pushed_events))

  pub legal_more : (spec : SeqSpec) (legal : ℕ) → legal ≤ length items
      → HasLegalStreamOrder spec (before ++ take legal (events_of items))
      → HasLegalStreamOrder spec (before ++ take legal (events_of more))
  legal_more spec legal less has =
      subst (λ (l : List StreamEvent). HasLegalStreamOrder spec (before ++ take legal l))
      (sym pushed_events)
      (subst (λ (l : List StreamEvent). HasLegalStreamOrder spec (before ++ l))
      (sym (take-append-le legal (events_of items) (event_of event ∷ [])
      (within_events legal less))) has)

  pub at_more : (taken seen : ℕ) (watch : Watched) → taken ≤ seen → seen ≤ length items
      → IsAt before (events_of items) taken seen watch
      → IsAt before (events_of more) taken seen watch
  at_more taken seen watch less within has =
      subst (λ (l : List StreamEvent). IsAt before l taken seen watch) (sym pushed_events)
      (at_longer before (events_of items) (event_of event ∷ []) taken watch
      (within_events taken (omega (arith, less, within))) seen (within_events seen within) has)

  pub watch_more : (taken : ℕ) (watch : Watched) → taken ≤ length items
      → HasTaken watch (before ++ take taken (events_of items)) (drop taken (events_of items))
      → HasTaken watch (before ++ take taken (events_of more)) (drop taken (events_of more))
  watch_more taken watch less has =
      subst (λ (l : List StreamEvent). HasTaken watch (before ++ take taken l) (drop taken l))
      (sym pushed_events) (taken_longer before (events_of items) (event_of event ∷ []) taken watch
      (within_events taken less) has)

-- a log that begins after its first events, of which k more are taken
module _ (before : List StreamEvent) (items more : List Event) (from k taken : ℕ)
    (is : more ≡ drop from items) (count : taken ≡ from + k) where
  abbrev events : List StreamEvent
  events = events_of items

  abbrev later : List StreamEvent
  later = before ++ take from events

  rest : events_of more ≡ drop from events
  rest = ap (λ (l : List Event). events_of l) is ∙ sym (drop-map event_of from items)

  pub whole_later : (stream : List StreamEvent) → stream ≡ before ++ events
      → stream ≡ later ++ events_of more
  whole_later stream whole = whole ∙ (sym (parted before from events)
      ∙ ap (λ (l : List StreamEvent). later ++ l) (sym rest))

  pub taken_same : before ++ take taken events ≡ later ++ take k (events_of more)
  taken_same = sym (append_assoc before (take from events) (take k (events_of more))
      ∙ (ap (λ (l : List StreamEvent). before ++ (take from events ++ take k l)) rest
      ∙ (ap (λ (l : List StreamEvent). before ++ l) (take_parts from k events)
      ∙ ap (λ (n : ℕ). before ++ take n events) (sym count))))

  left_same : drop taken events ≡ drop k (events_of more)
  left_same = ap (λ (n : ℕ). drop n events) count ∙ (sym (drop-drop k from events)
      ∙ ap (λ (l : List StreamEvent). drop k l) (sym rest))

  pub legal_later : (spec : SeqSpec) → HasLegalStreamOrder spec (before ++ take taken events)
      → HasLegalStreamOrder spec (later ++ take k (events_of more))
  legal_later spec legal = subst (λ (s : List StreamEvent). HasLegalStreamOrder spec s) taken_same
      legal

  pub watch_later : (watch : Watched)
      → HasTaken watch (before ++ take taken events) (drop taken events)
      → HasTaken watch (later ++ take k (events_of more)) (drop k (events_of more))
  watch_later watch has =
      subst (λ (s : List StreamEvent). HasTaken watch s (drop k (events_of more)))
      taken_same (subst (λ (l : List StreamEvent). HasTaken watch (before ++ take taken events) l)
      left_same has)

  pub next_later : (watch : Watched)
      → HasTaken watch (before ++ take taken events) (drop taken events)
      → IsAt later (events_of more) k (length more) watch
  next_later watch has =
      let all : take (length more) (events_of more) ≡ events_of more =
      take_all (length more) (events_of more) (omega (arith, length-map more event_of)) in
      subst (λ (l : List StreamEvent). HasTaken watch (later ++ take k (events_of more)) (drop k l))
      (sym all) (watch_later watch has)

  pub base_later : (watch : Watched) (seen j : ℕ) → seen ≡ from + j → j ≤ k
      → IsAt before events from seen watch → IsAt later (events_of more) 0 k watch
  base_later watch seen j sum less has =
      let known : drop from (take seen events) ≡ take j (events_of more) =
      ap (λ (n : ℕ). drop from (take n events)) sum ∙ (drop-take from j events
      ∙ ap (λ (l : List StreamEvent). take j l) (sym rest)) in
      subst (λ (s : List StreamEvent). HasTaken watch s (take k (events_of more)))
      (sym (append-nil later))
      (taken_seen watch later (events_of more) j k less
      (subst (λ (l : List StreamEvent). HasTaken watch later l) known has))
