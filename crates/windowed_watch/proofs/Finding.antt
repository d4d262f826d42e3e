-- The first event with which there is no legal order, by halving.
use Rattle.std.proofs.Common.{◌≡◌, ◌∙◌, ◌⊎◌, ℕ, suc, ◌+◌, ◌<◌, ◌≤◌, List, [], ◌∷◌, ◌++◌, length, take, drop, refl, sym, ap, subst, append_assoc, append-nil, length-append, inl, inr, arith}
use Rattle.std.proofs.lemmas.List.{length-map, length-take-le, length-drop, take-append-drop, take-take, take-map, take_all}
use Rattle.std.proofs.lemmas.Bool.{cases_lt}
use Rattle.book_base.specs.SeqSpec.{SeqSpec}
use Rattle.seq_objects.specs.declared.kind.Kind.{Kind}
use Rattle.seq_objects.specs.Objects.{kind_spec}
use Rattle.streams.specs.Stream.{StreamEvent}
use Rattle.streams.specs.StreamOrder.{HasLegalStreamOrder}
use Rattle.watch_core.specs.declared.event.Event.{Event}
use Rattle.watch_core.specs.declared.verdict.Verdict.{Verdict}
use Rattle.watch_core.specs.declared.verdict.Verdict.TheVariants.{Legal, Illegal, Unsure}
use Rattle.watch_core.specs.Event.{event_of}
use Rattle.watch_core.specs.Verdict.{IsIllegalFrom, IsUnsureAt, IsVerdict}
use Rattle.watch_core.specs.Watch.{HasTaken}
use Rattle.windowed_watch.specs.declared.lookahead.Lookahead.{Lookahead}
use Rattle.windowed_watch.specs.Ahead.{events_of, IsTakable, IsWithin, IsRunning, IsFinal}
use Rattle.windowed_watch.proofs.Refusing.{takable_front}
use Rattle.windowed_watch.proofs.Further.{taken_seen, illegal_whole}
use Rattle.windowed_watch.proofs.Logs.{parted}

-- The events before a log and the first `legal` ones of the log have a legal order, and those up to
-- `illegal` have none.
pub record IsNarrowed (spec : SeqSpec) (before events : List StreamEvent) (legal illegal : ℕ)
    : Type 0 where
  pub is_legal : HasLegalStreamOrder spec (before ++ take legal events)
  pub is_illegal : HasLegalStreamOrder spec (before ++ take illegal events) → ⊥

cons_of : {X : Type 0} (xs : List X) → 0 < length xs → (x : X) × (rest : List X) × (xs ≡ x ∷ rest)
cons_of [] some = absurd (omega (arith, some))
cons_of (x ∷ rest) some = (x, rest, refl)

module _ (spec : SeqSpec) (limit : ℕ) (before events stream : List StreamEvent)
    (whole : stream ≡ before ++ events) (legal illegal : ℕ) (order : legal < illegal)
    (within : illegal ≤ length events)
    (narrowed : IsNarrowed spec before events legal illegal) where
  middle : List StreamEvent
  middle = drop legal (take illegal events)

  long : length middle + legal ≡ illegal
  unfolding middle
  long =
      let one = length-drop legal (take illegal events) in
      let other = length-take-le illegal events within in omega (arith, one, other, order)

  some : (x : StreamEvent) × (rest : List StreamEvent) × (middle ≡ x ∷ rest)
  some = cons_of middle (omega (arith, long, order))

  split : (before ++ take legal events) ++ middle ≡ before ++ take illegal events
  unfolding middle
  split =
      let less : legal ≤ illegal = omega (arith, order) in
      append_assoc before (take legal events) (drop legal (take illegal events))
      ∙ (ap (λ (l : List StreamEvent). before ++ (l ++ drop legal (take illegal events)))
      (sym (take-take legal illegal events less))
      ∙ ap (λ (l : List StreamEvent). before ++ l) (take-append-drop legal (take illegal events)))

  joined : (before ++ take legal events) ++ some.0 ∷ some.1 ≡ before ++ take illegal events
  joined = ap (λ (l : List StreamEvent). (before ++ take legal events) ++ l) (sym some.2) ∙ split

  pub illegal_between : IsIllegalFrom spec stream (length before + (legal + 1))
      (length before + illegal)
  illegal_between =
      let below : legal ≤ length events = omega (arith, order, within) in (
        before ++ take legal events,
        some.0,
        some.1,
        drop illegal events,
        whole ∙ (sym (parted before illegal events)
            ∙ ap (λ (l : List StreamEvent). l ++ drop illegal events) (sym joined)),
        (let one = length-append before (take legal events) in
            let other = length-take-le legal events below in omega (arith, one, other)),
        (let one = length-append before (take illegal events) in
            let other = length-take-le illegal events within in
            let same = ap (λ (l : List StreamEvent). length l) joined in
            omega (arith, one, other, same)),
        narrowed.is_legal,
        λ (has : HasLegalStreamOrder spec ((before ++ take legal events) ++ some.0 ∷ some.1)).
            narrowed.is_illegal
            (subst (λ (s : List StreamEvent). HasLegalStreamOrder spec s) joined has),
      )

-- how far the first event with which there is no legal order is found
pub record FindsIn (ahead : Lookahead) (legal illegal : ℕ) : Type 0 where
  pub least : ahead.legal ≤ legal
  pub order : legal ≤ illegal
  pub most : illegal ≤ length ahead.log.items
  pub apart : (stream : List StreamEvent) → IsRunning ahead stream
      → (HasLegalStreamOrder (kind_spec ahead.watch.kind) stream → ⊥) → legal < illegal
  pub narrowed : (stream : List StreamEvent) → (runs : IsRunning ahead stream)
      → (HasLegalStreamOrder (kind_spec ahead.watch.kind) stream → ⊥)
      → IsNarrowed (kind_spec ahead.watch.kind) runs.before
      (events_of ahead.log.items) legal illegal

pub long_log : (items : List Event) → length (events_of items) ≡ length items
long_log items = length-map items event_of

pub finds_first : (ahead : Lookahead) → IsWithin ahead
    → FindsIn ahead ahead.legal (length ahead.log.items)
finds_first ahead within =
    let items = ahead.log.items in
    let spec = kind_spec ahead.watch.kind in
    let less : ahead.legal ≤ length items = omega (arith, within.legal, within.taken) in
    let all : take (length items) (events_of items) ≡ events_of items =
    take_all (length items) (events_of items) (omega (arith, long_log items)) in record {
      least = omega arith;
      order = less;
      most = omega arith;
      apart = λ stream runs none. elim (cases_lt ahead.legal (length items)) [
        | inl below ↦ below
        | inr above ↦
            let same : ahead.legal ≡ length items = omega (arith, less, above) in
            absurd (none (subst (λ (s : List StreamEvent). HasLegalStreamOrder spec s)
            (ap (λ (n : ℕ). runs.before ++ take n (events_of items)) same
            ∙ (ap (λ (l : List StreamEvent). runs.before ++ l) all ∙ sym runs.whole)) runs.legal))
      ];
      narrowed = λ stream runs none. record {
        is_legal = runs.legal;
        is_illegal = λ (has : HasLegalStreamOrder spec
            (runs.before ++ take (length items) (events_of items))).
            none (subst (λ (s : List StreamEvent). HasLegalStreamOrder spec s)
            (ap (λ (l : List StreamEvent). runs.before ++ l) all ∙ sym runs.whole) has);
      };
    }

-- the first events of a log that are replayed
module _ (ahead : Lookahead) (slice : List Event) (middle : ℕ)
    (least : ahead.legal ≤ middle) (is : slice ≡ take middle ahead.log.items) where
  taken_slice : take middle (events_of ahead.log.items) ≡ events_of slice
  taken_slice = take-map event_of middle ahead.log.items
      ∙ ap (λ (l : List Event). events_of l) (sym is)

  pub base_slice : (stream : List StreamEvent) → (runs : IsRunning ahead stream)
      → HasTaken ahead.base runs.before (events_of slice)
  base_slice stream runs =
      let events = events_of ahead.log.items in
      subst (λ (l : List StreamEvent). HasTaken ahead.base runs.before l) taken_slice
      (taken_seen ahead.base runs.before events ahead.legal middle least
      (subst (λ (s : List StreamEvent). HasTaken ahead.base s (take ahead.legal events))
      (append-nil runs.before) runs.base))

  pub takable_slice : (stream : List StreamEvent) → (runs : IsRunning ahead stream)
      → IsTakable stream → IsTakable (runs.before ++ events_of slice)
  takable_slice stream runs takable =
      let events = events_of ahead.log.items in
      subst (λ (l : List StreamEvent). IsTakable (runs.before ++ l)) taken_slice
      (takable_front (runs.before ++ take middle events) (drop middle events)
      (subst (λ (s : List StreamEvent). IsTakable s)
      (runs.whole ∙ sym (parted runs.before middle events)) takable))

  pub replayed : (verdict : Verdict)
      → ((s : List StreamEvent) → HasTaken ahead.base s (events_of slice)
      → IsVerdict ahead.base.kind ahead.base.limit (s ++ events_of slice) [] verdict)
      → (stream : List StreamEvent) → (runs : IsRunning ahead stream)
      → IsVerdict ahead.watch.kind ahead.watch.limit
      (runs.before ++ take middle (events_of ahead.log.items)) [] verdict
  replayed verdict said stream runs =
      subst (λ (l : List StreamEvent). IsVerdict ahead.watch.kind ahead.watch.limit
      (runs.before ++ l) [] verdict) (sym taken_slice)
      (subst (λ (n : ℕ). IsVerdict ahead.watch.kind n
      (runs.before ++ events_of slice) [] verdict) runs.base_limit
      (subst (λ (k : Kind). IsVerdict k ahead.base.limit
      (runs.before ++ events_of slice) [] verdict) runs.base_kind
      (said runs.before (base_slice stream runs))))

-- the verdict of a replay is that of the first events of a log
abbrev pub Replays : Lookahead → ℕ → Verdict → Type 0
Replays ahead middle verdict = (stream : List StreamEvent) → (runs : IsRunning ahead stream)
    → IsVerdict ahead.watch.kind ahead.watch.limit
    (runs.before ++ take middle (events_of ahead.log.items)) [] verdict

pub finds_legal : (ahead : Lookahead) (legal illegal middle number : ℕ)
    → FindsIn ahead legal illegal → legal ≤ middle → middle < illegal
    → Replays ahead middle (Legal number) → FindsIn ahead middle illegal
finds_legal ahead legal illegal middle number finds more less said = record {
  least = omega (arith, finds.least);
  order = omega arith;
  most = finds.most;
  apart = λ stream runs none. less;
  narrowed = λ stream runs none. record {
    is_legal = (said stream runs).1;
    is_illegal = (finds.narrowed stream runs none).is_illegal;
  };
}

pub finds_illegal : (ahead : Lookahead) (legal illegal middle first last : ℕ)
    → FindsIn ahead legal illegal → legal < middle → middle ≤ illegal
    → Replays ahead middle (Illegal first last) → FindsIn ahead legal middle
finds_illegal ahead legal illegal middle first last finds more less said = record {
  least = finds.least;
  order = omega arith;
  most = omega (arith, finds.most);
  apart = λ stream runs none. more;
  narrowed = λ stream runs none.
      let spec = kind_spec ahead.watch.kind in
      let front = runs.before ++ take middle (events_of ahead.log.items) in record {
        is_legal = (finds.narrowed stream runs none).is_legal;
        is_illegal = λ (has : HasLegalStreamOrder spec front).
            illegal_whole spec (front ++ []) first last (said stream runs)
            (subst (λ (s : List StreamEvent). HasLegalStreamOrder spec s) (sym (append-nil front))
            has);
      };
}

-- with some beginning of a stream the limit is met
abbrev pub MeetsLimit : Kind → ℕ → List StreamEvent → Type 0
MeetsLimit kind limit stream = (front : List StreamEvent) × (rest : List StreamEvent)
    × (number : ℕ) × (stream ≡ front ++ rest) × IsUnsureAt kind limit front number

pub finds_unsure : (ahead : Lookahead) (middle number : ℕ) → Replays ahead middle (Unsure number)
    → (stream : List StreamEvent) → IsRunning ahead stream
    → MeetsLimit ahead.watch.kind ahead.watch.limit stream
finds_unsure ahead middle number said stream runs =
    let events = events_of ahead.log.items in
    let front = runs.before ++ take middle events in (
      front,
      drop middle events,
      number,
      runs.whole ∙ sym (parted runs.before middle events),
      subst (λ (s : List StreamEvent). IsUnsureAt ahead.watch.kind ahead.watch.limit s
          number) (append-nil front) (said stream runs),
    )

pub found_final : (ahead : Lookahead) (legal illegal received : ℕ) (verdict : Verdict)
    → FindsIn ahead legal illegal
    → ((before : ℕ) → received ≡ before + length ahead.log.items → legal < illegal
    → verdict ≡ Illegal (before + (legal + 1)) (before + illegal))
    → (stream : List StreamEvent) → IsRunning ahead stream
    → (HasLegalStreamOrder (kind_spec ahead.watch.kind) stream → ⊥) → received ≡ length stream
    → (illegal ≤ legal + 1) ⊎ MeetsLimit ahead.watch.kind ahead.watch.limit stream
    → IsFinal ahead.watch.kind ahead.watch.limit stream verdict
found_final ahead legal illegal received verdict finds is stream runs none count exact =
    let spec = kind_spec ahead.watch.kind in
    let limit = ahead.watch.limit in
    let events = events_of ahead.log.items in
    let n = length runs.before in
    let apart = finds.apart stream runs none in
    let within : illegal ≤ length events =
    (let most = finds.most in omega (arith, most, long_log ahead.log.items)) in
    let long : received ≡ n + length ahead.log.items =
    count ∙ (ap (λ (l : List StreamEvent). length l) runs.whole
    ∙ (length-append runs.before events ∙ ap (λ (m : ℕ). n + m) (long_log ahead.log.items))) in
    subst (λ (v : Verdict). IsFinal ahead.watch.kind limit stream v) (sym (is n long apart)) (
      illegal_between spec limit runs.before events stream runs.whole legal illegal apart within
          (finds.narrowed stream runs none),
      elim exact [
        | inl few ↦ inl (ap (λ (m : ℕ). n + m)
            (let same : legal + 1 ≡ illegal = omega (arith, few, apart) in same))
        | inr met ↦ inr met
      ],
    )

-- the first items of two lists, beyond the first list
take_after : {X : Type 0} (xs ys : List X) (m : ℕ)
    → take (length xs + m) (xs ++ ys) ≡ xs ++ take m ys
take_after [] ys m = let e : 0 + m ≡ m = omega arith in ap (λ (n : ℕ). take n ys) e
take_after (x ∷ xs) ys m =
    let e : suc (length xs) + m ≡ suc (length xs + m) = omega arith in
    ap (λ (n : ℕ). take n (x ∷ (xs ++ ys))) e ∙ ap (λ l. x ∷ l) (take_after xs ys m)

-- the events before a log and the first ones of the log are the first ones of the stream
pub legal_said : (spec : SeqSpec) (before events stream : List StreamEvent) (n legal : ℕ)
    → stream ≡ before ++ events → legal ≤ length events
    → n + length events ≡ length stream + legal
    → HasLegalStreamOrder spec (before ++ take legal events)
    → HasLegalStreamOrder spec (take n stream)
legal_said spec before events stream n legal whole less count has =
    let long = ap (λ (l : List StreamEvent). length l) whole ∙ length-append before events in
    let is : n ≡ length before + legal = omega (arith, count, long) in
    subst (λ (s : List StreamEvent). HasLegalStreamOrder spec s)
    (sym (ap (λ (m : ℕ). take m stream) is
    ∙ (ap (λ (l : List StreamEvent). take (length before + legal) l) whole
    ∙ take_after before events legal))) has

-- where all events that a watch has taken have a legal order, so many are known to have one
pub settled : (ahead : Lookahead) (stream : List StreamEvent) → IsWithin ahead
    → (runs : IsRunning ahead stream) → HasLegalStreamOrder (kind_spec ahead.watch.kind)
    (runs.before ++ take ahead.taken (events_of ahead.log.items))
    → IsRunning (record ahead { legal = ahead.taken }) stream
settled ahead stream within runs legal = record {
  before = runs.before;
  whole = runs.whole;
  legal = legal;
  base_kind = runs.base_kind;
  base_limit = runs.base_limit;
  base = taken_seen ahead.base (runs.before ++ []) (events_of ahead.log.items) ahead.legal
      ahead.taken within.legal runs.base;
  next_kind = runs.next_kind;
  next_limit = runs.next_limit;
  next_seen = runs.next_seen;
  next = runs.next;
  watch = runs.watch;
}
