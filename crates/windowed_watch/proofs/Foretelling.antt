-- Replies that are foretold.
use Rattle.std.proofs.Common.{◌≡◌, ◌∙◌, ℕ, ◌+◌, ◌<◌, ◌≤◌, List, ◌++◌, length, get_or, take, drop, Option, Some, slice_get, sym, ap, subst, inl, inr, arith}
use Rattle.std.proofs.lemmas.List.{length-append, length-take-le, take-append-drop}
use Rattle.std.specs.Option.{option_map}
use Rattle.std.proofs.lemmas.Bool.{cases_lt}
use Rattle.std.proofs.lemmas.Option.{same_Some, slice_get_within, slice_get-map, slice_get-get_or}
use Rattle.list_laws.proofs.Prefixes.{slice_get-take_within}
use Rattle.streams.specs.Stream.{StreamEvent, Returned, process_of, IsWaiting, Returns}
use Rattle.streams.proofs.Returning.{get-longer}
use Rattle.residue_laws.proofs.Appending.{get-right, get-cases}
use Rattle.watch_core.specs.declared.event.Event.{Event}
use Rattle.watch_core.specs.Event.{event_of}
use Rattle.watch_core.specs.Watch.{Watched, HasTaken}
use Rattle.windowed_watch.specs.Ahead.{events_of, HasNoneOf, IsNextOf}

-- the event of a stream at the place of an event of the code
pub at_event : (events : List Event) (k : ℕ) (d : Event) → k < length events
    → slice_get (events_of events) k ≡ Some (event_of (get_or events k d))
at_event events k d less = slice_get-map event_of events k
    ∙ ap (λ (o : Option Event). option_map event_of o) (slice_get-get_or events k d less)

-- no event before an index is one of a process, and that at the index is none
pub none_more : (events : List Event) (k process : ℕ) (d : Event)
    → HasNoneOf (events_of events) k process → k < length events
    → (process_of (event_of (get_or events k d)) ≡ process → ⊥)
    → HasNoneOf (events_of events) (k + 1) process
none_more events k process d none less not j other below there mine = elim (cases_lt j k) [
  | inl earlier ↦ none j other earlier there mine
  | inr later ↦
      let same : j ≡ k = omega (arith, below, later) in
      let here : event_of (get_or events k d) ≡ other =
      same_Some (event_of (get_or events k d)) other (sym (at_event events k d less)
      ∙ subst (λ (n : ℕ). slice_get (events_of events) n ≡ Some other) same there) in
      not (ap process_of here ∙ mine)
]

pub next_here : (events : List Event) (k process : ℕ) (d : Event)
    → HasNoneOf (events_of events) k process → k < length events
    → process_of (event_of (get_or events k d)) ≡ process
    → IsNextOf (events_of events) k process
next_here events k process d none less mine =
    (event_of (get_or events k d), at_event events k d less, mine, none)

-- the pending call of a process returns by the first event of the process among those to come,
-- where this is a return
returns_next : (stream coming : List StreamEvent) (k process reply call : ℕ)
    → slice_get coming k ≡ Some (Returned process reply) → HasNoneOf coming k process
    → IsWaiting stream process call
    → Returns (stream ++ take (k + 1) coming) call (length stream + k) reply
returns_next stream coming k process reply call here none (op, called, quiet) =
    let within : call < length stream = slice_get_within stream call _ called in record {
      process = process;
      op = op;
      called = get-longer stream (take (k + 1) coming) call _ called;
      returned = get-right stream (take (k + 1) coming) k _
          (slice_get-take_within (k + 1) coming k (omega arith) ∙ here);
      after = omega arith;
      quiet = λ j event after before there mine.
          elim (get-cases stream (take (k + 1) coming) j event there) [
            | inl old ↦ quiet j event after (slice_get_within stream j event old) old mine
            | inr (i, is, new) ↦
                let near : i < k = omega arith in
                let below : i < k + 1 = omega arith in
                none i event near
                (sym (slice_get-take_within (k + 1) coming i below) ∙ new) mine
          ];
    }

-- a watch that is told of the next event of a process among those to come, which is a return
pub foretold : (old new : Watched) (stream coming : List StreamEvent) (k process reply by : ℕ)
    → HasTaken old stream coming → slice_get coming k ≡ Some (Returned process reply)
    → HasNoneOf coming k process → by ≡ old.taken + (k + 1)
    → ((near far : List StreamEvent) → coming ≡ near ++ far → by ≡ length (stream ++ near)
    → ((call : ℕ) → IsWaiting stream process call
    → (end : ℕ) × Returns (stream ++ near) call end reply) → HasTaken new stream coming)
    → HasTaken new stream coming
foretold old new stream coming k process reply by has here none is expected =
    let within : k + 1 ≤ length coming =
    (let less = slice_get_within coming k _ here in omega (arith, less)) in
    let long : length (stream ++ take (k + 1) coming) ≡ length stream + (k + 1) =
    length-append stream (take (k + 1) coming)
    ∙ ap (λ (n : ℕ). length stream + n) (length-take-le (k + 1) coming within) in
    expected (take (k + 1) coming) (drop (k + 1) coming) (sym (take-append-drop (k + 1) coming))
    (is ∙ (ap (λ (n : ℕ). n + (k + 1)) has.count ∙ sym long))
    (λ call waits. (
      length stream + k,
      returns_next stream coming k process reply call here none waits,
    ))
