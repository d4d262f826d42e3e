-- What continuations need of the past: the pending calls alone.
use Rattle.std.proofs.Common.{◌≡◌, ℕ, suc, ◌+◌, ◌<◌, ◌≤◌, ◌∙◌, List, [], ◌∷◌, ◌++◌, length, map, Some, refl, sym, ap, subst, inl, inr, slice_get, arith}
use Rattle.std.proofs.lemmas.Bool.{cases_lt}
use Rattle.std.proofs.lemmas.Option.{slice_get_within}
use Rattle.book_base.specs.Sequential.{IsRunFrom}
use Rattle.streams.specs.Stream.{StreamEvent, Called, Returned, Lost, process_of, IsCalledAt, IsQuiet, Returns}
use Rattle.streams.specs.StreamOrder.{StreamPlace, word_of_event, stream_step, IsAmong}
use Rattle.streams.proofs.Returning.{get-longer, get-shorter, one_event, first_or_quiet, returns_first, quiet-shorter, returns-longer, returns-shorter}
use Rattle.residue_laws.specs.Residue.{Configuration}
use Rattle.residue_laws.specs.Continuation.{IsContinuation, NeverReturns, HasPendingCallsOf}
use Rattle.residue_laws.specs.Laws.{PendingCallsSettle}
use Rattle.residue_laws.proofs.Appending.{get-right, get-cases}

-- an event after equally long streams is in both
event-moves : (one other later : List StreamEvent) (k : ℕ) (event : StreamEvent)
    → length one ≡ length other → length one ≤ k → slice_get (one ++ later) k ≡ Some event
    → slice_get (other ++ later) k ≡ Some event
event-moves one other later k event long past at = elim (get-cases one later k event at) [
  | inl left ↦ absurd (omega (arith, slice_get_within one k event left))
  | inr (j, e, right) ↦
      let place : length other + j ≡ k = omega arith in
      subst (λ (n : ℕ). slice_get (other ++ later) n ≡ Some event) place
      (get-right other later j event right)
]

-- a return among the later events is one after each stream with the same pending calls
return-moves : (one other later : List StreamEvent) → HasPendingCallsOf one other
    → (call end reply : ℕ) → length one ≤ end → Returns (one ++ later) call end reply
    → Returns (other ++ later) call end reply
return-moves one other later same call end reply past h =
    let after : call < end = h.after in
    elim (cases_lt call (length one)) [
      | inl low ↦
          let moved = same.waiting h.process call h.op
          (get-shorter one later call _ low h.called)
          (quiet-shorter one later h.process call (length one)
          (λ k event less more at is. h.quiet k event less (omega arith) at is)) in record {
            process = h.process;
            op = h.op;
            called = get-longer other later call _ moved.0;
            returned = event-moves one other later end _ same.long past h.returned;
            after = after;
            quiet = λ k event less more at is. elim (cases_lt k (length other)) [
              | inl here ↦ moved.1 k event less here (get-shorter other later k event here at) is
              | inr there ↦ h.quiet k event less more
                  (event-moves other one later k event (sym same.long) there at) is
            ];
          }
      | inr high ↦ record {
        process = h.process;
        op = h.op;
        called = event-moves one other later call _ same.long high h.called;
        returned = event-moves one other later end _ same.long past h.returned;
        after = after;
        quiet = λ k event less more at is. h.quiet k event less more (event-moves other one later k
            event (sym same.long) (omega (arith, same.long)) at) is;
      }
    ]

-- A call of a stream that hasn't returned before the later events is one of each stream with the
-- same pending calls.
record Moves (other later : List StreamEvent) (call process op : ℕ) : Type 0 where
  there : (caller : ℕ) × IsCalledAt (other ++ later) call caller op
  late : (end reply : ℕ) → Returns (other ++ later) call end reply → length other ≤ end

quiet-late : (other later : List StreamEvent) (call process op : ℕ)
    → IsCalledAt other call process op → IsQuiet other process call (length other)
    → (end reply : ℕ) → Returns (other ++ later) call end reply → length other ≤ end
quiet-late other later call process op called quiet end reply h =
    elim (cases_lt end (length other)) [
      | inl low ↦
          let same : h.process ≡ process = ap process_of (one_event (other ++ later) call _ _
          h.called (get-longer other later call _ called)) in
          absurd (quiet end (Returned h.process reply) h.after low
          (get-shorter other later end _ low h.returned) same)
      | inr past ↦ past
    ]

never-late : (other later : List StreamEvent) (call op : ℕ) → NeverReturns other call op
    → (end reply : ℕ) → Returns (other ++ later) call end reply → length other ≤ end
never-late other later call op (process, m, event, called, at, is, not, after, quiet) end reply h =
    elim (cases_lt end (length other)) [
      | inl low ↦
          let short = returns-shorter other later call end reply low h in
          let here : m ≡ end =
          returns_first other call end reply process op m event called after at is quiet short in
          let event_is : event ≡ Returned short.process reply = one_event other end _ _
          (subst (λ (k : ℕ). slice_get other k ≡ Some event) here at) short.returned in
          let same : short.process ≡ process = ap process_of (sym event_is) ∙ is in
          absurd (not reply (event_is ∙ ap (λ (p : ℕ). Returned p reply) same))
      | inr past ↦ past
    ]

by-event : (one other later : List StreamEvent) → HasPendingCallsOf one other
    → (call process op m : ℕ) (event : StreamEvent) → IsCalledAt one call process op
    → slice_get one m ≡ Some event → process_of event ≡ process → call < m
    → IsQuiet one process call m
    → ((end reply : ℕ) → Returns (one ++ later) call end reply → length one ≤ end)
    → NeverReturns one call op
by-event one other later same call process op m (Called p o) called at is after quiet late = (
  process,
  m,
  Called p o,
  called,
  at,
  is,
  λ reply (e : Called p o ≡ Returned process reply). cc,
  after,
  quiet,
)
by-event one other later same call process op m (Returned p r) called at is after quiet late =
    let returns : Returns one call m r = record {
      process = process;
      op = op;
      called = called;
      returned = at ∙ ap (λ (n : ℕ). Some (Returned n r)) is;
      after = after;
      quiet = quiet;
    } in
    let past : length one ≤ m = late m r (returns-longer one later call m r returns) in
    absurd (omega (arith, slice_get_within one m _ at))
by-event one other later same call process op m (Lost p) called at is after quiet late = (
  process,
  m,
  Lost p,
  called,
  at,
  is,
  λ reply (e : Lost p ≡ Returned process reply). cc,
  after,
  quiet,
)

call-moves : (one other later : List StreamEvent) → HasPendingCallsOf one other
    → (call process op : ℕ) → IsCalledAt (one ++ later) call process op
    → ((end reply : ℕ) → Returns (one ++ later) call end reply → length one ≤ end)
    → Moves other later call process op
call-moves one other later same call process op at late = elim (cases_lt call (length one)) [
  | inl low ↦
      let called : IsCalledAt one call process op = get-shorter one later call _ low at in
      elim (first_or_quiet one process call (length one)) [
        | inl quiet ↦
            let moved = same.waiting process call op called quiet in record {
              there = (process, get-longer other later call _ moved.0);
              late = quiet-late other later call process op moved.0 moved.1;
            }
        | inr (m, event, less, more, here, is, quiet) ↦
            let never = same.lost call op
            (by-event one other later same call process op m event called here is less quiet late)
            in record {
              there = (never.0, get-longer other later call _ never.3);
              late = never-late other later call op never;
            }
      ]
  | inr high ↦ record {
    there = (process, event-moves one other later call _ same.long high at);
    late = λ end reply h. let after : call < end = h.after in omega (arith, same.long);
  }
]

module _ (next : List ℕ → ℕ → List ℕ × ℕ) (one other later : List StreamEvent)
    (at : Configuration) (rest : List StreamPlace) (same : HasPendingCallsOf one other)
    (back : HasPendingCallsOf other one)
    (continues : IsContinuation next one later at rest) where
  moves : (place : StreamPlace) (among : IsAmong rest place)
      → Moves other later place.call (continues.calls place among).0
      (continues.calls place among).1
  moves place among = let is = continues.calls place among in
      call-moves one other later same place.call is.0 is.1 is.2 (continues.pending place among)

  same-word : (place : StreamPlace) → IsAmong rest place
      → word_of_event (slice_get (one ++ later) place.call)
      ≡ word_of_event (slice_get (other ++ later) place.call)
  same-word place among =
      let is = continues.calls place among in
      ap word_of_event is.2 ∙ sym (ap word_of_event (moves place among).there.1)

  same-run : (places : List StreamPlace)
      → ((place : StreamPlace) → IsAmong places place → IsAmong rest place)
      → map (stream_step (one ++ later)) places ≡ map (stream_step (other ++ later)) places
  same-run [] within = refl
  same-run (place ∷ places) within =
      let tail = same-run places (λ p (k, here). within p (suc k, here)) in
      let head : ◌≡◌ {A = ℕ × ℕ} (stream_step (one ++ later) place)
      (stream_step (other ++ later) place) =
      ap (λ (w : ℕ). (w, place.reply)) (same-word place (within place (0, refl))) in
      ap (λ (s : ℕ × ℕ). s ∷ map (stream_step (one ++ later)) places) head
      ∙ ap (λ (ss : List (ℕ × ℕ)). stream_step (other ++ later) place ∷ ss) tail

  continues_too : IsContinuation next other later at rest
  continues_too = record {
    calls = λ place among. let moved = (moves place among).there in
        (moved.0, (continues.calls place among).1, moved.1);
    pending = λ place among end reply h. (moves place among).late end reply h;
    unplaced = continues.unplaced;
    once = continues.once;
    returned = λ call end reply h past. continues.returned call end reply
        (return-moves other one later back call end reply past h) (omega (arith, same.long));
    run = subst (λ (s : List (ℕ × ℕ)). IsRunFrom next at.list s)
        (same-run rest (λ place among. among)) continues.run;
    precedence = λ j k a b first second (end, reply, h, before).
        let past : length other ≤ end = (moves a (j, first)).late end reply h in
        continues.precedence j k a b first second
        (end, reply, return-moves other one later back a.call end reply past h, before);
  }

pub pending_calls_settle : PendingCallsSettle
pending_calls_settle next one other later at rest (same, back) continues =
    continues_too next one other later at rest same back continues
