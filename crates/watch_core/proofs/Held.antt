-- What is held of a stream by key, with one more event.
use Rattle.std.proofs.Common.{◌≡◌, ◌⊎◌, ◌∙◌, ℕ, nat_eq, suc, false, ◌+◌, ◌<◌, ◌^◌, max, List, [], ◌∷◌, ◌++◌, length, drop, Option, Some, None, slice_get, refl, sym, ap, subst, append_assoc, append-nil, length-append, inl, inr, arith}
use Rattle.std.specs.Map.{lookup}
use Rattle.std.proofs.lemmas.Bool.{cases_eq}
use Rattle.std.proofs.lemmas.Option.{same_Some}
use Rattle.seq_objects.specs.declared.kind.Kind.{Kind}
use Rattle.seq_objects.specs.Objects.{kind_spec}
use Rattle.streams.specs.Stream.{StreamEvent, Called, Returned, Lost, IsCalledAt, IsWaiting, IsValidStream, Returns}
use Rattle.streams.specs.StreamOrder.{HasLegalStreamOrder}
use Rattle.streams.proofs.Returning.{get-longer, returns_once, returns-longer}
use Rattle.streams.proofs.Pushing.{returns_now}
use Rattle.late_residue.specs.declared.open_call.OpenCall.{OpenCall}
use Rattle.late_residue.specs.Reached.{Has}
use Rattle.late_residue.specs.Known.{MayHaveReply}
use Rattle.late_residue.specs.LateOnes.{AreOpen, IsBeyond}
use Rattle.late_residue.proofs.Items.{has-none}
use Rattle.late_residue.proofs.Taking.{one_waits}
use Rattle.late_residue.proofs.Deciding.{known_replies_decide}
use Rattle.stream_locality.specs.StreamParts.{IsStreamOfKey}
use Rattle.stream_locality.specs.KindKeys.{key_of_kind}
use Rattle.stream_locality.proofs.Parts.{parts_are_valid}
use Rattle.stream_locality.proofs.Growing.{parts_grow, parts_continue, empty_part}
use Rattle.stream_locality.proofs.KindProducts.{kind_locality}
use Rattle.watch_core.specs.Part.{Parted, IsHeldAt, calls_at, residue_at, RepliesAsKnown, TakesEvent, IsTold, Copies}
use Rattle.watch_core.specs.Parts.{AreKnownAt, IsHeldOfKey, AreHeld, IsNextOfKey, TakeEvent, AreTold}
use Rattle.watch_core.specs.Verdict.{IsUnsureAt}
use Rattle.watch_core.proofs.Tables.{table_none}
use Rattle.late_residue.proofs.Events.{late_shows}
use Rattle.watch_core.proofs.Keyed.{part_short, waits_is, known_in_part, part_legal}

-- what is known of replies after an event
pub next_near : (stream later near far : List StreamEvent) (event : StreamEvent) (seen : ℕ)
    → event ∷ later ≡ near ++ far → seen ≡ length (stream ++ near)
    → (rest : List StreamEvent) × (later ≡ drop 1 near ++ rest)
    × (max seen (length stream + 1) ≡ length ((stream ++ event ∷ []) ++ drop 1 near))
    × ((call end reply : ℕ) → Returns (stream ++ near) call end reply
    → Returns ((stream ++ event ∷ []) ++ drop 1 near) call end reply)
next_near stream later [] far event seen parts count = (
  later,
  refl,
  first seen (length stream) (count ∙ length-append stream [])
      ∙ (ap (λ (n : ℕ). n + 0) (sym (length-append stream (event ∷ [])))
      ∙ sym (length-append (stream ++ event ∷ []) [])),
  λ call end reply returns. returns-longer (stream ++ event ∷ []) [] call end reply
      (returns-longer stream (event ∷ []) call end reply
      (subst (λ (s : List StreamEvent). Returns s call end reply) (append-nil stream) returns)),
)
  where
    first : (s n : ℕ) → s ≡ n + 0 → max s (n + 1) ≡ (n + 1) + 0
    first s n is = omega (arith, is)
next_near stream later (one ∷ near) far event seen parts count =
    let heads : event ≡ one = cc in
    let tails : later ≡ near ++ far = cc in
    let joined : stream ++ one ∷ near ≡ (stream ++ event ∷ []) ++ near =
    ap (λ (e : StreamEvent). stream ++ e ∷ near) (sym heads)
    ∙ sym (append_assoc stream (event ∷ []) near) in (
      far,
      tails,
      more seen (length stream) (length near) (count ∙ length-append stream (one ∷ near))
          ∙ (ap (λ (n : ℕ). n + length near) (sym (length-append stream (event ∷ [])))
          ∙ sym (length-append (stream ++ event ∷ []) near)),
      λ call end reply returns. subst (λ (s : List StreamEvent). Returns s call end reply) joined
          returns,
    )
  where
    more : (s n m : ℕ) → s ≡ n + suc m → max s (n + 1) ≡ (n + 1) + m
    more s n m is = omega (arith, is)

-- the open calls of a part are calls of its events
called_in : (kind : Kind) (part : Option Parted) (events : List StreamEvent)
    → IsHeldAt (kind_spec kind) part events → (one : OpenCall) → Has (calls_at part) one
    → IsCalledAt events one.call one.process one.op
called_in kind None events held one has = absurd (has-none one has)
called_in kind (Some part) events held one has = held.table.are_open.called one has

open_in : (kind : Kind) (part : Option Parted) (events : List StreamEvent)
    → IsHeldAt (kind_spec kind) part events → AreOpen events (calls_at part)
open_in kind None events held =
    subst (λ (e : List StreamEvent). AreOpen e []) (sym held) table_none.are_open
open_in kind (Some part) events held = held.table.are_open

replies_as_known : (events : List StreamEvent) (calls : List OpenCall) (event : StreamEvent)
    → ((process reply : ℕ) → event ≡ Returned process reply → (one : OpenCall) → Has calls one
    → IsWaiting events process one.call → MayHaveReply one reply)
    → RepliesAsKnown events calls event
replies_as_known events calls (Called process op) known = tt
replies_as_known events calls (Returned process reply) known = known process reply refl
replies_as_known events calls (Lost process) known = tt

-- what is known from a stream is known from another one with the same returns
known_more : (whole other : List StreamEvent) (places more : List ℕ) (calls : List OpenCall)
    → ((call end reply : ℕ) → Returns whole call end reply → Returns other call end reply)
    → AreKnownAt whole places calls → AreKnownAt other (places ++ more) calls
known_more whole other places more calls further known one has reply given =
    let there = known one has reply given in (
      there.0,
      there.1,
      get-longer places more one.call there.0 there.2,
      further there.0 there.1 reply there.3,
    )

widened : (kind : Kind) (k : ℕ) (stream near other : List StreamEvent) (part : Option Parted)
    → ((call end reply : ℕ) → Returns (stream ++ near) call end reply
    → Returns (stream ++ other) call end reply)
    → IsHeldOfKey kind k stream near part → IsHeldOfKey kind k stream other part
widened kind k stream near other part further h = record {
  places = h.places;
  events = h.events;
  of_key = h.of_key;
  held = h.held;
  known = λ one has reply given. let there = h.known one has reply given in
      (there.0, there.1, there.2, further there.0 there.1 reply there.3);
}

module _ (kind : Kind) (stream near next : List StreamEvent) (event : StreamEvent) (key : ℕ)
    (of_key : IsNextOfKey kind key stream event) (short : length stream + 1 < 2 ^ 64)
    (valid : IsValidStream (stream ++ event ∷ []))
    (further : (call end reply : ℕ) → Returns (stream ++ near) call end reply
    → Returns ((stream ++ event ∷ []) ++ next) call end reply) where
  abbrev longer : List StreamEvent
  longer = stream ++ event ∷ []

  module _ (old : Option Parted) (h : IsHeldOfKey kind key stream near old) where
    abbrev places_now : List ℕ
    places_now = h.places ++ length stream ∷ []

    abbrev events_now : List StreamEvent
    events_now = h.events ++ event ∷ []

    -- the part of the key has the event
    own_grows : IsStreamOfKey (key_of_kind kind) key longer places_now events_now
    own_grows = (parts_grow (key_of_kind kind) key stream event h.places h.events h.of_key).0
        ((of_key key).1 refl)

    own_known : AreKnownAt (longer ++ next) places_now (calls_at old)
    own_known = known_more (stream ++ near) (longer ++ next) h.places (length stream ∷ [])
        (calls_at old) further h.known

    own_replies : RepliesAsKnown h.events (calls_at old) event
    own_replies = replies_as_known h.events (calls_at old) event
        (λ process reply is one has waits told given.
        let rest = parts_continue (key_of_kind kind) key longer next places_now events_now
        own_grows in
        let there = known_in_part (key_of_kind kind) key longer places_now events_now own_grows next
        rest.0 rest.1 (calls_at old) rest.2
        (λ other is_open. get-longer h.events (event ∷ []) other.call _
        (called_in kind old h.events h.held other is_open)) own_known one has told given in
        let now : Returns (events_now ++ rest.1) one.call (length h.events) reply =
        returns-longer events_now rest.1 one.call (length h.events) reply
        (subst (λ (e : StreamEvent).
        Returns (h.events ++ e ∷ []) one.call (length h.events) reply) (sym is)
        (returns_now h.events process one.call reply waits)) in
        (returns_once (events_now ++ rest.1) one.call (length h.events) reply there.0 told now
        there.1).1)

    module _ (new : Option Parted) (takes : TakesEvent (kind_spec kind) event old new) where
      own_short : length h.events + 1 < 2 ^ 64
      own_short = omega (
        arith,
        short,
        part_short (key_of_kind kind) key stream h.places h.events
            h.of_key,
      )

      own_held : IsHeldAt (kind_spec kind) new events_now
      own_held = takes.held h.events own_short (parts_are_valid (key_of_kind kind) key longer
          places_now events_now valid own_grows) own_replies h.held

      new_known : AreKnownAt (longer ++ next) places_now (calls_at new)
      new_known one has reply given =
          let before = takes.known one has reply given in
          let there = own_known before.0 before.1 reply before.3 in (
            there.0,
            there.1,
            subst (λ (c : ℕ). slice_get places_now c ≡ Some there.0) before.2 there.2,
            there.3,
          )

      own_after : IsHeldOfKey kind key longer next new
      own_after = record {
        places = places_now;
        events = events_now;
        of_key = own_grows;
        held = own_held;
        known = new_known;
      }

      -- where no configuration is left, the stream has no legal order
      pub none_left : residue_at new
          ≡ [] → HasLegalStreamOrder (kind_spec kind) (longer ++ next) → ⊥
      none_left none legal =
          let rest = parts_continue (key_of_kind kind) key longer next places_now events_now
          own_grows in
          refuted new own_held new_known none rest.0 rest.1 rest.2 (part_legal kind key
          (longer ++ next) (places_now ++ rest.0) (events_now ++ rest.1) rest.2 legal)
        where
          refuted : (part : Option Parted) → IsHeldAt (kind_spec kind) part events_now
              → AreKnownAt (longer ++ next) places_now (calls_at part) → residue_at part ≡ []
              → (more : List ℕ) (rest : List StreamEvent) → IsStreamOfKey (key_of_kind kind) key
              (longer ++ next) (places_now ++ more) (events_now ++ rest)
              → HasLegalStreamOrder (kind_spec kind) (events_now ++ rest) → ⊥
          refuted None held known none more rest is legal =
              let long = length-append h.events (event ∷ []) in
              let zero_long = ap (λ (e : List StreamEvent). length e) held in
              omega (arith, long, zero_long)
          refuted (Some part) held known none more rest is legal =
              (known_replies_decide (kind_spec kind) events_now part.calls part.residue held.late).1
              rest (known_in_part (key_of_kind kind) key longer places_now events_now own_grows next
              more rest part.calls is held.table.are_open.called known) none legal

  -- a part of another key stays
  other_after : (k : ℕ) → (key ≡ k → ⊥) → (part : Option Parted)
      → IsHeldOfKey kind k stream near part → IsHeldOfKey kind k longer next part
  other_after k apart part h = record {
    places = h.places;
    events = h.events;
    of_key = (parts_grow (key_of_kind kind) k stream event h.places h.events h.of_key).1
        (λ own. apart ((of_key k).0 own));
    held = h.held;
    known = λ one has reply given. let there = h.known one has reply given in
        (there.0, there.1, there.2, further there.0 there.1 reply there.3);
  }

  module _ (old new : List (ℕ × Parted)) (held : AreHeld kind stream near old)
      (takes : TakeEvent (kind_spec kind) key event old new) where
    -- each key's part is held after the event
    pub held_after : AreHeld kind longer next new
    held_after k = elim (cases_eq k key) [
      | inl same ↦ subst (λ (j : ℕ). IsHeldOfKey kind j longer next (lookup (nat_eq j) new))
          (sym same) (own_after (lookup (nat_eq key) old) (held key) (lookup (nat_eq key) new)
          takes.own)
      | inr apart ↦ subst (λ (o : Option Parted). IsHeldOfKey kind k longer next o)
          (sym (takes.others k apart))
          (other_after k (λ e. apart (sym e)) (lookup (nat_eq k) old) (held k))
    ]

    shown : (part : Option Parted) (events : List StreamEvent)
        → IsHeldAt (kind_spec kind) part events → (residue_at part ≡ [] → ⊥)
        → HasLegalStreamOrder (kind_spec kind) events
    shown None events is some = absurd (some refl)
    shown (Some part) events is some =
        late_shows (kind_spec kind) events part.calls part.residue is.late some

    -- where a configuration of the key is left, the stream still has a legal order
    pub some_left : (residue_at (lookup (nat_eq key) new) ≡ [] → ⊥)
        → HasLegalStreamOrder (kind_spec kind) stream
        → HasLegalStreamOrder (kind_spec kind) longer
    unfolding other_after
    some_left some legal = (kind_locality kind longer (λ k. (family k).0) (λ k. (family k).1)
        (λ k. (family k).2)).1 (λ k. (family k).3)
      where
        family : (k : ℕ) → (ps : List ℕ) × (es : List StreamEvent)
            × IsStreamOfKey (key_of_kind kind) k longer ps es
            × HasLegalStreamOrder (kind_spec kind) es
        family k = elim (cases_eq k key) [
          | inl same ↦
              let own = own_after (lookup (nat_eq key) old) (held key) (lookup (nat_eq key) new)
              takes.own in (
                own.places,
                own.events,
                subst (λ (j : ℕ).
                    IsStreamOfKey (key_of_kind kind) j longer own.places own.events) (sym same)
                    own.of_key,
                shown (lookup (nat_eq key) new) own.events own.held some,
              )
          | inr apart ↦
              let other = other_after k (λ e. apart (sym e)) (lookup (nat_eq k) old) (held k) in (
                (held k).places,
                (held k).events,
                other.of_key,
                part_legal kind k stream (held k).places (held k).events (held k).of_key legal,
              )
        ]

-- where a part is beyond the limit, it is said so of the stream
pub beyond_at : (kind : Kind) (limit taken key : ℕ) (stream later near far : List StreamEvent)
    (event : StreamEvent) (part : Option Parted) → IsHeldOfKey kind key stream near part
    → HasLegalStreamOrder (kind_spec kind) stream → taken ≡ length stream
    → event ∷ later ≡ near ++ far
    → ((events : List StreamEvent) → IsHeldAt (kind_spec kind) part events
    → IsBeyond (kind_spec kind) events (calls_at part) limit)
    → IsUnsureAt kind limit ((stream ++ event ∷ []) ++ later) (taken + 1)
unfolding widened
beyond_at kind limit taken key stream later near far event part h legal count parts beyond =
    let rest = parts_continue (key_of_kind kind) key stream (event ∷ later) h.places h.events
    h.of_key in
    let wide = widened kind key stream near (event ∷ later) part (λ call end reply returns.
    subst (λ (s : List StreamEvent). Returns s call end reply)
    (append_assoc stream near far ∙ ap (λ (l : List StreamEvent). stream ++ l) (sym parts))
    (returns-longer (stream ++ near) far call end reply returns)) h in
    record {
      before = stream;
      after = event ∷ later;
      split = append_assoc stream (event ∷ []) later;
      at = ap (λ (n : ℕ). n + 1) count;
      legal = legal;
      key = key;
      places = h.places;
      events = h.events;
      of_key = h.of_key;
      more = rest.0;
      rest = rest.1;
      of_longer = rest.2;
      calls = calls_at part;
      are_open = open_in kind part h.events h.held;
      known = known_in_part (key_of_kind kind) key stream h.places h.events h.of_key (event ∷ later)
          rest.0 rest.1 (calls_at part) rest.2 (called_in kind part h.events h.held) wide.known;
      beyond = beyond h.events h.held;
    }

-- each key's part of the empty stream is held
pub held_none : (kind : Kind) → AreHeld kind [] [] []
held_none kind k = record {
  places = [];
  events = [];
  of_key = empty_part (key_of_kind kind) k;
  held = refl;
  known = λ one has. absurd (has-none one has);
}

-- a copy holds what is held
pub held_copy : (kind : Kind) (stream near : List StreamEvent) (old new : List (ℕ × Parted))
    → ((k : ℕ) → Copies (lookup (nat_eq k) old) (lookup (nat_eq k) new))
    → AreHeld kind stream near old → AreHeld kind stream near new
held_copy kind stream near old new copies held k = record {
  places = (held k).places;
  events = (held k).events;
  of_key = (held k).of_key;
  held = (copies k).held (kind_spec kind) (held k).events (held k).held;
  known = λ one has reply given.
      let before = (copies k).known one has reply given in
      let there = (held k).known before.0 before.1 reply before.3 in (
        there.0,
        there.1,
        subst (λ (c : ℕ). slice_get (held k).places c ≡ Some there.0) before.2 there.2,
        there.3,
      );
}

module _ (kind : Kind) (stream near wide : List StreamEvent) (key process reply call op end : ℕ)
    (further : (call end reply : ℕ) → Returns (stream ++ near) call end reply
    → Returns (stream ++ wide) call end reply)
    (waits : IsWaiting stream process call) (called : IsCalledAt stream call process op)
    (same : key_of_kind kind op ≡ key) (returns : Returns (stream ++ wide) call end reply) where
  own_told : (old new : Option Parted) → IsHeldOfKey kind key stream near old
      → IsTold (kind_spec kind) process reply old new → IsHeldOfKey kind key stream wide new
  own_told old new h told =
      let after = told.held h.events replies h.held in
      record {
        places = h.places;
        events = h.events;
        of_key = h.of_key;
        held = after;
        known = λ one has known given. now_known new after one has known given
            (told.known one has known given);
      }
    where
      there : (j : ℕ) × (slice_get h.places j ≡ Some call) × IsWaiting h.events process j
      there = waits_is (key_of_kind kind) key stream h.places h.events h.of_key process call op
          waits called same

      at_call : (number : ℕ) → IsWaiting h.events process number
          → slice_get h.places number ≡ Some call
      at_call number waiting = subst (λ (n : ℕ). slice_get h.places n ≡ Some call)
          (one_waits h.events process there.0 number there.2 waiting) there.1

      replies : RepliesAsKnown h.events (calls_at old) (Returned process reply)
      replies one has waiting known given =
          let before = h.known one has known given in
          let place : before.0 ≡ call = same_Some before.0 call
          (sym before.2 ∙ at_call one.call waiting) in
          (returns_once (stream ++ wide) call end reply before.1 known returns
          (subst (λ (c : ℕ). Returns (stream ++ wide) c before.1 known) place
          (further before.0 before.1 known before.3))).1

      waiting_in : (part : Option Parted) → IsHeldAt (kind_spec kind) part h.events
          → (one : OpenCall) → Has (calls_at part) one → one.is_lost ≡ false
          → IsWaiting h.events one.process one.call
      waiting_in None held one has lost = absurd (has-none one has)
      waiting_in (Some part) held one has lost = held.table.waiting one has lost

      now_known : (part : Option Parted) → IsHeldAt (kind_spec kind) part h.events
          → (one : OpenCall) → Has (calls_at part) one → (known : ℕ) → one.reply ≡ Some known
          → ((old_one : OpenCall) × Has (calls_at old) old_one × (old_one.call ≡ one.call)
          × (old_one.reply ≡ Some known))
          ⊎ ((one.process ≡ process) × (one.is_lost ≡ false) × (reply ≡ known))
          → (place : ℕ) × (last : ℕ) × (slice_get h.places one.call ≡ Some place)
          × Returns (stream ++ wide) place last known
      now_known part held one has known given (inl (before, there_before, number, was)) =
          let from = h.known before there_before known was in (
            from.0,
            from.1,
            subst (λ (c : ℕ). slice_get h.places c ≡ Some from.0) number from.2,
            further from.0 from.1 known from.3,
          )
      now_known part held one has known given (inr (own, pending, is)) = (
        call,
        end,
        at_call one.call (subst (λ (p : ℕ). IsWaiting h.events p one.call) own
            (waiting_in part held one has pending)),
        subst (λ (r : ℕ). Returns (stream ++ wide) call end r) is returns,
      )

  -- each key's part is held where a reply is told
  pub held_told : (old new : List (ℕ × Parted)) → AreHeld kind stream near old
      → AreTold (kind_spec kind) key process reply old new → AreHeld kind stream wide new
  held_told old new held told k = elim (cases_eq k key) [
    | inl equal ↦ subst (λ (j : ℕ). IsHeldOfKey kind j stream wide (lookup (nat_eq j) new))
        (sym equal) (own_told (lookup (nat_eq key) old) (lookup (nat_eq key) new) (held key)
        told.own)
    | inr apart ↦ subst (λ (o : Option Parted). IsHeldOfKey kind k stream wide o)
        (sym (told.others k apart))
        (widened kind k stream near wide (lookup (nat_eq k) old) further (held k))
  ]
