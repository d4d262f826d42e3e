-- A legal order is walked through, and its pairs are read off: the pending puts are those whose
-- values the queue holds.
use Rattle.std.proofs.Common.{◌≡◌, ℕ, zero, suc, ◌+◌, ◌<◌, ◌≤◌, ◌⊎◌, ◌∙◌, List, [], ◌∷◌, ◌++◌, length, map, replicate, get_or, set, Option, Some, None, unwrap_or, refl, sym, ap, subst, inl, inr, slice_get, length-set, arith}
use Rattle.std.proofs.lemmas.Bool.{cases_lt, cases_eq}
use Rattle.std.proofs.lemmas.List.{get_or-set_same, get_or-set_other, map-append, length-replicate}
use Rattle.std.proofs.lemmas.Option.{same_Some, none-some, slice_get_within, slice_get_cases}
use Rattle.list_laws.proofs.Options.{cases_Option}
use Rattle.list_laws.proofs.Places.{get_or-replicate_default}
use Rattle.book_base.specs.declared.call.Call.{Call}
use Rattle.book_base.specs.declared.call.Place.{Place}
use Rattle.book_base.specs.declared.call.Record.{Record}
use Rattle.book_base.specs.SeqSpec.{SeqSpec}
use Rattle.book_base.specs.Cut.{Holds}
use Rattle.book_base.specs.Book.{Page, page_of, answers_of, IsCall, IsAnswered, IsValid, operation_of, record_of, Precedes}
use Rattle.book_base.specs.Order.{call_at, StandsAt, step_at, IsLegalOrder, HasLegalOrder}
use Rattle.book_base.specs.Next.{raised, MayStandNext, HoldsAnswered, list_after, Continues}
use Rattle.book_base.specs.Pruning.{HasOneOpen}
use Rattle.book_base.proofs.PageLemmas.{caller_from_call}
use Rattle.book_base.proofs.ViewLemmas.{answer_stands, same_call}
use Rattle.legal_orders.proofs.LegalOrder.{raised_same, raised_more, raised_cases, within_cut, continues_from_legal_order, legal_order_from_continues}
use Rattle.legal_orders.specs.Container.{Effect, Puts, Takes, Neither, Reading, GivesFirst, IsQueue}
use Rattle.legal_orders.specs.Deals.{Deal}
use Rattle.legal_orders.specs.Deals as deals
use Rattle.legal_orders.specs.Deals.{shown_deal, recorded_deal, deal_by_deed, deal_by_operation, deal_of}
use Rattle.legal_orders.proofs.Dealing.{takes_by_deal, nothing_by_deal}
use Rattle.queue_pairs.specs.Moments.{moment_of, IsHeldBy, MayTakeEffect, HaveMoments, KeepPrecedence, AreHeld}
use Rattle.queue_pairs.specs.Pairs.{Paired, Pair, PairStep, Pairs, FindNothing, IsPutOf, IsPut, MayTakeOut, IsTake, MayPair, MayFind, after, IsWhole, AreSteps, none_paired}
use Rattle.queue_pairs.specs.PairLaws.{LegalOrdersHavePairs}
use Rattle.queue_pairs.proofs.Moments.{held_unless_preceded, moments_keep_precedence}

-- a take with a record doesn't have the deal of an unanswered one
shown_open : (shown : Option ℕ) → shown_deal shown ≡ deals.OpenTake → ⊥
shown_open None e = cc
shown_open (Some v) e = cc

recorded_open : (reading : Reading) (o : Option Record)
    → recorded_deal reading o ≡ deals.OpenTake → o ≡ None
recorded_open reading None e = refl
recorded_open reading (Some r) e = absurd (shown_open (reading.shown r.reply) e)

deed_open : (reading : Reading) (book : List Page) (call : Call) (deed : Effect)
    → deal_by_deed reading book call deed ≡ deals.OpenTake → record_of book call ≡ None
deed_open reading book call (Puts v) e = absurd cc
deed_open reading book call Takes e = recorded_open reading (record_of book call) e
deed_open reading book call Neither e = absurd cc

operation_open : (reading : Reading) (book : List Page) (call : Call) (o : Option ℕ)
    → deal_by_operation reading book call o ≡ deals.OpenTake → record_of book call ≡ None
operation_open reading book call None e = absurd cc
operation_open reading book call (Some op) e = deed_open reading book call (reading.deed op) e

pub open_is_unanswered : (reading : Reading) (book : List Page) (call : Call)
    → deal_of reading book call ≡ deals.OpenTake → answers_of book call.caller ≤ call.number
open_is_unanswered reading book call e =
    let none : record_of book call ≡ None =
    operation_open reading book call (operation_of book call) e in
    elim (cases_lt call.number (answers_of book call.caller)) [
      | inl answered ↦ let there = answer_stands book call answered in
          absurd (none-some there.0 (sym none ∙ there.1))
      | inr past ↦ past
    ]

-- a call of the book has an operation
has_operation : (book : List Page) (call : Call) → IsCall book call → (op : ℕ)
    × (operation_of book call ≡ Some op)
has_operation book call is =
    elim (slice_get_cases (page_of book call.caller).operations call.number).1 [
      | inl here ↦ (here.0, here.2)
      | inr past ↦ absurd (omega (arith, past.0, is))
    ]

-- an answered call outside the cut is due no earlier than the moment from which on the places after
-- the cut take effect
pub outside-last : (book : List Page) (next : List ℕ → ℕ → List ℕ × ℕ) (cut list : List ℕ) (m : ℕ)
    (rest : List Place) (call : Call) (r : Record) → length book ≤ length cut
    → Continues book next cut list rest → HaveMoments book m (map call_at rest)
    → record_of book call ≡ Some r → get_or cut call.caller 0 ≤ call.number → m ≤ moment_of r
outside-last book next cut list m [] call r wide goes have known out =
    let held : call.number < get_or cut call.caller 0 =
    goes call (slice_get_within _ call.number r known) in absurd (omega (arith, held, out))
outside-last book next cut list m (place ∷ rest) call r wide goes have known out =
    let inside : place.caller < length cut =
    within_cut book cut (call_at place) wide goes.0.may_come.is_call in
    let wider : length book ≤ length (raised cut place.caller) =
    omega (arith, wide, length-set cut place.caller (get_or cut place.caller 0 + 1)) in
    elim (cases_lt call.number (get_or (raised cut place.caller) call.caller 0)) [
      | inl held ↦
          elim (raised_cases cut place.caller call inside held) [
            | inl old ↦ absurd (omega (arith, old, out))
            | inr new ↦
                let same : call ≡ call_at place =
                same_call call (call_at place) new.0 (new.1 ∙ sym goes.0.may_come.next) in
                omega (arith, have.1, have.2.last r (ap (record_of book) (sym same) ∙ known))
          ]
      | inr later ↦ omega (
        arith,
        have.1,
        outside-last book next (raised cut place.caller)
            (list_after book next list place) have.0 rest call r wider goes.1 have.3 known later,
      )
    ]

-- A put that has come and whose value isn't taken yet.
record Pending : Type 0 where
  call : Call
  value : ℕ
  moment : ℕ

-- the put is pending
abbrev IsPending : Call → List Pending → Type 0
IsPending call [] = ⊥
IsPending call (x ∷ q) = (x.call ≡ call) ⊎ IsPending call q

-- A pending put is in the cut, and in no pair yet.
record IsWaiting (reading : Reading) (book : List Page) (cut numbers : List ℕ)
    (x : Pending) : Type 0 where
  is_call : IsCall book x.call
  puts : IsPutOf reading book x.value x.call
  effect : MayTakeEffect book x.call x.moment
  held : Holds cut x.call
  outside : get_or numbers x.call.caller 0 ≤ x.call.number

-- later puts of a pending put's caller have greater numbers
abbrev IsInTurn : Pending → List Pending → Type 0
IsInTurn x q = (y : Call) → IsPending y q → y.caller ≡ x.call.caller → x.call.number < y.number

-- The pending puts take effect one after another, from one moment on and up to another one.
abbrev AreWaiting : Reading → List Page → List ℕ → List ℕ → ℕ → ℕ → List Pending → Type 0
AreWaiting reading book cut numbers low high [] = low ≤ high
AreWaiting reading book cut numbers low high (x ∷ q) =
    IsWaiting reading book cut numbers x × (low ≤ x.moment) × IsInTurn x q
    × AreWaiting reading book cut numbers x.moment high q

-- pending puts stay pending when one more call has come, up to a later moment
waiting-later : (reading : Reading) (book : List Page) (cut numbers : List ℕ) (i low high later : ℕ)
    (q : List Pending) → i < length cut → high ≤ later
    → AreWaiting reading book cut numbers low high q
    → AreWaiting reading book (raised cut i) numbers low later q
waiting-later reading book cut numbers i low high later [] inside le h = omega (arith, h, le)
waiting-later reading book cut numbers i low high later (x ∷ q) inside le h = (
  record {
    is_call = h.0.is_call;
    puts = h.0.puts;
    effect = h.0.effect;
    held = omega (arith, h.0.held, raised_more cut i x.call.caller inside);
    outside = h.0.outside;
  },
  h.1,
  h.2,
  waiting-later reading book cut numbers i x.moment high later q inside le h.3,
)

-- a put that is pending with one more put was pending before, or is that one
pending-push : (call : Call) (q : List Pending) (x : Pending) → IsPending call (q ++ x ∷ [])
    → IsPending call q ⊎ (x.call ≡ call)
pending-push call [] x h = elim h [ inl e ↦ inr e | inr none ↦ absurd none ]
pending-push call (y ∷ q) x h =
    elim h [
      | inl e ↦ inl (inl e)
      | inr later ↦ elim (pending-push call q x later) [ inl old ↦ inl (inr old) | inr e ↦ inr e ]
    ]

pending-old : (call : Call) (q : List Pending) (x : Pending) → IsPending call q
    → IsPending call (q ++ x ∷ [])
pending-old call [] x h = absurd h
pending-old call (y ∷ q) x h = elim h [
  | inl e ↦ inl e
  | inr later ↦ inr (pending-old call q x later)
]

pending-last : (q : List Pending) (x : Pending) → IsPending x.call (q ++ x ∷ [])
pending-last [] x = inl refl
pending-last (y ∷ q) x = inr (pending-last q x)

-- a pending put is in the cut
pending-held : (reading : Reading) (book : List Page) (cut numbers : List ℕ) (low high : ℕ)
    (q : List Pending) (call : Call) → AreWaiting reading book cut numbers low high q
    → IsPending call q → Holds cut call
pending-held reading book cut numbers low high [] call h is = absurd is
pending-held reading book cut numbers low high (x ∷ q) call h is =
    elim is [
      | inl e ↦ subst (λ (c : Call). Holds cut c) e h.0.held
      | inr later ↦ pending-held reading book cut numbers x.moment high q call h.3 later
    ]

-- an answered put that is pending is due no earlier than the first moment
pending-last_moment : (reading : Reading) (book : List Page) (cut numbers : List ℕ) (low high : ℕ)
    (q : List Pending) (call : Call) (r : Record)
    → AreWaiting reading book cut numbers low high q → IsPending call q
    → record_of book call ≡ Some r → low ≤ moment_of r
pending-last_moment reading book cut numbers low high [] call r h is known = absurd is
pending-last_moment reading book cut numbers low high (x ∷ q) call r h is known =
    elim is [
      | inl e ↦ omega (arith, h.1, h.0.effect.last r (ap (record_of book) e ∙ known))
      | inr later ↦ omega (
        arith,
        h.1,
        pending-last_moment reading book cut numbers x.moment high q call r h.3 later known,
      )
    ]

-- the first moment is no later than the last one where puts are pending in between
waiting-low : (reading : Reading) (book : List Page) (cut numbers : List ℕ) (low high : ℕ)
    (q : List Pending) → AreWaiting reading book cut numbers low high q → low ≤ high
waiting-low reading book cut numbers low high [] h = h
waiting-low reading book cut numbers low high (x ∷ q) h =
    omega (arith, h.1, waiting-low reading book cut numbers x.moment high q h.3)

-- one more put is pending, the next call of its caller
waiting-push : (reading : Reading) (book : List Page) (cut numbers : List ℕ) (low high : ℕ)
    (q : List Pending) (x : Pending) → x.call.caller < length cut
    → x.call.number ≡ get_or cut x.call.caller 0 → high ≤ x.moment
    → IsWaiting reading book (raised cut x.call.caller) numbers x
    → AreWaiting reading book cut numbers low high q
    → AreWaiting reading book (raised cut x.call.caller) numbers low x.moment (q ++ x ∷ [])
waiting-push reading book cut numbers low high [] x inside at le is h =
    (is, omega (arith, h, le), (λ y none e. absurd none), omega arith)
waiting-push reading book cut numbers low high (y ∷ q) x inside at le is h = (
  record {
    is_call = h.0.is_call;
    puts = h.0.puts;
    effect = h.0.effect;
    held = omega (arith, h.0.held, raised_more cut x.call.caller y.call.caller inside);
    outside = h.0.outside;
  },
  h.1,
  (λ (z : Call) (pending : IsPending z (q ++ x ∷ [])) (e : z.caller ≡ y.call.caller).
      elim (pending-push z q x pending) [
        | inl old ↦ h.2 z old e
        | inr last ↦
            let caller : x.call.caller ≡ y.call.caller = ap (λ (c : Call). c.caller) last ∙ e in
            omega (
              arith,
              h.0.held,
              at,
              ap (λ (i : ℕ). get_or cut i 0) caller,
              ap (λ (c : Call). c.number) last,
            )
      ]),
  waiting-push reading book cut numbers y.moment high q x inside at le is h.3,
)

-- once the first pending put is in a pair, the others are still pending
waiting-paired : (reading : Reading) (book : List Page) (cut numbers : List ℕ) (low high : ℕ)
    (p : Call) (q : List Pending) → p.caller < length numbers
    → ((y : Call) → IsPending y q → y.caller ≡ p.caller → p.number < y.number)
    → AreWaiting reading book cut numbers low high q
    → AreWaiting reading book cut (set numbers p.caller (p.number + 1)) low high q
waiting-paired reading book cut numbers low high p [] inside turn h = h
waiting-paired reading book cut numbers low high p (x ∷ q) inside turn h = (
  record {
    is_call = h.0.is_call;
    puts = h.0.puts;
    effect = h.0.effect;
    held = h.0.held;
    outside = elim (cases_eq x.call.caller p.caller) [
      | inl same ↦
          omega (
            arith,
            turn x.call (inl refl) same,
            get_or-set_same numbers p.caller (p.number + 1) 0 inside,
            ap (λ (i : ℕ). get_or (set numbers p.caller (p.number + 1)) i 0) same,
          )
      | inr apart ↦ omega (
        arith,
        h.0.outside,
        get_or-set_other numbers p.caller x.call.caller (p.number + 1) 0 apart,
      )
    ];
  },
  h.1,
  h.2,
  waiting-paired reading book cut numbers x.moment high p q inside (λ y is. turn y (inr is)) h.3,
)

-- How far a walk through an order has come, after the calls of a cut and up to a moment: the
-- pending puts are those whose values the queue holds, and the standing covers all other puts and
-- all answered takes of the cut.
record Walked (reading : Reading) (book : List Page) (cut list : List ℕ) (s : Paired)
    (q : List Pending) (m : ℕ) : Type 0 where
  values : reading.values list ≡ map (λ x. x.value) q
  waiting : AreWaiting reading book cut s.puts s.put_moment m q
  pending : (p : Call) → IsPut reading book p → Holds cut p → get_or s.puts p.caller 0 ≤ p.number
      → IsPending p q
  puts : (i : ℕ) → get_or s.puts i 0 ≤ get_or cut i 0
  takes : (i : ℕ) → get_or s.takes i 0 ≤ get_or cut i 0
  taken : (t : Call) (v : ℕ) → deal_of reading book t ≡ deals.Took v → Holds cut t
      → t.number < get_or s.takes t.caller 0
  found : (e : Call) → deal_of reading book e ≡ deals.FoundNothing → Holds cut e
      → IsHeldBy book e s.found
  moments : s.found ≤ s.take_moment
  time : s.take_moment ≤ m
  wide_puts : length book ≤ length s.puts
  wide_takes : length book ≤ length s.takes

-- some steps lead from a standing to one that is whole
abbrev pub GoesOn : Reading → List Page → Paired → Type 0
GoesOn reading book s = (steps : List PairStep) × AreSteps reading book s steps

-- All that is known at a place of a walk: it may come next, its call may take effect at a moment no
-- earlier than the walk's, and the cut has a count for its caller.
record Here (reading : Reading) (book : List Page) (next : List ℕ → ℕ → List ℕ × ℕ)
    (cut list : List ℕ) (s : Paired) (q : List Pending) (m n : ℕ) (place : Place) : Type 0 where
  walked : Walked reading book cut list s q m
  may : MayStandNext book next cut list place
  later : m ≤ n
  effect : MayTakeEffect book (call_at place) n
  inside : place.caller < length cut

-- A call comes that is neither a put nor an answered take, and leaves the queue's values as they
-- are: the walk goes on with the same standing.
walked-other : (reading : Reading) (book : List Page) (next : List ℕ → ℕ → List ℕ × ℕ)
    (cut list : List ℕ) (s : Paired) (q : List Pending) (m n : ℕ) (place : Place)
    → Here reading book next cut list s q m n place
    → (IsPut reading book (call_at place) → ⊥)
    → ((v : ℕ) → deal_of reading book (call_at place) ≡ deals.Took v → ⊥)
    → (deal_of reading book (call_at place) ≡ deals.FoundNothing → ⊥)
    → reading.values (list_after book next list place) ≡ reading.values list
    → Walked reading book (raised cut place.caller) (list_after book next list place) s q n
walked-other reading book next cut list s q m n place h no_put no_take no_empty same =
    let w = h.walked in
    let old =
    λ (c : Call) (held : Holds (raised cut place.caller) c) (other : (call_at place ≡ c) → ⊥).
    let held_before : Holds cut c = elim (raised_cases cut place.caller c h.inside held) [
      | inl before ↦ before
      | inr new ↦
          absurd (other (same_call (call_at place) c (sym new.0) (h.may.may_come.next ∙ sym new.1)))
    ] in held_before in
    record {
      values = same ∙ w.values;
      waiting = waiting-later reading book cut s.puts place.caller s.put_moment m n q h.inside
          h.later w.waiting;
      pending = λ p is held out. w.pending p is
          (old p held (λ e. no_put (subst (λ (c : Call). IsPut reading book c) (sym e) is))) out;
      puts = λ i. omega (arith, w.puts i, raised_more cut place.caller i h.inside);
      takes = λ i. omega (arith, w.takes i, raised_more cut place.caller i h.inside);
      taken = λ t v took held.
          w.taken t v took (old t held (λ e. no_take v (ap (deal_of reading book) e ∙ took)));
      found = λ e nothing held. w.found e nothing
          (old e held (λ same. no_empty (ap (deal_of reading book) same ∙ nothing)));
      moments = w.moments;
      time = omega (arith, w.time, h.later);
      wide_puts = w.wide_puts;
      wide_takes = w.wide_takes;
    }

-- A put comes: it is pending.
walked-put : (reading : Reading) (book : List Page) (next : List ℕ → ℕ → List ℕ × ℕ)
    (cut list : List ℕ) (s : Paired) (q : List Pending) (m n : ℕ) (place : Place) (v : ℕ)
    → Here reading book next cut list s q m n place → IsPutOf reading book v (call_at place)
    → reading.values (list_after book next list place) ≡ reading.values list ++ v ∷ []
    → Walked reading book (raised cut place.caller) (list_after book next list place) s
    (q ++ record { call = call_at place; value = v; moment = n } ∷ []) n
walked-put reading book next cut list s q m n place v h is more =
    let w = h.walked in
    let x : Pending = record { call = call_at place; value = v; moment = n } in
    let here : Holds (raised cut place.caller) (call_at place) =
    omega (arith, raised_same cut place.caller h.inside, h.may.may_come.next) in
    let waits : IsWaiting reading book (raised cut place.caller) s.puts x = record {
      is_call = h.may.may_come.is_call;
      puts = is;
      effect = h.effect;
      held = here;
      outside = omega (arith, w.puts place.caller, h.may.may_come.next);
    } in
    let old =
    λ (c : Call) (held : Holds (raised cut place.caller) c) (other : (call_at place ≡ c) → ⊥).
    let held_before : Holds cut c = elim (raised_cases cut place.caller c h.inside held) [
      | inl before ↦ before
      | inr new ↦
          absurd (other (same_call (call_at place) c (sym new.0) (h.may.may_come.next ∙ sym new.1)))
    ] in held_before in
    record {
      values = more ∙ (ap (λ (xs : List ℕ). xs ++ v ∷ []) w.values
          ∙ sym (map-append (λ (y : Pending). y.value) q (x ∷ [])));
      waiting = waiting-push reading book cut s.puts s.put_moment m q x h.inside h.may.may_come.next
          h.later waits w.waiting;
      pending = λ p put held out. elim (raised_cases cut place.caller p h.inside held) [
        | inl before ↦ pending-old p q x (w.pending p put before out)
        | inr new ↦
            let same : call_at place ≡ p =
            same_call (call_at place) p (sym new.0) (h.may.may_come.next ∙ sym new.1) in
            subst (λ (c : Call). IsPending c (q ++ x ∷ [])) same (pending-last q x)
      ];
      puts = λ i. omega (arith, w.puts i, raised_more cut place.caller i h.inside);
      takes = λ i. omega (arith, w.takes i, raised_more cut place.caller i h.inside);
      taken = λ t u took held. w.taken t u took (old t held (λ e. let wrong : deals.Put v
          ≡ deals.Took u = sym is ∙ (ap (deal_of reading book) e ∙ took) in cc));
      found = λ e nothing held. w.found e nothing (old e held (λ same. let wrong : deals.Put v
          ≡ deals.FoundNothing = sym is ∙ (ap (deal_of reading book) same ∙ nothing) in cc));
      moments = w.moments;
      time = omega (arith, w.time, h.later);
      wide_puts = w.wide_puts;
      wide_takes = w.wide_takes;
    }

-- A take that finds nothing comes: the standing covers all that some view holds by then.
walked-empty : (reading : Reading) (book : List Page) (next : List ℕ → ℕ → List ℕ × ℕ)
    (cut list : List ℕ) (s : Paired) (q : List Pending) (m n : ℕ) (place : Place)
    → Here reading book next cut list s q m n place
    → deal_of reading book (call_at place) ≡ deals.FoundNothing
    → reading.values list ≡ [] → reading.values (list_after book next list place) ≡ []
    → Walked reading book (raised cut place.caller) (list_after book next list place)
    (after s (FindNothing n)) [] n
walked-empty reading book next cut list s [] m n place h is empty end =
    let w = h.walked in
    let old =
    λ (c : Call) (held : Holds (raised cut place.caller) c) (other : (call_at place ≡ c) → ⊥).
    let held_before : Holds cut c = elim (raised_cases cut place.caller c h.inside held) [
      | inl before ↦ before
      | inr new ↦
          absurd (other (same_call (call_at place) c (sym new.0) (h.may.may_come.next ∙ sym new.1)))
    ] in held_before in
    record {
      values = end;
      waiting = omega arith;
      pending = λ p put held out. w.pending p put (old p held (λ e. let wrong : deals.FoundNothing
          ≡ deals.Put put.0 = sym is ∙ (ap (deal_of reading book) e ∙ put.1) in cc)) out;
      puts = λ i. omega (arith, w.puts i, raised_more cut place.caller i h.inside);
      takes = λ i. omega (arith, w.takes i, raised_more cut place.caller i h.inside);
      taken = λ t u took held. w.taken t u took (old t held (λ e. let wrong : deals.FoundNothing
          ≡ deals.Took u = sym is ∙ (ap (deal_of reading book) e ∙ took) in cc));
      found = λ e nothing held. elim (raised_cases cut place.caller e h.inside held) [
        | inl before ↦
            let by : IsHeldBy book e s.found = w.found e nothing before in
            (by.0, by.1, by.2, by.3, omega (arith, by.4, w.moments, w.time, h.later))
        | inr new ↦
            let same : call_at place ≡ e =
            same_call (call_at place) e (sym new.0) (h.may.may_come.next ∙ sym new.1) in
            subst (λ (c : Call). IsHeldBy book c n) same h.effect.first
      ];
      moments = omega arith;
      time = omega arith;
      wide_puts = w.wide_puts;
      wide_takes = w.wide_takes;
    }
walked-empty reading book next cut list s (x ∷ q) m n place h is empty end =
    let wrong : x.value ∷ map (λ (y : Pending). y.value) q ≡ [] = sym h.walked.values ∙ empty in
    absurd cc

-- A take of the first pending put comes: the two are a pair.
abbrev the_pair : Pending → Place → ℕ → Pair
the_pair x place n =
    record { put = x.call; take = call_at place; put_moment = x.moment; take_moment = n }

walked-pair : (reading : Reading) (book : List Page) (next : List ℕ → ℕ → List ℕ × ℕ)
    (cut list : List ℕ) (s : Paired) (x : Pending) (q : List Pending) (m n : ℕ) (place : Place)
    → Here reading book next cut list s (x ∷ q) m n place
    → MayTakeOut reading book x.value (call_at place)
    → reading.values (list_after book next list place) ≡ map (λ y. y.value) q
    → Walked reading book (raised cut place.caller) (list_after book next list place)
    (after s (Pairs (the_pair x place n))) q n
walked-pair reading book next cut list s x q m n place h is less =
    let w = h.walked in
    let call : Call = call_at place in
    let waits = w.waiting in
    let inside_puts : x.call.caller < length s.puts =
    (let there = caller_from_call book x.call.caller x.call.number waits.0.is_call in
    omega (arith, there, w.wide_puts)) in
    let inside_takes : place.caller < length s.takes =
    (let there = caller_from_call book place.caller place.number h.may.may_come.is_call in
    omega (arith, there, w.wide_takes)) in
    let puts : List ℕ = set s.puts x.call.caller (x.call.number + 1) in
    let takes : List ℕ = set s.takes place.caller (place.number + 1) in
    let not = λ (d : Deal) (no : (v : ℕ) → (d ≡ deals.Took v → ⊥) × (d ≡ deals.OpenTake → ⊥))
    (e : deal_of reading book call ≡ d). let none : ⊥ = elim is [
      | inl took ↦ (no x.value).0 (sym e ∙ took)
      | inr unseen ↦ (no x.value).1 (sym e ∙ unseen)
    ] in none in
    let old = λ (c : Call) (held : Holds (raised cut place.caller) c) (other : (call ≡ c) → ⊥).
    let held_before : Holds cut c = elim (raised_cases cut place.caller c h.inside held) [
      | inl before ↦ before
      | inr new ↦ absurd (other (same_call call c (sym new.0) (h.may.may_come.next ∙ sym new.1)))
    ] in held_before in
    record {
      values = less;
      waiting = waiting-paired reading book (raised cut place.caller) s.puts x.moment n x.call q
          inside_puts (λ y pending caller. waits.2 y pending caller)
          (waiting-later reading book cut s.puts place.caller x.moment m n q h.inside
          h.later waits.3);
      pending = λ p put held out.
          let before : Holds cut p = old p held (λ e. not (deals.Put put.0) (λ v. (
            (λ (wrong : deals.Put put.0 ≡ deals.Took v). cc),
            (λ (wrong : deals.Put put.0 ≡ deals.OpenTake). cc),
          ))
          (ap (deal_of reading book) e ∙ put.1)) in
          elim (cases_eq p.caller x.call.caller) [
            | inl same ↦
                let past : x.call.number < p.number = omega (
                  arith,
                  out,
                  get_or-set_same s.puts x.call.caller (x.call.number + 1) 0 inside_puts,
                  ap (λ (i : ℕ). get_or puts i 0) same,
                ) in
                let outside : get_or s.puts p.caller 0 ≤ p.number =
                omega (arith, past, waits.0.outside, ap (λ (i : ℕ). get_or s.puts i 0) same) in
                elim (w.pending p put before outside) [
                  | inl first ↦ absurd (omega (arith, past, ap (λ (c : Call). c.number) first))
                  | inr later ↦ later
                ]
            | inr apart ↦
                let outside : get_or s.puts p.caller 0 ≤ p.number = omega (
                  arith,
                  out,
                  get_or-set_other s.puts x.call.caller p.caller (x.call.number + 1) 0 apart,
                ) in
                elim (w.pending p put before outside) [
                  | inl first ↦ absurd (apart (sym (ap (λ (c : Call). c.caller) first)))
                  | inr later ↦ later
                ]
          ];
      puts = λ i. elim (cases_eq i x.call.caller) [
        | inl same ↦
            omega (
              arith,
              get_or-set_same s.puts x.call.caller (x.call.number + 1) 0 inside_puts,
              ap (λ (j : ℕ). get_or puts j 0) same,
              waits.0.held,
              ap (λ (j : ℕ). get_or cut j 0) same,
              raised_more cut place.caller i h.inside,
            )
        | inr apart ↦ omega (
          arith,
          get_or-set_other s.puts x.call.caller i (x.call.number + 1) 0 apart,
          w.puts i,
          raised_more cut place.caller i h.inside,
        )
      ];
      takes = λ i. elim (cases_eq i place.caller) [
        | inl same ↦
            omega (
              arith,
              get_or-set_same s.takes place.caller (place.number + 1) 0 inside_takes,
              ap (λ (j : ℕ). get_or takes j 0) same,
              h.may.may_come.next,
              raised_same cut place.caller h.inside,
              ap (λ (j : ℕ). get_or (raised cut place.caller) j 0) same,
            )
        | inr apart ↦ omega (
          arith,
          get_or-set_other s.takes place.caller i (place.number + 1) 0 apart,
          w.takes i,
          raised_more cut place.caller i h.inside,
        )
      ];
      taken = λ t u took held. elim (raised_cases cut place.caller t h.inside held) [
        | inl before ↦
            elim (cases_eq t.caller place.caller) [
              | inl same ↦
                  omega (
                    arith,
                    get_or-set_same s.takes place.caller (place.number + 1) 0 inside_takes,
                    ap (λ (j : ℕ). get_or takes j 0) same,
                    h.may.may_come.next,
                    before,
                    ap (λ (j : ℕ). get_or cut j 0) same,
                  )
              | inr apart ↦ omega (
                arith,
                get_or-set_other s.takes place.caller t.caller (place.number + 1) 0 apart,
                w.taken t u took before,
              )
            ]
        | inr new ↦
            omega (
              arith,
              get_or-set_same s.takes place.caller (place.number + 1) 0 inside_takes,
              ap (λ (j : ℕ). get_or takes j 0) new.0,
              h.may.may_come.next,
              new.1,
            )
      ];
      found = λ e nothing held. w.found e nothing (old e held (λ same. not deals.FoundNothing
          (λ v. (
            (λ (wrong : deals.FoundNothing ≡ deals.Took v). cc),
            (λ (wrong : deals.FoundNothing ≡ deals.OpenTake). cc),
          )) (ap (deal_of reading book) same ∙ nothing)));
      moments = omega (arith, w.moments, w.time, h.later);
      time = omega arith;
      wide_puts = omega (arith, w.wide_puts, length-set s.puts x.call.caller (x.call.number + 1));
      wide_takes = omega (arith, w.wide_takes, length-set s.takes place.caller (place.number + 1));
    }

-- The pair of the first pending put and the take may come next.
may_pair : (reading : Reading) (book : List Page) (next : List ℕ → ℕ → List ℕ × ℕ)
    (cut list : List ℕ) (s : Paired) (x : Pending) (q : List Pending) (m n : ℕ) (place : Place)
    → HasOneOpen book → Here reading book next cut list s (x ∷ q) m n place
    → MayTakeOut reading book x.value (call_at place)
    → MayPair reading book s (the_pair x place n)
may_pair reading book next cut list s x q m n place one h is =
    let w = h.walked in
    let waits = w.waiting in
    record {
      value = x.value;
      puts = waits.0.puts;
      takes = is;
      put = record {
        outside = waits.0.outside;
        first = λ (k : ℕ) (low : get_or s.puts x.call.caller 0 ≤ k) (high : k < x.call.number)
            (put : IsPut reading book (record { caller = x.call.caller; number = k })).
            let p : Call = record { caller = x.call.caller; number = k } in
            elim (w.pending p put (omega (arith, high, waits.0.held)) low) [
              | inl same ↦ omega (arith, high, ap (λ (c : Call). c.number) same)
              | inr later ↦ omega (arith, high, waits.2 p later refl)
            ];
      };
      take = record {
        outside = omega (arith, w.takes place.caller, h.may.may_come.next);
        first = λ (k : ℕ) (low : get_or s.takes place.caller 0 ≤ k) (high : k < place.number)
            (take : IsTake reading book (record { caller = place.caller; number = k })).
            let t : Call = record { caller = place.caller; number = k } in
            elim take.1 [
              | inl took ↦ omega
                  (arith, low, w.taken t take.0 took (omega (arith, high, h.may.may_come.next)))
              | inr unseen ↦
                  let past : answers_of book place.caller ≤ k =
                  open_is_unanswered reading book t unseen in
                  let by = h.effect.first in
                  let few : get_or by.1.view place.caller 0 ≤ answers_of book place.caller + 1 =
                  one by.0 by.1 place.caller by.2 in
                  omega (arith, past, few, high, by.3)
            ];
      };
      after_puts = waits.1;
      after_takes = omega (arith, w.time, h.later);
      in_turn = omega (arith, waiting-low reading book cut s.puts x.moment m q waits.3, h.later);
      put_effect = waits.0.effect;
      take_effect = h.effect;
    }

-- At the end of a walk the standing is whole.
walked-end : (reading : Reading) (book : List Page) (cut list : List ℕ) (s : Paired)
    (q : List Pending) (m : ℕ) → Walked reading book cut list s q m → HoldsAnswered book cut
    → IsWhole reading book s
walked-end reading book cut list s q m w all = record {
  taken = λ t v took. w.taken t v took (let is = takes_by_deal reading book t v took in
      all t (slice_get_within _ t.number is.1 is.3));
  found = λ e nothing. w.found e nothing (let is = nothing_by_deal reading book e nothing in
      all e (slice_get_within _ e.number is.1 is.3));
  kept = λ p r put known out. pending-last_moment reading book cut s.puts s.put_moment m q p r
      w.waiting (w.pending p put (all p (slice_get_within _ p.number r known)) out) known;
}

-- The takes that find nothing and that some view holds by a moment may come next.
may_find : (reading : Reading) (book : List Page) (next : List ℕ → ℕ → List ℕ × ℕ)
    (cut list : List ℕ) (s : Paired) (q : List Pending) (m n : ℕ) (place : Place)
    (rest : List Place)
    → Here reading book next cut list s q m n place → length book ≤ length cut
    → Continues book next cut list (place ∷ rest) → HaveMoments book n (map call_at (place ∷ rest))
    → MayFind reading book s n
may_find reading book next cut list s q m n place rest h wide goes have = record {
  after_takes = omega (arith, h.walked.time, h.later);
  in_time = λ e r nothing known by out. outside-last book next cut list n
      (place ∷ rest) e r wide goes have known (elim (cases_lt e.number (get_or cut e.caller 0)) [
        | inl held ↦ absurd (out (h.walked.found e nothing held))
        | inr past ↦ past
      ]);
}

-- Whatever standing a walk has after a place, steps lead from there to a whole one.
abbrev Goes : Reading → List Page → List ℕ → List ℕ → ℕ → Type 0
Goes reading book cut list n = (s : Paired) (q : List Pending) → Walked reading book cut list s q n
    → GoesOn reading book s

-- Where steps lead to a whole standing after a take that shows nothing, they do before the take.
walk-nothing : (reading : Reading) (book : List Page) (next : List ℕ → ℕ → List ℕ × ℕ)
    (cut list : List ℕ) (s : Paired) (q : List Pending) (m n : ℕ) (place : Place)
    (rest : List Place)
    → Here reading book next cut list s q m n place → length book ≤ length cut
    → Continues book next cut list (place ∷ rest) → HaveMoments book n (map call_at (place ∷ rest))
    → Goes reading book (raised cut place.caller) (list_after book next list place) n
    → (deal_of reading book (call_at place) ≡ deals.OpenTake)
    ⊎ (deal_of reading book (call_at place) ≡ deals.FoundNothing)
    → reading.values list ≡ [] → reading.values (list_after book next list place)
    ≡ [] → GoesOn reading book s
walk-nothing reading book next cut list s q m n place rest h wide goes have on deal empty end =
    elim deal [
      | inl unseen ↦
          on s q (walked-other reading book next cut list s q m n place h
          (λ put. let wrong : deals.OpenTake ≡ deals.Put put.0 = sym unseen ∙ put.1 in cc)
          (λ v took. let wrong : deals.OpenTake ≡ deals.Took v = sym unseen ∙ took in cc)
          (λ nothing. let wrong : deals.OpenTake ≡ deals.FoundNothing = sym unseen ∙ nothing in cc)
          (end ∙ sym empty))
      | inr nothing ↦
          let found = on (after s (FindNothing n)) []
          (walked-empty reading book next cut list s q m n place h nothing empty end) in (
            FindNothing n ∷ found.0,
            (may_find reading book next cut list s q m n place rest h wide goes have, found.1),
          )
    ]

-- Where steps lead to a whole standing after a take that shows a value, they do before the take.
walk-value : (reading : Reading) (book : List Page) (next : List ℕ → ℕ → List ℕ × ℕ)
    (cut list : List ℕ) (s : Paired) (q : List Pending) (m n : ℕ) (place : Place) (v : ℕ)
    → HasOneOpen book → Here reading book next cut list s q m n place
    → Goes reading book (raised cut place.caller) (list_after book next list place) n
    → MayTakeOut reading book v (call_at place) → reading.values list
    ≡ v ∷ reading.values (list_after book next list place) → GoesOn reading book s
walk-value reading book next cut list s [] m n place v one h on is first =
    let wrong : v ∷ reading.values (list_after book next list place) ≡ [] =
    sym first ∙ h.walked.values in absurd cc
walk-value reading book next cut list s (x ∷ q) m n place v one h on is first =
    let held : x.value ∷ map (λ (y : Pending). y.value) q
    ≡ v ∷ reading.values (list_after book next list place) = sym h.walked.values ∙ first in
    let value : x.value ≡ v = cc in
    let less : map (λ (y : Pending). y.value) q
    ≡ reading.values (list_after book next list place) = cc in
    let takes : MayTakeOut reading book x.value (call_at place) =
    subst (λ (u : ℕ). MayTakeOut reading book u (call_at place)) (sym value) is in
    let found = on (after s (Pairs (the_pair x place n))) q
    (walked-pair reading book next cut list s x q m n place h takes (sym less)) in (
      Pairs (the_pair x place n) ∷ found.0,
      (may_pair reading book next cut list s x q m n place one h takes, found.1),
    )

-- Where steps lead to a whole standing after a take, whatever it shows, they do before the take.
walk-take : (reading : Reading) (book : List Page) (next : List ℕ → ℕ → List ℕ × ℕ)
    (cut list : List ℕ) (s : Paired) (q : List Pending) (m n : ℕ) (place : Place)
    (rest : List Place)
    (shown : Option ℕ) → HasOneOpen book
    → Here reading book next cut list s q m n place → length book ≤ length cut
    → Continues book next cut list (place ∷ rest) → HaveMoments book n (map call_at (place ∷ rest))
    → Goes reading book (raised cut place.caller) (list_after book next list place) n
    → (deal_of reading book (call_at place) ≡ deals.OpenTake)
    ⊎ (deal_of reading book (call_at place) ≡ shown_deal shown)
    → GivesFirst (reading.values list) shown (reading.values (list_after book next list place))
    → GoesOn reading book s
walk-take reading book next cut list s q m n place rest None one h wide goes have on deal gives =
    walk-nothing reading book next cut list s q m n place rest h wide goes have on deal
    gives.0 gives.1
walk-take reading book next cut list s q m n place rest
    (Some v) one h wide goes have on deal gives =
    walk-value reading book next cut list s q m n place v one h on (elim deal [
      | inl unseen ↦ inr unseen
      | inr took ↦ inl took
    ]) gives

-- the deal of an answered take is by what the object shows there
deal_at : (reading : Reading) (book : List Page) (next : List ℕ → ℕ → List ℕ × ℕ)
    (cut list : List ℕ) (place : Place) → MayStandNext book next cut list place
    → deal_of reading book (call_at place) ≡ recorded_deal reading (record_of book (call_at place))
    → (deal_of reading book (call_at place) ≡ deals.OpenTake) ⊎ (deal_of reading book
    (call_at place) ≡ shown_deal (reading.shown (next list (step_at book place).0).1))
deal_at reading book next cut list place may is =
    elim (cases_Option (record_of book (call_at place))) [
      | inl none ↦ inl (is ∙ ap (recorded_deal reading) none)
      | inr found ↦
          let reply : found.0.reply ≡ (next list (step_at book place).0).1 =
          may.recorded found.0 found.1 ∙ sym may.reply in
          inr (is ∙ (ap (recorded_deal reading) found.1
          ∙ ap (λ (w : ℕ). shown_deal (reading.shown w)) reply))
    ]

-- Where steps lead to a whole standing after a place, whatever its operation does, they do before
-- the place.
walk-deed : (reading : Reading) (book : List Page) (next : List ℕ → ℕ → List ℕ × ℕ)
    (cut list : List ℕ) (s : Paired) (q : List Pending) (m n : ℕ) (place : Place)
    (rest : List Place)
    (deed : Effect) → IsQueue reading next → HasOneOpen book
    → Here reading book next cut list s q m n place → length book ≤ length cut
    → Continues book next cut list (place ∷ rest) → HaveMoments book n (map call_at (place ∷ rest))
    → Goes reading book (raised cut place.caller) (list_after book next list place) n
    → reading.deed (step_at book place).0 ≡ deed → deal_of reading book (call_at place)
    ≡ deal_by_deed reading book (call_at place) deed → GoesOn reading book s
walk-deed reading book next cut list s q m n place rest (Puts v) is one h wide goes have on e deal =
    on s (q ++ record { call = call_at place; value = v; moment = n } ∷ [])
    (walked-put reading book next cut list s q m n place v h deal
    (is.put list (step_at book place).0 v e))
walk-deed reading book next cut list s q m n place rest Takes is one h wide goes have on e deal =
    walk-take reading book next cut list s q m n place rest
    (reading.shown (next list (step_at book place).0).1) one h wide goes have on
    (deal_at reading book next cut list place h.may deal) (is.take list (step_at book place).0 e)
walk-deed reading book next cut list s q m n place rest Neither is one h wide goes have on e deal =
    on s q (walked-other reading book next cut list s q m n place h
    (λ put. let wrong : deals.Other ≡ deals.Put put.0 = sym deal ∙ put.1 in cc)
    (λ v took. let wrong : deals.Other ≡ deals.Took v = sym deal ∙ took in cc)
    (λ nothing. let wrong : deals.Other ≡ deals.FoundNothing = sym deal ∙ nothing in cc)
    (is.neither list (step_at book place).0 e))

-- From where a walk through an order is, steps lead to a whole standing.
walk : (reading : Reading) (book : List Page) (next : List ℕ → ℕ → List ℕ × ℕ) (cut list : List ℕ)
    (s : Paired) (q : List Pending) (m : ℕ) (rest : List Place)
    → IsQueue reading next → HasOneOpen book → length book ≤ length cut
    → Walked reading book cut list s q m → Continues book next cut list rest
    → HaveMoments book m (map call_at rest) → GoesOn reading book s
walk reading book next cut list s q m [] is one wide w goes have =
    ([], walked-end reading book cut list s q m w goes)
walk reading book next cut list s q m (place ∷ rest) is one wide w goes have =
    let inside : place.caller < length cut =
    within_cut book cut (call_at place) wide goes.0.may_come.is_call in
    let wider : length book ≤ length (raised cut place.caller) =
    omega (arith, wide, length-set cut place.caller (get_or cut place.caller 0 + 1)) in
    let here : Here reading book next cut list s q m have.0 place =
    record { walked = w; may = goes.0; later = have.1; effect = have.2; inside = inside } in
    let operation = has_operation book (call_at place) goes.0.may_come.is_call in
    let word : (step_at book place).0 ≡ operation.0 =
    ap (λ (o : Option ℕ). unwrap_or o 0) operation.1 in
    let deal : deal_of reading book (call_at place)
    ≡ deal_by_deed reading book (call_at place) (reading.deed (step_at book place).0)
    = ap (deal_by_operation reading book (call_at place)) operation.1
    ∙ ap (λ (o : ℕ). deal_by_deed reading book (call_at place) (reading.deed o)) (sym word) in
    walk-deed reading book next cut list s q m have.0 place rest
    (reading.deed (step_at book place).0) is one here wide goes
    (have.0, omega arith, have.2, have.3)
    (λ t p walked. walk reading book next (raised cut place.caller) (list_after book next list
    place) t p have.0 rest is one wider walked goes.1 have.3) refl deal

-- The part of an order after a cut up to the last answered call: some view holds each of its calls,
-- and while it has a call an answered one is outside the cut.
record HeldPart (book : List Page) (next : List ℕ → ℕ → List ℕ × ℕ)
    (cut list : List ℕ) : Type 0 where
  rest : List Place
  goes : Continues book next cut list rest
  held : AreHeld book (map call_at rest)
  due : (rest ≡ []) ⊎ ((a : Call) × (r : Record) × (record_of book a ≡ Some r)
      × (get_or cut a.caller 0 ≤ a.number))

held-cons : (book : List Page) (place : Place) (rest : List Place) (m : ℕ)
    → IsHeldBy book (call_at place) m → AreHeld book (map call_at rest)
    → AreHeld book (map call_at (place ∷ rest))
held-cons book place rest m first held zero call at =
    (m, subst (λ (c : Call). IsHeldBy book c m) (same_Some (call_at place) call at) first)
held-cons book place rest m first held (suc k) call at = held k call at

held_part : (book : List Page) (next : List ℕ → ℕ → List ℕ × ℕ) (cut list : List ℕ)
    (rest : List Place) → IsValid book → length book ≤ length cut
    → Continues book next cut list rest
    → HeldPart book next cut list
held_part book next cut list [] valid wide goes = record {
  rest = [];
  goes = goes;
  held = λ k call at. absurd (none-some call at);
  due = inl refl;
}
held_part book next cut list (place ∷ rest) valid wide goes =
    let inside : place.caller < length cut =
    within_cut book cut (call_at place) wide goes.0.may_come.is_call in
    let wider : length book ≤ length (raised cut place.caller) =
    omega (arith, wide, length-set cut place.caller (get_or cut place.caller 0 + 1)) in
    let part = held_part book next (raised cut place.caller)
    (list_after book next list place) rest valid wider goes.1 in
    elim part.due [
      | inl ends ↦
          let all : HoldsAnswered book (raised cut place.caller)
          = subst (λ (r : List Place). Continues book next (raised cut place.caller)
          (list_after book next list place) r) ends part.goes in
          elim (cases_lt place.number (answers_of book place.caller)) [
            | inl answered ↦
                let here = answer_stands book (call_at place) answered in
                let own : Holds here.0.view (call_at place) =
                omega (arith, valid.own (call_at place) here.0 here.1) in
                record {
                  rest = place ∷ [];
                  goes = (goes.0, all);
                  held = held-cons book place [] (moment_of here.0)
                      (call_at place, here.0, here.1, own, omega arith)
                      (λ k call at. absurd (none-some call at));
                  due = inr (call_at place, here.0, here.1, omega (arith, goes.0.may_come.next));
                }
            | inr past ↦
                let before : HoldsAnswered book cut = λ (x : Call) (answered : IsAnswered book x).
                elim (raised_cases cut place.caller x inside (all x answered)) [
                  | inl old ↦ old
                  | inr new ↦
                      absurd (omega (
                        arith,
                        answered,
                        past,
                        new.1,
                        goes.0.may_come.next,
                        ap (λ (i : ℕ). answers_of book i) new.0,
                      ))
                ] in
                record {
                  rest = [];
                  goes = before;
                  held = λ k call at. absurd (none-some call at);
                  due = inl refl;
                }
          ]
      | inr found ↦
          let out : get_or cut found.0.caller 0 ≤ found.0.number =
          omega (arith, found.3, raised_more cut place.caller found.0.caller inside) in
          let holds : Holds found.1.view (call_at place) =
          held_unless_preceded book found.0 (call_at place) found.1 found.2
          (λ (before : Precedes book found.0 (call_at place)). let held : Holds cut found.0 =
          goes.0.may_come.preceded found.0 before in omega (arith, held, out)) in
          record {
            rest = place ∷ part.rest;
            goes = (goes.0, part.goes);
            held = held-cons book place part.rest (moment_of found.1)
                (found.0, found.1, found.2, holds, omega arith) part.held;
            due = inr (found.0, found.1, found.2, out);
          }
    ]

-- a call at an index of an order's calls is in the order at this index
stands_from_calls : (order : List Place) (k : ℕ) (call : Call)
    → slice_get (map call_at order) k ≡ Some call → StandsAt order k call
stands_from_calls [] k call at = absurd (none-some call at)
stands_from_calls (place ∷ rest) zero call at = (place, refl, same_Some (call_at place) call at)
stands_from_calls (place ∷ rest) (suc k) call at = stands_from_calls rest k call at

-- At the start of a walk the standing covers no call.
walked-start : (reading : Reading) (init : List ℕ) (book : List Page) (callers : ℕ)
    → length book ≤ callers → reading.values init ≡ []
    → Walked reading book (replicate (length book) 0) init (none_paired callers) [] 0
walked-start reading init book callers wide empty =
    let none_of : ℕ → List ℕ = λ n. replicate n 0 in
    let zeros : (n i : ℕ) → get_or (none_of n) i 0 ≡ 0 = λ n i. get_or-replicate_default n i 0 in
    record {
      values = empty;
      waiting = omega arith;
      pending = λ p put held out. absurd (omega (arith, held, zeros (length book) p.caller));
      puts = λ i. omega (arith, zeros callers i);
      takes = λ i. omega (arith, zeros callers i);
      taken = λ t v took held. absurd (omega (arith, held, zeros (length book) t.caller));
      found = λ e nothing held. absurd (omega (arith, held, zeros (length book) e.caller));
      moments = omega arith;
      time = omega arith;
      wide_puts = omega (arith, wide, length-replicate {A = ℕ} callers 0);
      wide_takes = omega (arith, wide, length-replicate {A = ℕ} callers 0);
    }

-- Where a book has a legal order, steps lead from the standing that covers no call to one that is
-- whole.
pub steps_from_order : (reading : Reading) (spec : SeqSpec) (book : List Page) (callers : ℕ)
    → IsQueue reading spec.next → reading.values spec.init ≡ [] → IsValid book → HasOneOpen book
    → length book ≤ callers → HasLegalOrder spec book → GoesOn reading book (none_paired callers)
steps_from_order reading spec book callers is empty valid one fits has =
    let cut : List ℕ = replicate (length book) 0 in
    let zeros : (i : ℕ) → get_or cut i 0 ≡ 0 = λ i. get_or-replicate_default (length book) i 0 in
    let wide : length book ≤ length cut = omega (arith, length-replicate {A = ℕ} (length book) 0) in
    let part = held_part book spec.next cut spec.init has.0 valid wide
    (continues_from_legal_order book spec cut has.0 wide zeros has.1) in
    let legal : IsLegalOrder spec book part.rest =
    legal_order_from_continues book spec cut part.rest wide zeros part.goes in
    let keep : KeepPrecedence book (map call_at part.rest) = λ j k a b at bt before.
    legal.precedence j k a b (stands_from_calls part.rest j a at)
    (stands_from_calls part.rest k b bt) before in
    let have : HaveMoments book 0 (map call_at part.rest) =
    (moments_keep_precedence book (map call_at part.rest) valid one part.held).0 keep in
    walk reading book spec.next cut spec.init (none_paired callers) [] 0 part.rest is one wide
    (walked-start reading spec.init book callers fits empty) part.goes have

pub legal_orders_have_pairs : LegalOrdersHavePairs
legal_orders_have_pairs reading spec book is empty valid one has =
    steps_from_order reading spec book (length book) is empty valid one (omega arith) has
