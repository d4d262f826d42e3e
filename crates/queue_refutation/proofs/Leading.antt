-- Where steps lead from a standing to a whole one, they do from one of those to which it leads.
use Rattle.std.proofs.Common.{◌≡◌, ℕ, ◌+◌, ◌<◌, ◌≤◌, ◌⊎◌, ◌∙◌, List, [], ◌∷◌, length, get_or, Some, max, refl, sym, ap, subst, inl, inr, arith}
use Rattle.std.proofs.lemmas.Bool.{cases_lt, cases_eq}
use Rattle.std.proofs.lemmas.List.{length-set}
use Rattle.std.proofs.lemmas.Option.{slice_get_within}
use Rattle.book_base.specs.declared.call.Call.{Call}
use Rattle.book_base.specs.declared.call.Record.{Record}
use Rattle.book_base.specs.Cut.{Holds}
use Rattle.book_base.specs.Book.{Page, answers_of, IsCall, IsValid, record_of}
use Rattle.book_base.specs.Pruning.{HasOneOpen}
use Rattle.book_base.proofs.PageLemmas.{caller_from_call}
use Rattle.legal_orders.specs.Container.{Reading}
use Rattle.legal_orders.specs.Deals as deals
use Rattle.legal_orders.specs.Deals.{deal_of}
use Rattle.legal_orders.proofs.Dealing.{call_by_deal}
use Rattle.queue_pairs.specs.Moments.{moment_of, IsHeldBy}
use Rattle.queue_pairs.specs.Pairs.{Paired, Pair, PairStep, Pairs, FindNothing, IsPutOf, IsPut, IsTake, IsNext, after, AreSteps}
use Rattle.queue_pairs.specs.Serving.{IsDueNoLater, GoesOnWith}
use Rattle.queue_pairs.proofs.Walking.{open_is_unanswered}
use Rattle.queue_pairs.proofs.Serving.{IsSame, same-refl, same-set, next-at, next-same, held_later, steps-earlier, find-idle, find-earlier, still-outside, outside-before, put-due, take-due, find-due}
use Rattle.queue_pairs.proofs.Swapping.{earlier_put_serves, earlier_take_serves}
use Rattle.queue_refutation.specs.Closed.{IsOnePaired, HasPutBefore, IsOverdue, PairServesFor, PairLeads, FindsLead, AllLead, IsClosedAt}
use Rattle.queue_refutation.proofs.Dropping.{unanswered_pairs_are_idle}

-- ---- the moments of a pair that stands next

-- no remaining put is due before the pair's put
pub pair-puts-due : (reading : Reading) (book : List Page) (s : Paired) (pair : Pair)
    (steps : List PairStep) (p : Call) (r : Record) → AreSteps reading book s (Pairs pair ∷ steps)
    → IsPut reading book p → record_of book p ≡ Some r → get_or s.puts p.caller 0 ≤ p.number
    → pair.put_moment ≤ moment_of r
pair-puts-due reading book s pair steps p r are put known out =
    elim (still-outside (IsPut reading book) s.puts pair.put p are.0.put put out) [
      | inl same ↦ are.0.put_effect.last r (ap (record_of book) (sym same) ∙ known)
      | inr later ↦ put-due reading book (after s (Pairs pair)) steps p r are.0.in_turn are.1 put
          known later
    ]

-- no remaining take that shows a value is due before the pair's take
pub pair-takes-due : (reading : Reading) (book : List Page) (s : Paired) (pair : Pair)
    (steps : List PairStep) (t : Call) (v : ℕ) (r : Record)
    → AreSteps reading book s (Pairs pair ∷ steps)
    → deal_of reading book t ≡ deals.Took v → record_of book t ≡ Some r
    → get_or s.takes t.caller 0 ≤ t.number → pair.take_moment ≤ moment_of r
pair-takes-due reading book s pair steps t v r are took known out =
    elim (still-outside (IsTake reading book) s.takes pair.take t are.0.take (v, inl took) out) [
      | inl same ↦ are.0.take_effect.last r (ap (record_of book) (sym same) ∙ known)
      | inr later ↦ take-due reading book (after s (Pairs pair)) steps t v r are.1 took known later
    ]

-- no call is overdue with a pair that steps begin with
pair-not-overdue : (reading : Reading) (book : List Page) (s : Paired) (pair : Pair)
    (steps : List PairStep) → IsValid book → AreSteps reading book s (Pairs pair ∷ steps)
    → IsOverdue reading book s pair.put_moment pair.take_moment → ⊥
pair-not-overdue reading book s pair steps valid are overdue =
    elim overdue [
      | inl (p, r, put, known, out, early) ↦ omega
          (arith, early, pair-puts-due reading book s pair steps p r are put known out)
      | inr later ↦ elim later [
        | inl (t, v, r, took, known, out, early) ↦ omega
            (arith, early, pair-takes-due reading book s pair steps t v r are took known out)
        | inr (e, r, nothing, known, out, early) ↦
            let late : pair.take_moment ≤ moment_of r
            = find-due reading book (after s (Pairs pair)) steps e r valid are.1 nothing known
            out in
            omega (arith, early, late)
      ]
    ]

-- a pair may come next with earlier moments
pair-earlier : (reading : Reading) (book : List Page) (s : Paired) (pair : Pair) (m n : ℕ)
    (steps : List PairStep) → AreSteps reading book s (Pairs pair ∷ steps)
    → s.put_moment ≤ m → m ≤ pair.put_moment → s.take_moment ≤ n → n ≤ pair.take_moment → m ≤ n
    → IsHeldBy book pair.put m → IsHeldBy book pair.take n
    → AreSteps reading book s (Pairs (record pair { put_moment = m; take_moment = n }) ∷ steps)
pair-earlier reading book s pair m n steps are low_m high_m low_n high_n turn held_put held_take =
    let new : Pair = record pair { put_moment = m; take_moment = n } in (
      record {
        value = are.0.value;
        puts = are.0.puts;
        takes = are.0.takes;
        put = are.0.put;
        take = are.0.take;
        after_puts = low_m;
        after_takes = low_n;
        in_turn = turn;
        put_effect
            = record {
              first = held_put;
              last = λ r known. omega
                  (arith, high_m, are.0.put_effect.last r known);
            };
        take_effect
            = record {
              first = held_take;
              last
                  = λ r known. omega (arith, high_n, are.0.take_effect.last r known);
            };
      },
      steps-earlier reading book (after s (Pairs new)) (after s (Pairs pair)) steps
          (record {
            puts = same-refl (after s (Pairs new)).puts;
            takes = same-refl (after s (Pairs new)).takes;
            found = λ e nothing by. by;
            put_moment = high_m;
            take_moment = high_n;
          }) are.1,
    )

-- ---- pairs that serve

-- Where steps begin with a pair, as many begin with one that has a put which serves for the pair's
-- own.
serve-put : (reading : Reading) (book : List Page) (s : Paired) (pair : Pair) (p : Call) (m : ℕ)
    (steps : List PairStep) → IsValid book → HasOneOpen book
    → length book ≤ length s.puts → AreSteps reading book s (Pairs pair ∷ steps)
    → ((v : ℕ) → IsPutOf reading book v pair.put → IsPutOf reading book v p)
    → IsNext (IsPut reading book) s.puts p → s.put_moment ≤ m → m ≤ pair.put_moment
    → IsHeldBy book p m → IsDueNoLater book p pair.put
    → GoesOnWith reading book s (record pair { put = p; put_moment = m }) steps
serve-put reading book s pair p m steps valid one wide are puts next low early held due =
    let is : IsPut reading book p = (are.0.value, puts are.0.value are.0.puts) in
    elim (cases_eq p.caller pair.put.caller) [
      | inl own ↦
          let same : p ≡ pair.put = next-same (IsPut reading book) s.puts pair.put p are.0.put next
          (are.0.value, are.0.puts) is own in
          let there : AreSteps reading book s
          (Pairs (record pair { put_moment = m; take_moment = pair.take_moment }) ∷ steps)
          = pair-earlier reading book s pair m pair.take_moment steps are low early
          are.0.after_takes (omega arith) (omega (arith, early, are.0.in_turn))
          (subst (λ (c : Call). IsHeldBy book c m) same held) are.0.take_effect.first in (
            steps,
            subst
                (λ (c : Call). AreSteps reading book s
                (Pairs (record pair { put = c; put_moment = m }) ∷ steps)) (sym same) there,
            refl,
          )
      | inr apart ↦
          earlier_put_serves reading book s pair p m steps valid one wide are puts next low apart
          (record {
            first = held;
            last = λ r known. omega (
              arith,
              early,
              pair-puts-due reading book s pair steps p r are is known next.outside,
            );
          })
          early due
    ]

-- Where steps begin with a pair, as many begin with one that has a take which serves for the pair's
-- own.
serve-take : (reading : Reading) (book : List Page) (s : Paired) (pair : Pair) (p : Call) (m : ℕ)
    (steps : List PairStep) → IsValid book → HasOneOpen book
    → length book ≤ length s.takes → AreSteps reading book s (Pairs pair ∷ steps)
    → deal_of reading book p ≡ deal_of reading book pair.take
    → IsNext (IsTake reading book) s.takes p → s.take_moment ≤ m → pair.put_moment ≤ m
    → m ≤ pair.take_moment
    → IsHeldBy book p m → IsDueNoLater book p pair.take
    → GoesOnWith reading book s (record pair { take = p; take_moment = m }) steps
serve-take reading book s pair p m steps valid one wide are deal next low turn early held due =
    let is : IsTake reading book p
    = (
      are.0.value,
      elim are.0.takes [ inl took ↦ inl (deal ∙ took) | inr unseen ↦ inr (deal ∙ unseen) ],
    ) in
    elim (cases_eq p.caller pair.take.caller) [
      | inl own ↦
          let same : p ≡ pair.take = next-same (IsTake reading book) s.takes pair.take p are.0.take
          next (are.0.value, are.0.takes) is own in
          let there : AreSteps reading book s
          (Pairs (record pair { put_moment = pair.put_moment; take_moment = m }) ∷ steps)
          = pair-earlier reading book s pair pair.put_moment m steps are are.0.after_puts
          (omega arith) low early turn
          are.0.put_effect.first (subst (λ (c : Call). IsHeldBy book c m) same held) in (
            steps,
            subst
                (λ (c : Call). AreSteps reading book s
                (Pairs (record pair { take = c; take_moment = m }) ∷ steps)) (sym same) there,
            refl,
          )
      | inr apart ↦
          earlier_take_serves reading book s pair p m steps valid one wide are deal next (low, turn)
          apart
          (record {
            first = held;
            last = λ r known. elim are.0.takes [
              | inl took ↦ omega (
                arith,
                early,
                pair-takes-due reading book s pair steps p are.0.value r are
                    (deal ∙ took) known next.outside,
              )
              | inr unseen ↦
                  let past : answers_of book p.caller ≤ p.number
                  = open_is_unanswered reading book p (deal ∙ unseen) in
                  absurd (omega (arith, past, slice_get_within _ p.number r known))
            ];
          }) early due
    ]

-- Where steps begin with a pair, as many begin with one that serves for it.
served : (reading : Reading) (book : List Page) (s : Paired) (pair other : Pair)
    (steps : List PairStep)
    → IsValid book → HasOneOpen book
    → length book ≤ length s.puts → length book ≤ length s.takes
    → PairServesFor reading book s other pair → AreSteps reading book s (Pairs pair ∷ steps)
    → GoesOnWith reading book s other steps
served reading book s pair other steps valid one wide_puts wide_takes serves are =
    let first = serve-put reading book s pair other.put other.put_moment steps valid one wide_puts
    are serves.puts serves.put serves.after_puts serves.put_moment
    serves.put_held serves.put_due in
    let middle : Pair = record pair { put = other.put; put_moment = other.put_moment } in
    let second = serve-take reading book s middle other.take other.take_moment first.0 valid one
    wide_takes first.1 serves.takes serves.take serves.after_takes serves.in_turn
    serves.take_moment serves.take_held serves.take_due in
    (second.0, second.1, second.2 ∙ first.2)

-- ---- takes that find nothing

-- A standing covers the same puts and takes as another one, and no fewer takes that find nothing;
-- its last put is no later than that of the other one, or than a moment before which no remaining
-- put is due.
record IsRaised (reading : Reading) (book : List Page) (t s : Paired) (m : ℕ) : Type 0 where
  puts : IsSame t.puts s.puts
  takes : IsSame t.takes s.takes
  found : (e : Call) → deal_of reading book e ≡ deals.FoundNothing → IsHeldBy book e s.found
      → IsHeldBy book e t.found
  put_moment : t.put_moment ≤ max s.put_moment m
  take_moment : t.take_moment ≤ s.take_moment
  late : m ≤ s.take_moment
  due : (p : Call) (r : Record) → IsPut reading book p → record_of book p ≡ Some r
      → get_or s.puts p.caller 0 ≤ p.number → m ≤ moment_of r
  wide : length book ≤ length s.puts

-- as many steps lead from this standing to a whole one as from the other one
raised-steps : (reading : Reading) (book : List Page) (t s : Paired) (m : ℕ) (steps : List PairStep)
    → IsRaised reading book t s m → AreSteps reading book s steps
    → (other : List PairStep) × AreSteps reading book t other × (length other ≡ length steps)
raised-steps reading book t s m [] h whole = (
  [],
  record {
    taken = λ x v took. omega (arith, whole.taken x v took, h.takes.numbers x.caller);
    found = λ e nothing. h.found e nothing (whole.found e nothing);
    kept = λ p r put known out.
        let was : get_or s.puts p.caller 0 ≤ p.number
        = omega (arith, out, h.puts.numbers p.caller) in
        omega (arith, h.put_moment, whole.kept p r put known was, h.due p r put known was);
  },
  refl,
)
raised-steps reading book t s m (Pairs pair ∷ steps) h are =
    let may = are.0 in
    let new : Pair = record pair { put_moment = max pair.put_moment m } in
    let is_call : IsCall book pair.put = call_by_deal reading book pair.put
    (λ (other : deal_of reading book pair.put ≡ deals.Other). let wrong : deals.Put
    may.value ≡ deals.Other = sym may.puts ∙ other in cc) in
    let inside : pair.put.caller < length s.puts
    = omega (arith, caller_from_call book pair.put.caller pair.put.number is_call, h.wide) in
    let later : IsRaised reading book (after t (Pairs new)) (after s (Pairs pair)) m = record {
      puts = same-set t.puts s.puts pair.put.caller (pair.put.number + 1) h.puts;
      takes = same-set t.takes s.takes pair.take.caller (pair.take.number + 1) h.takes;
      found = h.found;
      put_moment = omega arith;
      take_moment = omega arith;
      late = omega (arith, h.late, may.after_takes);
      due = λ p r put known out. h.due p r put known
          (outside-before s.puts pair.put p may.put.outside inside out);
      wide = omega (arith, h.wide, length-set s.puts pair.put.caller (pair.put.number + 1));
    } in
    let on = raised-steps reading book (after t (Pairs new)) (after s (Pairs pair)) m steps later
    are.1 in (
      Pairs new ∷ on.0,
      (
        record {
          value = may.value;
          puts = may.puts;
          takes = may.takes;
          put = next-at (IsPut reading book) t.puts s.puts pair.put (h.puts.numbers pair.put.caller)
              may.put;
          take = next-at (IsTake reading book) t.takes s.takes pair.take
              (h.takes.numbers pair.take.caller) may.take;
          after_puts = omega (arith, may.after_puts, h.put_moment);
          after_takes = omega (arith, may.after_takes, h.take_moment);
          in_turn = omega (arith, may.in_turn, h.late, may.after_takes);
          put_effect = record {
            first = held_later book pair.put pair.put_moment (max pair.put_moment m) (omega arith)
                may.put_effect.first;
            last = λ r known. omega (
              arith,
              may.put_effect.last r known,
              h.due pair.put r (may.value, may.puts) known
                  may.put.outside,
            );
          };
          take_effect = may.take_effect;
        },
        on.1,
      ),
      omega (arith, on.2),
    )
raised-steps reading book t s m (FindNothing n ∷ steps) h are =
    let later : IsRaised reading book (after t (FindNothing n)) (after s (FindNothing n)) m
    = record {
      puts = h.puts;
      takes = h.takes;
      found = λ e nothing by. by;
      put_moment = omega arith;
      take_moment = omega arith;
      late = omega (arith, h.late, are.0.after_takes);
      due = h.due;
      wide = h.wide;
    } in
    let on = raised-steps reading book (after t (FindNothing n)) (after s (FindNothing n)) m steps
    later are.1 in (
      FindNothing n ∷ on.0,
      (
        record {
          after_takes = omega (arith, are.0.after_takes, h.take_moment);
          in_time = λ e r nothing known by out. are.0.in_time e r nothing known by
              (λ before. out (h.found e nothing before));
        },
        on.1,
      ),
      omega (arith, on.2),
    )

-- where takes that find nothing may be covered at once, as many steps lead to a whole standing
-- after them
at-once : (reading : Reading) (book : List Page) (s : Paired) (steps : List PairStep)
    → length book ≤ length s.puts → s.found < s.take_moment
    → (HasPutBefore reading book s s.take_moment → ⊥) → AreSteps reading book s steps
    → (other : List PairStep) × AreSteps reading book (after s (FindNothing s.take_moment)) other
    × (length other ≡ length steps)
at-once reading book s steps wide more in_time are =
    raised-steps reading book (after s (FindNothing s.take_moment)) s s.take_moment steps
    (record {
      puts = same-refl s.puts;
      takes = same-refl s.takes;
      found = λ e nothing by. held_later book e s.found s.take_moment (omega (arith, more)) by;
      put_moment = omega arith;
      take_moment = omega arith;
      late = omega arith;
      due = λ p r put known out. elim (cases_lt (moment_of r) s.take_moment) [
        | inl early ↦ absurd (in_time (p, r, put, known, out, early))
        | inr late ↦ late
      ];
      wide = wide;
    }) are

-- no take that finds nothing is due before the moment of a step
find-step-due : (reading : Reading) (book : List Page) (s : Paired) (m : ℕ) (steps : List PairStep)
    (e : Call) (r : Record) → IsValid book → AreSteps reading book s (FindNothing m ∷ steps)
    → deal_of reading book e ≡ deals.FoundNothing → record_of book e ≡ Some r
    → (IsHeldBy book e s.found → ⊥) → m ≤ moment_of r
find-step-due reading book s m steps e r valid are nothing known out =
    elim (cases_lt (moment_of r) m) [
      | inl early ↦
          let own : Holds r.view e = omega (arith, valid.own e r known) in
          are.0.in_time e r nothing known (e, r, known, own, omega (arith, early)) out
      | inr late ↦ late
    ]

-- no call is overdue at the moment of a step of takes that find nothing, or before
find-not-overdue : (reading : Reading) (book : List Page) (s : Paired) (m g : ℕ)
    (steps : List PairStep)
    → IsValid book → g ≤ m → AreSteps reading book s (FindNothing m ∷ steps)
    → IsOverdue reading book s g g → ⊥
find-not-overdue reading book s m g steps valid low are overdue =
    let next : Paired = after s (FindNothing m) in
    elim overdue [
      | inl (p, r, put, known, out, early) ↦
          let late : m ≤ moment_of r = put-due reading book next steps p r (omega arith) are.1 put
          known out in
          omega (arith, early, low, late)
      | inr later ↦ elim later [
        | inl (t, v, r, took, known, out, early) ↦
            let late : m ≤ moment_of r = take-due reading book next steps t v r are.1 took known
            out in
            omega (arith, early, low, late)
        | inr (e, r, nothing, known, out, early) ↦ omega (
          arith,
          early,
          low,
          find-step-due reading book s m steps e r valid are nothing known
              out,
        )
      ]
    ]

-- ---- standings

-- From one of these standings fewer steps lead to a whole one; or as many do, and takes that find
-- nothing are covered up to a later moment.
abbrev pub LeadsOn : Reading → List Page → List Paired → Paired → List PairStep → Type 0
LeadsOn reading book standings s steps =
    (next : Paired) × (other : List PairStep) × IsOnePaired standings next
    × AreSteps reading book next other
    × ((length other < length steps) ⊎ ((length other ≡ length steps) × (s.found < next.found)))

pair-leads : (reading : Reading) (book : List Page) (standings : List Paired) (s : Paired)
    (pair : Pair) (steps : List PairStep) → IsValid book → HasOneOpen book
    → IsOnePaired standings s → length book ≤ length s.puts → length book ≤ length s.takes
    → PairLeads reading book standings s pair
    → AreSteps reading book s (Pairs pair ∷ steps)
    → LeadsOn reading book standings s (Pairs pair ∷ steps)
pair-leads reading book standings s pair steps valid one is wide_puts wide_takes leads are =
    elim leads [
      | inl (other, serves, to) ↦
          let on : GoesOnWith reading book s other steps
          = served reading book s pair other steps valid one wide_puts wide_takes serves are in
          elim to [
            | inl there ↦ (after s (Pairs other), on.0, there, on.1.1, inl (omega (arith, on.2)))
            | inr overdue ↦ absurd (pair-not-overdue reading book s other on.0 valid on.1 overdue)
          ]
      | inr unanswered ↦ (
        s,
        steps,
        is,
        unanswered_pairs_are_idle reading book s pair steps one
            wide_puts wide_takes unanswered are,
        inl (omega arith),
      )
    ]

finds-lead : (reading : Reading) (book : List Page) (standings : List Paired) (s : Paired) (m : ℕ)
    (steps : List PairStep) → IsValid book → IsOnePaired standings s
    → s.put_moment ≤ s.take_moment → FindsLead reading book standings s m
    → AreSteps reading book s (FindNothing m ∷ steps)
    → LeadsOn reading book standings s (FindNothing m ∷ steps)
finds-lead reading book standings s m steps valid is turn leads are =
    elim leads [
      | inl none ↦ (s, steps, is, find-idle reading book s m steps turn none are, inl (omega arith))
      | inr (g, more, low, to) ↦
          elim to [
            | inl there ↦ (
              after s (FindNothing g),
              FindNothing m ∷ steps,
              there,
              find-earlier reading book s
                  g m steps (omega (arith, more)) low are,
              inr (refl, more),
            )
            | inr overdue ↦ absurd (find-not-overdue reading book s m g steps valid low are overdue)
          ]
    ]

all-lead : (reading : Reading) (book : List Page) (standings : List Paired) (s : Paired)
    (steps : List PairStep) → IsValid book → HasOneOpen book → IsOnePaired standings s
    → length book ≤ length s.puts → length book ≤ length s.takes → AllLead reading book standings s
    → AreSteps reading book s steps → LeadsOn reading book standings s steps
all-lead reading book standings s [] valid one is wide_puts wide_takes h are
    = absurd (h.unfinished are)
all-lead reading book standings s (Pairs pair ∷ steps) valid one is wide_puts wide_takes h are =
    pair-leads reading book standings s pair steps valid one is wide_puts wide_takes
    (h.pairs pair are.0) are
all-lead reading book standings s (FindNothing m ∷ steps) valid one is wide_puts wide_takes h are =
    finds-lead reading book standings s m steps valid is h.in_turn (h.finds m are.0) are

-- Where steps lead from a standing of a closed list to a whole one, they do from another one of the
-- list, with less left to do.
pub leads-on : (reading : Reading) (book : List Page) (standings : List Paired) (s : Paired)
    (steps : List PairStep) → IsValid book → HasOneOpen book → IsOnePaired standings s
    → IsClosedAt reading book standings s → AreSteps reading book s steps
    → LeadsOn reading book standings s steps
leads-on reading book standings s steps valid one is h are =
    elim h.leads [
      | inl all ↦ all-lead reading book standings s steps valid one is h.wide_puts h.wide_takes all
          are
      | inr now ↦
          let on = at-once reading book s steps h.wide_puts now.more now.in_time are in
          (after s (FindNothing s.take_moment), on.0, now.leads, on.1, inr (on.2, now.more))
    ]
