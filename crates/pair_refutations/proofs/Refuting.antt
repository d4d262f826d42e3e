-- A closed list that entries make refutes the book.
use Rattle.std.proofs.Common.{◌≡◌, ℕ, zero, suc, ◌+◌, ◌<◌, ◌≤◌, ◌⊎◌, ◌∙◌, List, [], length, max, min, Some, refl, sym, ap, subst, inl, inr, slice_get, arith}
use Rattle.std.proofs.lemmas.Bool.{cases_lt}
use Rattle.std.proofs.lemmas.List.{length-set, length-replicate}
use Rattle.std.proofs.lemmas.Option.{same_Some}
use Rattle.book_base.specs.declared.TheConstants.{MAX_CALLERS}
use Rattle.book_base.specs.declared.call.Call.{Call}
use Rattle.book_base.specs.SeqSpec.{SeqSpec}
use Rattle.book_base.specs.Book.{Page, answers_of, IsCall}
use Rattle.book_base.specs.Order.{HasLegalOrder}
use Rattle.book_base.specs.Pruning.{HasOneOpen}
use Rattle.book_base.proofs.PageLemmas.{caller_from_call}
use Rattle.legal_orders.specs.Container.{Reading, IsQueue}
use Rattle.legal_orders.specs.Deals as deals
use Rattle.legal_orders.specs.Deals.{deal_of}
use Rattle.legal_orders.proofs.Dealing.{call_by_deal}
use Rattle.seq_objects.specs.declared.kind.Kind.TheVariants.{Queue}
use Rattle.seq_objects.specs.Objects.{kind_next, kind_spec}
use Rattle.kind_search.specs.Readings.{queue_reading}
use Rattle.kind_search.proofs.Reading.{queue_is_read}
use Rattle.queue_pairs.specs.declared.TheConstants.{NEVER}
use Rattle.queue_pairs.specs.declared.table.Table.{Table}
use Rattle.queue_pairs.specs.declared.table.TimedCall.{TimedCall}
use Rattle.queue_pairs.specs.Moments.{IsHeldBy}
use Rattle.queue_pairs.specs.Pairs.{Paired, Pair, Pairs, FindNothing, MayPair, MayFind, after, none_paired}
use Rattle.queue_pairs.specs.Serving.{IsDueNoLater}
use Rattle.queue_pairs.specs.Tables.{IsTimed, IsTable}
use Rattle.queue_pairs.specs.NextEntries.{first_after, IsLeastOf}
use Rattle.queue_pairs.proofs.Serving.{held_later, outside-before}
use Rattle.queue_pairs.proofs.Tabling.{least-none, least-more}
use Rattle.queue_refutation.specs.Closed.{IsOnePaired, IsOverdue, PairServesFor, IsUnanswered, FindsLead, IsClosedAt}
use Rattle.queue_refutation.proofs.Entries.{puts-read, takes-read, timed-there, timed-is, held-first}
use Rattle.queue_refutation.proofs.Refuting.{closed_starts_have_no_order}
use Rattle.pair_refutations.specs.declared.entry.Move.{Move}
use Rattle.pair_refutations.specs.declared.entry.Move.TheVariants.{Finds, Callers}
use Rattle.pair_refutations.specs.declared.entry.PairEntry.{PairEntry}
use Rattle.pair_refutations.specs.Moves.{Begins, IsPairMove, MovesTo}
use Rattle.pair_refutations.specs.Closed.{IsLate, IsClosedStanding, AreMade, MakeClosed}
use Rattle.pair_refutations.specs.Fault.{HasTable}
use Rattle.pair_refutations.specs.Laws.{RefutedBooksHaveNoOrder}
use Rattle.pair_refutations.proofs.Moving.{begins-first, find-low, find-made}

-- ---- what entries make

-- a move leads to a standing with as many counts, whose last put has no later moment than its last
-- take
move-keeps : (reading : Reading) (book : List Page) (s : Paired) (move : Move) (next : Paired)
    → MovesTo reading book s move next → (length next.puts ≡ length s.puts)
    × (length next.takes ≡ length s.takes) × (next.put_moment ≤ next.take_moment)
move-keeps reading book s Finds next (g, move, is) = (
  ap (λ (t : Paired). length t.puts) is,
  ap (λ (t : Paired). length t.takes) is,
  omega (arith, ap (λ (t : Paired). t.put_moment) is, ap (λ (t : Paired). t.take_moment) is),
)
move-keeps reading book s (Callers i j) next (pair, of, move, is) = (
  ap (λ (t : Paired). length t.puts) is
      ∙ length-set s.puts pair.put.caller (pair.put.number + 1),
  ap (λ (t : Paired). length t.takes) is
      ∙ length-set s.takes pair.take.caller (pair.take.number + 1),
  omega (
    arith,
    ap (λ (t : Paired). t.put_moment) is,
    ap (λ (t : Paired). t.take_moment) is,
    move.may.in_turn,
  ),
)

-- A standing has counts for 16 callers, and its last put has no later moment than its last take.
pub record IsWide (s : Paired) : Type 0 where
  pub puts : length s.puts ≡ MAX_CALLERS
  pub takes : length s.takes ≡ MAX_CALLERS
  pub in_turn : s.put_moment ≤ s.take_moment

made-wide : (reading : Reading) (book : List Page) (entries : List PairEntry) (k : ℕ)
    (standings : List Paired) → AreMade reading book entries k standings
    → (n j : ℕ) (s : Paired) → j < n → slice_get standings j ≡ Some s → IsWide s
made-wide reading book entries k standings made zero j s less at = absurd (omega (arith, less))
made-wide reading book entries k standings made (suc n) zero s less at =
    subst IsWide (same_Some (none_paired MAX_CALLERS) s (sym made.first ∙ at)) (record {
      puts = length-replicate {A = ℕ} MAX_CALLERS 0;
      takes = length-replicate {A = ℕ} MAX_CALLERS 0;
      in_turn = omega arith;
    })
made-wide reading book entries k standings made (suc n) (suc j) s less at =
    let next : suc j ≡ j + 1 = omega arith in
    let m = made.each j s (subst (λ (i : ℕ). slice_get standings i ≡ Some s) next at) in
    let base = made-wide reading book entries k standings made n m.0.item m.3.0
    (omega (arith, m.2, less)) m.3.1 in
    let kept = move-keeps reading book m.3.0 m.0.by s m.3.2 in
    record { puts = kept.0 ∙ base.puts; takes = kept.1 ∙ base.takes; in_turn = kept.2 }

-- ---- moves that lead on

-- what a standing after a pair has overdue is overdue with the pair
late-after : (reading : Reading) (book : List Page) (s : Paired) (pair : Pair)
    → length book ≤ length s.puts → length book ≤ length s.takes → IsPairMove reading book s pair
    → IsLate reading book (after s (Pairs pair))
    → IsOverdue reading book s pair.put_moment pair.take_moment
late-after reading book s pair puts takes move late =
    let put_call : IsCall book pair.put =
    (puts-read reading book).call pair.put (move.may.value, move.may.puts) in
    let take_call : IsCall book pair.take =
    (takes-read reading book).call pair.take (move.may.value, move.may.takes) in
    let putter : pair.put.caller < length s.puts =
    omega (arith, caller_from_call book pair.put.caller pair.put.number put_call, puts) in
    let taker : pair.take.caller < length s.takes =
    omega (arith, caller_from_call book pair.take.caller pair.take.number take_call, takes) in
    elim late [
      | inl (p, r, put, known, out, early) ↦ inl (
        p,
        r,
        put,
        known,
        outside-before s.puts pair.put p move.may.put.outside putter out,
        early,
      )
      | inr others ↦ inr (elim others [
        | inl (t, v, r, took, known, out, early) ↦ inl (
          t,
          v,
          r,
          took,
          known,
          outside-before s.takes pair.take t move.may.take.outside taker out,
          early,
        )
        | inr find ↦ inr find
      ])
    ]

-- what a standing after takes that find nothing has overdue is overdue with them
late-found : (reading : Reading) (book : List Page) (s : Paired) (g : ℕ) → s.found ≤ g
    → IsLate reading book (after s (FindNothing g)) → IsOverdue reading book s g g
late-found reading book s g more late = elim late [
  | inl put ↦ inl put
  | inr others ↦ inr (elim others [
    | inl take ↦ inl take
    | inr (e, r, nothing, known, out, early) ↦ inr (
      e,
      r,
      nothing,
      known,
      λ held. out (held_later book e s.found g more held),
      early,
    )
  ])
]

-- a call that is held has a moment at which it begins
begins-there : (reading : Reading) (book : List Page) (table : Table) (call : Call) (m : ℕ)
    → IsTable reading book table → IsCall book call → IsHeldBy book call m
    → (b : ℕ) × Begins book call b
begins-there reading book table call m is there held =
    let entry = timed-there reading book table call is there in
    let t : TimedCall = entry.0 in
    let timed = timed-is reading book table call.caller call.number t is entry.1 in
    let mine : IsTimed reading book t.call t =
    subst (λ (c : Call). IsTimed reading book c t) (sym timed.call) timed in
    let first = held-first reading book t call m mine (sym timed.call) held in (
      t.span.first,
      subst (λ (c : Call). Begins book c t.span.first) timed.call
          (begins-first reading book t mine first.1),
    )

-- values of a function below a number have a least one
least-of : (values : ℕ → ℕ) (below : ℕ) → (v : ℕ) × IsLeastOf values below v
least-of values zero = (NEVER, least-none values)
least-of values (suc below) =
    let before = least-of values below in (
      min before.0 (values below),
      subst (λ (n : ℕ). IsLeastOf values n (min before.0 (values below))) (omega arith)
          (least-more values below before.0 (values below) before.1 refl),
    )

-- neither call of a pair is answered, or one is
idle-cases : (book : List Page) (pair : Pair)
    → IsUnanswered book pair ⊎ (IsUnanswered book pair → ⊥)
idle-cases book pair = elim (cases_lt pair.put.number (answers_of book pair.put.caller)) [
  | inl put ↦ inr (λ idle. omega (arith, put, idle.put))
  | inr no_put ↦ elim (cases_lt pair.take.number (answers_of book pair.take.caller)) [
    | inl take ↦ inr (λ idle. omega (arith, take, idle.take))
    | inr no_take ↦ inl (record { put = no_put; take = no_take })
  ]
]

module _ (reading : Reading) (book : List Page) (table : Table) (standings : List Paired)
    (s : Paired) (is : IsTable reading book table) (wide : IsWide s)
    (closed : IsClosedStanding reading book standings s) where
  -- the earliest pair with the calls of one that may come next
  earliest : (pair : Pair) → MayPair reading book s pair → (IsUnanswered book pair → ⊥)
      → (one : Pair) × IsPairMove reading book s one × (one.put ≡ pair.put)
      × (one.take ≡ pair.take) × (one.put_moment ≤ pair.put_moment)
      × (one.take_moment ≤ pair.take_moment)
  earliest pair may answered =
      let put_call : IsCall book pair.put =
      (puts-read reading book).call pair.put (may.value, may.puts) in
      let take_call : IsCall book pair.take =
      (takes-read reading book).call pair.take (may.value, may.takes) in
      let put = begins-there reading book table pair.put pair.put_moment is put_call
      may.put_effect.first in
      let take = begins-there reading book table pair.take pair.take_moment is take_call
      may.take_effect.first in
      let put_low : put.0 ≤ pair.put_moment = put.1.least pair.put_moment may.put_effect.first in
      let take_low : take.0 ≤ pair.take_moment
      = take.1.least pair.take_moment may.take_effect.first in
      let k : ℕ = max s.put_moment put.0 in
      let l : ℕ = max (max s.take_moment k) take.0 in
      let early : k ≤ pair.put_moment = omega (arith, put_low, may.after_puts) in
      let soon : l ≤ pair.take_moment
      = omega (arith, take_low, may.after_takes, early, may.in_turn) in (
        record { put = pair.put; take = pair.take; put_moment = k; take_moment = l },
        record {
          may = record {
            value = may.value;
            puts = may.puts;
            takes = may.takes;
            put = may.put;
            take = may.take;
            after_puts = omega arith;
            after_takes = omega arith;
            in_turn = omega arith;
            put_effect = record {
              first = held_later book pair.put put.0 k (omega arith) put.1.held;
              last = λ r known. omega (arith, early, may.put_effect.last r known);
            };
            take_effect = record {
              first = held_later book pair.take take.0 l (omega arith) take.1.held;
              last = λ r known. omega (arith, soon, may.take_effect.last r known);
            };
          };
          answered = λ idle. answered (record { put = idle.put; take = idle.take });
          put_begin = put.0;
          put_begins = put.1;
          put_moment = refl;
          take_begin = take.0;
          take_begins = take.1;
          take_moment = refl;
        },
        refl,
        refl,
        early,
        soon,
      )

  -- a pair that may come next needs no more search
  pairs-lead : (pair : Pair) → MayPair reading book s pair → (IsUnanswered book pair → ⊥)
      → (other : Pair) × PairServesFor reading book s other pair
      × (IsOnePaired standings (after s (Pairs other))
      ⊎ IsOverdue reading book s other.put_moment other.take_moment)
  pairs-lead pair may answered =
      let one = earliest pair may answered in
      let served = closed.moves (Callers pair.put.caller pair.take.caller) one.0
      (ap (λ (c : Call). c.caller) one.2, ap (λ (c : Call). c.caller) one.3) one.1 in
      let other : Pair = served.0 in
      let move = served.1 in
      let serves = served.2 in (
        other,
        record {
          puts = λ v puts. serves.puts v
              (subst (λ (c : Call). deal_of reading book c ≡ deals.Put v) (sym one.2) puts);
          takes = serves.takes ∙ ap (deal_of reading book) one.3;
          put = move.may.put;
          take = move.may.take;
          after_puts = move.may.after_puts;
          after_takes = move.may.after_takes;
          in_turn = move.may.in_turn;
          put_held = move.may.put_effect.first;
          take_held = move.may.take_effect.first;
          put_moment = omega (arith, serves.put_moment, one.4);
          take_moment = omega (arith, serves.take_moment, one.5);
          put_due = subst (IsDueNoLater book other.put) one.2 serves.put_due;
          take_due = subst (IsDueNoLater book other.take) one.3 serves.take_due;
        },
        elim served.3 [
          | inl listed ↦ inl listed
          | inr late ↦ inr (late-after reading book s other
              (omega (arith, wide.puts, is.small.callers))
              (omega (arith, wide.takes, is.small.callers)) move late)
        ],
      )

  -- takes that find nothing and may come next need no more search
  finds-lead : (m : ℕ) → MayFind reading book s m → FindsLead reading book standings s m
  finds-lead m may =
      let finds : List TimedCall = table.finds.items in
      let found = least-of (λ k. first_after s.found (slice_get finds k)) (length finds) in
      let low : ℕ = found.0 in
      let none : m < low → (e : Call) → deal_of reading book e ≡ deals.FoundNothing
      → IsHeldBy book e m → IsHeldBy book e s.found = λ later e nothing held.
      let call : IsCall book e = call_by_deal reading book e
      (λ other. let wrong : deals.FoundNothing ≡ deals.Other = sym nothing ∙ other in cc) in
      let begins = begins-there reading book table e m is call held in
      elim (cases_lt s.found begins.0) [
        | inl uncovered ↦ absurd (omega (
          arith,
          later,
          begins.1.least m held,
          (find-low reading book table s low is found.1 e begins.0 nothing begins.1
              uncovered).0,
        ))
        | inr covered ↦ held_later book e begins.0 s.found covered begins.1.held
      ] in
      elim (cases_lt m low) [
        | inl later ↦ inl (none later)
        | inr early ↦ elim (cases_lt low NEVER) [
          | inl few ↦
              let g : ℕ = max s.take_moment low in
              let move = find-made reading book table s low is found.1 g few refl in
              let more : s.found < g = omega (arith, move.later, move.moment) in
              let soon : g ≤ m = omega (arith, early, may.after_takes) in
              inr (
                g,
                more,
                soon,
                elim (closed.moves Finds g move) [
                  | inl listed ↦ inl listed
                  | inr late ↦
                      inr (late-found reading book s g (omega (arith, more)) late)
                ],
              )
          | inr never ↦ inl (λ e nothing held.
              let call : IsCall book e = call_by_deal reading book e
              (λ other. let wrong : deals.FoundNothing ≡ deals.Other = sym nothing ∙ other in cc) in
              let begins = begins-there reading book table e m is call held in
              elim (cases_lt s.found begins.0) [
                | inl uncovered ↦ absurd (omega (
                  arith,
                  never,
                  (find-low reading book table s low is found.1 e begins.0 nothing begins.1
                      uncovered).1,
                ))
                | inr covered ↦ held_later book e begins.0 s.found covered begins.1.held
              ])
        ]
      ]

  -- a list that is closed at a standing is so in the sense of the laws of closed lists
  closed-at : IsClosedAt reading book standings s
  closed-at = record {
    wide_puts = omega (arith, wide.puts, is.small.callers);
    wide_takes = omega (arith, wide.takes, is.small.callers);
    leads = inl (record {
      in_turn = wide.in_turn;
      unfinished = λ whole. closed.unfinished (record {
        taken = whole.taken;
        found = whole.found;
      });
      pairs = λ pair may. elim (idle-cases book pair) [
        | inl idle ↦ inr idle
        | inr answered ↦ inl (pairs-lead pair may answered)
      ];
      finds = finds-lead;
    });
  }

-- A queue's book for which entries make a closed list has no legal order.
pub closed-none : (reading : Reading) (spec : SeqSpec) (book : List Page) (table : Table)
    (entries : List PairEntry) → IsTable reading book table → IsQueue reading spec.next
    → reading.values spec.init ≡ [] → HasOneOpen book → MakeClosed reading book entries
    → HasLegalOrder spec book → ⊥
closed-none reading spec book table entries is queue empty one closed =
    let all : List Paired = closed.standings in
    closed_starts_have_no_order reading spec book MAX_CALLERS all queue empty is.valid one
    (λ s there. closed-at reading book table all s is
    (made-wide reading book entries (length entries) all closed.made (there.0 + 1) there.0 s
    (omega arith) there.1) (closed.closed s there))
    (0, closed.made.first)

-- A book of which a table has the calls, and which entries refute, has no legal order.
pub refuted-none : RefutedBooksHaveNoOrder
unfolding HasTable kind_next
refuted-none book entries tabled refuted =
    closed-none queue_reading (kind_spec Queue) book tabled.0 entries tabled.1 queue_is_read refl
    refuted.one_open refuted.closed
