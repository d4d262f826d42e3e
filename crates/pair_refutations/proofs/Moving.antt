-- Moves at a standing, as the entries of a table tell them.
use Rattle.std.proofs.Common.{◌≡◌, ℕ, ◌<◌, ◌≤◌, ◌⊎◌, ◌∙◌, cond, List, length, get_or, max, Option, Some, None, refl, sym, ap, subst, inl, inr, slice_get, arith}
use Rattle.std.specs.Prelude.{nat_lt}
use Rattle.std.proofs.lemmas.Bool.{cases_lt}
use Rattle.std.proofs.lemmas.Bool.Decides.{nat_tests}
use Rattle.std.proofs.lemmas.Option.{slice_get_within}
use Rattle.list_laws.proofs.Options.{cases_Option}
use Rattle.book_base.specs.declared.TheConstants.{MAX_CALLERS}
use Rattle.book_base.specs.declared.call.Call.{Call}
use Rattle.book_base.specs.declared.call.Record.{Record}
use Rattle.book_base.specs.Book.{Page, answers_of, IsCall, IsValid, record_of}
use Rattle.book_base.proofs.PageLemmas.{caller_from_call}
use Rattle.book_base.proofs.ViewLemmas.{answer_stands}
use Rattle.legal_orders.specs.Container.{Reading}
use Rattle.legal_orders.specs.Deals as deals
use Rattle.legal_orders.specs.Deals.{deal_of}
use Rattle.legal_orders.proofs.Dealing.{call_by_deal, takes_by_deal, nothing_by_deal}
use Rattle.queue_pairs.specs.declared.TheConstants.{NEVER}
use Rattle.queue_pairs.specs.declared.next_entries.NextEntries.{NextEntries}
use Rattle.queue_pairs.specs.declared.next_entries.TimedPair.{TimedPair}
use Rattle.queue_pairs.specs.declared.standing.PairState.{PairState}
use Rattle.queue_pairs.specs.declared.table.Table.{Table}
use Rattle.queue_pairs.specs.declared.table.TimedCall.{TimedCall}
use Rattle.queue_pairs.specs.Moments.{moment_of, IsHeldBy}
use Rattle.queue_pairs.specs.Pairs.{Paired, Pair, IsPut, IsTake}
use Rattle.queue_pairs.specs.Tables.{known_deal, is_take, put_at, take_at, IsTimed, IsTable, IsFirstFrom}
use Rattle.queue_pairs.specs.NextEntries.{paired, pair_of, last_of, first_after, last_after, AreNextEntries, IsNextEntry, IsPast, IsLeastOf}
use Rattle.queue_pairs.proofs.Serving.{held_later, next-least, next-same}
use Rattle.queue_pairs.proofs.Spanning.{moments-grow, moment-small}
use Rattle.queue_refutation.specs.Closed.{HasTakeBefore, HasFindBefore}
use Rattle.queue_refutation.proofs.Entries.{takes-read, puts-read, next-put, next-take, none-is, put-is, took-is, open-is, few-callers, held-first, answered-last, unanswered-last}
use Rattle.queue_refutation.proofs.Passing.{puts-in-time, take-past, is-overdue}
use Rattle.pair_refutations.specs.Moves.{Begins, IsPairMove, IsFindMove, IsOfCallers}
use Rattle.pair_refutations.specs.Closed.{IsLate, IsWholeStanding}
use Rattle.pair_refutations.specs.Tabled.{IsEarly, MakesMove}

-- ---- beginnings

-- a call begins at one moment
pub begins-one : (book : List Page) (call : Call) (m n : ℕ) → Begins book call m
    → Begins book call n → m ≡ n
begins-one book call m n a b = omega (arith, a.least n b.held, b.least m a.held)

-- a call that some view holds begins at its first moment
pub begins-first : (reading : Reading) (book : List Page) (t : TimedCall)
    → IsTimed reading book t.call t → t.span.first < NEVER → Begins book t.call t.span.first
begins-first reading book t timed few = record {
  held = timed.span.held few;
  least = λ n at. (timed.span.least n at).0;
}

pub first-begins : (reading : Reading) (book : List Page) (t : TimedCall) (call : Call) (m : ℕ)
    → IsTimed reading book t.call t → call ≡ t.call → Begins book call m
    → (t.span.first ≡ m) × (t.span.first < NEVER)
first-begins reading book t call m timed same begins =
    let low = held-first reading book t call m timed same begins.held in
    let own : Begins book t.call t.span.first = begins-first reading book t timed low.1 in (
      begins-one book t.call t.span.first m own
          (subst (λ (c : Call). Begins book c m) same begins),
      low.1,
    )

-- an answered call's own view holds it
own-held : (book : List Page) (call : Call) (r : Record) → IsValid book
    → record_of book call ≡ Some r → IsHeldBy book call (moment_of r)
own-held book call r valid known =
    (call, r, known, omega (arith, valid.own call r known), omega arith)

-- ---- moves are determined

-- moves by pairs of the same callers are one
pub pair-one : (reading : Reading) (book : List Page) (s : Paired) (i j : ℕ) (a b : Pair)
    → IsOfCallers i j a → IsOfCallers i j b → IsPairMove reading book s a
    → IsPairMove reading book s b → a ≡ b
pair-one reading book s i j a b of_a of_b m n =
    let put : b.put ≡ a.put = next-same (IsPut reading book) s.puts a.put b.put m.may.put n.may.put
    (m.may.value, m.may.puts) (n.may.value, n.may.puts) (of_b.0 ∙ sym of_a.0) in
    let take : b.take ≡ a.take = next-same (IsTake reading book) s.takes a.take b.take m.may.take
    n.may.take (m.may.value, m.may.takes) (n.may.value, n.may.takes) (of_b.1 ∙ sym of_a.1) in
    let put_begin : m.put_begin ≡ n.put_begin = begins-one book a.put m.put_begin n.put_begin
    m.put_begins (subst (λ (c : Call). Begins book c n.put_begin) put n.put_begins) in
    let take_begin : m.take_begin ≡ n.take_begin = begins-one book a.take m.take_begin n.take_begin
    m.take_begins (subst (λ (c : Call). Begins book c n.take_begin) take n.take_begins) in
    let put_moment : a.put_moment ≡ b.put_moment
    = omega (arith, m.put_moment, n.put_moment, put_begin) in
    let take_moment : a.take_moment ≡ b.take_moment
    = omega (arith, m.take_moment, n.take_moment, take_begin, put_moment) in
    let made : Call → Call → ℕ → ℕ → Pair = λ p t k l.
    record { put = p; take = t; put_moment = k; take_moment = l } in
    ap (λ (c : Call). made c a.take a.put_moment a.take_moment) (sym put)
    ∙ (ap (λ (c : Call). made b.put c a.put_moment a.take_moment) (sym take)
    ∙ (ap (λ (k : ℕ). made b.put b.take k a.take_moment) put_moment
    ∙ ap (λ (k : ℕ). made b.put b.take b.put_moment k) take_moment))

-- moves by takes that find nothing are one
pub find-one : (reading : Reading) (book : List Page) (s : Paired) (g h : ℕ)
    → IsFindMove reading book s g → IsFindMove reading book s h → g ≡ h
find-one reading book s g h m n = omega (
  arith,
  m.moment,
  n.moment,
  m.first n.find n.begin n.finds n.begins n.later,
  n.first m.find m.begin m.finds m.begins m.later,
)

-- ---- pairs

module _ (reading : Reading) (book : List Page) (table : Table) (s : PairState) (pair : TimedPair)
    (is : IsTable reading book table)
    (put_is : IsNextEntry (λ i n. put_at table i n) s.puts pair.put)
    (take_is : IsNextEntry (λ i n. take_at table i n) s.takes pair.take)
    (put_moment : pair.put_moment ≡ max s.put_moment pair.put.span.first)
    (take_moment : pair.take_moment
    ≡ max (max s.take_moment pair.put_moment) pair.take.span.first) where
  -- A pair of next entries is a move where its calls make one.
  pub move-made : MakesMove pair → IsPairMove reading book (paired s) (pair_of pair)
  move-made m =
      let put = next-put reading book table s.puts put_is.0 pair.put is put_is.2 in
      let take = next-take reading book table s.takes take_is.0 pair.take is take_is.2 in
      record {
        may = record {
          value = m.takes.0;
          puts = sym put.timed.deal ∙ ap known_deal m.takes.1;
          takes = elim m.takes.2 [
            | inl took ↦ inl (sym take.timed.deal ∙ ap known_deal took)
            | inr unseen ↦ inr (sym take.timed.deal ∙ ap known_deal unseen)
          ];
          put = put.next;
          take = take.next;
          after_puts = omega (arith, put_moment);
          after_takes = omega (arith, take_moment);
          in_turn = omega (arith, take_moment);
          put_effect = record {
            first = held_later book pair.put.call pair.put.span.first pair.put_moment
                (omega (arith, put_moment)) (put.timed.span.held m.put_held);
            last = λ r known. omega (arith, m.put_due, (put.timed.span.answered r known).0);
          };
          take_effect = record {
            first = held_later book pair.take.call pair.take.span.first pair.take_moment
                (omega (arith, take_moment)) (take.timed.span.held m.take_held);
            last = λ r known. omega (arith, m.take_due, (take.timed.span.answered r known).0);
          };
        };
        answered = λ idle. elim m.answered [
          | inl few ↦
              let own = answered-last reading book pair.put put.timed few in
              omega (arith, idle.put, slice_get_within _ pair.put.call.number own.0 own.1)
          | inr few ↦
              let own = answered-last reading book pair.take take.timed few in
              omega (arith, idle.take, slice_get_within _ pair.take.call.number own.0 own.1)
        ];
        put_begin = pair.put.span.first;
        put_begins = begins-first reading book pair.put put.timed m.put_held;
        put_moment = put_moment;
        take_begin = pair.take.span.first;
        take_begins = begins-first reading book pair.take take.timed m.take_held;
        take_moment = take_moment;
      }

  -- Where a move has the calls of a pair of next entries, these make one.
  pub made-move : (p : Pair) → IsEarly s → p.put ≡ pair.put.call → p.take ≡ pair.take.call
      → IsPairMove reading book (paired s) p → MakesMove pair
  made-move p early same_put same_take m =
      let put = next-put reading book table s.puts put_is.0 pair.put is put_is.2 in
      let take = next-take reading book table s.takes take_is.0 pair.take is take_is.2 in
      let first_put = first-begins reading book pair.put p.put m.put_begin put.timed same_put
      m.put_begins in
      let first_take = first-begins reading book pair.take p.take m.take_begin take.timed same_take
      m.take_begins in
      let same_moment : p.put_moment ≡ pair.put_moment
      = omega (arith, m.put_moment, put_moment, first_put.0) in
      let same_taken : p.take_moment ≡ pair.take_moment
      = omega (arith, m.take_moment, take_moment, first_take.0, same_moment) in
      let v : ℕ = m.may.value in
      let known : known_deal pair.take.deal ≡ deal_of reading book p.take
      = take.timed.deal ∙ ap (deal_of reading book) (sym same_take) in
      record {
        put_held = first_put.1;
        take_held = first_take.1;
        takes = (
          v,
          put-is pair.put.deal v (put.timed.deal
              ∙ (ap (deal_of reading book) (sym same_put) ∙ m.may.puts)),
          elim m.may.takes [
            | inl took ↦ inl (took-is pair.take.deal v (known ∙ took))
            | inr unseen ↦ inr (open-is pair.take.deal (known ∙ unseen))
          ],
        );
        answered = elim (cases_lt pair.put.span.last NEVER) [
          | inl few ↦ inl few
          | inr late ↦ elim (cases_lt pair.take.span.last NEVER) [
            | inl few ↦ inr few
            | inr later ↦
                let put_past = unanswered-last reading book pair.put put.timed late in
                let take_past = unanswered-last reading book pair.take take.timed later in
                absurd (m.answered (record {
                  put = subst (λ (c : Call). answers_of book c.caller ≤ c.number) (sym same_put)
                      put_past;
                  take = subst (λ (c : Call). answers_of book c.caller ≤ c.number)
                      (sym same_take) take_past;
                }))
          ]
        ];
        put_due = elim (cases_lt pair.put.span.last NEVER) [
          | inl few ↦
              let own = answered-last reading book pair.put put.timed few in
              omega (
                arith,
                own.2,
                same_moment,
                m.may.put_effect.last own.0 (ap (record_of book) same_put ∙ own.1),
              )
          | inr late ↦ omega (arith, late, early.0, first_put.1, put_moment)
        ];
        take_due = elim (cases_lt pair.take.span.last NEVER) [
          | inl few ↦
              let own = answered-last reading book pair.take take.timed few in
              omega (
                arith,
                own.2,
                same_taken,
                m.may.take_effect.last own.0 (ap (record_of book) same_take ∙ own.1),
              )
          | inr late ↦
              omega (
                arith,
                late,
                early.0,
                early.1,
                first_put.1,
                put_moment,
                first_take.1,
                take_moment,
              )
        ];
      }

-- the pair of a next put and a next take at the earliest moments is one of next entries
pub entries-are : (table : Table) (s : PairState) (put take : TimedCall) (pair : TimedPair)
    → IsNextEntry (λ i n. put_at table i n) s.puts put
    → IsNextEntry (λ i n. take_at table i n) s.takes take
    → pair.put ≡ put → pair.take ≡ take
    → pair.put_moment ≡ max s.put_moment put.span.first
    → pair.take_moment ≡ max (max s.take_moment pair.put_moment) take.span.first
    → IsNextEntry (λ i n. put_at table i n) s.puts pair.put
    × IsNextEntry (λ i n. take_at table i n) s.takes pair.take
    × (pair.put_moment ≡ max s.put_moment pair.put.span.first)
    × (pair.take_moment ≡ max (max s.take_moment pair.put_moment) pair.take.span.first)
entries-are table s put take pair put_is take_is same_put same_take put_moment take_moment = (
  subst (IsNextEntry (λ i n. put_at table i n) s.puts) (sym same_put) put_is,
  subst (IsNextEntry (λ i n. take_at table i n) s.takes) (sym same_take) take_is,
  put_moment ∙ ap (λ (t : TimedCall). max s.put_moment t.span.first) (sym same_put),
  take_moment ∙ ap (λ (t : TimedCall). max (max s.take_moment pair.put_moment) t.span.first)
      (sym same_take),
)

-- the callers of a move are callers of the book
pub move-callers : (reading : Reading) (book : List Page) (table : Table) (s : Paired) (p : Pair)
    → IsTable reading book table → IsPairMove reading book s p
    → (p.put.caller < MAX_CALLERS) × (p.take.caller < MAX_CALLERS)
move-callers reading book table s p is m = (
  few-callers reading book table p.put is
      ((puts-read reading book).call p.put (m.may.value, m.may.puts)),
  few-callers reading book table p.take is
      ((takes-read reading book).call p.take (m.may.value, m.may.takes)),
)

-- ---- takes that find nothing

first-cases : (found first last : ℕ)
    → ((found < first) × (cond (nat_lt found first) last NEVER ≡ last))
    ⊎ ((first ≤ found) × (cond (nat_lt found first) last NEVER ≡ NEVER))
first-cases found first last = elim (cases_lt found first) [
  | inl lt ↦ inl (lt, grind (arith, nat_tests))
  | inr le ↦ inr (le, grind (arith, nat_tests))
]

-- the entry of an uncovered take that finds nothing, by the first moment that a list has for it
first-there : (found : ℕ) (o : Option TimedCall) (m : ℕ) → m ≡ first_after found o → m < NEVER
    → (t : TimedCall) × (o ≡ Some t) × (found < t.span.first) × (m ≡ t.span.first)
first-there found None m is few = absurd (omega (arith, is, few))
first-there found (Some t) m is few = elim (first-cases found t.span.first t.span.first) [
  | inl out ↦ (t, refl, out.0, is ∙ out.1)
  | inr stands ↦ absurd (omega (arith, is, stands.1, few))
]

-- the entry of a take that finds nothing
find-entry : (reading : Reading) (book : List Page) (table : Table) (e : Call)
    → IsTable reading book table → deal_of reading book e ≡ deals.FoundNothing
    → (k : ℕ) × (t : TimedCall) × (slice_get table.finds.items k ≡ Some t) × (t.call ≡ e)
    × IsTimed reading book t.call t
find-entry reading book table e is nothing =
    let call : IsCall book e = call_by_deal reading book e
    (λ other. let wrong : deals.FoundNothing ≡ deals.Other = sym nothing ∙ other in cc) in
    let entry = is.finds.all e (inl (caller_from_call book e.caller e.number call)) nothing in
    let right = is.finds.right entry.0 entry.1 entry.2 in
    (entry.0, entry.1, entry.2, entry.3, right.0)

module _ (reading : Reading) (book : List Page) (table : Table) (s : Paired) (low : ℕ)
    (is : IsTable reading book table)
    (least : IsLeastOf (λ k. first_after s.found (slice_get table.finds.items k))
    (length table.finds.items) low) where
  -- a take that finds nothing and isn't covered begins no earlier than the first of these
  pub find-low : (e : Call) (m : ℕ) → deal_of reading book e ≡ deals.FoundNothing
      → Begins book e m → s.found < m → (low ≤ m) × (low < NEVER)
  find-low e m nothing begins later =
      let entry = find-entry reading book table e is nothing in
      let t : TimedCall = entry.1 in
      let first = first-begins reading book t e m entry.4 (sym entry.3) begins in
      elim (first-cases s.found t.span.first t.span.first) [
        | inl out ↦
            let inside : entry.0 < length table.finds.items =
            slice_get_within _ entry.0 t entry.2 in
            let few : low ≤ first_after s.found (slice_get table.finds.items entry.0)
            = least.least entry.0 inside in
            let value : first_after s.found (slice_get table.finds.items entry.0) ≡ t.span.first
            = ap (first_after s.found) entry.2 ∙ out.1 in
            (omega (arith, few, value, first.0), omega (arith, few, value, first.1))
        | inr stands ↦ absurd (omega (arith, stands.0, first.0, later))
      ]

  -- the move by the takes that find nothing and begin first
  pub find-made : (g : ℕ) → low < NEVER → g ≡ max s.take_moment low
      → IsFindMove reading book s g
  find-made g few moment =
      let finds : List TimedCall = table.finds.items in
      let there : (k : ℕ) × (k < length finds)
      × (low ≡ first_after s.found (slice_get finds k)) = elim least.some [
        | inl never ↦ absurd (omega (arith, few, never))
        | inr found ↦ found
      ] in
      let entry = first-there s.found (slice_get finds there.0) low there.2 few in
      let t : TimedCall = entry.0 in
      let right = is.finds.right there.0 t entry.1 in
      record {
        find = t.call;
        begin = t.span.first;
        finds = right.1;
        begins = begins-first reading book t right.0 (omega (arith, few, entry.3));
        later = entry.2;
        first = λ e m nothing begins later.
            omega (arith, entry.3, (find-low e m nothing begins later).0);
        moment = omega (arith, moment, entry.3);
      }

module _ (reading : Reading) (book : List Page) (table : Table) (s : PairState)
    (next : NextEntries) (is : IsTable reading book table) (h : AreNextEntries table s next) where
  -- ---- late standings

  -- no remaining take is due before the latest moment of takes
  takes-in-time : (m : ℕ) → m ≤ next.take_limit → HasTakeBefore reading book (paired s) m → ⊥
  takes-in-time m low due =
      let p : Call = due.0 in
      let v : ℕ = due.1 in
      let r : Record = due.2 in
      let took : deal_of reading book p ≡ deals.Took v = due.3 in
      let take : IsTake reading book p = (v, inl took) in
      let known : record_of book p ≡ Some r = due.4 in
      let out : get_or s.takes p.caller 0 ≤ p.number = due.5 in
      let early : moment_of r < m = due.6 in
      let call : IsCall book p = (takes-read reading book).call p take in
      let inside : p.caller < MAX_CALLERS = few-callers reading book table p is call in
      let o : Option TimedCall = get_or next.takes p.caller None in
      elim (cases_Option o) [
        | inl none ↦
            none-is reading book table is_take (IsTake reading book) p.caller
            (get_or s.takes p.caller 0) p is (takes-read reading book)
            (subst (IsFirstFrom (λ n. take_at table p.caller n) (get_or s.takes p.caller 0)) none
            (h.takes p.caller inside)) take refl out
        | inr some ↦
            let t : TimedCall = some.0 in
            let own = next-take reading book table s.takes p.caller t is
            (subst (IsFirstFrom (λ n. take_at table p.caller n) (get_or s.takes p.caller 0)) some.1
            (h.takes p.caller inside)) in
            let before : t.call.number ≤ p.number =
            next-least (IsTake reading book) s.takes t.call p own.next take (sym own.caller) out in
            let limit : next.take_limit ≤ last_of o = h.take_limit.least p.caller inside in
            let last : last_of o ≡ t.span.last = ap last_of some.1 in
            elim (cases_lt t.span.last NEVER) [
              | inl few ↦
                  let answered = answered-last reading book t own.timed few in
                  let rise : moment_of answered.0 ≤ moment_of r
                  = moments-grow book t.call p answered.0 r is.valid answered.1 known
                  own.caller before in
                  omega (arith, limit, last, answered.2, rise, early, low)
              | inr never ↦
                  let there : p.number < answers_of book p.caller =
                  slice_get_within _ p.number r known in
                  let answers : t.call.number < answers_of book t.call.caller
                  = omega (arith, there, before, ap (answers_of book) own.caller) in
                  let stands = answer_stands book t.call answers in
                  omega (arith, never, (own.timed.span.answered stands.0 stands.1).1)
            ]
      ]

  -- no remaining take that finds nothing is due before the latest moment of these
  finds-in-time : (m : ℕ) → m ≤ next.find_limit → HasFindBefore reading book (paired s) m → ⊥
  finds-in-time m low due =
      let e : Call = due.0 in
      let r : Record = due.1 in
      let known : record_of book e ≡ Some r = due.3 in
      let early : moment_of r < m = due.5 in
      let entry = find-entry reading book table e is due.2 in
      let t : TimedCall = entry.1 in
      let first = held-first reading book t e (moment_of r) entry.4 (sym entry.3)
      (own-held book e r is.valid known) in
      elim (first-cases s.found t.span.first t.span.last) [
        | inl out ↦
            let inside : entry.0 < length table.finds.items =
            slice_get_within _ entry.0 t entry.2 in
            let limit : next.find_limit ≤ last_after s.found (slice_get table.finds.items entry.0)
            = h.find_limit.least entry.0 inside in
            let value : last_after s.found (slice_get table.finds.items entry.0) ≡ t.span.last
            = ap (last_after s.found) entry.2 ∙ out.1 in
            let last = entry.4.span.answered r (ap (record_of book) entry.3 ∙ known) in
            omega (arith, limit, value, last.0, early, low)
        | inr stands ↦
            due.4 (held_later book e t.span.first s.found stands.0
            (subst (λ (c : Call). IsHeldBy book c t.span.first) entry.3
            (entry.4.span.held first.1)))
      ]

  -- A standing is late exactly where the latest moments of the next entries are past.
  pub late-is : IsEarly s → IsPast next s.put_moment s.take_moment
      → IsLate reading book (paired s)
  late-is early past = is-overdue reading book table s next s.put_moment s.take_moment is h
      (omega (arith, early.0)) (omega (arith, early.1)) past

  pub is-late : IsLate reading book (paired s) → IsPast next s.put_moment s.take_moment
  is-late late = elim (cases_lt next.put_limit s.put_moment) [
    | inl put ↦ inl put
    | inr puts ↦ elim (cases_lt next.take_limit s.take_moment) [
      | inl take ↦ inr (inl take)
      | inr takes ↦ elim (cases_lt next.find_limit s.take_moment) [
        | inl find ↦ inr (inr find)
        | inr finds ↦ absurd (elim late [
          | inl put ↦ puts-in-time reading book table s next s.put_moment is h puts put
          | inr others ↦ elim others [
            | inl take ↦ takes-in-time s.take_moment takes take
            | inr find ↦ finds-in-time s.take_moment finds find
          ]
        ])
      ]
    ]
  ]

  -- ---- whole standings

  -- A standing is whole exactly where no take that finds nothing begins later, and no next take is
  -- answered.
  pub whole-is : NEVER ≤ next.find_first → NEVER ≤ next.take_limit
      → IsWholeStanding reading book (paired s)
  whole-is finds takes = record {
    taken = λ t v took. elim (cases_lt t.number (get_or s.takes t.caller 0)) [
      | inl covered ↦ covered
      | inr out ↦
          let shows = takes_by_deal reading book t v took in
          absurd (takes-in-time NEVER takes (
            t,
            v,
            shows.1,
            took,
            shows.3,
            out,
            moment-small book t shows.1 is.valid is.small shows.3,
          ))
    ];
    found = λ e nothing.
        let shows = nothing_by_deal reading book e nothing in
        let entry = find-entry reading book table e is nothing in
        let t : TimedCall = entry.1 in
        let first = held-first reading book t e (moment_of shows.1) entry.4 (sym entry.3)
        (own-held book e shows.1 is.valid shows.3) in
        elim (cases_lt s.found t.span.first) [
          | inl later ↦
              let begins = begins-first reading book t entry.4 first.1 in
              let low = find-low reading book table (paired s) next.find_first is h.find_first e
              t.span.first nothing
              (subst (λ (c : Call). Begins book c t.span.first) entry.3 begins) later in
              absurd (omega (arith, low.1, finds))
          | inr held ↦ held_later book e t.span.first s.found held
              (subst (λ (c : Call). IsHeldBy book c t.span.first) entry.3
              (entry.4.span.held first.1))
        ];
  }

  pub is-whole : IsWholeStanding reading book (paired s)
      → (NEVER ≤ next.find_first) × (NEVER ≤ next.take_limit)
  is-whole whole = (
    elim (cases_lt next.find_first NEVER) [
      | inl few ↦
          let m = find-made reading book table (paired s) next.find_first is h.find_first
          (max s.take_moment next.find_first) few refl in
          absurd (omega (arith, m.later, m.begins.least s.found (whole.found m.find m.finds)))
      | inr never ↦ never
    ],
    elim (cases_lt next.take_limit NEVER) [
      | inl few ↦
          let due = take-past reading book table s next NEVER is h few (omega arith) in
          absurd (omega (arith, whole.taken due.0 due.1 due.3, due.5))
      | inr never ↦ never
    ],
  )
