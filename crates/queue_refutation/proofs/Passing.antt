-- What the latest moments of the next entries say of the remaining calls.
use Rattle.std.proofs.Common.{◌≡◌, ℕ, ◌<◌, ◌≤◌, ◌⊎◌, ◌∙◌, cond, List, length, get_or, max, Option, Some, None, refl, sym, ap, subst, inl, inr, slice_get, arith}
use Rattle.std.specs.Prelude.{nat_lt}
use Rattle.std.proofs.lemmas.Bool.{cases_lt}
use Rattle.std.proofs.lemmas.Bool.Decides.{nat_tests}
use Rattle.std.proofs.lemmas.Option.{slice_get_within}
use Rattle.list_laws.proofs.Options.{cases_Option}
use Rattle.book_base.specs.declared.TheConstants.{MAX_CALLERS}
use Rattle.book_base.specs.declared.call.Call.{Call}
use Rattle.book_base.specs.declared.call.Record.{Record}
use Rattle.book_base.specs.Book.{Page, answers_of, IsCall, record_of}
use Rattle.book_base.proofs.PageLemmas.{caller_from_call}
use Rattle.book_base.proofs.ViewLemmas.{answer_stands}
use Rattle.legal_orders.specs.Container.{Reading}
use Rattle.legal_orders.specs.Deals as deals
use Rattle.legal_orders.specs.Deals.{deal_of}
use Rattle.legal_orders.proofs.Dealing.{call_by_deal}
use Rattle.queue_pairs.specs.declared.TheConstants.{NEVER}
use Rattle.queue_pairs.specs.declared.next_entries.NextEntries.{NextEntries}
use Rattle.queue_pairs.specs.declared.standing.PairState.{PairState}
use Rattle.queue_pairs.specs.declared.table.Table.{Table}
use Rattle.queue_pairs.specs.declared.table.TimedCall.{TimedCall}
use Rattle.queue_pairs.specs.Moments.{moment_of, IsHeldBy}
use Rattle.queue_pairs.specs.Pairs.{Paired, FindNothing, IsPut, MayFind, IsWhole, after}
use Rattle.queue_pairs.specs.Tables.{is_put, put_at, take_at, IsTimed, IsTable, IsFirstFrom}
use Rattle.queue_pairs.specs.NextEntries.{paired, last_of, first_after, last_after, IsLeastOf, AreNextEntries, IsPast}
use Rattle.queue_pairs.proofs.Serving.{held_later, next-least}
use Rattle.queue_pairs.proofs.Spanning.{moments-grow}
use Rattle.queue_pairs.proofs.Walking.{open_is_unanswered}
use Rattle.queue_refutation.specs.Closed.{IsOnePaired, HasPutBefore, HasTakeBefore, HasFindBefore, IsOverdue, FindsLead, FindsStandAtOnce}
use Rattle.queue_refutation.proofs.Entries.{puts-read, next-put, next-take, none-is, few-callers, held-first, answered-last}

-- ---- values that are least

-- a least value before NEVER is that of some argument
least-there : (values : ℕ → ℕ) (below least : ℕ) → IsLeastOf values below least → least < NEVER
    → (k : ℕ) × (k < below) × (least ≡ values k)
least-there values below least h few = elim h.some [
  | inl never ↦ absurd (omega (arith, few, never))
  | inr there ↦ there
]

-- the last moment of a next call, where it is before NEVER, is that of an entry
last-there : (o : Option TimedCall) (m : ℕ) → m ≡ last_of o → m < NEVER
    → (t : TimedCall) × (o ≡ Some t) × (m ≡ t.span.last)
last-there None m is few = absurd (omega (arith, is, few))
last-there (Some t) m is few = (t, refl, is)

-- the moment of a take that finds nothing, as the next entries count it, is its own where its first
-- moment is later than the covered ones, and else NEVER
first-cases : (found first last : ℕ)
    → ((found < first) × (cond (nat_lt found first) last NEVER ≡ last))
    ⊎ ((first ≤ found) × (cond (nat_lt found first) last NEVER ≡ NEVER))
first-cases found first last = elim (cases_lt found first) [
  | inl lt ↦ inl (lt, grind (arith, nat_tests))
  | inr le ↦ inr (le, grind (arith, nat_tests))
]

first-there : (found : ℕ) (o : Option TimedCall) (m : ℕ) → m ≡ first_after found o → m < NEVER
    → (t : TimedCall) × (o ≡ Some t) × (found < t.span.first) × (m ≡ t.span.first)
first-there found None m is few = absurd (omega (arith, is, few))
first-there found (Some t) m is few = elim (first-cases found t.span.first t.span.first) [
  | inl out ↦ (t, refl, out.0, is ∙ out.1)
  | inr stands ↦ absurd (omega (arith, is, stands.1, few))
]

due-there : (found : ℕ) (o : Option TimedCall) (m : ℕ) → m ≡ last_after found o → m < NEVER
    → (t : TimedCall) × (o ≡ Some t) × (found < t.span.first) × (m ≡ t.span.last)
due-there found None m is few = absurd (omega (arith, is, few))
due-there found (Some t) m is few = elim (first-cases found t.span.first t.span.last) [
  | inl out ↦ (t, refl, out.0, is ∙ out.1)
  | inr stands ↦ absurd (omega (arith, is, stands.1, few))
]

-- ---- what is due

-- some remaining put is due before a moment that is past the latest one of puts
pub put-past : (reading : Reading) (book : List Page) (table : Table) (s : PairState)
    (next_entries : NextEntries) (m : ℕ) → IsTable reading book table
    → AreNextEntries table s next_entries
    → next_entries.put_limit < m → m ≤ NEVER → HasPutBefore reading book (paired s) m
put-past reading book table s next_entries m is h past few =
    let there = least-there _ MAX_CALLERS next_entries.put_limit h.put_limit (omega arith) in
    let entry = last-there (get_or next_entries.puts there.0 None) next_entries.put_limit there.2
    (omega arith) in
    let next = next-put reading book table s.puts there.0 entry.0 is
    (subst (IsFirstFrom (λ n. put_at table there.0 n) (get_or s.puts there.0 0)) entry.1
    (h.puts there.0 there.1)) in
    let answered = answered-last reading book entry.0 next.timed (omega (arith, entry.2)) in (
      entry.0.call,
      answered.0,
      next.is,
      answered.1,
      next.next.outside,
      omega (arith, answered.2, entry.2),
    )

-- some remaining take is due before a moment that is past the latest one of takes
pub take-past : (reading : Reading) (book : List Page) (table : Table) (s : PairState)
    (next_entries : NextEntries) (m : ℕ) → IsTable reading book table
    → AreNextEntries table s next_entries
    → next_entries.take_limit < m → m ≤ NEVER → HasTakeBefore reading book (paired s) m
take-past reading book table s next_entries m is h past few =
    let there = least-there _ MAX_CALLERS next_entries.take_limit h.take_limit (omega arith) in
    let entry = last-there (get_or next_entries.takes there.0 None) next_entries.take_limit there.2
    (omega arith) in
    let next = next-take reading book table s.takes there.0 entry.0 is
    (subst (IsFirstFrom (λ n. take_at table there.0 n) (get_or s.takes there.0 0)) entry.1
    (h.takes there.0 there.1)) in
    let answered = answered-last reading book entry.0 next.timed (omega (arith, entry.2)) in
    elim next.is.1 [
      | inl took ↦ (
        entry.0.call,
        next.is.0,
        answered.0,
        took,
        answered.1,
        next.next.outside,
        omega (arith, answered.2, entry.2),
      )
      | inr unseen ↦
          let past_it : answers_of book entry.0.call.caller ≤ entry.0.call.number
          = open_is_unanswered reading book entry.0.call unseen in
          absurd
          (omega (arith, past_it, slice_get_within _ entry.0.call.number answered.0 answered.1))
    ]

-- a take that finds nothing isn't covered where its first moment is later
out-later : (reading : Reading) (book : List Page) (t : TimedCall) (found : ℕ)
    → IsTimed reading book t.call t → found < t.span.first → IsHeldBy book t.call found → ⊥
out-later reading book t found timed later held =
    omega (arith, later, (timed.span.least found held).0)

-- some remaining take that finds nothing is due before a moment that is past the latest one of
-- these takes
pub find-past : (reading : Reading) (book : List Page) (table : Table) (s : PairState)
    (next_entries : NextEntries) (m : ℕ) → IsTable reading book table
    → AreNextEntries table s next_entries
    → next_entries.find_limit < m → m ≤ NEVER → HasFindBefore reading book (paired s) m
find-past reading book table s next_entries m is h past few =
    let finds : List TimedCall = table.finds.items in
    let there = least-there _ (length finds) next_entries.find_limit h.find_limit (omega arith) in
    let entry =
    due-there s.found (slice_get finds there.0) next_entries.find_limit there.2 (omega arith) in
    let right = is.finds.right there.0 entry.0 entry.1 in
    let answered = answered-last reading book entry.0 right.0 (omega (arith, entry.3)) in (
      entry.0.call,
      answered.0,
      right.1,
      answered.1,
      out-later reading book entry.0 s.found right.0 entry.2,
      omega (arith, answered.2, entry.3),
    )

pub is-overdue : (reading : Reading) (book : List Page) (table : Table) (s : PairState)
    (next_entries : NextEntries) (m n : ℕ) → IsTable reading book table
    → AreNextEntries table s next_entries
    → m ≤ NEVER → n ≤ NEVER → IsPast next_entries m n → IsOverdue reading book (paired s) m n
is-overdue reading book table s next_entries m n is h few_m few_n past = elim past [
  | inl put ↦ inl (put-past reading book table s next_entries m is h put few_m)
  | inr others ↦ inr (elim others [
    | inl take ↦ inl (take-past reading book table s next_entries n is h take few_n)
    | inr find ↦ inr (find-past reading book table s next_entries n is h find few_n)
  ])
]

-- no remaining put is due before the latest moment of puts
pub puts-in-time : (reading : Reading) (book : List Page) (table : Table) (s : PairState)
    (next_entries : NextEntries) (m : ℕ) → IsTable reading book table
    → AreNextEntries table s next_entries
    → m ≤ next_entries.put_limit → HasPutBefore reading book (paired s) m → ⊥
puts-in-time reading book table s next_entries m is h low due =
    let p : Call = due.0 in
    let r : Record = due.1 in
    let put = due.2 in
    let known : record_of book p ≡ Some r = due.3 in
    let out : get_or s.puts p.caller 0 ≤ p.number = due.4 in
    let early : moment_of r < m = due.5 in
    let call : IsCall book p = (puts-read reading book).call p put in
    let inside : p.caller < MAX_CALLERS = few-callers reading book table p is call in
    let o : Option TimedCall = get_or next_entries.puts p.caller None in
    elim (cases_Option o) [
      | inl none ↦
          none-is reading book table is_put (IsPut reading book) p.caller
          (get_or s.puts p.caller 0) p is (puts-read reading book)
          (subst (IsFirstFrom (λ n. put_at table p.caller n) (get_or s.puts p.caller 0)) none
          (h.puts p.caller inside)) put refl out
      | inr some ↦
          let t : TimedCall = some.0 in
          let next = next-put reading book table s.puts p.caller t is
          (subst (IsFirstFrom (λ n. put_at table p.caller n) (get_or s.puts p.caller 0)) some.1
          (h.puts p.caller inside)) in
          let before : t.call.number ≤ p.number =
          next-least (IsPut reading book) s.puts t.call p next.next put (sym next.caller) out in
          let limit : next_entries.put_limit ≤ last_of o = h.put_limit.least p.caller inside in
          let last : last_of o ≡ t.span.last = ap last_of some.1 in
          elim (cases_lt t.span.last NEVER) [
            | inl few ↦
                let answered = answered-last reading book t next.timed few in
                let rise : moment_of answered.0 ≤ moment_of r
                = moments-grow book t.call p answered.0 r is.valid answered.1 known
                next.caller before in
                omega (arith, limit, last, answered.2, rise, early, low)
            | inr never ↦
                let there : p.number < answers_of book p.caller =
                slice_get_within _ p.number r known in
                let answers : t.call.number < answers_of book t.call.caller
                = omega (arith, there, before, ap (answers_of book) next.caller) in
                let stands = answer_stands book t.call answers in
                omega (arith, never, (next.timed.span.answered stands.0 stands.1).1)
          ]
    ]

-- ---- standings that aren't whole

pub not-whole : (reading : Reading) (book : List Page) (table : Table) (s : PairState)
    (next_entries : NextEntries) → IsTable reading book table → AreNextEntries table s next_entries
    → s.put_moment ≤ NEVER
    → ((NEVER ≤ next_entries.find_first) × (NEVER ≤ next_entries.take_limit)
    × (s.put_moment ≤ next_entries.put_limit) → ⊥)
    → IsWhole reading book (paired s) → ⊥
not-whole reading book table s next_entries is h few not whole =
    elim (cases_lt next_entries.find_first NEVER) [
      | inl find ↦
          let finds : List TimedCall = table.finds.items in
          let there = least-there _ (length finds) next_entries.find_first h.find_first find in
          let entry =
          first-there s.found (slice_get finds there.0) next_entries.find_first there.2 find in
          let right = is.finds.right there.0 entry.0 entry.1 in
          out-later reading book entry.0 s.found right.0 entry.2 (whole.found entry.0.call right.1)
      | inr no_find ↦
          elim (cases_lt next_entries.take_limit NEVER) [
            | inl take ↦
                let due =
                take-past reading book table s next_entries NEVER is h take (omega arith) in
                omega (arith, whole.taken due.0 due.1 due.3, due.5)
            | inr no_take ↦
                elim (cases_lt next_entries.put_limit s.put_moment) [
                  | inl put ↦
                      let due =
                      put-past reading book table s next_entries s.put_moment is h put few in
                      omega (arith, whole.kept due.0 due.1 due.2 due.3 due.4, due.5)
                  | inr in_time ↦ not (no_find, no_take, in_time)
                ]
          ]
    ]

-- ---- takes that find nothing

-- all takes that find nothing at a moment are covered, or the first moment of those that aren't is
-- no later
finds-cases : (reading : Reading) (book : List Page) (table : Table) (s : PairState)
    (next_entries : NextEntries)
    (e : Call) (m : ℕ) → IsTable reading book table → AreNextEntries table s next_entries
    → deal_of reading book e ≡ deals.FoundNothing → IsHeldBy book e m
    → IsHeldBy book e s.found ⊎ ((next_entries.find_first ≤ m) × (next_entries.find_first < NEVER))
finds-cases reading book table s next_entries e m is h nothing held =
    let call : IsCall book e = call_by_deal reading book e
    (λ other. let wrong : deals.FoundNothing ≡ deals.Other = sym nothing ∙ other in cc) in
    let entry = is.finds.all e (inl (caller_from_call book e.caller e.number call)) nothing in
    let t : TimedCall = entry.1 in
    let right = is.finds.right entry.0 t entry.2 in
    let first = held-first reading book t e m right.0 (sym entry.3) held in
    elim (first-cases s.found t.span.first t.span.first) [
      | inl out ↦
          let inside : entry.0 < length table.finds.items = slice_get_within _ entry.0 t entry.2 in
          let low : next_entries.find_first ≤ first_after s.found
          (slice_get table.finds.items entry.0) = h.find_first.least entry.0 inside in
          let value : first_after s.found (slice_get table.finds.items entry.0) ≡ t.span.first
          = ap (first_after s.found) entry.2 ∙ out.1 in
          inr (omega (arith, low, value, first.0), omega (arith, low, value, first.1))
      | inr stands ↦
          inl (held_later book e t.span.first s.found stands.0
          (subst (λ (c : Call). IsHeldBy book c t.span.first) entry.3 (right.0.span.held first.1)))
    ]

-- where no takes that find nothing remain, none can be covered anew
pub finds-none : (reading : Reading) (book : List Page) (table : Table) (s : PairState)
    (next_entries : NextEntries) (standings : List Paired) (m : ℕ) → IsTable reading book table
    → AreNextEntries table s next_entries → NEVER ≤ next_entries.find_first
    → FindsLead reading book standings (paired s) m
finds-none reading book table s next_entries standings m is h none =
    inl
    (λ e nothing held. elim (finds-cases reading book table s next_entries e m is h nothing held) [
      | inl stands ↦ stands
      | inr first ↦ absurd (omega (arith, first.1, none))
    ])

-- the first moment of the remaining takes that find nothing is later than that of the covered ones
first-later : (table : Table) (s : PairState) (next_entries : NextEntries)
    → AreNextEntries table s next_entries
    → next_entries.find_first < NEVER → s.found < next_entries.find_first
first-later table s next_entries h few =
    let finds : List TimedCall = table.finds.items in
    let there = least-there _ (length finds) next_entries.find_first h.find_first few in
    let entry = first-there s.found (slice_get finds there.0) next_entries.find_first there.2 few in
    omega (arith, entry.2, entry.3)

-- takes that find nothing lead to a standing where those of the earliest moment do
pub finds-some : (reading : Reading) (book : List Page) (table : Table) (s : PairState)
    (next_entries : NextEntries) (standings : List Paired) (g m : ℕ) → IsTable reading book table
    → AreNextEntries table s next_entries → next_entries.find_first < NEVER
    → g ≡ max s.take_moment next_entries.find_first
    → MayFind reading book (paired s) m
    → IsOnePaired standings (after (paired s) (FindNothing g))
    ⊎ IsOverdue reading book (paired s) g g
    → FindsLead reading book standings (paired s) m
finds-some reading book table s next_entries standings g m is h few g_is may leads =
    let later : s.found < next_entries.find_first = first-later table s next_entries h few in
    elim (cases_lt m next_entries.find_first) [
      | inl early ↦
          inl (λ e nothing held.
          elim (finds-cases reading book table s next_entries e m is h nothing held) [
            | inl stands ↦ stands
            | inr first ↦ absurd (omega (arith, first.0, early))
          ])
      | inr late ↦
          inr (g, omega (arith, later, g_is), omega (arith, late, g_is, may.after_takes), leads)
    ]

-- takes that find nothing may be covered at once where the first moment of the remaining ones is no
-- later than the last take, and no remaining put is due before the last take
pub finds-at-once : (reading : Reading) (book : List Page) (table : Table) (s : PairState)
    (next_entries : NextEntries) (standings : List Paired) → IsTable reading book table
    → AreNextEntries table s next_entries
    → s.take_moment < NEVER → next_entries.find_first ≤ s.take_moment
    → s.take_moment ≤ next_entries.put_limit
    → IsOnePaired standings (after (paired s) (FindNothing s.take_moment))
    → FindsStandAtOnce reading book standings (paired s)
finds-at-once reading book table s next_entries standings is h few first in_time leads = record {
  more = omega (arith, first-later table s next_entries h (omega arith), first);
  in_time = puts-in-time reading book table s next_entries s.take_moment is h in_time;
  leads = leads;
}
