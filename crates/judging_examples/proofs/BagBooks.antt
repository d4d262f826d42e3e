-- The worked books: what counts say of their tables, and that one has a legal order.
use Rattle.std.proofs.Common.{◌≡◌, ℕ, zero, suc, ◌+◌, ◌<◌, ◌≤◌, ◌∙◌, Bool, true, false, nat_le, cond, List, [], ◌∷◌, get_or, count_by, sum_by, Some, refl, sym, ap, subst, inl, inr, if◌then◌else◌, arith}
use Rattle.std.proofs.lemmas.Bool.{le-leb}
use Rattle.std.proofs.lemmas.List.Sums.{sum_by-cons}
use Rattle.std.proofs.lemmas.Option.{same_Some, none-some}
use Rattle.book_base.specs.declared.call.Call.{Call}
use Rattle.book_base.specs.declared.call.Record.{Record}
use Rattle.book_base.specs.Cut.{Holds}
use Rattle.book_base.specs.Book.{Page, IsAnswered, Precedes, record_of, answers_of}
use Rattle.book_base.specs.Order.{step_at, HasLegalOrder}
use Rattle.book_base.specs.Next.{MayComeNext, MayStandNext}
use Rattle.judging_examples.specs.Books.{answer, stand}
use Rattle.legal_orders.proofs.LegalOrder.{legal_order_from_continues}
use Rattle.legal_orders.specs.Container.{Effect, times, GivesOne, IsContainer}
use Rattle.legal_orders.specs.Deals as deals
use Rattle.queue_pairs.specs.declared.table.QueueDeal.{QueueDeal}
use Rattle.queue_pairs.specs.declared.table.QueueDeal.TheVariants as did
use Rattle.queue_pairs.specs.declared.table.Table.{Table}
use Rattle.queue_pairs.specs.declared.table.TimedCall.{TimedCall}
use Rattle.queue_pairs.specs.Moments.{moment_of}
use Rattle.queue_pairs.specs.Tables.{known_deal, rows_of, IsTimed, IsRowTo, AreRowsTo, IsTable}
use Rattle.queue_pairs.specs.declared.counts.Counted.TheVariants as counted
use Rattle.queue_pairs.specs.Counts.{listed, puts_one, shows_one, may_take_one, is_counted, PutsAhead, TakesAhead, IsRefuted}
use Rattle.judging_examples.specs.Bags.{bag, bag_shown, without_first, bag_after, bag_next, bag_spec, taken_unput, put_and_taken}
use Rattle.queue_pairs.proofs.Counting.{bit}
use Rattle.queue_pairs.proofs.Refuting.{takes-refute, finds_leave_nothing}

abbrev call : ℕ → Call
call n = record { caller = 0; number = n }

-- ---- the entries of a table of a few calls

took-is : (d : QueueDeal) (v : ℕ) → known_deal d ≡ deals.Took v → d ≡ did.Took v
took-is (did.Put w) v e = absurd cc
took-is (did.Took w) v e = let same : w ≡ v = cc in ap did.Took same
took-is did.FoundNothing v e = absurd cc
took-is did.OpenTake v e = absurd cc
took-is did.Other v e = absurd cc

put-is : (d : QueueDeal) (v : ℕ) → known_deal d ≡ deals.Put v → d ≡ did.Put v
put-is (did.Put w) v e = let same : w ≡ v = cc in ap did.Put same
put-is (did.Took w) v e = absurd cc
put-is did.FoundNothing v e = absurd cc
put-is did.OpenTake v e = absurd cc
put-is did.Other v e = absurd cc

found-is : (d : QueueDeal) → known_deal d ≡ deals.FoundNothing → d ≡ did.FoundNothing
found-is (did.Put w) e = absurd cc
found-is (did.Took w) e = absurd cc
found-is did.FoundNothing e = refl
found-is did.OpenTake e = absurd cc
found-is did.Other e = absurd cc

-- Of one caller's calls, of which there is one, or there are two, each has its entry, and a test
-- counts these.
record OneEntry (book : List Page) (rows : List (List TimedCall)) : Type 0 where
  t : TimedCall
  timed : IsTimed bag book (call 0) t
  counts : (test : TimedCall → Bool) → sum_by (count_by test) rows ≡ bit (test t)

record TwoEntries (book : List Page) (rows : List (List TimedCall)) : Type 0 where
  t : TimedCall
  u : TimedCall
  first : IsTimed bag book (call 0) t
  second : IsTimed bag book (call 1) u
  counts : (test : TimedCall → Bool)
      → sum_by (count_by test) rows ≡ bit (test t) + bit (test u)

one-row : (test : TimedCall → Bool) (row : List TimedCall)
    → sum_by (count_by test) (row ∷ []) ≡ count_by test row
one-row test row = omega (arith, sum_by-cons (count_by test) row [])

one-counted : (test : TimedCall → Bool) (t : TimedCall) → count_by test (t ∷ []) ≡ bit (test t)
one-counted test t = omega (arith, sum_by-cons (λ (x : TimedCall). cond (test x) 1 0) t [])

two-counted : (test : TimedCall → Bool) (t u : TimedCall)
    → count_by test (t ∷ u ∷ []) ≡ bit (test t) + bit (test u)
two-counted test t u = omega (
  arith,
  sum_by-cons (λ (x : TimedCall). cond (test x) 1 0) t (u ∷ []),
  one-counted test u,
)

one-of : (book : List Page) (row : List TimedCall) → IsRowTo bag book 0 1 row
    → OneEntry book (row ∷ [])
one-of book [] is = absurd (omega (arith, is.size))
one-of book (t ∷ []) is = record {
  t = t;
  timed = is.calls 0 t refl;
  counts = λ test. one-row test (t ∷ []) ∙ one-counted test t;
}
one-of book (t ∷ u ∷ rest) is = absurd (omega (arith, is.size))

two-of : (book : List Page) (row : List TimedCall) → IsRowTo bag book 0 2 row
    → TwoEntries book (row ∷ [])
two-of book [] is = absurd (omega (arith, is.size))
two-of book (t ∷ []) is = absurd (omega (arith, is.size))
two-of book (t ∷ u ∷ []) is = record {
  t = t;
  u = u;
  first = is.calls 0 t refl;
  second = is.calls 1 u refl;
  counts = λ test. one-row test (t ∷ u ∷ []) ∙ two-counted test t u;
}
two-of book (t ∷ u ∷ v ∷ rest) is = absurd (omega (arith, is.size))

one-entry : (rows : List (List TimedCall)) → AreRowsTo bag taken_unput 1 rows
    → OneEntry taken_unput rows
one-entry [] is = absurd (omega (arith, is.size))
one-entry (row ∷ []) is = one-of taken_unput row (is.rows 0 row refl)
one-entry (row ∷ other ∷ rest) is = absurd (omega (arith, is.size))

two-entries : (reply : ℕ) (rows : List (List TimedCall))
    → AreRowsTo bag (put_and_taken reply) 1 rows → TwoEntries (put_and_taken reply) rows
two-entries reply [] is = absurd (omega (arith, is.size))
two-entries reply (row ∷ []) is = two-of (put_and_taken reply) row (is.rows 0 row refl)
two-entries reply (row ∷ other ∷ rest) is = absurd (omega (arith, is.size))

-- ---- a value that nobody put in

unput-deal : (t : TimedCall) → IsTimed bag taken_unput (call 0) t → t.deal ≡ did.Took 1
unput-deal t timed = took-is t.deal 1 timed.deal

unput-last : (t : TimedCall) → IsTimed bag taken_unput (call 0) t → t.span.last ≡ 1
unput-last t timed = (timed.span.answered (answer 2 (1 ∷ [])) refl).0

-- whether a take that shows one of these values is counted by the moment 1, and whether a put is
abbrev due_take : List ℕ → TimedCall → QueueDeal → Bool
due_take values t d = if shows_one (listed values) d then nat_le t.span.last 1 else false

abbrev early_put : List ℕ → TimedCall → QueueDeal → Bool
early_put values t d = if puts_one (listed values) d then nat_le t.span.first 1 else false

pub unput-ahead : (table : Table) → IsTable bag taken_unput table → TakesAhead table (1 ∷ []) 1 1
unput-ahead table is =
    let entry : OneEntry taken_unput (rows_of table) = one-entry (rows_of table) is.rows in
    let deal : entry.t.deal ≡ did.Took 1 = unput-deal entry.t entry.timed in
    let no_put : is_counted counted.EarlyPuts (1 ∷ []) 1 entry.t ≡ false
    = ap (early_put (1 ∷ []) entry.t) deal in
    let take : is_counted counted.DueTakes (1 ∷ []) 1 entry.t ≡ true
    = ap (due_take (1 ∷ []) entry.t) deal
    ∙ le-leb entry.t.span.last 1 (omega (arith, unput-last entry.t entry.timed)) in
    omega (
      arith,
      entry.counts (is_counted counted.EarlyPuts (1 ∷ []) 1),
      ap bit no_put,
      entry.counts (is_counted counted.DueTakes (1 ∷ []) 1),
      ap bit take,
    )

pub unput-others : (table : Table) → IsTable bag taken_unput table
    → TakesAhead table (2 ∷ []) 1 1 → ⊥
unput-others table is ahead =
    let entry : OneEntry taken_unput (rows_of table) = one-entry (rows_of table) is.rows in
    let no_take : is_counted counted.DueTakes (2 ∷ []) 1 entry.t ≡ false
    = ap (due_take (2 ∷ []) entry.t) (unput-deal entry.t entry.timed) in
    omega (
      arith,
      ahead,
      entry.counts (is_counted counted.DueTakes (2 ∷ []) 1),
      ap bit no_take,
    )

-- ---- the bag is a container

gives : (list : List ℕ) → GivesOne list (bag_shown (without_first list).1) (without_first list).0
gives [] = (refl, refl)
gives (v ∷ rest) = λ w. refl

pub bag-is_container : IsContainer bag bag_next
bag-is_container = record {
  put = λ list op v e w. ap (λ (d : Effect). times w (bag_after list d).0) e;
  take = λ list op e. subst
      (λ (d : Effect). GivesOne list (bag_shown (bag_after list d).1) (bag_after list d).0)
      (sym e) (gives list);
  neither = λ list op e. ap (λ (d : Effect). (bag_after list d).0) e;
}

pub unput-refuted : (table : Table) → IsTable bag taken_unput table
    → IsRefuted table × (HasLegalOrder bag_spec taken_unput → ⊥)
unput-refuted table is =
    let refuted : IsRefuted table
    = takes-refute table (1 ∷ []) 1 (omega arith) (unput-ahead table is) in
    (refuted, λ has. refuted bag taken_unput bag_spec is bag-is_container refl has)

-- ---- a take that finds nothing where something is left

abbrev due_put : TimedCall → QueueDeal → Bool
due_put t d = if puts_one (listed (1 ∷ [])) d then nat_le t.span.last 1 else false

abbrev early_take : TimedCall → QueueDeal → Bool
early_take t d = if may_take_one (listed (1 ∷ [])) d then nat_le t.span.first 2 else false

pub left-ahead : (table : Table) → IsTable bag (put_and_taken 0) table
    → PutsAhead table (1 ∷ []) 1 2
left-ahead table is =
    let entries : TwoEntries (put_and_taken 0) (rows_of table)
    = two-entries 0 (rows_of table) is.rows in
    let put : entries.t.deal ≡ did.Put 1 = put-is entries.t.deal 1 entries.first.deal in
    let found : entries.u.deal ≡ did.FoundNothing
    = found-is entries.u.deal entries.second.deal in
    let last : entries.t.span.last ≡ 1
    = (entries.first.span.answered (answer 0 (1 ∷ [])) refl).0 in
    let is_put : is_counted counted.DuePuts (1 ∷ []) 1 entries.t ≡ true
    = ap (due_put entries.t) put ∙ le-leb entries.t.span.last 1 (omega (arith, last)) in
    omega (
      arith,
      entries.counts (is_counted counted.EarlyTakes (1 ∷ []) 2),
      ap (λ (d : QueueDeal). bit (early_take entries.t d)) put,
      ap (λ (d : QueueDeal). bit (early_take entries.u d)) found,
      entries.counts (is_counted counted.DuePuts (1 ∷ []) 1),
      ap bit is_put,
    )

-- no view holds the take by the moment 1
left-unheld : (i k : ℕ) (s : Record)
    → record_of (put_and_taken 0) (record { caller = i; number = k }) ≡ Some s
    → Holds s.view (call 1) → moment_of s ≤ 1 → ⊥
left-unheld zero zero s e held low =
    let same : answer 0 (1 ∷ []) ≡ s = same_Some _ s e in
    let no : Holds (1 ∷ []) (call 1)
    = subst (λ (r : Record). Holds r.view (call 1)) (sym same) held in
    omega (arith, no)
left-unheld zero (suc zero) s e held low =
    let same : answer 0 (2 ∷ []) ≡ s = same_Some _ s e in
    let no : moment_of (answer 0 (2 ∷ [])) ≤ 1
    = subst (λ (r : Record). moment_of r ≤ 1) (sym same) low in
    omega (arith, no)
left-unheld zero (suc (suc k)) s e held low = absurd (none-some s e)
left-unheld (suc i) k s e held low = absurd (none-some s e)

pub left-none : (table : Table) → IsTable bag (put_and_taken 0) table
    → HasLegalOrder bag_spec (put_and_taken 0) → ⊥
left-none table is =
    finds_leave_nothing bag (put_and_taken 0) table (call 1) (answer 0 (2 ∷ [])) (1 ∷ []) 1 2
    refl refl
    (λ held. left-unheld held.0.caller held.0.number held.1 held.2 held.3 held.4)
    (omega arith) (omega arith) (left-ahead table is)
    bag_spec is bag-is_container refl

-- ---- a book with a legal order

-- what precedes call n of the one caller is among its first n calls
precedes-it : (n i k : ℕ)
    → Precedes (put_and_taken 2) (record { caller = i; number = k }) (call n)
    → k < get_or (n ∷ []) i 0
precedes-it n zero zero p = elim p [ inl seen ↦ omega (arith, seen) | inr own ↦ own.1 ]
precedes-it n zero (suc zero) p = elim p [ inl seen ↦ omega (arith, seen) | inr own ↦ own.1 ]
precedes-it n zero (suc (suc k)) p = elim p [ inl seen ↦ absurd seen | inr own ↦ own.1 ]
precedes-it n (suc i) k p = elim p [
  | inl seen ↦ absurd seen
  | inr own ↦ absurd (omega (arith, own.0))
]

may-come : (n : ℕ) → n < 2 → MayComeNext (put_and_taken 2) (n ∷ []) (call n)
may-come n low = record {
  is_call = low;
  next = refl;
  preceded = λ (a : Call) (p : Precedes (put_and_taken 2) a (call n)).
      precedes-it n a.caller a.number p;
}

stands : (n reply : ℕ) (list : List ℕ) → n < 2
    → ((r : Record) → record_of (put_and_taken 2) (call n) ≡ Some r → r.reply ≡ reply)
    → (bag_next list (step_at (put_and_taken 2) (stand 0 n reply)).0).1 ≡ reply
    → MayStandNext (put_and_taken 2) bag_next (n ∷ []) list (stand 0 n reply)
stands n reply list low recorded gives =
    record { may_come = may-come n low; recorded = recorded; reply = gives }

all-stand : (i k : ℕ) → k < answers_of (put_and_taken 2) i → k < get_or (2 ∷ []) i 0
all-stand zero k h = h
all-stand (suc i) k h = h

none-yet : (i : ℕ) → let none : List ℕ = 0 ∷ [] in get_or none i 0 ≡ 0
none-yet zero = refl
none-yet (suc i) = refl

pub has-legal_order : HasLegalOrder bag_spec (put_and_taken 2)
has-legal_order = (
  stand 0 0 0 ∷ stand 0 1 2 ∷ [],
  legal_order_from_continues (put_and_taken 2) bag_spec (0 ∷ [])
      (stand 0 0 0 ∷ stand 0 1 2 ∷ []) (omega arith) none-yet (
        stands 0 0 [] (omega arith)
            (λ r e. ap (λ (s : Record). s.reply) (sym (same_Some _ r e))) refl,
        (
          stands 1 2 (1 ∷ []) (omega arith)
              (λ r e. ap (λ (s : Record). s.reply) (sym (same_Some _ r e))) refl,
          λ (asked : Call) (h : IsAnswered (put_and_taken 2) asked).
              all-stand asked.caller asked.number h,
        ),
      ),
)

pub legal-kept : (table : Table) → IsTable bag (put_and_taken 2) table → IsRefuted table → ⊥
legal-kept table is refuted =
    refuted bag (put_and_taken 2) bag_spec is bag-is_container refl has-legal_order
