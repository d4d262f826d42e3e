-- Which moves at a standing lead on, and which are served for by such a move.
use Rattle.std.proofs.Common.{◌≡◌, ℕ, ◌+◌, ◌<◌, ◌≤◌, ◌⊎◌, ◌↔◌, ◌∙◌, List, [], ◌∷◌, ◌++◌, length, Some, refl, sym, ap, subst, inl, inr, slice_get, arith}
use Rattle.std.proofs.lemmas.Bool.{cases_lt, cases_eq}
use Rattle.list_laws.proofs.Places.{slice_get-push_last, slice_get-push_old, slice_get-push_cases}
use Rattle.book_base.specs.declared.TheConstants.{MAX_CALLERS, MAX_CALLS}
use Rattle.book_base.specs.declared.call.Call.{Call}
use Rattle.book_base.specs.Book.{Page, IsCall}
use Rattle.legal_orders.specs.Container.{Reading}
use Rattle.queue_pairs.specs.declared.TheConstants.{NEVER}
use Rattle.queue_pairs.specs.declared.next_entries.TimedPair.{TimedPair}
use Rattle.queue_pairs.specs.declared.standing.PairState.{PairState}
use Rattle.queue_pairs.specs.declared.table.QueueDeal.{QueueDeal}
use Rattle.queue_pairs.specs.declared.table.QueueDeal.TheVariants as did
use Rattle.queue_pairs.specs.declared.table.Table.{Table}
use Rattle.queue_pairs.specs.declared.table.TimedCall.{TimedCall}
use Rattle.queue_pairs.specs.Pairs.{Paired, Pair, Pairs, after}
use Rattle.queue_pairs.specs.Serving.{IsDueNoLater}
use Rattle.queue_pairs.specs.Tables.{known_deal, IsTimed, IsTable}
use Rattle.queue_pairs.specs.NextEntries.{paired, pair_of, IsNextPair, CanReplace}
use Rattle.queue_refutation.proofs.Entries.{puts-read, takes-read, next-put, next-take, few-callers, answered-last, unanswered-last}
use Rattle.pair_refutations.specs.declared.entry.Move.{Move}
use Rattle.pair_refutations.specs.declared.entry.Move.TheVariants.{Finds, Callers}
use Rattle.pair_refutations.specs.Moves.{IsPairMove, IsOfCallers, IsMoveBefore}
use Rattle.pair_refutations.specs.Closed.{Serves, GoesOn}
use Rattle.pair_refutations.specs.Tabled.{IsGood, IsOfBelow, AreGoodTo}
use Rattle.pair_refutations.proofs.Moving.{pair-one, move-callers}

-- ---- the standing after a pair

-- a call of a book is within the limits of a stored standing
few-numbers : (reading : Reading) (book : List Page) (table : Table) (call : Call)
    → IsTable reading book table → IsCall book call → call.number < MAX_CALLS
few-numbers reading book table call is there = omega (arith, is.small.calls call.caller, there)

-- The standing after a pair of next entries, as it is stored.
pub after-is : (reading : Reading) (book : List Page) (table : Table) (s next : PairState)
    (t : TimedPair) → IsTable reading book table → IsNextPair table s t
    → (t.put.call.caller < MAX_CALLERS → t.put.call.number < MAX_CALLS
    → t.take.call.caller < MAX_CALLERS → t.take.call.number < MAX_CALLS
    → paired next ≡ after (paired s) (Pairs (pair_of t)))
    → paired next ≡ after (paired s) (Pairs (pair_of t))
after-is reading book table s next t is pair says =
    let put = next-put reading book table s.puts pair.put.0 t.put is pair.put.2 in
    let take = next-take reading book table s.takes pair.take.0 t.take is pair.take.2 in
    let put_call : IsCall book t.put.call = (puts-read reading book).call t.put.call put.is in
    let take_call : IsCall book t.take.call = (takes-read reading book).call t.take.call take.is in
    says (few-callers reading book table t.put.call is put_call)
    (few-numbers reading book table t.put.call is put_call)
    (few-callers reading book table t.take.call is take_call)
    (few-numbers reading book table t.take.call is take_call)

-- ---- pairs that serve

known-one : (d e : QueueDeal) → known_deal d ≡ known_deal e → d ≡ e
known-one (did.Put v) (did.Put w) h = let same : v ≡ w = cc in ap did.Put same
known-one (did.Put v) (did.Took w) h = absurd cc
known-one (did.Put v) did.FoundNothing h = absurd cc
known-one (did.Put v) did.OpenTake h = absurd cc
known-one (did.Put v) did.Other h = absurd cc
known-one (did.Took v) (did.Put w) h = absurd cc
known-one (did.Took v) (did.Took w) h = let same : v ≡ w = cc in ap did.Took same
known-one (did.Took v) did.FoundNothing h = absurd cc
known-one (did.Took v) did.OpenTake h = absurd cc
known-one (did.Took v) did.Other h = absurd cc
known-one did.FoundNothing (did.Put w) h = absurd cc
known-one did.FoundNothing (did.Took w) h = absurd cc
known-one did.FoundNothing did.FoundNothing h = refl
known-one did.FoundNothing did.OpenTake h = absurd cc
known-one did.FoundNothing did.Other h = absurd cc
known-one did.OpenTake (did.Put w) h = absurd cc
known-one did.OpenTake (did.Took w) h = absurd cc
known-one did.OpenTake did.FoundNothing h = absurd cc
known-one did.OpenTake did.OpenTake h = refl
known-one did.OpenTake did.Other h = absurd cc
known-one did.Other (did.Put w) h = absurd cc
known-one did.Other (did.Took w) h = absurd cc
known-one did.Other did.FoundNothing h = absurd cc
known-one did.Other did.OpenTake h = absurd cc
known-one did.Other did.Other h = refl

-- an entry's last moment is no later than another's exactly where its call is due no later
due-is : (reading : Reading) (book : List Page) (other mine : TimedCall)
    → IsTimed reading book other.call other → IsTimed reading book mine.call mine
    → other.span.last ≤ mine.span.last → IsDueNoLater book other.call mine.call
due-is reading book other mine it own low r known =
    let last = own.span.answered r known in
    let there = answered-last reading book other it (omega (arith, low, last.1)) in
    (there.0, there.1, omega (arith, there.2, low, last.0))

last-never : (reading : Reading) (book : List Page) (t : TimedCall)
    → IsTimed reading book t.call t → t.span.last ≤ NEVER
last-never reading book t timed = elim (cases_lt t.span.last NEVER) [
  | inl few ↦ omega (arith, few)
  | inr late ↦
      omega (arith, timed.span.unanswered (unanswered-last reading book t timed late))
]

is-due : (reading : Reading) (book : List Page) (other mine : TimedCall)
    → IsTimed reading book other.call other → IsTimed reading book mine.call mine
    → IsDueNoLater book other.call mine.call → other.span.last ≤ mine.span.last
is-due reading book other mine it own due = elim (cases_lt mine.span.last NEVER) [
  | inl few ↦
      let last = answered-last reading book mine own few in
      let there = due last.0 last.1 in
      omega (arith, there.2, last.2, (it.span.answered there.0 there.1).0)
  | inr late ↦ omega (arith, late, last-never reading book other it)
]

module _ (reading : Reading) (book : List Page) (table : Table) (s : PairState)
    (other mine : TimedPair) (is : IsTable reading book table)
    (it : IsNextPair table s other) (own : IsNextPair table s mine) where
  -- A pair of next entries serves for another one exactly where it can replace it.
  pub serves-is : CanReplace other mine → Serves reading book (pair_of other) (pair_of mine)
  serves-is can =
      let put = next-put reading book table s.puts it.put.0 other.put is it.put.2 in
      let take = next-take reading book table s.takes it.take.0 other.take is it.take.2 in
      let own_put = next-put reading book table s.puts own.put.0 mine.put is own.put.2 in
      let own_take = next-take reading book table s.takes own.take.0 mine.take is own.take.2 in
      record {
        puts = λ v puts.
            sym put.timed.deal ∙ (ap known_deal can.put ∙ (own_put.timed.deal ∙ puts));
        takes = sym take.timed.deal ∙ (ap known_deal can.take ∙ own_take.timed.deal);
        put_moment = can.put_moment;
        take_moment = can.take_moment;
        put_due = due-is reading book other.put mine.put put.timed own_put.timed can.put_due;
        take_due = due-is reading book other.take mine.take take.timed own_take.timed can.take_due;
      }

  pub is-serves : Serves reading book (pair_of other) (pair_of mine) → CanReplace other mine
  is-serves serves =
      let put = next-put reading book table s.puts it.put.0 other.put is it.put.2 in
      let take = next-take reading book table s.takes it.take.0 other.take is it.take.2 in
      let own_put = next-put reading book table s.puts own.put.0 mine.put is own.put.2 in
      let own_take = next-take reading book table s.takes own.take.0 mine.take is own.take.2 in
      let puts = serves.puts own_put.is.0 own_put.is.1 in
      record {
        put = known-one other.put.deal mine.put.deal
            (put.timed.deal ∙ (puts ∙ (sym own_put.is.1 ∙ sym own_put.timed.deal)));
        take = known-one other.take.deal mine.take.deal
            (take.timed.deal ∙ (serves.takes ∙ sym own_take.timed.deal));
        put_moment = serves.put_moment;
        take_moment = serves.take_moment;
        put_due = is-due reading book other.put mine.put put.timed own_put.timed serves.put_due;
        take_due = is-due reading book other.take mine.take take.timed own_take.timed
            serves.take_due;
      }

-- ---- good moves

-- once all pairs of a putter are looked at, the good ones of the next one are due
pub good-row : (reading : Reading) (book : List Page) (table : Table) (standings : List Paired)
    (s : PairState) (i j : ℕ) (pairs : List TimedPair) → IsTable reading book table
    → MAX_CALLERS ≤ j → AreGoodTo reading book table standings s i j pairs
    → AreGoodTo reading book table standings s (i + 1) 0 pairs
good-row reading book table standings s i j pairs is wide h = record {
  next = h.next;
  good = h.good;
  all = λ pair below good.
      let callers = move-callers reading book table (paired s) pair is good.0 in
      h.all pair (elim (cases_lt pair.put.caller i) [
        | inl less ↦ inl less
        | inr more ↦
            let same : pair.put.caller ≡ i = elim below [
              | inl less ↦ omega (arith, less, more)
              | inr same ↦ absurd (omega (arith, same.1))
            ] in
            inr (same, omega (arith, callers.1, wide))
      ]) good;
}

-- one more pair, which is good
pub good-more : (reading : Reading) (book : List Page) (table : Table) (standings : List Paired)
    (s : PairState) (i j : ℕ) (pairs : List TimedPair) (t : TimedPair)
    → AreGoodTo reading book table standings s i j pairs → IsNextPair table s t
    → IsOfCallers i j (pair_of t) → IsGood reading book standings s (pair_of t)
    → AreGoodTo reading book table standings s i (j + 1) (pairs ++ t ∷ [])
good-more reading book table standings s i j pairs t h next of good = record {
  next = λ k u at. elim (slice_get-push_cases pairs t k u at) [
    | inl old ↦ h.next k u old
    | inr last ↦ subst (IsNextPair table s) (sym last.1) next
  ];
  good = λ k u at. elim (slice_get-push_cases pairs t k u at) [
    | inl old ↦ h.good k u old
    | inr last ↦
        subst (λ (v : TimedPair). IsGood reading book standings s (pair_of v)) (sym last.1) good
  ];
  all = λ pair below it.
      let old : IsOfBelow i j pair → (k : ℕ) × (u : TimedPair)
      × (slice_get (pairs ++ t ∷ []) k ≡ Some u) × (pair_of u ≡ pair) = λ before.
      let there = h.all pair before it in
      (there.0, there.1, slice_get-push_old pairs t there.0 there.1 there.2, there.3) in
      elim below [
        | inl less ↦ old (inl less)
        | inr same ↦ elim (cases_eq pair.take.caller j) [
          | inl here ↦ (
            length pairs,
            t,
            slice_get-push_last pairs t,
            pair-one reading book (paired s) i j (pair_of t) pair of (same.0, here) good.0 it.0,
          )
          | inr apart ↦ old (inr (same.0, omega (arith, same.1, apart)))
        ]
      ];
}

-- one more pair of callers, whose pair isn't good
pub good-other : (reading : Reading) (book : List Page) (table : Table) (standings : List Paired)
    (s : PairState) (i j : ℕ) (pairs : List TimedPair)
    → AreGoodTo reading book table standings s i j pairs
    → ((pair : Pair) → IsOfCallers i j pair → IsGood reading book standings s pair → ⊥)
    → AreGoodTo reading book table standings s i (j + 1) pairs
good-other reading book table standings s i j pairs h not = record {
  next = h.next;
  good = h.good;
  all = λ pair below it. elim below [
    | inl less ↦ h.all pair (inl less) it
    | inr same ↦ elim (cases_eq pair.take.caller j) [
      | inl here ↦ absurd (not pair (same.0, here) it)
      | inr apart ↦ h.all pair (inr (same.0, omega (arith, same.1, apart))) it
    ]
  ];
}

-- A move by a pair of next entries is served for exactly where a good one can replace it.
pub served-is : (reading : Reading) (book : List Page) (table : Table) (standings : List Paired)
    (s : PairState) (i j : ℕ) (pairs : List TimedPair) (t : TimedPair)
    → IsTable reading book table → AreGoodTo reading book table standings s MAX_CALLERS 0 pairs
    → IsNextPair table s t → IsOfCallers i j (pair_of t)
    → IsPairMove reading book (paired s) (pair_of t)
    → ((k : ℕ) × (other : TimedPair) × (slice_get pairs k ≡ Some other) × CanReplace other t)
    ↔ GoesOn reading book standings (paired s) (Callers i j)
served-is reading book table standings s i j pairs t is h next of move = (
  λ some pair of_pair it.
      let other : TimedPair = some.1 in
      let good = h.good some.0 other some.2 in
      let same : pair_of t ≡ pair =
      pair-one reading book (paired s) i j (pair_of t) pair of of_pair move it in
      let serves = serves-is reading book table s other t is (h.next some.0 other some.2) next
      some.3 in (
        pair_of other,
        good.0,
        subst (Serves reading book (pair_of other)) same serves,
        good.1,
      ),
  λ goes.
      let served = goes (pair_of t) of move in
      let other : Pair = served.0 in
      let callers = move-callers reading book table (paired s) other is served.1 in
      let there = h.all other (inl callers.0) (served.1, served.3) in
      let serves : Serves reading book (pair_of there.1) (pair_of t) =
      subst (λ (p : Pair). Serves reading book p (pair_of t)) (sym there.3) served.2 in (
        there.0,
        there.1,
        there.2,
        is-serves reading book table s there.1 t is (h.next there.0 there.1 there.2) next serves,
      ),
)

-- no move of callers that no book has needs more search
pub goes-past : (reading : Reading) (book : List Page) (table : Table) (standings : List Paired)
    (s : Paired) (i j : ℕ) → IsTable reading book table
    → (MAX_CALLERS ≤ i) ⊎ (MAX_CALLERS ≤ j) → GoesOn reading book standings s (Callers i j)
goes-past reading book table standings s i j is past pair of move =
    let callers = move-callers reading book table s pair is move in
    absurd (elim past [
      | inl putter ↦ omega (arith, putter, callers.0, of.0)
      | inr taker ↦ omega (arith, taker, callers.1, of.1)
    ])

-- moves before one of two callers need no more search
pub goes-before : (reading : Reading) (book : List Page) (standings : List Paired) (s : Paired)
    (i j : ℕ) → GoesOn reading book standings s Finds
    → ((k l : ℕ) → k < i → GoesOn reading book standings s (Callers k l))
    → ((l : ℕ) → l < j → GoesOn reading book standings s (Callers i l))
    → (other : Move) → IsMoveBefore other (Callers i j) → GoesOn reading book standings s other
goes-before reading book standings s i j finds rows row Finds before = finds
goes-before reading book standings s i j finds rows row (Callers k l) before = elim before [
  | inl less ↦ rows k l less
  | inr same ↦ subst (λ (n : ℕ). GoesOn reading book standings s (Callers n l)) (sym same.0)
      (row l same.1)
]

pub all-go : (reading : Reading) (book : List Page) (standings : List Paired) (s : Paired)
    → GoesOn reading book standings s Finds
    → ((k l : ℕ) → GoesOn reading book standings s (Callers k l))
    → (move : Move) → GoesOn reading book standings s move
all-go reading book standings s finds pairs Finds = finds
all-go reading book standings s finds pairs (Callers k l) = pairs k l
