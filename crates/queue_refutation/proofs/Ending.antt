-- Standings that a search entered lead to one another alone.
use Rattle.std.proofs.Common.{◌≡◌, ℕ, ◌<◌, ◌≤◌, ◌⊎◌, ◌∙◌, List, length, max, Some, option_map, refl, sym, ap, subst, inl, inr, slice_get, arith}
use Rattle.std.proofs.lemmas.Option.{slice_get-map, slice_get_within}
use Rattle.list_laws.proofs.Options.{map_some}
use Rattle.book_base.specs.declared.TheConstants.{MAX_CALLERS}
use Rattle.book_base.specs.declared.call.Call.{Call}
use Rattle.book_base.specs.Book.{Page, answers_of, record_of}
use Rattle.book_base.specs.Pruning.{HasOneOpen}
use Rattle.legal_orders.specs.Container.{Reading}
use Rattle.legal_orders.specs.Deals.{deal_of}
use Rattle.queue_pairs.specs.declared.TheConstants.{NEVER}
use Rattle.queue_pairs.specs.declared.next_entries.NextEntries.{NextEntries}
use Rattle.queue_pairs.specs.declared.next_entries.TimedPair.{TimedPair}
use Rattle.queue_pairs.specs.declared.standing.PairState.{PairState}
use Rattle.queue_pairs.specs.declared.table.QueueDeal.TheVariants as did
use Rattle.queue_pairs.specs.declared.table.Table.{Table}
use Rattle.queue_pairs.specs.declared.table.TimedCall.{TimedCall}
use Rattle.queue_pairs.specs.Pairs.{Paired, Pair, MayPair, IsWhole, none_paired}
use Rattle.queue_pairs.specs.Serving.{IsDueNoLater}
use Rattle.queue_pairs.specs.Tables.{known_deal, put_at, take_at, IsTimed, IsTable}
use Rattle.queue_pairs.specs.NextEntries.{paired, pair_of, AreNextEntries, IsNextEntry, IsNextPair, IsPast, CanReplace}
use Rattle.queue_pairs.proofs.Serving.{held_later}
use Rattle.queue_refutation.specs.Closed.{IsOnePaired, PairServesFor, AreClosed, IsClosedAt}
use Rattle.queue_refutation.specs.DeadEnds.{listed, QueueHasNoOrder, Lead, IsOf, IsAny, FindsLeadOn, StandAtOnce, ClosedAt, IsServed}
use Rattle.queue_refutation.proofs.Entries.{next-put, next-take, put-is, took-is, open-is, held-first, answered-last, unanswered-last}
use Rattle.queue_refutation.proofs.Passing.{is-overdue}
use Rattle.queue_refutation.proofs.Refuting.{closed_starts_have_no_order}

-- ---- pairs that serve

-- of two answered calls the one with the later moment is due later
due-no-later : (reading : Reading) (book : List Page) (other mine : TimedCall) (call : Call)
    → IsTimed reading book other.call other → IsTimed reading book mine.call mine
    → call ≡ mine.call → other.span.last ≤ mine.span.last → IsDueNoLater book other.call call
due-no-later reading book other mine call it own same low r known =
    let last = own.span.answered r (ap (record_of book) (sym same) ∙ known) in
    let there = answered-last reading book other it (omega (arith, low, last.1)) in
    (there.0, there.1, omega (arith, there.2, low, last.0))

-- a call that did the same as another one has the same deal
same-deal : (reading : Reading) (book : List Page) (other mine : TimedCall) (call : Call)
    → IsTimed reading book other.call other → IsTimed reading book mine.call mine
    → call ≡ mine.call → other.deal ≡ mine.deal
    → deal_of reading book other.call ≡ deal_of reading book call
same-deal reading book other mine call it own same deal =
    sym it.deal ∙ (ap known_deal deal ∙ (own.deal ∙ ap (deal_of reading book) (sym same)))

-- A next pair that serves for another one serves for the pair of that one's calls, whatever their
-- moments.
pub serves-for : (reading : Reading) (book : List Page) (table : Table) (s : PairState)
    (mine other : TimedPair) (pair : Pair) → IsTable reading book table
    → IsNextPair table s mine → IsNextPair table s other → CanReplace other mine
    → IsOf mine.put.call mine.take.call pair → MayPair reading book (paired s) pair
    → PairServesFor reading book (paired s) (pair_of other) pair
serves-for reading book table s mine other pair is own it serves of may =
    let own_put = next-put reading book table s.puts own.put.0 mine.put is own.put.2 in
    let own_take = next-take reading book table s.takes own.take.0 mine.take is own.take.2 in
    let put = next-put reading book table s.puts it.put.0 other.put is it.put.2 in
    let take = next-take reading book table s.takes it.take.0 other.take is it.take.2 in
    let first_put = held-first reading book mine.put pair.put pair.put_moment own_put.timed of.0
    may.put_effect.first in
    let first_take = held-first reading book mine.take pair.take pair.take_moment own_take.timed
    of.1 may.take_effect.first in
    let put_moment : mine.put_moment ≤ pair.put_moment
    = omega (arith, own.put_moment, may.after_puts, first_put.0) in
    let take_moment : mine.take_moment ≤ pair.take_moment
    = omega (arith, own.take_moment, may.after_takes, put_moment, may.in_turn, first_take.0) in
    record {
      puts = λ v puts. same-deal reading book other.put mine.put pair.put put.timed own_put.timed
          of.0 serves.put ∙ puts;
      takes = same-deal reading book other.take mine.take pair.take take.timed own_take.timed of.1
          serves.take;
      put = put.next;
      take = take.next;
      after_puts = omega (arith, it.put_moment);
      after_takes = omega (arith, it.take_moment);
      in_turn = omega (arith, it.take_moment);
      put_held = held_later book other.put.call other.put.span.first other.put_moment
          (omega (arith, it.put_moment)) (put.timed.span.held it.put_held);
      take_held = held_later book other.take.call other.take.span.first other.take_moment
          (omega (arith, it.take_moment)) (take.timed.span.held it.take_held);
      put_moment = omega (arith, serves.put_moment, put_moment);
      take_moment = omega (arith, serves.take_moment, take_moment);
      put_due = due-no-later reading book other.put mine.put pair.put put.timed own_put.timed of.0
          serves.put_due;
      take_due = due-no-later reading book other.take mine.take pair.take take.timed own_take.timed
          of.1 serves.take_due;
    }

pub serves-itself : (pair : TimedPair) → CanReplace pair pair
serves-itself pair = record {
  put = refl;
  take = refl;
  put_moment = omega arith;
  take_moment = omega arith;
  put_due = omega arith;
  take_due = omega arith;
}

-- the pair of a next put and a next take, at the earliest moments, is a next pair
pub next-pair : (table : Table) (s : PairState) (put take : TimedCall) (pair : TimedPair)
    → IsNextEntry (λ i n. put_at table i n) s.puts put
    → IsNextEntry (λ i n. take_at table i n) s.takes take
    → put.span.first < NEVER → take.span.first < NEVER → pair.put ≡ put → pair.take ≡ take
    → pair.put_moment ≡ max s.put_moment put.span.first
    → pair.take_moment ≡ max (max s.take_moment pair.put_moment) take.span.first
    → IsNextPair table s pair
next-pair table s put take pair put_is take_is put_held take_held same_put same_take put_moment
    take_moment = record {
      put = subst (IsNextEntry (λ i n. put_at table i n) s.puts) (sym same_put) put_is;
      take = subst (IsNextEntry (λ i n. take_at table i n) s.takes) (sym same_take) take_is;
      put_held = subst (λ (t : TimedCall). t.span.first < NEVER) (sym same_put) put_held;
      take_held = subst (λ (t : TimedCall). t.span.first < NEVER) (sym same_take) take_held;
      put_moment =
          put_moment ∙ ap (λ (t : TimedCall). max s.put_moment t.span.first) (sym same_put);
      take_moment = take_moment ∙ ap
          (λ (t : TimedCall). max (max s.take_moment pair.put_moment) t.span.first) (sym same_take);
    }

-- ---- pairs that lead on

-- a pair leads to one of these standings where one that serves for it does
pub lead-served : (table : Table) (standings : List Paired) (s : PairState) (mine : TimedPair)
    → IsNextPair table s mine → IsServed table standings s mine
    → Lead (IsOf mine.put.call mine.take.call) table standings s
lead-served table standings s mine own served reading book pair is of may =
    inl (
      pair_of served.0,
      serves-for reading book table s mine served.0 pair is own served.1 served.2 of may,
      inl served.3,
    )

-- a pair needn't be tried where some call is overdue with it
pub lead-past : (table : Table) (standings : List Paired) (s : PairState)
    (next_entries : NextEntries)
    (mine : TimedPair) → AreNextEntries table s next_entries → IsNextPair table s mine
    → mine.put_moment ≤ NEVER → mine.take_moment ≤ NEVER
    → IsPast next_entries mine.put_moment mine.take_moment
    → Lead (IsOf mine.put.call mine.take.call) table standings s
lead-past table standings s next_entries mine h own few_put few_take past reading book
    pair is of may =
    inl (
      pair_of mine,
      serves-for reading book table s mine mine pair is own own (serves-itself mine) of may,
      inr (is-overdue reading book table s next_entries mine.put_moment mine.take_moment is h
          few_put few_take past),
    )

-- a pair of which neither call is answered needn't be tried
pub lead-idle : (table : Table) (standings : List Paired) (s : PairState) (put take : TimedCall)
    → IsNextEntry (λ i n. put_at table i n) s.puts put
    → IsNextEntry (λ i n. take_at table i n) s.takes take
    → NEVER ≤ put.span.last → NEVER ≤ take.span.last
    → Lead (IsOf put.call take.call) table standings s
lead-idle table standings s put take put_is take_is put_late take_late reading book pair is of may =
    let the_put = next-put reading book table s.puts put_is.0 put is put_is.2 in
    let the_take = next-take reading book table s.takes take_is.0 take is take_is.2 in
    let put_past = unanswered-last reading book put the_put.timed put_late in
    let take_past = unanswered-last reading book take the_take.timed take_late in
    inr (record {
      put = subst (λ (c : Call). answers_of book c.caller ≤ c.number) (sym of.0) put_past;
      take = subst (λ (c : Call). answers_of book c.caller ≤ c.number) (sym of.1) take_past;
    })

-- a pair with a call that no view holds may not come next
pub lead-unheld_put : (table : Table) (standings : List Paired) (s : PairState)
    (put take : TimedCall)
    → IsNextEntry (λ i n. put_at table i n) s.puts put → (put.span.first < NEVER → ⊥)
    → Lead (IsOf put.call take.call) table standings s
lead-unheld_put table standings s put take put_is not reading book pair is of may =
    let the_put = next-put reading book table s.puts put_is.0 put is put_is.2 in
    absurd (not (held-first reading book put pair.put pair.put_moment the_put.timed of.0
    may.put_effect.first).1)

pub lead-unheld_take : (table : Table) (standings : List Paired) (s : PairState)
    (put take : TimedCall)
    → IsNextEntry (λ i n. take_at table i n) s.takes take → (take.span.first < NEVER → ⊥)
    → Lead (IsOf put.call take.call) table standings s
lead-unheld_take table standings s put take take_is not reading book pair is of may =
    let the_take = next-take reading book table s.takes take_is.0 take is take_is.2 in
    absurd (not (held-first reading book take pair.take pair.take_moment the_take.timed of.1
    may.take_effect.first).1)

-- a pair whose take doesn't take out what its put puts in may not come next
pub lead-apart : (table : Table) (standings : List Paired) (s : PairState) (put take : TimedCall)
    → IsNextEntry (λ i n. put_at table i n) s.puts put
    → IsNextEntry (λ i n. take_at table i n) s.takes take
    → ((v : ℕ) → put.deal ≡ did.Put v → (take.deal ≡ did.Took v) ⊎ (take.deal ≡ did.OpenTake) → ⊥)
    → Lead (IsOf put.call take.call) table standings s
lead-apart table standings s put take put_is take_is not reading book pair is of may =
    let the_put = next-put reading book table s.puts put_is.0 put is put_is.2 in
    let the_take = next-take reading book table s.takes take_is.0 take is take_is.2 in
    let v : ℕ = may.value in
    let puts : put.deal ≡ did.Put v
    = put-is put.deal v (the_put.timed.deal ∙ (ap (deal_of reading book) (sym of.0) ∙ may.puts)) in
    let known : known_deal take.deal ≡ deal_of reading book pair.take
    = the_take.timed.deal ∙ ap (deal_of reading book) (sym of.1) in
    let takes : (take.deal ≡ did.Took v) ⊎ (take.deal ≡ did.OpenTake) = elim may.takes [
      | inl took ↦ inl (took-is take.deal v (known ∙ took))
      | inr unseen ↦ inr (open-is take.deal (known ∙ unseen))
    ] in
    absurd (not v puts takes)

-- ---- standings

pub closed-by_all : (table : Table) (standings : List Paired) (s : PairState)
    → length s.puts ≡ MAX_CALLERS → length s.takes ≡ MAX_CALLERS → s.put_moment ≤ s.take_moment
    → ((reading : Reading) (book : List Page) → IsTable reading book table
    → IsWhole reading book (paired s) → ⊥)
    → FindsLeadOn table standings s → Lead IsAny table standings s → ClosedAt table standings s
closed-by_all table standings s puts takes turn unfinished finds pairs reading book is = record {
  wide_puts = omega (arith, puts, is.small.callers);
  wide_takes = omega (arith, takes, is.small.callers);
  leads = inl (record {
    in_turn = turn;
    unfinished = unfinished reading book is;
    pairs = λ pair may. pairs reading book pair is tt may;
    finds = λ m may. finds reading book m is may;
  });
}

pub closed-at_once : (table : Table) (standings : List Paired) (s : PairState)
    → length s.puts ≡ MAX_CALLERS → length s.takes ≡ MAX_CALLERS
    → StandAtOnce table standings s → ClosedAt table standings s
closed-at_once table standings s puts takes at_once reading book is = record {
  wide_puts = omega (arith, puts, is.small.callers);
  wide_takes = omega (arith, takes, is.small.callers);
  leads = inr (at_once reading book is);
}

-- a standing of the code's list is one of the list of standings
pub listed-there : (keys : List PairState) (place : ℕ) (s : PairState)
    → slice_get keys place ≡ Some s
    → IsOnePaired (listed keys) (paired s)
listed-there keys place s at =
    (place, slice_get-map paired keys place ∙ ap (option_map paired) at)

-- a list of standings is closed where each of them leads to the list alone
pub all-closed : (table : Table) (keys : List PairState)
    → ((place : ℕ) → place < length keys → (s : PairState) → slice_get keys place ≡ Some s
    → ClosedAt table (listed keys) s)
    → (reading : Reading) (book : List Page) → IsTable reading book table
    → AreClosed reading book (listed keys)
all-closed table keys each reading book is s one =
    let found =
    map_some (slice_get keys one.0) paired s (sym (slice_get-map paired keys one.0) ∙ one.1) in
    let inside : one.0 < length keys = slice_get_within keys one.0 found.0 found.1 in
    subst (IsClosedAt reading book (listed keys)) found.2
    (each one.0 inside found.0 found.1 reading book is)

-- a closed list with the standing that covers no call refutes the book
pub refuted : (table : Table) (book : List Page) (standings : List Paired)
    → ((reading : Reading) → IsTable reading book table → HasOneOpen book)
    → IsOnePaired standings (none_paired MAX_CALLERS)
    → ((reading : Reading) (book : List Page) → IsTable reading book table
    → AreClosed reading book standings)
    → QueueHasNoOrder table book
refuted table book standings one start closed reading spec is queue empty has =
    closed_starts_have_no_order reading spec book MAX_CALLERS standings queue empty is.valid
    (one reading is) (closed reading book is) start has

-- ---- one open
