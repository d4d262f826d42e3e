-- What the entries of a table say of the calls of its book.
use Rattle.std.proofs.Common.{◌≡◌, ℕ, ◌<◌, ◌≤◌, ◌⊎◌, ◌∙◌, Bool, true, List, get_or, Option, Some, None, refl, sym, ap, subst, inl, inr, arith}
use Rattle.std.proofs.lemmas.Bool.{cases_lt, cond-true}
use Rattle.std.proofs.lemmas.Option.{none-some, cond_some}
use Rattle.book_base.specs.declared.TheConstants.{MAX_CALLERS}
use Rattle.book_base.specs.declared.call.Call.{Call}
use Rattle.book_base.specs.Book.{Page, answers_of, IsCall}
use Rattle.book_base.proofs.PageLemmas.{caller_from_call}
use Rattle.book_base.proofs.ViewLemmas.{answer_stands}
use Rattle.legal_orders.specs.Container.{Reading}
use Rattle.legal_orders.specs.Deals as deals
use Rattle.legal_orders.proofs.Dealing.{call_by_deal}
use Rattle.queue_pairs.specs.declared.TheConstants.{NEVER}
use Rattle.queue_pairs.specs.declared.standing.PairState.{PairState}
use Rattle.queue_pairs.specs.declared.table.QueueDeal.{QueueDeal}
use Rattle.queue_pairs.specs.declared.table.QueueDeal.TheVariants as did
use Rattle.queue_pairs.specs.declared.table.Table.{Table}
use Rattle.queue_pairs.specs.declared.table.TimedCall.{TimedCall}
use Rattle.queue_pairs.specs.Moments.{IsHeldBy}
use Rattle.queue_pairs.specs.Pairs.{Pair, IsPut, IsTake, IsNext, MayPair}
use Rattle.queue_pairs.specs.Tables.{known_deal, is_put, is_take, only_by, timed_at, put_at, take_at, IsTimed, IsTable, IsFirstFrom}
use Rattle.queue_pairs.specs.NextEntries.{paired, IsNextEntry}
use Rattle.queue_pairs.proofs.Serving.{next-same}
pub use Rattle.queue_pairs.proofs.Entries.{timed-is, timed-there, answered-last}

-- ---- what an entry's deal says

only-some : (test : QueueDeal → Bool) (o : Option TimedCall) (t : TimedCall)
    → only_by test o ≡ Some t
    → (o ≡ Some t) × (test t.deal ≡ true)
only-some test None t e = absurd (none-some t e)
only-some test (Some u) t e =
    let parts = cond_some (test u.deal) u t e in
    (ap Some parts.1, subst (λ (v : TimedCall). test v.deal ≡ true) parts.1 parts.0)

only-none : (test : QueueDeal → Bool) (t : TimedCall) → only_by test (Some t) ≡ None
    → test t.deal ≡ true → ⊥
only-none test t e told = none-some t (sym e ∙ cond-true (test t.deal) (Some t) None told)

is-put : (d : QueueDeal) → is_put d ≡ true → (v : ℕ) × (d ≡ did.Put v)
is-put (did.Put v) e = (v, refl)
is-put (did.Took v) e = absurd cc
is-put did.FoundNothing e = absurd cc
is-put did.OpenTake e = absurd cc
is-put did.Other e = absurd cc

pub put-is : (d : QueueDeal) (v : ℕ) → known_deal d ≡ deals.Put v → d ≡ did.Put v
put-is (did.Put w) v e = let same : w ≡ v = cc in ap did.Put same
put-is (did.Took w) v e = absurd cc
put-is did.FoundNothing v e = absurd cc
put-is did.OpenTake v e = absurd cc
put-is did.Other v e = absurd cc

pub took-is : (d : QueueDeal) (v : ℕ) → known_deal d ≡ deals.Took v → d ≡ did.Took v
took-is (did.Put w) v e = absurd cc
took-is (did.Took w) v e = let same : w ≡ v = cc in ap did.Took same
took-is did.FoundNothing v e = absurd cc
took-is did.OpenTake v e = absurd cc
took-is did.Other v e = absurd cc

pub open-is : (d : QueueDeal) → known_deal d ≡ deals.OpenTake → d ≡ did.OpenTake
open-is (did.Put w) e = absurd cc
open-is (did.Took w) e = absurd cc
open-is did.FoundNothing e = absurd cc
open-is did.OpenTake e = refl
open-is did.Other e = absurd cc

is-take : (d : QueueDeal) → is_take d ≡ true
    → (v : ℕ) × ((known_deal d ≡ deals.Took v) ⊎ (known_deal d ≡ deals.OpenTake))
is-take (did.Put v) e = absurd cc
is-take (did.Took v) e = (v, inl refl)
is-take did.FoundNothing e = absurd cc
is-take did.OpenTake e = (0, inr refl)
is-take did.Other e = absurd cc

take-is : (d : QueueDeal) (v : ℕ) → (known_deal d ≡ deals.Took v) ⊎ (known_deal d ≡ deals.OpenTake)
    → is_take d ≡ true
take-is d v e = elim e [
  | inl took ↦ ap is_take (took-is d v took)
  | inr unseen ↦ ap is_take (open-is d unseen)
]

-- The entries whose deals pass a test are those of the calls of a kind.
pub record IsRead (reading : Reading) (book : List Page) (test : QueueDeal → Bool)
    (kind : Call → Type 0)
    : Type 0 where
  pub passes : (t : TimedCall) → IsTimed reading book t.call t → kind t.call → test t.deal ≡ true
  pub is : (t : TimedCall) → IsTimed reading book t.call t → test t.deal ≡ true → kind t.call
  pub call : (call : Call) → kind call → IsCall book call

pub puts-read : (reading : Reading) (book : List Page)
    → IsRead reading book is_put (IsPut reading book)
puts-read reading book = record {
  passes = λ t timed put. ap is_put (put-is t.deal put.0 (timed.deal ∙ put.1));
  is = λ t timed told. let d = is-put t.deal told in (d.0, sym timed.deal ∙ ap known_deal d.1);
  call = λ call put. call_by_deal reading book call
      (λ other. let wrong : deals.Put put.0 ≡ deals.Other = sym put.1 ∙ other in cc);
}

pub takes-read : (reading : Reading) (book : List Page)
    → IsRead reading book is_take (IsTake reading book)
takes-read reading book = record {
  passes = λ t timed take. take-is t.deal take.0 (elim take.1 [
    | inl took ↦ inl (timed.deal ∙ took)
    | inr unseen ↦ inr (timed.deal ∙ unseen)
  ]);
  is = λ t timed told.
      let d = is-take t.deal told in (
        d.0,
        elim d.1 [
          | inl took ↦ inl (sym timed.deal ∙ took)
          | inr unseen ↦ inr (sym timed.deal ∙ unseen)
        ],
      );
  call = λ call take. call_by_deal reading book call (λ other. elim take.1 [
    | inl took ↦ (let wrong : deals.Took take.0 ≡ deals.Other = sym took ∙ other in cc)
    | inr unseen ↦ (let wrong : deals.OpenTake ≡ deals.Other = sym unseen ∙ other in cc)
  ]);
}

-- ---- next calls

-- An entry is that of the next call of a kind of its caller.
pub record IsNextCall (reading : Reading) (book : List Page) (kind : Call → Type 0)
    (numbers : List ℕ) (i : ℕ) (t : TimedCall) : Type 0 where
  pub caller : t.call.caller ≡ i
  pub timed : IsTimed reading book t.call t
  pub is : kind t.call
  pub next : IsNext kind numbers t.call

-- the entry of a call of a kind passes the test
entry-passes : (reading : Reading) (book : List Page) (table : Table) (test : QueueDeal → Bool)
    (kind : Call → Type 0) (call : Call) → IsTable reading book table
    → IsRead reading book test kind → kind call
    → (t : TimedCall) × (timed_at table call.caller call.number ≡ Some t) × (test t.deal ≡ true)
entry-passes reading book table test kind call is read there =
    let entry = timed-there reading book table call is (read.call call there) in
    let at : IsTimed reading book call entry.0
    = timed-is reading book table call.caller call.number entry.0 is entry.1 in
    let mine : IsTimed reading book entry.0.call entry.0
    = subst (λ (c : Call). IsTimed reading book c entry.0) (sym at.call) at in
    (entry.0, entry.1, read.passes entry.0 mine (subst kind (sym at.call) there))

pub next-is : (reading : Reading) (book : List Page) (table : Table) (test : QueueDeal → Bool)
    (kind : Call → Type 0) (numbers : List ℕ) (i : ℕ) (t : TimedCall)
    → IsTable reading book table → IsRead reading book test kind
    → IsFirstFrom (λ n. only_by test (timed_at table i n)) (get_or numbers i 0) (Some t)
    → IsNextCall reading book kind numbers i t
next-is reading book table test kind numbers i t is read found =
    let n : ℕ = found.0 in
    let parts = only-some test (timed_at table i n) t found.2 in
    let timed : IsTimed reading book (record { caller = i; number = n }) t
    = timed-is reading book table i n t is parts.0 in
    let mine : IsTimed reading book t.call t
    = subst (λ (c : Call). IsTimed reading book c t) (sym timed.call) timed in
    let next : IsNext kind numbers (record { caller = i; number = n }) = record {
      outside = found.1;
      first = λ k low high there.
          let entry = entry-passes reading book table test kind (record { caller = i; number = k })
          is read there in
          only-none test entry.0 (ap (only_by test) (sym entry.1) ∙ found.3 k low high) entry.2;
    } in
    record {
      caller = ap (λ (c : Call). c.caller) timed.call;
      timed = mine;
      is = read.is t mine parts.1;
      next = subst (IsNext kind numbers) (sym timed.call) next;
    }

pub none-is : (reading : Reading) (book : List Page) (table : Table) (test : QueueDeal → Bool)
    (kind : Call → Type 0) (i from : ℕ) (call : Call)
    → IsTable reading book table → IsRead reading book test kind
    → IsFirstFrom (λ n. only_by test (timed_at table i n)) from None
    → kind call → call.caller ≡ i → from ≤ call.number → ⊥
none-is reading book table test kind i from call is read none there mine out =
    let entry = entry-passes reading book table test kind call is read there in
    let here : timed_at table i call.number ≡ Some entry.0
    = ap (λ (j : ℕ). timed_at table j call.number) (sym mine) ∙ entry.1 in
    only-none test entry.0 (ap (only_by test) (sym here) ∙ none call.number out) entry.2

pub next-put : (reading : Reading) (book : List Page) (table : Table) (numbers : List ℕ) (i : ℕ)
    (t : TimedCall) → IsTable reading book table
    → IsFirstFrom (λ n. put_at table i n) (get_or numbers i 0) (Some t)
    → IsNextCall reading book (IsPut reading book) numbers i t
next-put reading book table numbers i t is found =
    next-is reading book table is_put (IsPut reading book) numbers i t is
    (puts-read reading book) found

pub next-take : (reading : Reading) (book : List Page) (table : Table) (numbers : List ℕ) (i : ℕ)
    (t : TimedCall) → IsTable reading book table
    → IsFirstFrom (λ n. take_at table i n) (get_or numbers i 0) (Some t)
    → IsNextCall reading book (IsTake reading book) numbers i t
next-take reading book table numbers i t is found =
    next-is reading book table is_take (IsTake reading book) numbers i t is
    (takes-read reading book) found

-- the entry that is found for a caller is one of a next call
pub entry-some : (at : ℕ → ℕ → Option TimedCall) (numbers : List ℕ) (i : ℕ) (o : Option TimedCall)
    (t : TimedCall) → i < MAX_CALLERS → IsFirstFrom (λ n. at i n) (get_or numbers i 0) o
    → o ≡ Some t → IsNextEntry at numbers t
entry-some at numbers i o t lt found e =
    (i, lt, subst (IsFirstFrom (λ n. at i n) (get_or numbers i 0)) e found)

-- ---- the calls of a pair that may stand next

pub put-named : (reading : Reading) (book : List Page) (table : Table) (s : PairState) (i : ℕ)
    (o : Option TimedCall) (t : TimedCall) (pair : Pair) → IsTable reading book table
    → IsFirstFrom (λ n. put_at table i n) (get_or s.puts i 0) o → o ≡ Some t
    → pair.put.caller ≡ i → MayPair reading book (paired s) pair → pair.put ≡ t.call
put-named reading book table s i o t pair is found e mine may =
    let next = next-put reading book table s.puts i t is
    (subst (IsFirstFrom (λ n. put_at table i n) (get_or s.puts i 0)) e found) in
    next-same (IsPut reading book) s.puts t.call pair.put next.next may.put next.is
    (may.value, may.puts) (mine ∙ sym next.caller)

pub take-named : (reading : Reading) (book : List Page) (table : Table) (s : PairState) (i : ℕ)
    (o : Option TimedCall) (t : TimedCall) (pair : Pair) → IsTable reading book table
    → IsFirstFrom (λ n. take_at table i n) (get_or s.takes i 0) o → o ≡ Some t
    → pair.take.caller ≡ i → MayPair reading book (paired s) pair → pair.take ≡ t.call
take-named reading book table s i o t pair is found e mine may =
    let next = next-take reading book table s.takes i t is
    (subst (IsFirstFrom (λ n. take_at table i n) (get_or s.takes i 0)) e found) in
    next-same (IsTake reading book) s.takes t.call pair.take next.next may.take next.is
    (may.value, may.takes) (mine ∙ sym next.caller)

pub put-none : (reading : Reading) (book : List Page) (table : Table) (s : PairState) (i : ℕ)
    (o : Option TimedCall) (pair : Pair) → IsTable reading book table
    → IsFirstFrom (λ n. put_at table i n) (get_or s.puts i 0) o → o ≡ None
    → pair.put.caller ≡ i → MayPair reading book (paired s) pair → ⊥
put-none reading book table s i o pair is found e mine may =
    none-is reading book table is_put (IsPut reading book) i (get_or s.puts i 0) pair.put is
    (puts-read reading book)
    (subst (IsFirstFrom (λ n. put_at table i n) (get_or s.puts i 0)) e found)
    (may.value, may.puts) mine
    (omega (arith, may.put.outside, ap (λ (j : ℕ). get_or s.puts j 0) mine))

pub take-none : (reading : Reading) (book : List Page) (table : Table) (s : PairState) (i : ℕ)
    (o : Option TimedCall) (pair : Pair) → IsTable reading book table
    → IsFirstFrom (λ n. take_at table i n) (get_or s.takes i 0) o → o ≡ None
    → pair.take.caller ≡ i → MayPair reading book (paired s) pair → ⊥
take-none reading book table s i o pair is found e mine may =
    none-is reading book table is_take (IsTake reading book) i (get_or s.takes i 0) pair.take is
    (takes-read reading book)
    (subst (IsFirstFrom (λ n. take_at table i n) (get_or s.takes i 0)) e found)
    (may.value, may.takes) mine
    (omega (arith, may.take.outside, ap (λ (j : ℕ). get_or s.takes j 0) mine))

-- a call of a kind is one of the callers that a standing has
pub few-callers : (reading : Reading) (book : List Page) (table : Table) (call : Call)
    → IsTable reading book table → IsCall book call → call.caller < MAX_CALLERS
few-callers reading book table call is there =
    omega (arith, caller_from_call book call.caller call.number there, is.small.callers)

-- ---- spans

-- the first moment of a call is no later than a moment at which a view holds the call
pub held-first : (reading : Reading) (book : List Page) (t : TimedCall) (call : Call) (m : ℕ)
    → IsTimed reading book t.call t → call ≡ t.call → IsHeldBy book call m
    → (t.span.first ≤ m) × (t.span.first < NEVER)
held-first reading book t call m timed same held =
    timed.span.least m (subst (λ (c : Call). IsHeldBy book c m) same held)

-- a call whose last moment is NEVER isn't answered
pub unanswered-last : (reading : Reading) (book : List Page) (t : TimedCall)
    → IsTimed reading book t.call t → NEVER ≤ t.span.last
    → answers_of book t.call.caller ≤ t.call.number
unanswered-last reading book t timed late =
    elim (cases_lt t.call.number (answers_of book t.call.caller)) [
      | inl answered ↦
          let there = answer_stands book t.call answered in
          absurd (omega (arith, late, (timed.span.answered there.0 there.1).1))
      | inr past ↦ past
    ]
