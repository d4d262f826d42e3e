-- A book has no pairs where the values put in by a moment and those taken out by another one aren't
-- both prefixes of one list.
use Rattle.std.proofs.Common.{◌≡◌, ℕ, ◌+◌, ◌<◌, ◌≤◌, ◌⊎◌, ◌∙◌, ◌||◌, Bool, true, false, nat_le, cond, List, [], ◌∷◌, length, set, Some, refl, sym, ap, subst, inl, inr, arith}
use Rattle.std.proofs.lemmas.Bool.{cases_Bool, cases_lt, cond-true, eq-eqb, eqb-true, leb-true, le-leb}
use Rattle.std.proofs.lemmas.List.{length-set, length-replicate}
use Rattle.book_base.specs.declared.call.Call.{Call}
use Rattle.book_base.specs.declared.call.Record.{Record}
use Rattle.book_base.specs.Book.{Page, record_of}
use Rattle.book_base.specs.Pruning.{HasOneOpen}
use Rattle.book_base.proofs.PageLemmas.{caller_from_call}
use Rattle.legal_orders.specs.Container.{Reading}
use Rattle.legal_orders.specs.Deals as deals
use Rattle.legal_orders.specs.Deals.{deal_of}
use Rattle.queue_pairs.specs.declared.TheConstants.{NEVER}
use Rattle.queue_pairs.specs.declared.table.QueueDeal.{QueueDeal}
use Rattle.queue_pairs.specs.declared.table.QueueDeal.TheVariants as did
use Rattle.queue_pairs.specs.declared.table.Table.{Table}
use Rattle.queue_pairs.specs.declared.table.TimedCall.{TimedCall}
use Rattle.queue_pairs.specs.Moments.{moment_of}
use Rattle.queue_pairs.specs.Pairs.{Paired, Pair, PairStep, Pairs, FindNothing, IsPut, IsTake, IsNext, MayPair, after, AreSteps, none_paired}
use Rattle.queue_pairs.specs.Tables.{known_deal, is_put, is_take, rows_of, timed_at, IsTimed, IsTable}
use Rattle.queue_pairs.proofs.Walking.{legal_orders_have_pairs}
use Rattle.queue_pairs.specs.declared.counts.Counted.TheVariants as counted
use Rattle.queue_pairs.specs.Counts.{listed, puts_one, shows_one, may_take_one, is_counted, PutsAhead, TakesAhead}
use Rattle.queue_refutation.specs.Counts.{HasNoPairs}
use Rattle.queue_refutation.specs.CountLaws.{TakesFollowPuts}
use Rattle.queue_refutation.specs.DeadEnds.{QueueHasNoOrder}
use Rattle.queue_pairs.proofs.Counting.{bit, left_in, left-start, left-some, outside-past}
use Rattle.queue_refutation.proofs.Entries.{IsRead, timed-is, timed-there, put-is, took-is, open-is, puts-read, takes-read, answered-last}
use Rattle.queue_refutation.proofs.Leading.{pair-puts-due, pair-takes-due}

-- ---- what is counted

-- Once the next call of a kind is covered, the count is less by one where that call passes.
left-next : (reading : Reading) (book : List Page) (table : Table) (only : QueueDeal → Bool)
    (kind : Call → Type 0) (test : TimedCall → Bool) (numbers : List ℕ) (call : Call)
    (t : TimedCall) → IsTable reading book table → IsRead reading book only kind
    → ((u : TimedCall) → test u ≡ true → only u.deal ≡ true) → IsNext kind numbers call
    → timed_at table call.caller call.number ≡ Some t → call.caller < length numbers
    → left_in test table numbers
    ≡ bit (test t) + left_in test table (set numbers call.caller (call.number + 1))
left-next reading book table only kind test numbers call t is read passes next at inside =
    outside-past test numbers call t call.caller 0 (rows_of table) (omega arith) inside next.outside
    at (λ k u low high there. elim (cases_Bool (test u)) [
      | inl passed ↦
          let one : Call = record { caller = call.caller; number = k } in
          let timed : IsTimed reading book one u
          = timed-is reading book table call.caller k u is there in
          let mine : IsTimed reading book u.call u
          = subst (λ (c : Call). IsTimed reading book c u) (sym timed.call) timed in
          absurd (next.first k low high (subst kind timed.call (read.is u mine (passes u passed))))
      | inr failed ↦ failed
    ])

both : (a b : Bool) → cond a b false ≡ true → (a ≡ true) × (b ≡ true)
both true b e = (refl, e)
both false b e = absurd cc

or-false : (b : Bool) → (b || false) ≡ true → b ≡ true
or-false true e = refl
or-false false e = e

listed-one : (v w : ℕ) → listed (v ∷ []) w ≡ true → w ≡ v
listed-one v w e = sym (eqb-true v w (or-false _ e))

is-listed : (v : ℕ) → listed (v ∷ []) v ≡ true
is-listed v = ap (λ (b : Bool). b || false) (eq-eqb v v refl)

put-value : (v : ℕ) (d : QueueDeal) → puts_one (listed (v ∷ [])) d ≡ true → d ≡ did.Put v
put-value v (did.Put w) e = ap did.Put (listed-one v w e)
put-value v (did.Took w) e = absurd cc
put-value v did.FoundNothing e = absurd cc
put-value v did.OpenTake e = absurd cc
put-value v did.Other e = absurd cc

take-value : (v : ℕ) (d : QueueDeal) → shows_one (listed (v ∷ [])) d ≡ true → d ≡ did.Took v
take-value v (did.Put w) e = absurd cc
take-value v (did.Took w) e = ap did.Took (listed-one v w e)
take-value v did.FoundNothing e = absurd cc
take-value v did.OpenTake e = absurd cc
take-value v did.Other e = absurd cc

takes-out : (v : ℕ) (d : QueueDeal) → may_take_one (listed (v ∷ [])) d ≡ true → is_take d ≡ true
takes-out v (did.Put w) e = absurd cc
takes-out v (did.Took w) e = refl
takes-out v did.FoundNothing e = absurd cc
takes-out v did.OpenTake e = refl
takes-out v did.Other e = absurd cc

due-puts-put : (v m : ℕ) (t : TimedCall) → is_counted counted.DuePuts (v ∷ []) m t ≡ true
    → is_put t.deal ≡ true
due-puts-put v m t told = ap is_put (put-value v t.deal (both _ _ told).0)

early-puts-put : (v m : ℕ) (t : TimedCall) → is_counted counted.EarlyPuts (v ∷ []) m t ≡ true
    → is_put t.deal ≡ true
early-puts-put v m t told = ap is_put (put-value v t.deal (both _ _ told).0)

due-takes-take : (v m : ℕ) (t : TimedCall) → is_counted counted.DueTakes (v ∷ []) m t ≡ true
    → is_take t.deal ≡ true
due-takes-take v m t told = ap is_take (take-value v t.deal (both _ _ told).0)

early-takes-take : (v m : ℕ) (t : TimedCall) → is_counted counted.EarlyTakes (v ∷ []) m t ≡ true
    → is_take t.deal ≡ true
early-takes-take v m t told = takes-out v t.deal (both _ _ told).0

-- a put that is due by a moment is an answered one
due-put : (reading : Reading) (book : List Page) (v m : ℕ) (t : TimedCall)
    → IsTimed reading book t.call t → is_counted counted.DuePuts (v ∷ []) m t ≡ true → m < NEVER
    → (r : Record) × IsPut reading book t.call × (record_of book t.call ≡ Some r)
    × (moment_of r ≤ m)
due-put reading book v m t timed told few =
    let parts : (puts_one (listed (v ∷ [])) t.deal ≡ true) × (nat_le t.span.last m ≡ true) =
    both _ _ told in
    let low : t.span.last ≤ m = leb-true t.span.last m parts.1 in
    let there = answered-last reading book t timed (omega (arith, low, few)) in
    let put : deal_of reading book t.call ≡ deals.Put v
    = sym timed.deal ∙ ap known_deal (put-value v t.deal parts.0) in
    (there.0, (v, put), there.1, omega (arith, there.2, low))

due-take : (reading : Reading) (book : List Page) (v n : ℕ) (t : TimedCall)
    → IsTimed reading book t.call t → is_counted counted.DueTakes (v ∷ []) n t ≡ true → n < NEVER
    → (r : Record) × (deal_of reading book t.call ≡ deals.Took v) × (record_of book t.call ≡ Some r)
    × (moment_of r ≤ n)
due-take reading book v n t timed told few =
    let parts : (shows_one (listed (v ∷ [])) t.deal ≡ true) × (nat_le t.span.last n ≡ true) =
    both _ _ told in
    let low : t.span.last ≤ n = leb-true t.span.last n parts.1 in
    let there = answered-last reading book t timed (omega (arith, low, few)) in
    let took : deal_of reading book t.call ≡ deals.Took v
    = sym timed.deal ∙ ap known_deal (take-value v t.deal parts.0) in
    (there.0, took, there.1, omega (arith, there.2, low))

-- a put of a value may take effect by a moment, or only later
early-put : (v m : ℕ) (t : TimedCall) → t.deal ≡ did.Put v
    → (is_counted counted.EarlyPuts (v ∷ []) m t ≡ true) ⊎ (m < t.span.first)
early-put v m t is =
    let put : puts_one (listed (v ∷ [])) t.deal ≡ true =
    ap (puts_one (listed (v ∷ []))) is ∙ is-listed v in
    elim (cases_lt m t.span.first) [
      | inl later ↦ inr later
      | inr low ↦ inl
          (cond-true (puts_one (listed (v ∷ [])) t.deal) _ false put ∙ le-leb t.span.first m low)
    ]

early-take : (v n : ℕ) (t : TimedCall) → (t.deal ≡ did.Took v) ⊎ (t.deal ≡ did.OpenTake)
    → (is_counted counted.EarlyTakes (v ∷ []) n t ≡ true) ⊎ (n < t.span.first)
early-take v n t is =
    let take : may_take_one (listed (v ∷ [])) t.deal ≡ true = elim is [
      | inl took ↦ ap (may_take_one (listed (v ∷ []))) took ∙ is-listed v
      | inr unseen ↦ ap (may_take_one (listed (v ∷ []))) unseen
    ] in
    elim (cases_lt n t.span.first) [
      | inl later ↦ inr later
      | inr low ↦ inl (cond-true (may_take_one (listed (v ∷ [])) t.deal) _ false take
          ∙ le-leb t.span.first n low)
    ]

bit-le : (a b : Bool) → (a ≡ true → b ≡ true) → bit a ≤ bit b
bit-le false b f = omega arith
bit-le true b f = let one : bit b ≡ 1 = ap bit (f refl) in omega (arith, one)

-- ---- the calls of a pair

-- the entries of a pair's calls
record Entered (reading : Reading) (book : List Page) (table : Table) (pair : Pair) : Type 0 where
  value : ℕ
  put : TimedCall
  take : TimedCall
  put_at : timed_at table pair.put.caller pair.put.number ≡ Some put
  take_at : timed_at table pair.take.caller pair.take.number ≡ Some take
  put_timed : IsTimed reading book pair.put put
  take_timed : IsTimed reading book pair.take take
  put_did : put.deal ≡ did.Put value
  take_did : (take.deal ≡ did.Took value) ⊎ (take.deal ≡ did.OpenTake)
  put_inside : pair.put.caller < length book
  take_inside : pair.take.caller < length book

entered : (reading : Reading) (book : List Page) (table : Table) (s : Paired) (pair : Pair)
    → IsTable reading book table → MayPair reading book s pair → Entered reading book table pair
entered reading book table s pair is may =
    let put_call = (puts-read reading book).call pair.put (may.value, may.puts) in
    let take_call = (takes-read reading book).call pair.take (may.value, may.takes) in
    let put = timed-there reading book table pair.put is put_call in
    let take = timed-there reading book table pair.take is take_call in
    let put_timed : IsTimed reading book pair.put put.0
    = timed-is reading book table pair.put.caller pair.put.number put.0 is put.1 in
    let take_timed : IsTimed reading book pair.take take.0
    = timed-is reading book table pair.take.caller pair.take.number take.0 is take.1 in
    record {
      value = may.value;
      put = put.0;
      take = take.0;
      put_at = put.1;
      take_at = take.1;
      put_timed = put_timed;
      take_timed = take_timed;
      put_did = put-is put.0.deal may.value (put_timed.deal ∙ may.puts);
      take_did = elim may.takes [
        | inl took ↦ inl (took-is take.0.deal may.value (take_timed.deal ∙ took))
        | inr unseen ↦ inr (open-is take.0.deal (take_timed.deal ∙ unseen))
      ];
      put_inside = caller_from_call book pair.put.caller pair.put.number put_call;
      take_inside = caller_from_call book pair.take.caller pair.take.number take_call;
    }

-- The calls of a pair aren't counted among the remaining ones after it.
record IsCountedOff (reading : Reading) (book : List Page) (table : Table) (s : Paired)
    (pair : Pair)
    (v u m n : ℕ) (put take : TimedCall) : Type 0 where
  due_puts : left_in (is_counted counted.DuePuts (u ∷ []) m) table s.puts
      ≡ bit (is_counted counted.DuePuts (u ∷ []) m put)
      + left_in (is_counted counted.DuePuts (u ∷ []) m) table (after s (Pairs pair)).puts
  early_puts : left_in (is_counted counted.EarlyPuts (v ∷ []) m) table s.puts
      ≡ bit (is_counted counted.EarlyPuts (v ∷ []) m put)
      + left_in (is_counted counted.EarlyPuts (v ∷ []) m) table (after s (Pairs pair)).puts
  due_takes : left_in (is_counted counted.DueTakes (v ∷ []) n) table s.takes
      ≡ bit (is_counted counted.DueTakes (v ∷ []) n take)
      + left_in (is_counted counted.DueTakes (v ∷ []) n) table (after s (Pairs pair)).takes
  early_takes : left_in (is_counted counted.EarlyTakes (u ∷ []) n) table s.takes
      ≡ bit (is_counted counted.EarlyTakes (u ∷ []) n take)
      + left_in (is_counted counted.EarlyTakes (u ∷ []) n) table (after s (Pairs pair)).takes

counted-off : (reading : Reading) (book : List Page) (table : Table) (s : Paired) (pair : Pair)
    (v u m n : ℕ) → IsTable reading book table → length book ≤ length s.puts
    → length book ≤ length s.takes → MayPair reading book s pair
    → (e : Entered reading book table pair)
    → IsCountedOff reading book table s pair v u m n e.put e.take
counted-off reading book table s pair v u m n is wide_puts wide_takes may e = record {
  due_puts = left-next reading book table is_put (IsPut reading book)
      (is_counted counted.DuePuts (u ∷ []) m) s.puts pair.put e.put is (puts-read reading book)
      (due-puts-put u m) may.put e.put_at (omega (arith, e.put_inside, wide_puts));
  early_puts = left-next reading book table is_put (IsPut reading book)
      (is_counted counted.EarlyPuts (v ∷ []) m) s.puts pair.put e.put is (puts-read reading book)
      (early-puts-put v m) may.put e.put_at (omega (arith, e.put_inside, wide_puts));
  due_takes = left-next reading book table is_take (IsTake reading book)
      (is_counted counted.DueTakes (v ∷ []) n) s.takes pair.take e.take is (takes-read reading book)
      (due-takes-take v n) may.take e.take_at (omega (arith, e.take_inside, wide_takes));
  early_takes = left-next reading book table is_take (IsTake reading book)
      (is_counted counted.EarlyTakes (u ∷ []) n) s.takes pair.take e.take is
      (takes-read reading book)
      (early-takes-take u n) may.take e.take_at (omega (arith, e.take_inside, wide_takes));
}

-- where the put of a pair is counted as due, and its take takes effect by the other moment, the
-- take is counted as early
put-needs : (reading : Reading) (book : List Page) (table : Table) (s : Paired) (pair : Pair)
    (u m n : ℕ) → MayPair reading book s pair → (e : Entered reading book table pair)
    → (n < pair.take_moment → ⊥) → is_counted counted.DuePuts (u ∷ []) m e.put ≡ true
    → is_counted counted.EarlyTakes (u ∷ []) n e.take ≡ true
put-needs reading book table s pair u m n may e late told =
    let is : e.put.deal ≡ did.Put u = put-value u e.put.deal (both _ _ told).0 in
    let given : did.Put e.value ≡ did.Put u = sym e.put_did ∙ is in
    let same : e.value ≡ u = cc in
    let take : (e.take.deal ≡ did.Took u) ⊎ (e.take.deal ≡ did.OpenTake) = elim e.take_did [
      | inl took ↦ inl (took ∙ ap did.Took same)
      | inr unseen ↦ inr unseen
    ] in
    let first = e.take_timed.span.least pair.take_moment may.take_effect.first in
    elim (early-take u n e.take take) [
      | inl early ↦ early
      | inr later ↦ absurd (late (omega (arith, later, first.0)))
    ]

-- where the take of a pair is counted as due, and its put takes effect by the other moment, the put
-- is counted as early
take-needs : (reading : Reading) (book : List Page) (table : Table) (s : Paired) (pair : Pair)
    (v m n : ℕ) → MayPair reading book s pair → (e : Entered reading book table pair)
    → (m < pair.put_moment → e.take.span.last ≤ n → ⊥)
    → is_counted counted.DueTakes (v ∷ []) n e.take ≡ true
    → is_counted counted.EarlyPuts (v ∷ []) m e.put ≡ true
take-needs reading book table s pair v m n may e late told =
    let parts = both _ _ told in
    let is : e.take.deal ≡ did.Took v = take-value v e.take.deal parts.0 in
    let same : e.value ≡ v = elim e.take_did [
      | inl took ↦ (let given : did.Took e.value ≡ did.Took v = sym took ∙ is in cc)
      | inr unseen ↦ (let wrong : did.OpenTake ≡ did.Took v = sym unseen ∙ is in absurd cc)
    ] in
    let first = e.put_timed.span.least pair.put_moment may.put_effect.first in
    elim (early-put v m e.put (e.put_did ∙ ap did.Put same)) [
      | inl early ↦ early
      | inr later ↦ absurd (late (omega (arith, later, first.0))
          (leb-true e.take.span.last n parts.1))
    ]

-- ---- puts and takes

-- no take of a pair takes effect after a moment by which a remaining take is due
take-in-time : (reading : Reading) (book : List Page) (table : Table) (v n : ℕ) (s : Paired)
    (pair : Pair) (steps : List PairStep) → IsTable reading book table → n < NEVER
    → AreSteps reading book s (Pairs pair ∷ steps)
    → 0 < left_in (is_counted counted.DueTakes (v ∷ []) n) table s.takes → n < pair.take_moment → ⊥
take-in-time reading book table v n s pair steps is few are more later =
    let there =
    left-some reading book table (is_counted counted.DueTakes (v ∷ []) n) s.takes is more in
    let due = due-take reading book v n there.0 there.1 there.3 few in
    omega (
      arith,
      later,
      due.3,
      pair-takes-due reading book s pair steps there.0.call v due.0 are due.1 due.2 there.2,
    )

-- no put of a pair takes effect after a moment by which a remaining put is due
put-in-time : (reading : Reading) (book : List Page) (table : Table) (u m : ℕ) (s : Paired)
    (pair : Pair) (steps : List PairStep) → IsTable reading book table → m < NEVER
    → AreSteps reading book s (Pairs pair ∷ steps)
    → 0 < left_in (is_counted counted.DuePuts (u ∷ []) m) table s.puts → m < pair.put_moment → ⊥
put-in-time reading book table u m s pair steps is few are more later =
    let there =
    left-some reading book table (is_counted counted.DuePuts (u ∷ []) m) s.puts is more in
    let due = due-put reading book u m there.0 there.1 there.3 few in
    omega (
      arith,
      later,
      due.3,
      pair-puts-due reading book s pair steps there.0.call due.0 are due.1 due.2 there.2,
    )

-- Where steps lead to a whole standing, the remaining takes of a value aren't ahead while the
-- remaining puts of some value are, nor where the takes' moment is no later than the puts'.
takes-clash : (reading : Reading) (book : List Page) (table : Table) (v u m n : ℕ)
    → IsTable reading book table → m < NEVER → n < NEVER → (s : Paired) (steps : List PairStep)
    → length book ≤ length s.puts → length book ≤ length s.takes → AreSteps reading book s steps
    → left_in (is_counted counted.EarlyPuts (v ∷ []) m) table s.puts
    < left_in (is_counted counted.DueTakes (v ∷ []) n) table s.takes
    → (left_in (is_counted counted.EarlyTakes (u ∷ []) n) table s.takes
    < left_in (is_counted counted.DuePuts (u ∷ []) m) table s.puts) ⊎ (n ≤ m)
    → ⊥
takes-clash reading book table v u m n is few_m few_n s [] wide_puts wide_takes whole takes puts =
    let there = left-some reading book table (is_counted counted.DueTakes (v ∷ []) n) s.takes is
    (omega (arith, takes)) in
    let due = due-take reading book v n there.0 there.1 there.3 few_n in
    omega (arith, there.2, whole.taken there.0.call v due.1)
takes-clash reading book table v u m n is few_m few_n s (Pairs pair ∷ steps) wide_puts wide_takes
    are takes puts =
    let may = are.0 in
    let e = entered reading book table s pair is may in
    let off = counted-off reading book table s pair v u m n is wide_puts wide_takes may e in
    let put_bit : bit (is_counted counted.DuePuts (u ∷ []) m e.put)
    ≤ bit (is_counted counted.EarlyTakes (u ∷ []) n e.take)
    = bit-le _ _ (put-needs reading book table s pair u m n may e
    (take-in-time reading book table v n s pair steps is few_n are (omega (arith, takes)))) in
    let take_bit : bit (is_counted counted.DueTakes (v ∷ []) n e.take)
    ≤ bit (is_counted counted.EarlyPuts (v ∷ []) m e.put)
    = bit-le _ _ (take-needs reading book table s pair v m n may e (λ later due. elim puts [
      | inl ahead ↦ put-in-time reading book table u m s pair steps is few_m are
          (omega (arith, ahead)) later
      | inr low ↦
          let answered = answered-last reading book e.take
          (subst (λ (c : Call). IsTimed reading book c e.take) (sym e.take_timed.call) e.take_timed)
          (omega (arith, due, few_n)) in
          let last : pair.take_moment ≤ moment_of answered.0
          = may.take_effect.last answered.0
          (ap (record_of book) (sym e.take_timed.call) ∙ answered.1) in
          omega (arith, later, due, low, last, answered.2, may.in_turn)
    ])) in
    takes-clash reading book table v u m n is few_m few_n (after s (Pairs pair)) steps
    (omega (arith, wide_puts, length-set s.puts pair.put.caller (pair.put.number + 1)))
    (omega (arith, wide_takes, length-set s.takes pair.take.caller (pair.take.number + 1))) are.1
    (omega (arith, takes, off.early_puts, off.due_takes, take_bit))
    (elim puts [
      | inl ahead ↦ inl (omega (arith, ahead, off.due_puts, off.early_takes, put_bit))
      | inr low ↦ inr low
    ])
takes-clash reading book table v u m n is few_m few_n s (FindNothing g ∷ steps) wide_puts wide_takes
    are takes puts =
    takes-clash reading book table v u m n is few_m few_n (after s (FindNothing g)) steps wide_puts
    wide_takes are.1 takes puts

-- ---- from the start

wide-start : (book : List Page) → length book ≤ length (none_paired (length book)).puts
wide-start book = omega (arith, length-replicate {A = ℕ} (length book) 0)

takes-start : (table : Table) (callers v m n : ℕ) → TakesAhead table (v ∷ []) m n
    → left_in (is_counted counted.EarlyPuts (v ∷ []) m) table (none_paired callers).puts
    < left_in (is_counted counted.DueTakes (v ∷ []) n) table (none_paired callers).takes
takes-start table callers v m n ahead = omega (
  arith,
  ahead,
  left-start (is_counted counted.EarlyPuts (v ∷ []) m) table callers,
  left-start (is_counted counted.DueTakes (v ∷ []) n) table callers,
)

puts-start : (table : Table) (callers u m n : ℕ) → PutsAhead table (u ∷ []) m n
    → left_in (is_counted counted.EarlyTakes (u ∷ []) n) table (none_paired callers).takes
    < left_in (is_counted counted.DuePuts (u ∷ []) m) table (none_paired callers).puts
puts-start table callers u m n ahead = omega (
  arith,
  ahead,
  left-start (is_counted counted.EarlyTakes (u ∷ []) n) table callers,
  left-start (is_counted counted.DuePuts (u ∷ []) m) table callers,
)

pub takes_follow_puts : TakesFollowPuts
takes_follow_puts reading book table v u m n is has few_m few_n takes =
    let start : Paired = none_paired (length book) in
    let wide = wide-start book in
    let ahead = takes-start table (length book) v m n takes in (
      elim (cases_lt m n) [
        | inl low ↦ low
        | inr late ↦
            absurd
            (takes-clash reading book table v u m n is few_m few_n start has.0 wide wide has.1
            ahead (inr late))
      ],
      λ puts. takes-clash reading book table v u m n is few_m few_n start has.0 wide wide has.1
          ahead (inl (puts-start table (length book) u m n puts)),
    )

-- ---- tables

-- where takes are ahead, a table's book has no pairs
pub takes-refute : (table : Table) (v u m n : ℕ) → m < NEVER → n < NEVER
    → TakesAhead table (v ∷ []) m n
    → (n ≤ m) ⊎ PutsAhead table (u ∷ []) m n → HasNoPairs table
takes-refute table v u m n few_m few_n takes puts reading book is has =
    let law = takes_follow_puts reading book table v u m n is has few_m few_n takes in
    elim puts [ inl late ↦ omega (arith, law.0, late) | inr ahead ↦ law.1 ahead ]

-- a book with one open whose table has no pairs has no legal order for a queue
pub unpaired : (table : Table) (book : List Page)
    → ((reading : Reading) → IsTable reading book table → HasOneOpen book) → HasNoPairs table
    → QueueHasNoOrder table book
unpaired table book one none reading spec is queue empty has =
    none reading book is
    (legal_orders_have_pairs reading spec book queue empty is.valid (one reading is) has)
