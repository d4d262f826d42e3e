-- A container's book has no legal order where counts of puts and takes contradict one another.
use Rattle.std.proofs.Common.{◌≡◌, ℕ, suc, ◌+◌, ◌<◌, ◌≤◌, ◌∙◌, Bool, true, false, nat_le, cond, List, [], ◌∷◌, length, replicate, get_or, set, sum, unwrap_or, Option, Some, None, refl, sym, ap, subst, inl, inr, slice_get, arith}
use Rattle.std.proofs.lemmas.Bool.{cases_lt, leb-true, le-leb}
use Rattle.std.proofs.lemmas.List.{length-replicate, length-set}
use Rattle.std.proofs.lemmas.Option.{slice_get_within}
use Rattle.list_laws.proofs.Places.{get_or-replicate_default}
use Rattle.book_base.specs.declared.call.Call.{Call}
use Rattle.book_base.specs.declared.call.Place.{Place}
use Rattle.book_base.specs.declared.call.Record.{Record}
use Rattle.book_base.specs.Cut.{Holds}
use Rattle.book_base.specs.Book.{Page, IsAnswered, operation_of, record_of}
use Rattle.book_base.specs.Order.{call_at, step_at}
use Rattle.book_base.specs.Next.{raised, MayComeNext, MayStandNext, Continues}
use Rattle.legal_orders.proofs.LegalOrder.{same_call, raised_cases, within_cut, continues_from_legal_order}
use Rattle.legal_orders.specs.Container.{Effect, Puts, Takes, Neither, Reading, value_put, value_taken, put_by, taken_by, times, GivesOne, IsContainer}
use Rattle.legal_orders.proofs.Orders.{has_operation}
use Rattle.legal_orders.specs.Deals.{Deal as KnownDeal}
use Rattle.legal_orders.specs.Deals as deals
use Rattle.legal_orders.specs.Deals.{shown_deal, recorded_deal, deal_by_deed, deal_by_operation, deal_of}
use Rattle.legal_orders.proofs.Dealing.{nothing_by_deal}
use Rattle.queue_pairs.specs.declared.TheConstants.{NEVER}
use Rattle.queue_pairs.specs.declared.table.Table.{Table}
use Rattle.queue_pairs.specs.declared.table.TimedCall.{TimedCall}
use Rattle.queue_pairs.specs.Moments.{moment_of, IsHeldBy}
use Rattle.queue_pairs.specs.Tables.{known_deal, rows_of, IsTimed, IsTable}
use Rattle.queue_pairs.proofs.Moments.{held_unless_preceded}
use Rattle.queue_pairs.proofs.Counting.{bit, left_in, outside-past, left-start, left-some}
use Rattle.queue_pairs.proofs.Entries.{timed-is, timed-there, answered-last}
use Rattle.queue_pairs.specs.declared.counts.Counted.TheVariants as counted
use Rattle.queue_pairs.specs.Counts.{listed, puts_one, shows_one, may_take_one, is_counted, PutsAhead, TakesAhead, IsRefuted}
use Rattle.queue_pairs.specs.CountLaws.{TakesFollowPuts, FindsLeaveNothing}
use Rattle.queue_pairs.proofs.Holding.{tally-none, listed-below, Does, amount, shown-put, put-taken, held, held-step}

-- ---- the step of a place does what its call did

shown-does : (o : Option ℕ) → Does (shown_deal o) None o
shown-does None = (refl, refl)
shown-does (Some v) = (refl, refl)

take-does : (reading : Reading) (o : Option Record) (reply : ℕ)
    → ((r : Record) → o ≡ Some r → r.reply ≡ reply)
    → Does (recorded_deal reading o) None (reading.shown reply)
take-does reading None reply known = refl
take-does reading (Some r) reply known =
    subst (λ (n : ℕ). Does (shown_deal (reading.shown r.reply)) None (reading.shown n))
    (known r refl) (shown-does (reading.shown r.reply))

deed-does : (reading : Reading) (book : List Page) (call : Call) (reply : ℕ) (d : Effect)
    → ((r : Record) → record_of book call ≡ Some r → r.reply ≡ reply)
    → Does (deal_by_deed reading book call d) (value_put d) (value_taken d (reading.shown reply))
deed-does reading book call reply (Puts v) known = (refl, refl)
deed-does reading book call reply Takes known = take-does reading (record_of book call) reply known
deed-does reading book call reply Neither known = (refl, refl)

step-does : (reading : Reading) (book : List Page) (next : List ℕ → ℕ → List ℕ × ℕ)
    (cut list : List ℕ) (place : Place) → MayStandNext book next cut list place
    → Does (deal_of reading book (call_at place)) (put_by reading (step_at book place))
    (taken_by reading (step_at book place))
step-does reading book next cut list place may =
    let step : ℕ × ℕ = step_at book place in
    let deal : deal_of reading book (call_at place)
    ≡ deal_by_deed reading book (call_at place) (reading.deed step.0)
    = ap (deal_by_operation reading book (call_at place))
    (has_operation book (call_at place) may.may_come.is_call) in
    subst (λ (d : KnownDeal). Does d (put_by reading step) (taken_by reading step)) (sym deal)
    (deed-does reading book (call_at place) place.reply (reading.deed step.0) may.recorded)

-- ---- one place

-- What is known of a place that may stand next: the entry of its call, what its step puts in and
-- takes out, and how the counts of the remaining calls and the values that are held change with it.
record IsMove (reading : Reading) (book : List Page) (next : List ℕ → ℕ → List ℕ × ℕ)
    (table : Table) (test : ℕ → Bool) (n : ℕ) (cut list : List ℕ) (place : Place) : Type 0 where
  t : TimedCall
  timed : IsTimed reading book (call_at place) t
  does : Does (known_deal t.deal) (put_by reading (step_at book place))
      (taken_by reading (step_at book place))
  left : (count : TimedCall → Bool) → left_in count table cut
      ≡ bit (count t) + left_in count table (raised cut place.caller)
  holds : held test n (reading.values list) + amount test n (put_by reading (step_at book place))
      ≡ amount test n (taken_by reading (step_at book place))
      + held test n (reading.values (next list (step_at book place).0).0)

move : (reading : Reading) (book : List Page) (next : List ℕ → ℕ → List ℕ × ℕ) (table : Table)
    (test : ℕ → Bool) (n : ℕ) (cut list : List ℕ) (place : Place) → IsTable reading book table
    → IsContainer reading next → length book ≤ length cut
    → MayStandNext book next cut list place
    → IsMove reading book next table test n cut list place
move reading book next table test n cut list place is container wide may =
    let call : Call = call_at place in
    let there = timed-there reading book table call is may.may_come.is_call in
    let timed : IsTimed reading book call there.0
    = timed-is reading book table call.caller call.number there.0 is there.1 in
    let at : call.number ≡ get_or cut call.caller 0 = may.may_come.next in
    let inside : call.caller < length cut
    = within_cut book cut call wide may.may_come.is_call in record {
      t = there.0;
      timed = timed;
      does = subst (λ (d : KnownDeal). Does d (put_by reading (step_at book place))
          (taken_by reading (step_at book place))) (sym timed.deal)
          (step-does reading book next cut list place may);
      left = λ count.
          outside-past count cut call there.0 call.caller 0 (rows_of table) (omega arith) inside
          (omega (arith, at)) there.1 (λ k u low high found. absurd (omega (arith, low, high, at)))
          ∙ ap (λ (k : ℕ). bit (count there.0)
          + left_in count table (set cut call.caller (k + 1))) at;
      holds = held-step reading next test n list (step_at book place) container may.reply;
    }

-- A call that may come next is held by the view of each answered call that isn't in the cut.
held-next : (book : List Page) (cut : List ℕ) (one call : Call) (r : Record) (n : ℕ)
    → record_of book one ≡ Some r → moment_of r ≤ n → get_or cut one.caller 0 ≤ one.number
    → MayComeNext book cut call → IsHeldBy book call n
held-next book cut one call r n known low out may =
    let holds : Holds r.view call = held_unless_preceded book one call r known
    (λ before. absurd (omega (arith, out, may.preceded one before))) in
    (one, r, known, holds, low)

-- A conjunction of two booleans is true only where both of them are.
both : (a b : Bool) → cond a b false ≡ true → (a ≡ true) × (b ≡ true)
both true b e = (refl, e)
both false b e = absurd cc

bit-first : (a b : Bool) → bit (cond a b false) ≤ bit a
bit-first true true = omega arith
bit-first true false = omega arith
bit-first false b = omega arith

bit-both : (a b : Bool) → b ≡ true → bit (cond a b false) ≡ bit a
bit-both true b e = ap bit e
bit-both false b e = refl

-- Where the last moment of an entry is no later than m, and m is before `NEVER`, its call is
-- answered, and the moment of its own view is no later than m.
due : (reading : Reading) (book : List Page) (t : TimedCall) (m : ℕ)
    → IsTimed reading book t.call t → nat_le t.span.last m ≡ true → m < NEVER
    → (r : Record) × (record_of book t.call ≡ Some r) × (moment_of r ≤ m)
due reading book t m timed told few =
    let low : t.span.last ≤ m = leb-true t.span.last m told in
    let there = answered-last reading book t timed (omega (arith, low, few)) in
    (there.0, there.1, omega (arith, there.2, low))

-- The first moment of an entry is no later than each moment by which some view holds its call.
early : (reading : Reading) (book : List Page) (call : Call) (t : TimedCall) (m : ℕ)
    → IsTimed reading book call t → IsHeldBy book call m → nat_le t.span.first m ≡ true
early reading book call t m timed held = le-leb t.span.first m (timed.span.least m held).0

wider : (book : List Page) (cut : List ℕ) (i : ℕ) → length book ≤ length cut
    → length book ≤ length (raised cut i)
wider book cut i wide = omega (arith, wide, length-set cut i (get_or cut i 0 + 1))

-- ---- takes follow puts

-- Where places continue an order, the takes of some values outside the cut that have taken effect
-- by a moment are at most as many as the puts of them outside it that may have taken effect by
-- then, together with those of the values that are held.
takes-behind : (reading : Reading) (book : List Page) (next : List ℕ → ℕ → List ℕ × ℕ)
    (table : Table) (values : List ℕ) (m : ℕ) → IsTable reading book table
    → IsContainer reading next → m < NEVER → (cut list : List ℕ) (rest : List Place)
    → length book ≤ length cut → Continues book next cut list rest
    → left_in (is_counted counted.DueTakes values m) table cut
    ≤ left_in (is_counted counted.EarlyPuts values m) table cut
    + held (listed values) (suc (sum values)) (reading.values list)
takes-behind reading book next table values m is container few cut list [] wide goes =
    elim (cases_lt 0 (left_in (is_counted counted.DueTakes values m) table cut)) [
      | inr none ↦ omega (arith, none)
      | inl some ↦
          let found =
          left-some reading book table (is_counted counted.DueTakes values m) cut is some in
          let its : (r : Record) × (record_of book found.0.call ≡ Some r) × (moment_of r ≤ m) =
          due reading book found.0 m found.1 (both _ _ found.3).1 few in
          let answered : IsAnswered book found.0.call
          = slice_get_within _ found.0.call.number its.0 its.1 in
          absurd (omega (arith, found.2, goes found.0.call answered))
    ]
takes-behind reading book next table values m is container few cut list (place ∷ rest) wide goes =
    elim (cases_lt 0 (left_in (is_counted counted.DueTakes values m) table cut)) [
      | inr none ↦ omega (arith, none)
      | inl some ↦
          let found =
          left-some reading book table (is_counted counted.DueTakes values m) cut is some in
          let its = due reading book found.0 m found.1 (both _ _ found.3).1 few in
          let test : ℕ → Bool = listed values in
          let is_move = move reading book next table test (suc (sum values)) cut list place is
          container wide goes.0 in
          let t : TimedCall = is_move.t in
          let is_early : nat_le t.span.first m ≡ true = early reading book (call_at place) t m
          is_move.timed
          (held-next book cut found.0.call (call_at place) its.0 m its.1 its.2 found.2
          goes.0.may_come) in
          omega (
            arith,
            is_move.left (is_counted counted.DueTakes values m),
            is_move.left (is_counted counted.EarlyPuts values m),
            is_move.holds,
            bit-first (shows_one test t.deal) (nat_le t.span.last m),
            bit-both (puts_one test t.deal) (nat_le t.span.first m) is_early,
            shown-put test (suc (sum values)) t.deal _ _ (listed-below values) is_move.does,
            takes-behind reading book next table values m is container few
                (raised cut place.caller) _ rest (wider book cut place.caller wide) goes.1,
          )
    ]

-- ---- finds leave nothing

-- Where a take that finds nothing may stand next, no value that passes is held.
nothing-held : (reading : Reading) (book : List Page) (next : List ℕ → ℕ → List ℕ × ℕ)
    (cut list : List ℕ) (place : Place) (find : Call) (test : ℕ → Bool) (n : ℕ)
    → IsContainer reading next → MayStandNext book next cut list place → call_at place ≡ find
    → deal_of reading book find ≡ deals.FoundNothing → held test n (reading.values list) ≡ 0
nothing-held reading book next cut list place find test n container may same found =
    let finds = nothing_by_deal reading book find found in
    let word : (step_at book place).0 ≡ finds.0
    = ap (λ (c : Call). unwrap_or (operation_of book c) 0) same
    ∙ ap (λ (o : Option ℕ). unwrap_or o 0) finds.2 in
    let reply : finds.1.reply ≡ place.reply
    = may.recorded finds.1 (ap (record_of book) same ∙ finds.3) in
    let shown : reading.shown (next list (step_at book place).0).1 ≡ None
    = ap reading.shown (may.reply ∙ sym reply) ∙ finds.5 in
    let gives = subst (λ (o : Option ℕ). GivesOne (reading.values list) o
    (reading.values (next list (step_at book place).0).0)) shown
    (container.take list (step_at book place).0 (ap reading.deed word ∙ finds.4)) in
    tally-none test (λ w. times w (reading.values list)) n (λ w low. ap (times w) gives.0)

-- Where a call may come next that no view up to a moment holds, the cut holds all puts that have
-- taken effect by this moment.
no-due : (reading : Reading) (book : List Page) (table : Table) (values : List ℕ) (m : ℕ)
    (cut : List ℕ) (call : Call) → IsTable reading book table → m < NEVER
    → MayComeNext book cut call → (IsHeldBy book call m → ⊥)
    → left_in (is_counted counted.DuePuts values m) table cut ≡ 0
no-due reading book table values m cut call is few may before =
    elim (cases_lt 0 (left_in (is_counted counted.DuePuts values m) table cut)) [
      | inr none ↦ omega (arith, none)
      | inl some ↦
          let found =
          left-some reading book table (is_counted counted.DuePuts values m) cut is some in
          let its = due reading book found.0 m found.1 (both _ _ found.3).1 few in
          absurd (before
          (held-next book cut found.0.call call its.0 m its.1 its.2 found.2 may))
    ]

-- Where places continue an order, and a take that finds nothing isn't in the cut, the puts of some
-- values outside the cut that have taken effect by a moment up to which no view holds this take,
-- together with those of the values that are held, are at most as many as the takes outside it that
-- may have taken effect by the moment of its own view, or by a later one.
finds-behind : (reading : Reading) (book : List Page) (next : List ℕ → ℕ → List ℕ × ℕ)
    (table : Table) (find : Call) (r : Record) (values : List ℕ) (m n : ℕ)
    → IsTable reading book table → IsContainer reading next
    → deal_of reading book find ≡ deals.FoundNothing → record_of book find ≡ Some r
    → (IsHeldBy book find m → ⊥) → moment_of r ≤ n → m < NEVER
    → (cut list : List ℕ) (rest : List Place)
    → length book ≤ length cut → get_or cut find.caller 0 ≤ find.number
    → Continues book next cut list rest
    → left_in (is_counted counted.DuePuts values m) table cut
    + held (listed values) (suc (sum values)) (reading.values list)
    ≤ left_in (is_counted counted.EarlyTakes values n) table cut
finds-behind reading book next table find r values m n is container found known before low few
    cut list [] wide out goes =
    absurd (omega (arith, out, goes find (slice_get_within _ find.number r known)))
finds-behind reading book next table find r values m n is container found known before low few
    cut list (place ∷ rest) wide out goes =
    let test : ℕ → Bool = listed values in
    let top : ℕ = suc (sum values) in
    let is_move = move reading book next table test top cut list place is container wide goes.0 in
    let t : TimedCall = is_move.t in
    elim (cases_lt find.number (get_or (raised cut place.caller) find.caller 0)) [
      | inl passed ↦ elim (raised_cases cut place.caller find
          (within_cut book cut (call_at place) wide goes.0.may_come.is_call) passed) [
            | inl inside ↦ absurd (omega (arith, out, inside))
            | inr here ↦
                let same : call_at place ≡ find = same_call (call_at place) find (sym here.0)
                (goes.0.may_come.next ∙ sym here.1) in
                omega (
                  arith,
                  nothing-held reading book next cut list place find test top container goes.0 same
                      found,
                  no-due reading book table values m cut (call_at place) is few goes.0.may_come
                      (λ held. before (subst (λ (c : Call). IsHeldBy book c m) same held)),
                )
          ]
      | inr outside ↦
          let is_early : nat_le t.span.first n ≡ true = early reading book (call_at place) t n
          is_move.timed
          (held-next book cut find (call_at place) r n known low out goes.0.may_come) in
          omega (
            arith,
            is_move.left (is_counted counted.DuePuts values m),
            is_move.left (is_counted counted.EarlyTakes values n),
            is_move.holds,
            bit-first (puts_one test t.deal) (nat_le t.span.last m),
            bit-both (may_take_one test t.deal) (nat_le t.span.first n) is_early,
            put-taken test top t.deal _ _ (listed-below values) is_move.does,
            finds-behind reading book next table find r values m n is container found known before
                low few (raised cut place.caller) _ rest (wider book cut place.caller wide) outside
                goes.1,
          )
    ]

-- ---- from the start

abbrev start : List Page → List ℕ
start book = replicate (length book) 0

wide-start : (book : List Page) → length book ≤ length (start book)
wide-start book = let size : length (start book) ≡ length book =
    length-replicate {A = ℕ} (length book) 0 in omega (arith, size)

none-held : (reading : Reading) (init : List ℕ) (test : ℕ → Bool) (n : ℕ)
    → reading.values init ≡ []
    → held test n (reading.values init) ≡ 0
none-held reading init test n empty =
    tally-none test (λ w. times w (reading.values init)) n (λ w low. ap (times w) empty)

-- Where more takes of some values have taken effect by a moment than puts of them may have by then,
-- no container that begins empty has a legal order of a book with this table.
pub takes_follow_puts : TakesFollowPuts
takes_follow_puts reading book table values m few ahead spec is container empty has =
    let wide : length book ≤ length (start book) = wide-start book in
    omega (
      arith,
      ahead,
      left-start (is_counted counted.DueTakes values m) table (length book),
      left-start (is_counted counted.EarlyPuts values m) table (length book),
      none-held reading spec.init (listed values) (suc (sum values)) empty,
      takes-behind reading book spec.next table values m is container few
          (start book) spec.init has.0 wide
          (continues_from_legal_order book spec (start book) has.0 wide
          (λ i. get_or-replicate_default (length book) i 0) has.1),
    )

-- Where a take finds nothing and no view up to a moment holds it, and by that moment more puts of
-- some values have taken effect than takes may have taken out by the moment of the take's own view,
-- or by a later one, no container that begins empty has a legal order of a book with this table.
pub finds_leave_nothing : FindsLeaveNothing
finds_leave_nothing reading book table find r values m n found known before low few ahead spec is
    container empty has =
    let wide : length book ≤ length (start book) = wide-start book in
    omega (
      arith,
      ahead,
      left-start (is_counted counted.DuePuts values m) table (length book),
      left-start (is_counted counted.EarlyTakes values n) table (length book),
      none-held reading spec.init (listed values) (suc (sum values)) empty,
      finds-behind reading book spec.next table find r values m n is container found
          known before low
          few (start book) spec.init has.0 wide
          (omega (arith, get_or-replicate_default {X = ℕ} (length book) find.caller 0))
          (continues_from_legal_order book spec (start book) has.0 wide
          (λ i. get_or-replicate_default (length book) i 0) has.1),
    )

-- ---- tables

-- A table is refuted where more takes of some values have taken effect by a moment than puts of
-- them may have by then.
pub takes-refute : (table : Table) (values : List ℕ) (m : ℕ) → m < NEVER
    → TakesAhead table values m m → IsRefuted table
takes-refute table values m few ahead reading book =
    takes_follow_puts reading book table values m few ahead

-- A table is refuted where a take finds nothing, and by a moment before the first view that holds
-- it more puts of some values have taken effect than takes may have taken out by its own view.
pub find-refutes : (table : Table) (place m : ℕ) (values : List ℕ) (t : TimedCall)
    → slice_get table.finds.items place ≡ Some t → m < t.span.first → t.span.last < NEVER
    → m < NEVER → PutsAhead table values m t.span.last → IsRefuted table
find-refutes table place m values t at before few_t few ahead reading book spec is container
    empty has =
    let right = is.finds.right place t at in
    let there = answered-last reading book t right.0 few_t in
    finds_leave_nothing reading book table t.call there.0 values m t.span.last right.1 there.1
    (λ held. omega (arith, before, (right.0.span.least m held).0)) (omega (arith, there.2)) few
    ahead spec is container empty has
