-- Where places continue an order, some that begin with a call that puts nothing in, with the forced
-- call, or with the put of what the next call takes do too: all other puts may come later.
use Rattle.std.proofs.Common.{◌≡◌, ◌≢◌, ℕ, ◌+◌, ◌<◌, ◌≤◌, ◌⊎◌, ◌∙◌, ◌↔◌, List, [], ◌∷◌, map, length, get_or, Some, refl, sym, ap, subst, inl, inr, arith}
use Rattle.std.proofs.lemmas.Bool.{cases_eq, cases_lt}
use Rattle.book_base.specs.declared.call.Call.{Call}
use Rattle.book_base.specs.declared.call.Place.{Place}
use Rattle.book_base.specs.declared.call.Record.{Record}
use Rattle.search_hints.specs.declared.marked_callers.MarkedCallers.{MarkedCallers}
use Rattle.book_base.specs.Book.{Page, IsAnswered, IsValid, operation_of, record_of}
use Rattle.book_base.specs.Order.{call_at, step_at}
use Rattle.book_base.specs.Sequential.{IsRunFrom}
use Rattle.book_base.specs.Next.{raised, next_call, MayComeNext, Continues}
use Rattle.book_base.specs.Pruning.{HasOneOpen, IsForced}
use Rattle.search_hints.specs.Marks.{IsMarked, IsMarkedWithin, MarksAllNext, MarksSuffice}
use Rattle.book_base.proofs.PageLemmas.{caller_from_call}
use Rattle.legal_orders.proofs.LegalOrder.{same_call, answer_stands, within_cut}
use Rattle.legal_orders.specs.Container.{Puts, Takes, Neither, Reading}
use Rattle.legal_orders.specs.Calls.{TakesOut}
use Rattle.list_pruning.specs.LeastFirst.{placed, GivesLeastFirst, IsBelowFirst, IsRising, CouldTake, IsTakenByNone, IsUnwanted}
use Rattle.list_pruning.specs.HoldsLast.{ReadsOutside}
use Rattle.list_pruning.proofs.Placing.{placed-less, placed-more, rising-next, cases_deed}
use Rattle.list_pruning.proofs.Taking.{word_at, word_is, word_stands}
use Rattle.list_pruning.proofs.Putting.{put_is_no_take}
use Rattle.list_pruning.proofs.Moving.{MayBeNext, Comes, Goes, goes_from_continues, continues_from_goes, Waits, waits_later, comes_up}

-- ---- lists

-- two values are placed in either order
placed-swap_less : (v w : ℕ) (list : List ℕ) → v < w
    → placed v (placed w list) ≡ placed w (placed v list)
placed-swap_less v w [] less =
    placed-less v w [] less ∙ sym (placed-more w v [] (omega (arith, less)))
placed-swap_less v w (x ∷ rest) less =
    let le : v ≤ w = omega (arith, less) in
    elim (cases_lt w x) [
      | inl first ↦
          let lesser : v < x = omega (arith, less, first) in
          let left : placed v (placed w (x ∷ rest)) ≡ v ∷ w ∷ x ∷ rest =
          ap (λ (xs : List ℕ). placed v xs) (placed-less w x rest first)
          ∙ placed-less v w (x ∷ rest) less in
          let right : placed w (placed v (x ∷ rest)) ≡ v ∷ w ∷ x ∷ rest =
          ap (λ (xs : List ℕ). placed w xs) (placed-less v x rest lesser)
          ∙ (placed-more w v (x ∷ rest) le
          ∙ ap (λ (xs : List ℕ). v ∷ xs) (placed-less w x rest first)) in
          left ∙ sym right
      | inr later ↦
          let second : placed w (x ∷ rest) ≡ x ∷ placed w rest = placed-more w x rest later in
          elim (cases_lt v x) [
            | inl lesser ↦
                let left : placed v (placed w (x ∷ rest)) ≡ v ∷ x ∷ placed w rest =
                ap (λ (xs : List ℕ). placed v xs) second
                ∙ placed-less v x (placed w rest) lesser in
                let right : placed w (placed v (x ∷ rest)) ≡ v ∷ x ∷ placed w rest =
                ap (λ (xs : List ℕ). placed w xs) (placed-less v x rest lesser)
                ∙ (placed-more w v (x ∷ rest) le ∙ ap (λ (xs : List ℕ). v ∷ xs) second) in
                left ∙ sym right
            | inr more ↦
                let left : placed v (placed w (x ∷ rest)) ≡ x ∷ placed v (placed w rest) =
                ap (λ (xs : List ℕ). placed v xs) second
                ∙ placed-more v x (placed w rest) more in
                let right : placed w (placed v (x ∷ rest)) ≡ x ∷ placed w (placed v rest) =
                ap (λ (xs : List ℕ). placed w xs) (placed-more v x rest more)
                ∙ placed-more w x (placed v rest) later in
                left ∙ (ap (λ (xs : List ℕ). x ∷ xs) (placed-swap_less v w rest less) ∙ sym right)
          ]
    ]

placed-swap : (v w : ℕ) (list : List ℕ) → placed v (placed w list) ≡ placed w (placed v list)
placed-swap v w list = elim (cases_lt v w) [
  | inl less ↦ placed-swap_less v w list less
  | inr le ↦ elim (cases_lt w v) [
    | inl more ↦ sym (placed-swap_less w v list more)
    | inr ge ↦
        let same : v ≡ w = omega (arith, le, ge) in
        subst (λ (u : ℕ). placed v (placed u list) ≡ placed u (placed v list)) same refl
  ]
]

-- a value that is less than all items comes first
placed-below : (v : ℕ) (list : List ℕ) → IsBelowFirst v list → placed v list ≡ v ∷ list
placed-below v [] below = refl
placed-below v (x ∷ rest) below = placed-less v x rest below

-- a value that is less than all items of a list with one more value is less than this one and than
-- all other items
below-placed : (w v : ℕ) (list : List ℕ) → IsBelowFirst w (placed v list)
    → (w < v) × IsBelowFirst w list
below-placed w v [] below = (below, tt)
below-placed w v (x ∷ rest) below = elim (cases_lt v x) [
  | inl less ↦
      let first : w < v =
      subst (λ (xs : List ℕ). IsBelowFirst w xs) (placed-less v x rest less) below in
      (first, omega (arith, first, less))
  | inr more ↦
      let first : w < x =
      subst (λ (xs : List ℕ). IsBelowFirst w xs) (placed-more v x rest more) below in
      (omega (arith, first, more), first)
]

-- a value is less than all items, or some first item is no greater
cases_below : (v : ℕ) (list : List ℕ) → IsBelowFirst v list
    ⊎ ((low : ℕ) × (rest : List ℕ) × (list ≡ low ∷ rest) × (low ≤ v))
cases_below v [] = inl tt
cases_below v (x ∷ rest) = elim (cases_lt v x) [
  | inl less ↦ inl less
  | inr more ↦ inr (x, rest, refl, more)
]

-- ---- a put and the call after it

-- A put and another operation have the same replies in either order, and make the same list.
record Swaps (next : List ℕ → ℕ → List ℕ × ℕ) (list : List ℕ) (put op : ℕ) : Type 0 where
  one : (next list op).1 ≡ (next (next list put).0 op).1
  other : (next (next list op).0 put).1 ≡ (next list put).1
  left : (next (next list op).0 put).0 ≡ (next (next list put).0 op).0

no_take_if_put : (reading : Reading) (op v : ℕ) → reading.deed op ≡ Puts v
    → reading.deed op ≢ Takes
no_take_if_put reading op v puts = λ (e : reading.deed op ≡ Takes).
    put_is_no_take v (sym puts ∙ e)

no_take_if_neither : (reading : Reading) (op : ℕ) → reading.deed op ≡ Neither
    → reading.deed op ≢ Takes
no_take_if_neither reading op neither = λ (e : reading.deed op ≡ Takes).
    let both : Neither ≡ Takes = sym neither ∙ e in cc

swaps_puts : (reading : Reading) (next : List ℕ → ℕ → List ℕ × ℕ) (bound : ℕ)
    → GivesLeastFirst reading next bound → (list : List ℕ) (put op v w : ℕ)
    → reading.deed put ≡ Puts v → reading.deed op ≡ Puts w → Swaps next list put op
swaps_puts reading next bound is list put op v w puts other = record {
  one = is.blind list (next list put).0 op (no_take_if_put reading op w other);
  other = is.blind (next list op).0 list put (no_take_if_put reading put v puts);
  left = is.put (next list op).0 put v puts
      ∙ (ap (placed v) (is.put list op w other)
      ∙ (placed-swap v w list
      ∙ (ap (placed w) (sym (is.put list put v puts))
      ∙ sym (is.put (next list put).0 op w other))));
}

swaps_neither : (reading : Reading) (next : List ℕ → ℕ → List ℕ × ℕ) (bound : ℕ)
    → GivesLeastFirst reading next bound → (list : List ℕ) (put op v : ℕ)
    → reading.deed put ≡ Puts v → reading.deed op ≡ Neither → Swaps next list put op
swaps_neither reading next bound is list put op v puts neither = record {
  one = is.blind list (next list put).0 op (no_take_if_neither reading op neither);
  other = is.blind (next list op).0 list put (no_take_if_put reading put v puts);
  left = ap (λ (xs : List ℕ). (next xs put).0) (is.neither list op neither)
      ∙ sym (is.neither (next list put).0 op neither);
}

-- A take takes the first item before a put of no less a value, as it does after this put.
swaps_take : (reading : Reading) (next : List ℕ → ℕ → List ℕ × ℕ) (bound : ℕ)
    → GivesLeastFirst reading next bound → (low : ℕ) (rest : List ℕ) (put op v : ℕ)
    → low < bound → low ≤ v → reading.deed put ≡ Puts v → reading.deed op ≡ Takes
    → Swaps next (low ∷ rest) put op
swaps_take reading next bound is low rest put op v small le puts takes =
    let after : (next (low ∷ rest) put).0 ≡ low ∷ placed v rest =
    is.put (low ∷ rest) put v puts ∙ placed-more v low rest le in
    record {
      one = is.one_reply _ _ low (is.shows low rest op small takes)
          (ap (λ (xs : List ℕ). reading.shown (next xs op).1) after
          ∙ is.shows low (placed v rest) op small takes);
      other =
          is.blind (next (low ∷ rest) op).0 (low ∷ rest) put (no_take_if_put reading put v puts);
      left = ap (λ (xs : List ℕ). (next xs put).0) (is.take low rest op takes)
          ∙ (is.put rest put v puts
          ∙ sym (ap (λ (xs : List ℕ). (next xs op).0) after
          ∙ is.take low (placed v rest) op takes));
    }

-- A call after a put may come before it, where the two operations may be exchanged.
swap : (book : List Page) (next : List ℕ → ℕ → List ℕ × ℕ) (cut list : List ℕ) (c x p : Place)
    (other : List Place) → IsValid book → HasOneOpen book → Waits book cut c → x.caller ≢ c.caller
    → Swaps next list (word_at book x) (word_at book p) → Goes book next cut list (x ∷ p ∷ other)
    → Goes book next cut list (p ∷ x ∷ other)
swap book next cut list c x p other valid one waits apart swaps goes = (
  comes_up book cut c valid one waits x p other apart goes.0,
  (
    swaps.one ∙ goes.1.1.0,
    (
      swaps.other ∙ goes.1.0,
      subst (λ (xs : List ℕ). IsRunFrom next xs (map (step_at book) other))
          (sym swaps.left) goes.1.1.1,
    ),
  ),
)

-- ---- which calls an order may continue with

-- An order continues with the forced call, or with one that puts nothing in.
record ByFree (reading : Reading) (book : List Page) (next : List ℕ → ℕ → List ℕ × ℕ)
    (cut list : List ℕ) (c : Place) (most : ℕ) : Type 0 where
  place : Place
  why : (place.caller ≡ c.caller) ⊎ ((v : ℕ) → reading.deed (word_at book place) ≢ Puts v)
  other : List Place
  goes : Goes book next cut list (place ∷ other)
  short : length other + 1 ≤ most

-- An order continues with the put of what the call after it takes.
record ByTaken (reading : Reading) (book : List Page) (next : List ℕ → ℕ → List ℕ × ℕ)
    (cut list : List ℕ) (c : Place) (most : ℕ) : Type 0 where
  put : Place
  take : Place
  value : ℕ
  puts : reading.deed (word_at book put) ≡ Puts value
  takes : reading.deed (word_at book take) ≡ Takes
  below : IsBelowFirst value list
  apart : put.caller ≢ c.caller
  other : List Place
  goes : Goes book next cut list (put ∷ take ∷ other)
  short : length other + 2 ≤ most

-- The first place puts a value in, and isn't the forced call.
record IsFirstPut (reading : Reading) (book : List Page) (cut : List ℕ) (c x : Place)
    : Type 0 where
  value : ℕ
  puts : reading.deed (word_at book x) ≡ Puts value
  apart : x.caller ≢ c.caller

-- the list after a place
abbrev list_past : List Page → (List ℕ → ℕ → List ℕ × ℕ) → List ℕ → Place → List ℕ
list_past book next list x = (next list (word_at book x)).0

-- A place that puts nothing in, or is the forced call, may come before the put before it, or takes
-- what that put puts in.
put_before_free : (reading : Reading) (next : List ℕ → ℕ → List ℕ × ℕ) (bound : ℕ)
    → GivesLeastFirst reading next bound → (book : List Page) → IsValid book → HasOneOpen book
    → (cut list : List ℕ) (c x : Place) (most : ℕ) → IsRising bound list → Waits book cut c
    → IsFirstPut reading book cut c x → MayBeNext book cut x
    → (next list (word_at book x)).1 ≡ x.reply
    → ByFree reading book next (raised cut x.caller) (list_past book next list x) c most
    → (all : ℕ) → most + 1 ≤ all → ByFree reading book next cut list c all
    ⊎ ByTaken reading book next cut list c all
put_before_free reading next bound is book valid one cut list c x most rising waits it may reply
    by all enough =
    let p : Place = by.place in
    let goes : Goes book next cut list (x ∷ p ∷ by.other) =
    ((may, by.goes.0), (reply, by.goes.1)) in
    let moved : Swaps next list (word_at book x) (word_at book p)
    → ByFree reading book next cut list c all =
    λ (swaps : Swaps next list (word_at book x) (word_at book p)). record {
      place = p;
      why = by.why;
      other = x ∷ by.other;
      goes = swap book next cut list c x p by.other valid one waits it.apart swaps goes;
      short = omega (arith, by.short, enough);
    } in
    elim (cases_deed (reading.deed (word_at book p))) [
      | inl put ↦ inl (moved (swaps_puts reading next bound is list (word_at book x)
          (word_at book p) it.value put.0 it.puts put.1))
      | inr rest ↦ elim rest [
        | inr neither ↦ inl (moved (swaps_neither reading next bound is list (word_at book x)
            (word_at book p) it.value it.puts neither))
        | inl takes ↦ elim (cases_below it.value list) [
          | inl below ↦ inr (record {
            put = x;
            take = p;
            value = it.value;
            puts = it.puts;
            takes = takes;
            below = below;
            apart = it.apart;
            other = by.other;
            goes = goes;
            short = omega (arith, by.short, enough);
          })
          | inr first ↦
              let small : first.0 < bound =
              (subst (λ (xs : List ℕ). IsRising bound xs) first.2 rising).0 in
              inl (moved (subst
              (λ (xs : List ℕ). Swaps next xs (word_at book x) (word_at book p)) (sym first.2)
              (swaps_take reading next bound is first.0 first.1 (word_at book x) (word_at book p)
              it.value small first.3 it.puts takes)))
        ]
      ]
    ]

-- A put and the take of what it puts in may come before the put before them.
put_before_taken : (reading : Reading) (next : List ℕ → ℕ → List ℕ × ℕ) (bound : ℕ)
    → GivesLeastFirst reading next bound → (book : List Page) → IsValid book → HasOneOpen book
    → (cut list : List ℕ) (c x : Place) (most : ℕ) → IsRising bound list → Waits book cut c
    → IsFirstPut reading book cut c x → MayBeNext book cut x
    → (next list (word_at book x)).1 ≡ x.reply
    → ByTaken reading book next (raised cut x.caller) (list_past book next list x) c most
    → (all : ℕ) → most + 1 ≤ all → ByTaken reading book next cut list c all
put_before_taken reading next bound is book valid one cut list c x most rising waits it may reply
    by all enough =
    let p : Place = by.put in
    let t : Place = by.take in
    let w : ℕ = by.value in
    let less = below-placed w it.value list (subst (λ (xs : List ℕ). IsBelowFirst w xs)
    (is.put list (word_at book x) it.value it.puts) by.below) in
    let goes : Goes book next cut list (x ∷ p ∷ t ∷ by.other) =
    ((may, by.goes.0), (reply, by.goes.1)) in
    let first : Goes book next cut list (p ∷ x ∷ t ∷ by.other) =
    swap book next cut list c x p (t ∷ by.other) valid one waits it.apart
    (swaps_puts reading next bound is list (word_at book x) (word_at book p) it.value w it.puts
    by.puts) goes in
    let in_p : p.caller < length cut =
    within_cut book cut (call_at p) waits.wide first.0.0.0.is_call in
    let later = waits_later book cut c p.caller valid in_p by.apart waits in
    let left : list_past book next list p ≡ w ∷ list =
    is.put list (word_at book p) w by.puts ∙ placed-below w list less.1 in
    let small : w < bound = is.small (word_at book p) w by.puts in
    let second : Goes book next (raised cut p.caller) (list_past book next list p)
    (t ∷ x ∷ by.other) = swap book next (raised cut p.caller) (list_past book next list p) c x t
    by.other valid one later it.apart
    (subst (λ (xs : List ℕ). Swaps next xs (word_at book x) (word_at book t)) (sym left)
    (swaps_take reading next bound is w list (word_at book x) (word_at book t) it.value small
    (omega (arith, less.0)) it.puts by.takes)) (first.0.1, first.1.1) in
    record {
      put = p;
      take = t;
      value = w;
      puts = by.puts;
      takes = by.takes;
      below = less.1;
      apart = by.apart;
      other = x ∷ by.other;
      goes = ((first.0.0, second.0), (first.1.0, second.1));
      short = omega (arith, by.short, enough);
    }

-- Where places continue an order, as many or fewer that begin as `ByFree` or `ByTaken` says do too.
outcomes : (reading : Reading) (next : List ℕ → ℕ → List ℕ × ℕ) (bound : ℕ)
    → GivesLeastFirst reading next bound → (book : List Page) → IsValid book → HasOneOpen book
    → (c : Place) (rest : List Place) (cut list : List ℕ) → IsRising bound list
    → Waits book cut c → Goes book next cut list rest
    → ByFree reading book next cut list c (length rest)
    ⊎ ByTaken reading book next cut list c (length rest)
outcomes reading next bound is book valid one c [] cut list rising waits goes =
    let held : get_or cut c.caller 0 < get_or cut c.caller 0 =
    goes.0 (next_call cut c.caller) waits.forced.answered in absurd (omega arith)
outcomes reading next bound is book valid one c (x ∷ rest) cut list rising waits goes =
    let op : ℕ = word_at book x in
    let inside : x.caller < length cut =
    within_cut book cut (call_at x) waits.wide goes.0.0.0.is_call in
    elim (cases_eq x.caller c.caller) [
      | inl same ↦ inl (record {
        place = x;
        why = inl same;
        other = rest;
        goes = goes;
        short = omega arith;
      })
      | inr apart ↦ elim (cases_deed (reading.deed op)) [
        | inr other ↦ inl (record {
          place = x;
          why = inr (λ (v : ℕ) (e : reading.deed op ≡ Puts v). elim other [
            | inl takes ↦ put_is_no_take v (sym e ∙ takes)
            | inr neither ↦ let both : Puts v ≡ Neither = sym e ∙ neither in cc
          ]);
          other = rest;
          goes = goes;
          short = omega arith;
        })
        | inl put ↦
            let it : IsFirstPut reading book cut c x =
            record { value = put.0; puts = put.1; apart = apart } in
            let later = waits_later book cut c x.caller valid inside apart waits in
            elim (outcomes reading next bound is book valid one c rest (raised cut x.caller)
            (list_past book next list x) (rising-next reading next bound is list op rising) later
            (goes.0.1, goes.1.1)) [
              | inl by ↦ put_before_free reading next bound is book valid one cut list c x
                  (length rest) rising waits it goes.0.0 goes.1.0 by (length (x ∷ rest))
                  (omega arith)
              | inr by ↦ inr (put_before_taken reading next bound is book valid one cut list c x
                  (length rest) rising waits it goes.0.0 goes.1.0 by (length (x ∷ rest))
                  (omega arith))
            ]
      ]
    ]

-- ---- what needn't be tried

-- Where an order continues with a put and the take of what it puts in, the take may come next
-- without the put, and could take the value.
could_take : (reading : Reading) (next : List ℕ → ℕ → List ℕ × ℕ) (bound : ℕ)
    → GivesLeastFirst reading next bound → (book : List Page) → IsValid book → HasOneOpen book
    → (cut list : List ℕ) (c : Place) (most : ℕ) → Waits book cut c
    → (by : ByTaken reading book next cut list c most)
    → MayComeNext book cut (next_call cut by.take.caller)
    × CouldTake reading book (next_call cut by.take.caller) by.value
could_take reading next bound is book valid one cut list c most waits by =
    let t : Place = by.take in
    let op : ℕ = word_at book t in
    let may : MayBeNext book cut t =
    (comes_up book cut c valid one waits by.put t by.other by.apart by.goes.0).0 in
    let call : call_at t ≡ next_call cut t.caller =
    same_call (call_at t) (next_call cut t.caller) refl may.0.next in
    let left : list_past book next list by.put ≡ by.value ∷ list =
    is.put list (word_at book by.put) by.value by.puts ∙ placed-below by.value list by.below in
    let shows : reading.shown t.reply ≡ Some by.value = ap reading.shown (sym by.goes.1.1.0)
    ∙ (ap (λ (xs : List ℕ). reading.shown (next xs op).1) left
    ∙ is.shows by.value list op (is.small (word_at book by.put) by.value by.puts) by.takes) in
    let takes : CouldTake reading book (call_at t) by.value = record {
      op = op;
      operation = word_stands book t may.0.is_call;
      takes = by.takes;
      shows = λ (r : Record) (known : record_of book (call_at t) ≡ Some r).
          ap reading.shown (may.1 r known) ∙ shows;
    } in (
      subst (λ (k : Call). MayComeNext book cut k) call may.0,
      subst (λ (k : Call). CouldTake reading book k by.value) call takes,
    )

-- The remaining marks suffice where the next calls of all callers that lost their marks are
-- unwanted.
pub wanted_suffice : (reading : Reading) (next : List ℕ → ℕ → List ℕ × ℕ) (bound : ℕ)
    → GivesLeastFirst reading next bound → (book : List Page) → IsValid book → HasOneOpen book
    → (cut list : List ℕ) (forced : ℕ) (all left : MarkedCallers) → IsRising bound list
    → length book ≤ length cut → IsForced book cut forced → MarksAllNext book cut all
    → ((i : ℕ) → IsMarked all i → IsMarked left i ⊎ IsUnwanted reading book cut list forced i)
    → MarksSuffice book next cut list left
wanted_suffice reading next bound is book valid one cut list forced all left rising wide force
    every wanted rest goes =
    let c : Place = record { caller = forced; number = get_or cut forced 0; reply = 0 } in
    let waits : Waits book cut c = record { wide = wide; forced = force; at = refl } in
    elim (outcomes reading next bound is book valid one c rest cut list rising waits
    (goes_from_continues book next cut list rest goes)) [
      | inl by ↦
          let p : Place = by.place in
          let call : call_at p ≡ next_call cut p.caller =
          same_call (call_at p) (next_call cut p.caller) refl by.goes.0.0.0.next in
          let marked : IsMarked all p.caller =
          (every p.caller).1 (subst (λ (k : Call). MayComeNext book cut k) call by.goes.0.0.0) in
          let kept : IsMarked left p.caller = elim (wanted p.caller marked) [
            | inl it ↦ it
            | inr out ↦ elim by.why [
              | inl same ↦ absurd (out.apart same)
              | inr none ↦
                  let word : word_at book p ≡ out.puts.0 =
                  word_is book p out.puts.0 (ap (operation_of book) call ∙ out.puts.1) in
                  absurd (none out.value (ap reading.deed word ∙ out.puts.2))
            ]
          ] in (
            p,
            by.other,
            kept,
            continues_from_goes book next cut list (p ∷ by.other) by.goes,
            omega (arith, by.short),
          )
      | inr by ↦
          let p : Place = by.put in
          let call : call_at p ≡ next_call cut p.caller =
          same_call (call_at p) (next_call cut p.caller) refl by.goes.0.0.0.next in
          let marked : IsMarked all p.caller =
          (every p.caller).1 (subst (λ (k : Call). MayComeNext book cut k) call by.goes.0.0.0) in
          let could = could_take reading next bound is book valid one cut list c (length rest)
          waits by in
          let kept : IsMarked left p.caller = elim (wanted p.caller marked) [
            | inl it ↦ it
            | inr out ↦
                let word : word_at book p ≡ out.puts.0 =
                word_is book p out.puts.0 (ap (operation_of book) call ∙ out.puts.1) in
                let deeds : Puts by.value ≡ Puts out.value =
                sym by.puts ∙ (ap reading.deed word ∙ out.puts.2) in
                let same : by.value ≡ out.value = cc in
                elim out.never [
                  | inl above ↦
                      absurd (above (subst (λ (v : ℕ). IsBelowFirst v list) same by.below))
                  | inr none ↦ absurd (none by.take.caller could.0
                      (subst (λ (v : ℕ). CouldTake reading book (next_call cut by.take.caller) v)
                      same could.1))
                ]
          ] in (
            p,
            by.take ∷ by.other,
            kept,
            continues_from_goes book next cut list (p ∷ by.take ∷ by.other) by.goes,
            omega (arith, by.short),
          )
    ]

-- No call that may come next takes a value, where none of the first callers has one that does.
pub taken_by_none : (reading : Reading) (book : List Page) (cut : List ℕ) (v callers : ℕ)
    → length book ≤ callers → ((i : ℕ) → i < callers → MayComeNext book cut (next_call cut i)
    → CouldTake reading book (next_call cut i) v → ⊥) → IsTakenByNone reading book cut v
taken_by_none reading book cut v callers all none i may could =
    none i (omega (arith, all, caller_from_call book i (get_or cut i 0) may.is_call)) may could

-- An answered next call that doesn't read a value couldn't take it.
pub answered_takes : (reading : Reading) (book : List Page) (cut : List ℕ) (v i : ℕ)
    → IsAnswered book (next_call cut i) → (ReadsOutside reading book cut v (next_call cut i) → ⊥)
    → CouldTake reading book (next_call cut i) v → ⊥
answered_takes reading book cut v i answered none could =
    let there = answer_stands book (next_call cut i) answered in
    let takes : TakesOut reading book (next_call cut i) v =
    (could.op, there.0, could.operation, there.1, could.takes, could.shows there.0 there.1) in
    none (takes, omega arith)

-- The remaining marks are some of all marks, and each caller that lost its mark has an unwanted
-- next call.
pub record AreWanted (reading : Reading) (book : List Page) (cut list : List ℕ) (forced : ℕ)
    (all left : MarkedCallers) : Type 0 where
  pub fewer : IsMarkedWithin left all
  pub unwanted : (i : ℕ) → IsMarked all i
      → IsMarked left i ⊎ IsUnwanted reading book cut list forced i

pub one_less_wanted : (reading : Reading) (book : List Page) (cut list : List ℕ)
    (forced caller : ℕ) (all left new : MarkedCallers)
    → ((i : ℕ) → IsMarked new i ↔ ((i ≢ caller) × IsMarked left i))
    → IsUnwanted reading book cut list forced caller
    → AreWanted reading book cut list forced all left
    → AreWanted reading book cut list forced all new
one_less_wanted reading book cut list forced caller all left new without unwanted are = record {
  fewer = λ (i : ℕ) (marked : IsMarked new i). are.fewer i ((without i).0 marked).1;
  unwanted = λ (i : ℕ) (marked : IsMarked all i). elim (cases_eq i caller) [
    | inl same ↦
        inr (subst (λ (j : ℕ). IsUnwanted reading book cut list forced j) (sym same) unwanted)
    | inr apart ↦ elim (are.unwanted i marked) [
      | inl still ↦ inl ((without i).1 (apart, still))
      | inr out ↦ inr out
    ]
  ];
}
