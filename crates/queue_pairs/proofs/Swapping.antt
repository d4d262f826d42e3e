-- Of two next puts of one value one serves for the other; and so of two next takes of one deal.
use Rattle.std.proofs.Common.{◌≡◌, ◌≢◌, ℕ, ◌+◌, ◌<◌, ◌≤◌, ◌∙◌, List, [], ◌∷◌, length, get_or, set, Some, refl, sym, ap, subst, inl, inr, arith}
use Rattle.std.proofs.lemmas.Bool.{cases_lt, cases_eq}
use Rattle.std.proofs.lemmas.Option.{slice_get_within}
use Rattle.book_base.specs.declared.call.Call.{Call}
use Rattle.book_base.specs.declared.call.Record.{Record}
use Rattle.book_base.specs.Book.{Page, answers_of, IsValid, record_of}
use Rattle.book_base.specs.Pruning.{HasOneOpen}
use Rattle.book_base.proofs.ViewLemmas.{same_call}
use Rattle.legal_orders.specs.Container.{Reading}
use Rattle.legal_orders.specs.Deals as deals
use Rattle.legal_orders.specs.Deals.{deal_of}
use Rattle.queue_pairs.specs.Moments.{moment_of, IsHeldBy}
use Rattle.queue_pairs.specs.Pairs.{Paired, Pair, PairStep, Pairs, FindNothing, IsPutOf, IsPut, MayTakeOut, IsTake, MayPair, MayFind, after, IsWhole, AreSteps}
use Rattle.queue_pairs.proofs.Walking.{open_is_unanswered}
use Rattle.queue_pairs.specs.Serving.{IsDueNoLater, EarlierPutServes, EarlierTakeServes}
use Rattle.book_base.proofs.PageLemmas.{caller_from_call}
use Rattle.legal_orders.proofs.Dealing.{call_by_deal}
use Rattle.queue_pairs.proofs.Serving.{IsSame, same-refl, same-set, next-at, IsEarlier, held_later, pair-at, find-at, steps-earlier, next-least, next-same, put-due, take-due}
use Rattle.queue_pairs.proofs.Swapped.{AreSwapped, both-stand, swapped-first, swapped-more, effect-moves, none-after}

-- steps lead from a standing to one that is whole, and there are this many of them
abbrev pub GoesOnAsLong : Reading → List Page → Paired → ℕ → Type 0
GoesOnAsLong reading book t n = (other : List PairStep) × AreSteps reading book t other
    × (length other ≡ n)

-- ---- puts

-- Standing s covers a put w where standing t covers another put p of its value: both may take
-- effect next, and p is due no later than w.
record PutsSwapped (reading : Reading) (book : List Page) (s t : Paired) (p w : Call) : Type 0 where
  value : ℕ
  p_puts : IsPutOf reading book value p
  w_puts : IsPutOf reading book value w
  places : AreSwapped (IsPut reading book) s.puts t.puts p w
  takes : IsSame t.takes s.takes
  found : t.found ≡ s.found
  turn : s.put_moment ≤ s.take_moment
  put_moment : t.put_moment ≤ s.put_moment
  take_moment : t.take_moment ≤ s.take_moment
  held : IsHeldBy book w s.put_moment
  due : IsDueNoLater book p w

-- Where standing s is whole, standing t is too.
swapped-end : (reading : Reading) (book : List Page) (s t : Paired) (p w : Call)
    → PutsSwapped reading book s t p w → IsWhole reading book s → IsWhole reading book t
swapped-end reading book s t p w h whole = let k = h.places in record {
  taken = λ x v took. omega (arith, whole.taken x v took, h.takes.numbers x.caller);
  found = λ e nothing. subst (λ (m : ℕ). IsHeldBy book e m) (sym h.found) (whole.found e nothing);
  kept = λ c r put known out. elim (cases_eq c.caller w.caller) [
    | inl same ↦
        let least : w.number ≤ c.number =
        next-least (IsPut reading book) t.puts w c k.next_w put same out in
        elim (cases_eq c.number w.number) [
          | inl number ↦
              let is : record_of book w ≡ Some r =
              ap (λ (x : Call). record_of book x) (same_call w c (sym same) (sym number)) ∙ known in
              let d = h.due r is in
              omega
              (arith, h.put_moment, whole.kept p d.0 (h.value, h.p_puts) d.1 k.next_p.outside, d.2)
          | inr more ↦
              omega (
                arith,
                h.put_moment,
                whole.kept c r put known
                    (omega (arith, least, more, k.has_w, ap (λ (i : ℕ). get_or s.puts i 0) same)),
              )
        ]
    | inr other ↦
        elim (cases_eq c.caller p.caller) [
          | inl same ↦
              omega (
                arith,
                h.put_moment,
                whole.kept c r put known (omega (
                  arith,
                  out,
                  k.has_p,
                  k.next_p.outside,
                  ap (λ (i : ℕ). get_or t.puts i 0) same,
                  ap (λ (i : ℕ). get_or s.puts i 0) same,
                )),
              )
          | inr apart ↦ omega (
            arith,
            h.put_moment,
            whole.kept c r put known (omega (arith, out, k.others c.caller apart other)),
          )
        ]
  ];
}

-- A pair with a third put that may come next at standing s may come next at t too, and s and t
-- still differ in the two puts after it.
swapped-later : (reading : Reading) (book : List Page) (s t : Paired) (p w : Call) (pair : Pair)
    → PutsSwapped reading book s t p w → MayPair reading book s pair
    → pair.put.caller ≢ p.caller → pair.put.caller ≢ w.caller → MayPair reading book t pair
    × PutsSwapped reading book (after s (Pairs pair)) (after t (Pairs pair)) p w
swapped-later reading book s t p w pair h may not_p not_w = (
  pair-at reading book t s pair (h.places.others pair.put.caller not_p not_w)
      (h.takes.numbers pair.take.caller) h.put_moment h.take_moment may,
  record {
    value = h.value;
    p_puts = h.p_puts;
    w_puts = h.w_puts;
    places =
        swapped-more (IsPut reading book) s.puts t.puts p w pair.put h.places not_p not_w;
    takes = same-set t.takes s.takes pair.take.caller (pair.take.number + 1) h.takes;
    found = h.found;
    turn = may.in_turn;
    put_moment = omega arith;
    take_moment = omega arith;
    held = held_later book w s.put_moment pair.put_moment may.after_puts h.held;
    due = h.due;
  },
)

-- Where the next pair at standing s has the put p, that pair with w for p may come next at standing
-- t, and then both standings cover the same puts.
swapped-here : (reading : Reading) (book : List Page) (s t : Paired) (p w : Call) (pair : Pair)
    → PutsSwapped reading book s t p w → MayPair reading book s pair → pair.put ≡ p
    → MayPair reading book t (record pair { put = w })
    × IsEarlier reading book (after t (Pairs (record pair { put = w }))) (after s (Pairs pair))
swapped-here reading book s t p w pair h may is =
    let given : deals.Put may.value ≡ deals.Put h.value =
    sym may.puts ∙ (ap (λ (c : Call). deal_of reading book c) is ∙ h.p_puts) in
    let value : may.value ≡ h.value = cc in (
      record {
        value = h.value;
        puts = h.w_puts;
        takes = subst (λ (v : ℕ). MayTakeOut reading book v pair.take) value may.takes;
        put = h.places.next_w;
        take = next-at (IsTake reading book) t.takes s.takes pair.take
            (h.takes.numbers pair.take.caller) may.take;
        after_puts = omega (arith, may.after_puts, h.put_moment);
        after_takes = omega (arith, may.after_takes, h.take_moment);
        in_turn = may.in_turn;
        put_effect = effect-moves book p w pair.put pair.put_moment is
            (held_later book w s.put_moment pair.put_moment may.after_puts h.held) h.due
            may.put_effect;
        take_effect = may.take_effect;
      },
      record {
        puts = both-stand (IsPut reading book) s.puts t.puts p w pair.put h.places is;
        takes = same-set t.takes s.takes pair.take.caller (pair.take.number + 1) h.takes;
        found = λ e nothing by. subst (λ (m : ℕ). IsHeldBy book e m) (sym h.found) by;
        put_moment = omega arith;
        take_moment = omega arith;
      },
    )

puts-swapped : (reading : Reading) (book : List Page) (s t : Paired) (p w : Call)
    (steps : List PairStep) → IsValid book → HasOneOpen book → PutsSwapped reading book s t p w
    → AreSteps reading book s steps → GoesOnAsLong reading book t (length steps)
puts-swapped reading book s t p w [] valid one h are =
    ([], swapped-end reading book s t p w h are, refl)
puts-swapped reading book s t p w (Pairs pair ∷ steps) valid one h are =
    elim (cases_eq pair.put.caller p.caller) [
      | inl same ↦
          let is : pair.put ≡ p = next-same (IsPut reading book) s.puts p pair.put h.places.next_p
          are.0.put (h.value, h.p_puts) (are.0.value, are.0.puts) same in
          let here = swapped-here reading book s t p w pair h are.0 is in (
            Pairs (record pair { put = w }) ∷ steps,
            (here.0, steps-earlier reading book _ _ steps here.1 are.1),
            refl,
          )
      | inr not_p ↦
          elim (cases_eq pair.put.caller w.caller) [
            | inl same ↦
                absurd (none-after (IsPut reading book) s.puts t.puts book p w pair.put
                pair.put_moment valid one h.places are.0.put same are.0.put_effect h.due
                (λ o known out. put-due reading book (after s (Pairs pair)) steps p o
                are.0.in_turn are.1 (h.value, h.p_puts) known out))
            | inr not_w ↦
                let later = swapped-later reading book s t p w pair h are.0 not_p not_w in
                let on = puts-swapped reading book (after s (Pairs pair))
                (after t (Pairs pair)) p w steps valid one later.1 are.1 in
                (Pairs pair ∷ on.0, (later.0, on.1), omega (arith, on.2))
          ]
    ]
puts-swapped reading book s t p w (FindNothing m ∷ steps) valid one h are =
    let may : MayFind reading book t m = find-at reading book t s m
    (λ e nothing by. subst (λ (n : ℕ). IsHeldBy book e n) (sym h.found) by) h.take_moment are.0 in
    let later : PutsSwapped reading book (after s (FindNothing m)) (after t (FindNothing m)) p w =
    record {
      value = h.value;
      p_puts = h.p_puts;
      w_puts = h.w_puts;
      places = h.places;
      takes = h.takes;
      found = refl;
      turn = omega arith;
      put_moment = omega arith;
      take_moment = omega arith;
      held = held_later book w s.put_moment m (omega (arith, h.turn, are.0.after_takes)) h.held;
      due = h.due;
    } in
    let on = puts-swapped reading book (after s (FindNothing m))
    (after t (FindNothing m)) p w steps valid one later are.1 in
    (FindNothing m ∷ on.0, (may, on.1), omega (arith, on.2))

-- ---- takes

-- Standing s covers a take w where standing t covers another take p of its deal: both may take
-- effect next, and p is due no later than w.
record TakesSwapped (reading : Reading) (book : List Page) (s t : Paired)
    (p w : Call) : Type 0 where
  same : deal_of reading book p ≡ deal_of reading book w
  p_takes : IsTake reading book p
  places : AreSwapped (IsTake reading book) s.takes t.takes p w
  puts : IsSame t.puts s.puts
  found : t.found ≡ s.found
  put_moment : t.put_moment ≤ s.put_moment
  take_moment : t.take_moment ≤ s.take_moment
  held : IsHeldBy book w s.take_moment
  due : IsDueNoLater book p w

-- two takes of one deal may take out the same values
by_deal : (reading : Reading) (book : List Page) (v : ℕ) (a b : Call) → deal_of reading book a
    ≡ deal_of reading book b → MayTakeOut reading book v a → MayTakeOut reading book v b
by_deal reading book v a b same is = elim is [
  | inl took ↦ inl (sym same ∙ took)
  | inr unseen ↦ inr (sym same ∙ unseen)
]

takes-end : (reading : Reading) (book : List Page) (s t : Paired) (p w : Call)
    → TakesSwapped reading book s t p w → IsWhole reading book s → IsWhole reading book t
takes-end reading book s t p w h whole = let k = h.places in record {
  taken = λ x v took. elim (cases_eq x.caller w.caller) [
    | inl same ↦
        elim (cases_lt x.number (get_or t.takes x.caller 0)) [
          | inl fine ↦ fine
          | inr out ↦
              let least : w.number ≤ x.number =
              next-least (IsTake reading book) t.takes w x k.next_w (v, inl took) same out in
              let most : x.number < get_or s.takes w.caller 0 =
              omega (arith, whole.taken x v took, ap (λ (i : ℕ). get_or s.takes i 0) same) in
              let is : x ≡ w = same_call x w same (omega (arith, least, most, k.has_w)) in
              let p_took : deal_of reading book p ≡ deals.Took v =
              h.same ∙ (ap (λ (c : Call). deal_of reading book c) (sym is) ∙ took) in
              absurd (omega (arith, whole.taken p v p_took, k.next_p.outside))
        ]
    | inr not_w ↦
        elim (cases_eq x.caller p.caller) [
          | inl same ↦
              omega (
                arith,
                whole.taken x v took,
                k.has_p,
                k.next_p.outside,
                ap (λ (i : ℕ). get_or t.takes i 0) same,
                ap (λ (i : ℕ). get_or s.takes i 0) same,
              )
          | inr not_p ↦ omega (arith, whole.taken x v took, k.others x.caller not_p not_w)
        ]
  ];
  found = λ e nothing. subst (λ (m : ℕ). IsHeldBy book e m) (sym h.found) (whole.found e nothing);
  kept = λ c r put known out. omega
      (arith, h.put_moment, whole.kept c r put known (omega (arith, out, h.puts.numbers c.caller)));
}

-- An answered take that isn't covered is due no earlier than the last take so far, where steps lead
-- to a whole standing.
take-in-time : (reading : Reading) (book : List Page) (s : Paired)
    (steps : List PairStep) (p : Call)
    (o : Record) → AreSteps reading book s steps → IsTake reading book p
    → record_of book p ≡ Some o → get_or s.takes p.caller 0 ≤ p.number
    → s.take_moment ≤ moment_of o
take-in-time reading book s steps p o are takes known out =
    elim takes.1 [
      | inl took ↦ take-due reading book s steps p takes.0 o are took known out
      | inr unseen ↦
          let past : answers_of book p.caller ≤ p.number =
          open_is_unanswered reading book p unseen in
          absurd (omega (arith, past, slice_get_within _ p.number o known))
    ]

-- A pair with a third take that may come next at standing s may come next at t too, and s and t
-- still differ in the two takes after it.
takes-later : (reading : Reading) (book : List Page) (s t : Paired) (p w : Call) (pair : Pair)
    → TakesSwapped reading book s t p w → MayPair reading book s pair
    → pair.take.caller ≢ p.caller → pair.take.caller ≢ w.caller → MayPair reading book t pair
    × TakesSwapped reading book (after s (Pairs pair)) (after t (Pairs pair)) p w
takes-later reading book s t p w pair h may not_p not_w = (
  pair-at reading book t s pair (h.puts.numbers pair.put.caller)
      (h.places.others pair.take.caller not_p not_w) h.put_moment h.take_moment may,
  record {
    same = h.same;
    p_takes = h.p_takes;
    places =
        swapped-more (IsTake reading book) s.takes t.takes p w pair.take h.places not_p not_w;
    puts = same-set t.puts s.puts pair.put.caller (pair.put.number + 1) h.puts;
    found = h.found;
    put_moment = omega arith;
    take_moment = omega arith;
    held = held_later book w s.take_moment pair.take_moment may.after_takes h.held;
    due = h.due;
  },
)

-- Where the next pair at standing s has the take p, that pair with w for p may come next at
-- standing t, and then both standings cover the same takes.
takes-here : (reading : Reading) (book : List Page) (s t : Paired) (p w : Call) (pair : Pair)
    → TakesSwapped reading book s t p w → MayPair reading book s pair → pair.take ≡ p
    → MayPair reading book t (record pair { take = w })
    × IsEarlier reading book (after t (Pairs (record pair { take = w }))) (after s (Pairs pair))
takes-here reading book s t p w pair h may is =
    let takes : MayTakeOut reading book may.value w
    = by_deal reading book may.value pair.take w
    (ap (λ (c : Call). deal_of reading book c) is ∙ h.same) may.takes in (
      record {
        value = may.value;
        puts = may.puts;
        takes = takes;
        put = next-at (IsPut reading book) t.puts s.puts pair.put
            (h.puts.numbers pair.put.caller) may.put;
        take = h.places.next_w;
        after_puts = omega (arith, may.after_puts, h.put_moment);
        after_takes = omega (arith, may.after_takes, h.take_moment);
        in_turn = may.in_turn;
        put_effect = may.put_effect;
        take_effect = effect-moves book p w pair.take pair.take_moment is
            (held_later book w s.take_moment pair.take_moment may.after_takes h.held) h.due
            may.take_effect;
      },
      record {
        puts = same-set t.puts s.puts pair.put.caller (pair.put.number + 1) h.puts;
        takes = both-stand (IsTake reading book) s.takes t.takes p w pair.take h.places is;
        found = λ e nothing by. subst (λ (m : ℕ). IsHeldBy book e m) (sym h.found) by;
        put_moment = omega arith;
        take_moment = omega arith;
      },
    )

takes-swapped : (reading : Reading) (book : List Page) (s t : Paired) (p w : Call)
    (steps : List PairStep) → IsValid book → HasOneOpen book → TakesSwapped reading book s t p w
    → AreSteps reading book s steps → GoesOnAsLong reading book t (length steps)
takes-swapped reading book s t p w [] valid one h are =
    ([], takes-end reading book s t p w h are, refl)
takes-swapped reading book s t p w (Pairs pair ∷ steps) valid one h are =
    elim (cases_eq pair.take.caller p.caller) [
      | inl same ↦
          let is : pair.take ≡ p =
          next-same (IsTake reading book) s.takes p pair.take h.places.next_p
          are.0.take h.p_takes (are.0.value, are.0.takes) same in
          let here = takes-here reading book s t p w pair h are.0 is in (
            Pairs (record pair { take = w }) ∷ steps,
            (here.0, steps-earlier reading book _ _ steps here.1 are.1),
            refl,
          )
      | inr not_p ↦
          elim (cases_eq pair.take.caller w.caller) [
            | inl same ↦
                absurd (none-after (IsTake reading book) s.takes t.takes book p w pair.take
                pair.take_moment valid one h.places are.0.take same are.0.take_effect h.due
                (λ o known out.
                take-in-time reading book (after s (Pairs pair)) steps p o are.1 h.p_takes known
                out))
            | inr not_w ↦
                let later = takes-later reading book s t p w pair h are.0 not_p not_w in
                let on = takes-swapped reading book (after s (Pairs pair))
                (after t (Pairs pair)) p w steps valid one later.1 are.1 in
                (Pairs pair ∷ on.0, (later.0, on.1), omega (arith, on.2))
          ]
    ]
takes-swapped reading book s t p w (FindNothing m ∷ steps) valid one h are =
    let may : MayFind reading book t m = find-at reading book t s m
    (λ e nothing by. subst (λ (n : ℕ). IsHeldBy book e n) (sym h.found) by) h.take_moment are.0 in
    let later : TakesSwapped reading book (after s (FindNothing m)) (after t (FindNothing m)) p w =
    record {
      same = h.same;
      p_takes = h.p_takes;
      places = h.places;
      puts = h.puts;
      found = refl;
      put_moment = omega arith;
      take_moment = omega arith;
      held = held_later book w s.take_moment m are.0.after_takes h.held;
      due = h.due;
    } in
    let on = takes-swapped reading book (after s (FindNothing m))
    (after t (FindNothing m)) p w steps valid one later are.1 in
    (FindNothing m ∷ on.0, (may, on.1), omega (arith, on.2))

-- ---- one serves for the other

-- a standing has a number for the caller of a put or of a take
put-inside : (reading : Reading) (book : List Page) (numbers : List ℕ) (p : Call)
    → length book ≤ length numbers → IsPut reading book p → p.caller < length numbers
put-inside reading book numbers p wide put =
    let is = call_by_deal reading book p (λ (other : deal_of reading book p ≡ deals.Other).
    let wrong : deals.Put put.0 ≡ deals.Other = sym put.1 ∙ other in cc) in
    let there = caller_from_call book p.caller p.number is in
    omega (arith, there, wide)

take-inside : (reading : Reading) (book : List Page) (numbers : List ℕ) (t : Call)
    → length book ≤ length numbers → IsTake reading book t → t.caller < length numbers
take-inside reading book numbers t wide take =
    let is = call_by_deal reading book t
    (λ (other : deal_of reading book t ≡ deals.Other). let none : ⊥ = elim take.1 [
      | inl took ↦ (let wrong : deals.Took take.0 ≡ deals.Other = sym took ∙ other in cc)
      | inr unseen ↦ (let wrong : deals.OpenTake ≡ deals.Other = sym unseen ∙ other in cc)
    ] in none) in
    let there = caller_from_call book t.caller t.number is in
    omega (arith, there, wide)

pub earlier_put_serves : EarlierPutServes
earlier_put_serves reading book s pair p m steps valid one wide are puts next low apart
    effect early due =
    let w : Call = pair.put in
    let v : ℕ = are.0.value in
    let given = puts v are.0.puts in
    let inside_w : w.caller < length s.puts =
    put-inside reading book s.puts w wide (v, are.0.puts) in
    let inside_p : p.caller < length s.puts = put-inside reading book s.puts p wide (v, given) in
    let new : Pair = record pair { put = p; put_moment = m } in
    let swapped : PutsSwapped reading book (after s (Pairs pair)) (after s (Pairs new)) p w =
    record {
      value = v;
      p_puts = given;
      w_puts = are.0.puts;
      places = swapped-first (IsPut reading book) s.puts p w apart next are.0.put inside_p inside_w;
      takes = same-refl (set s.takes pair.take.caller (pair.take.number + 1));
      found = refl;
      turn = are.0.in_turn;
      put_moment = early;
      take_moment = omega arith;
      held = are.0.put_effect.first;
      due = due;
    } in
    let on = puts-swapped reading book (after s (Pairs pair))
    (after s (Pairs new)) p w steps valid one swapped are.1 in
    let may : MayPair reading book s new = record {
      value = v;
      puts = given;
      takes = are.0.takes;
      put = next;
      take = are.0.take;
      after_puts = low;
      after_takes = are.0.after_takes;
      in_turn = omega (arith, early, are.0.in_turn);
      put_effect = effect;
      take_effect = are.0.take_effect;
    } in
    (on.0, (may, on.1), on.2)

pub earlier_take_serves : EarlierTakeServes
earlier_take_serves reading book s pair p m steps valid one wide are same next late apart
    effect early due =
    let w : Call = pair.take in
    let w_takes : IsTake reading book w = (are.0.value, are.0.takes) in
    let p_takes : IsTake reading book p =
    (are.0.value, by_deal reading book are.0.value w p (sym same) are.0.takes) in
    let inside_w : w.caller < length s.takes = take-inside reading book s.takes w wide w_takes in
    let inside_p : p.caller < length s.takes = take-inside reading book s.takes p wide p_takes in
    let new : Pair = record pair { take = p; take_moment = m } in
    let swapped : TakesSwapped reading book (after s (Pairs pair)) (after s (Pairs new)) p w =
    record {
      same = same;
      p_takes = p_takes;
      places =
          swapped-first (IsTake reading book) s.takes p w apart next are.0.take inside_p inside_w;
      puts = same-refl (set s.puts pair.put.caller (pair.put.number + 1));
      found = refl;
      put_moment = omega arith;
      take_moment = early;
      held = are.0.take_effect.first;
      due = due;
    } in
    let on = takes-swapped reading book (after s (Pairs pair))
    (after s (Pairs new)) p w steps valid one swapped are.1 in
    let may : MayPair reading book s new = record {
      value = are.0.value;
      puts = are.0.puts;
      takes = by_deal reading book are.0.value w p (sym same) are.0.takes;
      put = are.0.put;
      take = next;
      after_puts = are.0.after_puts;
      after_takes = late.0;
      in_turn = late.1;
      put_effect = are.0.put_effect;
      take_effect = effect;
    } in
    (on.0, (may, on.1), on.2)
