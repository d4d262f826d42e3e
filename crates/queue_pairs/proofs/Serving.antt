-- A standing at earlier moments serves for one at later moments; and an overdue call is never
-- covered.
use Rattle.std.proofs.Common.{◌≡◌, ℕ, ◌+◌, ◌<◌, ◌≤◌, ◌⊎◌, ◌∙◌, List, [], ◌∷◌, length, get_or, set, Some, refl, sym, ap, subst, inl, inr, arith}
use Rattle.std.proofs.lemmas.Bool.{cases_lt, cases_eq}
use Rattle.std.proofs.lemmas.List.{get_or-set_same, get_or-set_other, length-set, set_past}
use Rattle.book_base.specs.declared.call.Call.{Call}
use Rattle.book_base.specs.declared.call.Record.{Record}
use Rattle.book_base.specs.Cut.{Holds}
use Rattle.book_base.specs.Book.{Page, IsValid, record_of}
use Rattle.book_base.proofs.ViewLemmas.{same_call}
use Rattle.legal_orders.specs.Container.{Reading}
use Rattle.legal_orders.specs.Deals as deals
use Rattle.legal_orders.specs.Deals.{deal_of}
use Rattle.queue_pairs.specs.Moments.{moment_of, IsHeldBy}
use Rattle.queue_pairs.specs.Pairs.{Paired, Pair, PairStep, Pairs, FindNothing, IsPut, IsTake, IsNext, MayPair, MayFind, MayStep, after, AreSteps}

-- two lists of numbers with the same number for each caller
pub record IsSame (one other : List ℕ) : Type 0 where
  pub wide : length one ≡ length other
  pub numbers : (i : ℕ) → get_or one i 0 ≡ get_or other i 0

pub same-refl : (numbers : List ℕ) → IsSame numbers numbers
same-refl numbers = record { wide = refl; numbers = λ i. refl }

pub same-set : (one other : List ℕ) (i n : ℕ) → IsSame one other
    → IsSame (set one i n) (set other i n)
same-set one other i n h = record {
  wide = length-set one i n ∙ (h.wide ∙ sym (length-set other i n));
  numbers = λ j. elim (cases_eq j i) [
    | inl same ↦
        elim (cases_lt i (length one)) [
          | inl inside ↦
              let first : get_or (set one i n) i 0 ≡ n = get_or-set_same one i n 0 inside in
              let second : get_or (set other i n) i 0 ≡ n =
              get_or-set_same other i n 0 (omega (arith, inside, h.wide)) in
              ap (λ (k : ℕ). get_or (set one i n) k 0) same
              ∙ (first ∙ (sym second ∙ sym (ap (λ (k : ℕ). get_or (set other i n) k 0) same)))
          | inr past ↦
              ap (λ (xs : List ℕ). get_or xs j 0) (set_past one i n past) ∙ (h.numbers j
              ∙ sym (ap (λ (xs : List ℕ). get_or xs j 0)
              (set_past other i n (omega (arith, past, h.wide)))))
        ]
    | inr apart ↦ get_or-set_other one i j n 0 apart
        ∙ (h.numbers j ∙ sym (get_or-set_other other i j n 0 apart))
  ];
}

-- a call that is the next of its kind at some numbers is the next at other numbers that have the
-- same number for its caller
pub next-at : (kind : Call → Type 0) (one other : List ℕ) (call : Call) → get_or one call.caller 0
    ≡ get_or other call.caller 0 → IsNext kind other call → IsNext kind one call
next-at kind one other call same next = record {
  outside = omega (arith, same, next.outside);
  first = λ n low high. next.first n (omega (arith, same, low)) high;
}

-- A standing covers the same puts and takes as another one, and no fewer takes that find nothing,
-- at no later moments.
pub record IsEarlier (reading : Reading) (book : List Page) (t s : Paired) : Type 0 where
  pub puts : IsSame t.puts s.puts
  pub takes : IsSame t.takes s.takes
  pub found : (e : Call) → deal_of reading book e ≡ deals.FoundNothing → IsHeldBy book e s.found
      → IsHeldBy book e t.found
  pub put_moment : t.put_moment ≤ s.put_moment
  pub take_moment : t.take_moment ≤ s.take_moment

pub held_later : (book : List Page) (call : Call) (m n : ℕ) → m ≤ n → IsHeldBy book call m
    → IsHeldBy book call n
held_later book call m n le h = (h.0, h.1, h.2, h.3, omega (arith, h.4, le))

-- A pair that may come next at a standing may come next at one that covers as many calls of the
-- pair's callers, at no later moments.
pub pair-at : (reading : Reading) (book : List Page) (t s : Paired) (pair : Pair)
    → get_or t.puts pair.put.caller 0 ≡ get_or s.puts pair.put.caller 0
    → get_or t.takes pair.take.caller 0 ≡ get_or s.takes pair.take.caller 0
    → t.put_moment ≤ s.put_moment → t.take_moment ≤ s.take_moment
    → MayPair reading book s pair → MayPair reading book t pair
pair-at reading book t s pair puts takes put_moment take_moment may = record {
  value = may.value;
  puts = may.puts;
  takes = may.takes;
  put = next-at (IsPut reading book) t.puts s.puts pair.put puts may.put;
  take = next-at (IsTake reading book) t.takes s.takes pair.take takes may.take;
  after_puts = omega (arith, may.after_puts, put_moment);
  after_takes = omega (arith, may.after_takes, take_moment);
  in_turn = may.in_turn;
  put_effect = may.put_effect;
  take_effect = may.take_effect;
}

-- Takes that find nothing and may come next at a standing may come next at one that covers no fewer
-- of them, after no later take.
pub find-at : (reading : Reading) (book : List Page) (t s : Paired) (m : ℕ)
    → ((e : Call) → deal_of reading book e ≡ deals.FoundNothing → IsHeldBy book e s.found
    → IsHeldBy book e t.found) → t.take_moment ≤ s.take_moment
    → MayFind reading book s m → MayFind reading book t m
find-at reading book t s m found moment may = record {
  after_takes = omega (arith, may.after_takes, moment);
  in_time = λ e r nothing known by out.
      may.in_time e r nothing known by (λ before. out (found e nothing before));
}

-- a step that may come next at a standing may come next at an earlier one
earlier-step : (reading : Reading) (book : List Page) (t s : Paired) (step : PairStep)
    → IsEarlier reading book t s → MayStep reading book s step
    → MayStep reading book t step × IsEarlier reading book (after t step) (after s step)
earlier-step reading book t s (Pairs pair) h may = (
  pair-at reading book t s pair (h.puts.numbers pair.put.caller)
      (h.takes.numbers pair.take.caller) h.put_moment h.take_moment may,
  record {
    puts = same-set t.puts s.puts pair.put.caller (pair.put.number + 1) h.puts;
    takes = same-set t.takes s.takes pair.take.caller (pair.take.number + 1) h.takes;
    found = h.found;
    put_moment = omega arith;
    take_moment = omega arith;
  },
)
earlier-step reading book t s (FindNothing m) h may = (
  find-at reading book t s m h.found h.take_moment may,
  record {
    puts = h.puts;
    takes = h.takes;
    found = λ e nothing by. by;
    put_moment = omega arith;
    take_moment = omega arith;
  },
)

pub steps-earlier : (reading : Reading) (book : List Page) (t s : Paired) (steps : List PairStep)
    → IsEarlier reading book t s → AreSteps reading book s steps → AreSteps reading book t steps
steps-earlier reading book t s [] h whole = record {
  taken = λ x v took. omega (arith, whole.taken x v took, h.takes.numbers x.caller);
  found = λ e nothing. h.found e nothing (whole.found e nothing);
  kept = λ p r put known out. omega
      (arith, h.put_moment, whole.kept p r put known (omega (arith, out, h.puts.numbers p.caller)));
}
steps-earlier reading book t s (step ∷ steps) h are =
    let first = earlier-step reading book t s step h are.0 in
    (first.0, steps-earlier reading book (after t step) (after s step) steps first.1 are.1)

-- A step of takes that find nothing may be left out where it covers no more of them.
pub find-idle : (reading : Reading) (book : List Page) (s : Paired) (m : ℕ) (steps : List PairStep)
    → s.put_moment ≤ s.take_moment
    → ((e : Call) → deal_of reading book e ≡ deals.FoundNothing → IsHeldBy book e m
    → IsHeldBy book e s.found)
    → AreSteps reading book s (FindNothing m ∷ steps) → AreSteps reading book s steps
find-idle reading book s m steps turn none are =
    steps-earlier reading book s (after s (FindNothing m)) steps
    (record {
      puts = same-refl s.puts;
      takes = same-refl s.takes;
      found = none;
      put_moment = omega (arith, turn, are.0.after_takes);
      take_moment = omega (arith, are.0.after_takes);
    }) are.1

-- Steps that begin with takes that find nothing lead to a whole standing also from where some of
-- these takes, those of an earlier moment, are covered.
pub find-earlier : (reading : Reading) (book : List Page) (s : Paired) (g m : ℕ)
    (steps : List PairStep)
    → s.found ≤ g → g ≤ m
    → AreSteps reading book s (FindNothing m ∷ steps)
    → AreSteps reading book (after s (FindNothing g)) (FindNothing m ∷ steps)
find-earlier reading book s g m steps low le are = (
  record {
    after_takes = le;
    in_time = λ e r nothing known by out.
        are.0.in_time e r nothing known by (λ before. out (held_later book e s.found g low before));
  },
  are.1,
)

-- the next call of a kind is no later than another call of the kind and of the same caller that
-- isn't covered
pub next-least : (kind : Call → Type 0) (numbers : List ℕ) (call other : Call)
    → IsNext kind numbers call → kind other → other.caller ≡ call.caller
    → get_or numbers other.caller 0 ≤ other.number → call.number ≤ other.number
next-least kind numbers call other next is caller out =
    elim (cases_lt other.number call.number) [
      | inl less ↦
          let there : kind (record { caller = call.caller; number = other.number }) = subst kind
          (same_call other (record { caller = call.caller; number = other.number }) caller refl)
          is in
          let low : get_or numbers call.caller 0 ≤ other.number =
          omega (arith, out, ap (λ (i : ℕ). get_or numbers i 0) caller) in
          absurd (next.first other.number low less there)
      | inr ge ↦ ge
    ]

pub next-same : (kind : Call → Type 0) (numbers : List ℕ) (call other : Call)
    → IsNext kind numbers call → IsNext kind numbers other → kind call → kind other
    → other.caller ≡ call.caller → other ≡ call
next-same kind numbers call other next there is has caller =
    let one : call.number ≤ other.number =
    next-least kind numbers call other next has caller there.outside in
    let two : other.number ≤ call.number =
    next-least kind numbers other call there is (sym caller) next.outside in
    same_call other call caller (omega arith)

-- a call of a kind that is uncovered is the next one of the kind, or it stays uncovered once that
-- one is covered; a call that is uncovered then was so before
pub still-outside : (kind : Call → Type 0) (numbers : List ℕ) (call other : Call)
    → IsNext kind numbers call → kind other → get_or numbers other.caller 0 ≤ other.number
    → (other ≡ call)
    ⊎ (get_or (set numbers call.caller (call.number + 1)) other.caller 0 ≤ other.number)
still-outside kind numbers call other next is out =
    elim (cases_eq other.caller call.caller) [
      | inl same ↦
          let least : call.number ≤ other.number =
          next-least kind numbers call other next is same out in
          elim (cases_eq other.number call.number) [
            | inl number ↦ inl (same_call other call same number)
            | inr more ↦
                elim (cases_lt call.caller (length numbers)) [
                  | inl inside ↦
                      inr (omega (
                        arith,
                        least,
                        more,
                        get_or-set_same numbers call.caller (call.number + 1) 0 inside,
                        ap (λ (i : ℕ). get_or (set numbers call.caller (call.number + 1)) i 0) same,
                      ))
                  | inr past ↦
                      let unchanged : set numbers call.caller (call.number + 1) ≡ numbers =
                      set_past numbers call.caller (call.number + 1) past in
                      inr (subst (λ (xs : List ℕ). get_or xs other.caller 0 ≤ other.number)
                      (sym unchanged) out)
                ]
          ]
      | inr apart ↦ inr (omega
          (arith, out, get_or-set_other numbers call.caller other.caller (call.number + 1) 0 apart))
    ]

pub outside-before : (numbers : List ℕ) (call other : Call)
    → get_or numbers call.caller 0 ≤ call.number → call.caller < length numbers
    → get_or (set numbers call.caller (call.number + 1)) other.caller 0 ≤ other.number
    → get_or numbers other.caller 0 ≤ other.number
outside-before numbers call other was inside out =
    elim (cases_eq other.caller call.caller) [
      | inl same ↦
          omega (
            arith,
            out,
            was,
            get_or-set_same numbers call.caller (call.number + 1) 0 inside,
            ap (λ (i : ℕ). get_or (set numbers call.caller (call.number + 1)) i 0) same,
            ap (λ (i : ℕ). get_or numbers i 0) same,
          )
      | inr apart ↦ omega
          (arith, out, get_or-set_other numbers call.caller other.caller (call.number + 1) 0 apart)
    ]

-- An answered put that isn't covered isn't overdue, where steps lead to a whole standing.
pub put-due : (reading : Reading) (book : List Page) (s : Paired) (steps : List PairStep) (p : Call)
    (r : Record) → s.put_moment ≤ s.take_moment → AreSteps reading book s steps
    → IsPut reading book p → record_of book p ≡ Some r → get_or s.puts p.caller 0 ≤ p.number
    → s.put_moment ≤ moment_of r
put-due reading book s [] p r turn whole put known out = whole.kept p r put known out
put-due reading book s (Pairs pair ∷ steps) p r turn are put known out =
    elim (still-outside (IsPut reading book) s.puts pair.put p are.0.put put out) [
      | inl same ↦ omega (
        arith,
        are.0.after_puts,
        are.0.put_effect.last r (ap (record_of book) (sym same) ∙ known),
      )
      | inr later ↦ omega (
        arith,
        are.0.after_puts,
        put-due reading book (after s (Pairs pair)) steps p r are.0.in_turn are.1 put known later,
      )
    ]
put-due reading book s (FindNothing m ∷ steps) p r turn are put known out =
    omega (
      arith,
      turn,
      are.0.after_takes,
      put-due reading book (after s (FindNothing m)) steps p r (omega arith) are.1 put known out,
    )

-- An answered take that shows a value and isn't covered isn't overdue, where steps lead to a whole
-- standing.
pub take-due : (reading : Reading) (book : List Page) (s : Paired)
    (steps : List PairStep) (t : Call)
    (v : ℕ) (r : Record) → AreSteps reading book s steps
    → deal_of reading book t ≡ deals.Took v → record_of book t ≡ Some r
    → get_or s.takes t.caller 0 ≤ t.number → s.take_moment ≤ moment_of r
take-due reading book s [] t v r whole took known out =
    absurd (omega (arith, whole.taken t v took, out))
take-due reading book s (Pairs pair ∷ steps) t v r are took known out =
    elim (still-outside (IsTake reading book) s.takes pair.take t are.0.take (v, inl took) out) [
      | inl same ↦ omega (
        arith,
        are.0.after_takes,
        are.0.take_effect.last r (ap (record_of book) (sym same) ∙ known),
      )
      | inr later ↦ omega (
        arith,
        are.0.after_takes,
        take-due reading book (after s (Pairs pair)) steps t v r are.1 took known later,
      )
    ]
take-due reading book s (FindNothing m ∷ steps) t v r are took known out =
    omega (
      arith,
      are.0.after_takes,
      take-due reading book (after s (FindNothing m)) steps t v r are.1 took known out,
    )

-- A take that finds nothing and isn't covered isn't overdue, where steps lead to a whole standing.
pub find-due : (reading : Reading) (book : List Page) (s : Paired)
    (steps : List PairStep) (e : Call)
    (r : Record) → IsValid book → AreSteps reading book s steps
    → deal_of reading book e ≡ deals.FoundNothing → record_of book e ≡ Some r
    → (IsHeldBy book e s.found → ⊥) → s.take_moment ≤ moment_of r
find-due reading book s [] e r valid whole nothing known out = absurd (out (whole.found e nothing))
find-due reading book s (Pairs pair ∷ steps) e r valid are nothing known out =
    omega (
      arith,
      are.0.after_takes,
      find-due reading book (after s (Pairs pair)) steps e r valid are.1 nothing known out,
    )
find-due reading book s (FindNothing m ∷ steps) e r valid are nothing known out =
    elim (cases_lt (moment_of r) m) [
      | inl early ↦
          let own : Holds r.view e = omega (arith, valid.own e r known) in
          let late : m ≤ moment_of r =
          are.0.in_time e r nothing known (e, r, known, own, omega (arith, early)) out in
          absurd (omega (arith, early, late))
      | inr late ↦ omega (arith, are.0.after_takes, late)
    ]
