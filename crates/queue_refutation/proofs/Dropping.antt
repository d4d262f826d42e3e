-- In a book with one open a pair of an unanswered put and an unanswered take may be left out: no
-- view that holds one of the two calls holds a later call of its caller.
use Rattle.std.proofs.Common.{◌≡◌, ◌≢◌, ℕ, ◌+◌, ◌<◌, ◌≤◌, ◌∙◌, List, [], ◌∷◌, length, get_or, set, Some, refl, sym, ap, subst, inl, inr, arith}
use Rattle.std.proofs.lemmas.Bool.{cases_lt, cases_eq}
use Rattle.std.proofs.lemmas.Option.{slice_get_within}
use Rattle.std.proofs.lemmas.List.{get_or-set_same, get_or-set_other, length-set}
use Rattle.book_base.specs.declared.call.Call.{Call}
use Rattle.book_base.specs.declared.call.Record.{Record}
use Rattle.book_base.specs.Book.{Page, answers_of, record_of}
use Rattle.book_base.specs.Pruning.{HasOneOpen}
use Rattle.book_base.proofs.ViewLemmas.{same_call}
use Rattle.legal_orders.specs.Container.{Reading}
use Rattle.legal_orders.specs.Deals as deals
use Rattle.legal_orders.specs.Deals.{deal_of}
use Rattle.legal_orders.proofs.Dealing.{takes_by_deal, call_by_deal}
use Rattle.book_base.proofs.PageLemmas.{caller_from_call}
use Rattle.queue_pairs.specs.Moments.{IsHeldBy, MayTakeEffect}
use Rattle.queue_pairs.specs.Pairs.{Paired, PairStep, Pairs, FindNothing, IsPut, IsTake, IsNext, after, AreSteps}
use Rattle.queue_pairs.proofs.Serving.{next-at}
use Rattle.queue_refutation.specs.RefutationLaws.{UnansweredPairsAreIdle}

-- The numbers `few` are those of `many`, but for one unanswered call, the next of its kind, that
-- only `many` covers.
record Lacks (book : List Page) (kind : Call → Type 0) (few many : List ℕ) (call : Call)
    : Type 0 where
  next : IsNext kind few call
  unanswered : answers_of book call.caller ≤ call.number
  has : get_or many call.caller 0 ≡ call.number + 1
  others : (i : ℕ) → i ≢ call.caller → get_or few i 0 ≡ get_or many i 0

-- an answered call of the kind that `few` doesn't cover isn't covered by `many`
lacks-outside : (book : List Page) (kind : Call → Type 0) (few many : List ℕ) (call other : Call)
    (r : Record) → Lacks book kind few many call → kind other → record_of book other ≡ Some r
    → get_or few other.caller 0 ≤ other.number → get_or many other.caller 0 ≤ other.number
lacks-outside book kind few many call other r h is known out =
    elim (cases_eq other.caller call.caller) [
      | inl same ↦
          let answered : other.number < answers_of book other.caller
          = slice_get_within _ other.number r known in
          let less : other.number < call.number
          = omega (arith, answered, h.unanswered, ap (answers_of book) same) in
          let there : kind (record { caller = call.caller; number = other.number })
          = subst kind
          (same_call other (record { caller = call.caller; number = other.number }) same refl)
          is in
          absurd (h.next.first other.number
          (omega (arith, out, ap (λ (i : ℕ). get_or few i 0) same)) less there)
      | inr apart ↦ omega (arith, out, h.others other.caller apart)
    ]

-- no later call of the unanswered call's caller may take effect at any moment, since a view would
-- hold both
lacks-apart : (book : List Page) (kind : Call → Type 0) (few many : List ℕ) (call other : Call)
    (m : ℕ) → HasOneOpen book → Lacks book kind few many call
    → get_or many other.caller 0 ≤ other.number → MayTakeEffect book other m
    → other.caller ≢ call.caller
lacks-apart book kind few many call other m one h out effect same =
    let by = effect.first in
    let count : get_or by.1.view other.caller 0 ≤ answers_of book other.caller + 1
    = one by.0 by.1 other.caller by.2 in
    absurd (omega (
      arith,
      count,
      by.3,
      out,
      h.has,
      h.unanswered,
      ap (λ (i : ℕ). get_or many i 0) same,
      ap
          (answers_of book) same,
    ))

-- the numbers still differ in the unanswered call alone once both cover another caller's call
lacks-later : (book : List Page) (kind : Call → Type 0) (few many : List ℕ) (call other : Call)
    → Lacks book kind few many call → other.caller ≢ call.caller
    → other.caller < length few → other.caller < length many
    → Lacks book kind (set few other.caller (other.number + 1))
    (set many other.caller (other.number + 1)) call
lacks-later book kind few many call other h apart inside_few inside_many =
    let back : call.caller ≢ other.caller = λ (e : call.caller ≡ other.caller). apart (sym e) in
    record {
      next = next-at kind (set few other.caller (other.number + 1)) few call
          (get_or-set_other few other.caller call.caller (other.number + 1) 0 back) h.next;
      unanswered = h.unanswered;
      has = get_or-set_other many other.caller call.caller (other.number + 1) 0 back ∙ h.has;
      others = λ i not_call. elim (cases_eq i other.caller) [
        | inl same ↦
            ap (λ (k : ℕ). get_or (set few other.caller (other.number + 1)) k 0) same
            ∙ (get_or-set_same few other.caller (other.number + 1) 0 inside_few
            ∙ (sym (get_or-set_same many other.caller (other.number + 1) 0 inside_many)
            ∙ sym (ap (λ (k : ℕ). get_or (set many other.caller (other.number + 1)) k 0) same)))
        | inr other_caller ↦
            get_or-set_other few other.caller i (other.number + 1) 0 other_caller
            ∙ (h.others i not_call ∙ sym
            (get_or-set_other many other.caller i (other.number + 1) 0 other_caller))
      ];
    }

-- The standing t covers what s covers but for a pair of an unanswered put and an unanswered take,
-- at no later moments.
record Dropped (reading : Reading) (book : List Page) (t s : Paired) (p q : Call) : Type 0 where
  puts : Lacks book (IsPut reading book) t.puts s.puts p
  takes : Lacks book (IsTake reading book) t.takes s.takes q
  found : t.found ≡ s.found
  put_moment : t.put_moment ≤ s.put_moment
  take_moment : t.take_moment ≤ s.take_moment
  wide_puts : length book ≤ length t.puts
  wide_takes : length book ≤ length t.takes
  long_puts : length s.puts ≡ length t.puts
  long_takes : length s.takes ≡ length t.takes

dropped-steps : (reading : Reading) (book : List Page) (t s : Paired) (p q : Call)
    (steps : List PairStep) → HasOneOpen book → Dropped reading book t s p q
    → AreSteps reading book s steps → AreSteps reading book t steps
dropped-steps reading book t s p q [] one h whole = record {
  taken = λ x v took.
      let by = takes_by_deal reading book x v took in
      elim (cases_lt x.number (get_or t.takes x.caller 0)) [
        | inl stands ↦ stands
        | inr out ↦
            let there = lacks-outside book (IsTake reading book) t.takes s.takes q x by.1 h.takes
            (v, inl took) by.3 out in
            absurd (omega (arith, there, whole.taken x v took))
      ];
  found = λ e nothing. subst (λ (m : ℕ). IsHeldBy book e m) (sym h.found) (whole.found e nothing);
  kept = λ x r put known out. omega (
    arith,
    h.put_moment,
    whole.kept x r put known
        (lacks-outside book (IsPut reading book) t.puts s.puts p x r h.puts put known out),
  );
}
dropped-steps reading book t s p q (Pairs pair ∷ steps) one h are =
    let may = are.0 in
    let put_apart : pair.put.caller ≢ p.caller
    = lacks-apart book (IsPut reading book) t.puts s.puts p pair.put pair.put_moment one h.puts
    may.put.outside may.put_effect in
    let take_apart : pair.take.caller ≢ q.caller
    = lacks-apart book (IsTake reading book) t.takes s.takes q pair.take pair.take_moment one
    h.takes may.take.outside may.take_effect in
    let put_call = call_by_deal reading book pair.put
    (λ (other : deal_of reading book pair.put ≡ deals.Other). let wrong : deals.Put
    may.value ≡ deals.Other = sym may.puts ∙ other in cc) in
    let take_call = call_by_deal reading book pair.take
    (λ (other : deal_of reading book pair.take ≡ deals.Other). let none : ⊥ = elim may.takes [
      | inl took ↦ (let wrong : deals.Took may.value ≡ deals.Other = sym took ∙ other in cc)
      | inr unseen ↦ (let wrong : deals.OpenTake ≡ deals.Other = sym unseen ∙ other in cc)
    ] in none) in
    let put_inside : pair.put.caller < length t.puts
    = omega (
      arith,
      caller_from_call book pair.put.caller pair.put.number put_call,
      h.wide_puts,
    ) in
    let take_inside : pair.take.caller < length t.takes
    = omega (
      arith,
      caller_from_call book pair.take.caller pair.take.number take_call,
      h.wide_takes,
    ) in
    let later : Dropped reading book (after t (Pairs pair)) (after s (Pairs pair)) p q = record {
      puts = lacks-later book (IsPut reading book) t.puts s.puts p pair.put h.puts put_apart
          put_inside (omega (arith, put_inside, h.long_puts));
      takes = lacks-later book (IsTake reading book) t.takes s.takes q pair.take h.takes take_apart
          take_inside (omega (arith, take_inside, h.long_takes));
      found = h.found;
      put_moment = omega arith;
      take_moment = omega arith;
      wide_puts = omega
          (arith, h.wide_puts, length-set t.puts pair.put.caller (pair.put.number + 1));
      wide_takes = omega
          (arith, h.wide_takes, length-set t.takes pair.take.caller (pair.take.number + 1));
      long_puts = length-set s.puts pair.put.caller (pair.put.number + 1)
          ∙ (h.long_puts ∙ sym (length-set t.puts pair.put.caller (pair.put.number + 1)));
      long_takes = length-set s.takes pair.take.caller (pair.take.number + 1)
          ∙ (h.long_takes ∙ sym (length-set t.takes pair.take.caller (pair.take.number + 1)));
    } in (
      record {
        value = may.value;
        puts = may.puts;
        takes = may.takes;
        put = next-at (IsPut reading book) t.puts s.puts pair.put
            (h.puts.others pair.put.caller put_apart) may.put;
        take = next-at (IsTake reading book) t.takes s.takes pair.take
            (h.takes.others pair.take.caller take_apart) may.take;
        after_puts = omega (arith, may.after_puts, h.put_moment);
        after_takes = omega (arith, may.after_takes, h.take_moment);
        in_turn = may.in_turn;
        put_effect = may.put_effect;
        take_effect = may.take_effect;
      },
      dropped-steps reading book (after t (Pairs pair)) (after s (Pairs pair)) p q steps one later
          are.1,
    )
dropped-steps reading book t s p q (FindNothing m ∷ steps) one h are =
    let later : Dropped reading book (after t (FindNothing m)) (after s (FindNothing m)) p q
    = record {
      puts = h.puts;
      takes = h.takes;
      found = refl;
      put_moment = omega arith;
      take_moment = omega arith;
      wide_puts = h.wide_puts;
      wide_takes = h.wide_takes;
      long_puts = h.long_puts;
      long_takes = h.long_takes;
    } in (
      record {
        after_takes = omega (arith, are.0.after_takes, h.take_moment);
        in_time = λ e r nothing known by out. are.0.in_time e r nothing known by
            (λ before. out (subst (λ (n : ℕ). IsHeldBy book e n) (sym h.found) before));
      },
      dropped-steps reading book (after t (FindNothing m)) (after s (FindNothing m)) p q steps one
          later are.1,
    )

pub unanswered_pairs_are_idle : UnansweredPairsAreIdle
unanswered_pairs_are_idle reading book s pair steps one wide_puts wide_takes unanswered are =
    let may = are.0 in
    let put_call = call_by_deal reading book pair.put
    (λ (other : deal_of reading book pair.put ≡ deals.Other). let wrong : deals.Put
    may.value ≡ deals.Other = sym may.puts ∙ other in cc) in
    let take_call = call_by_deal reading book pair.take
    (λ (other : deal_of reading book pair.take ≡ deals.Other). let none : ⊥ = elim may.takes [
      | inl took ↦ (let wrong : deals.Took may.value ≡ deals.Other = sym took ∙ other in cc)
      | inr unseen ↦ (let wrong : deals.OpenTake ≡ deals.Other = sym unseen ∙ other in cc)
    ] in none) in
    let put_inside : pair.put.caller < length s.puts
    = omega (
      arith,
      caller_from_call book pair.put.caller pair.put.number put_call,
      wide_puts,
    ) in
    let take_inside : pair.take.caller < length s.takes
    = omega (
      arith,
      caller_from_call book pair.take.caller pair.take.number take_call,
      wide_takes,
    ) in
    dropped-steps reading book s (after s (Pairs pair)) pair.put pair.take steps one
    (record {
      puts = record {
        next = may.put;
        unanswered = unanswered.put;
        has = get_or-set_same s.puts pair.put.caller (pair.put.number + 1) 0 put_inside;
        others = λ i other. sym
            (get_or-set_other s.puts pair.put.caller i (pair.put.number + 1) 0 other);
      };
      takes = record {
        next = may.take;
        unanswered = unanswered.take;
        has = get_or-set_same s.takes pair.take.caller (pair.take.number + 1) 0 take_inside;
        others = λ i other. sym
            (get_or-set_other s.takes pair.take.caller i (pair.take.number + 1) 0 other);
      };
      found = refl;
      put_moment = may.after_puts;
      take_moment = may.after_takes;
      wide_puts = wide_puts;
      wide_takes = wide_takes;
      long_puts = length-set s.puts pair.put.caller (pair.put.number + 1);
      long_takes = length-set s.takes pair.take.caller (pair.take.number + 1);
    }) are.1
