-- What one more event changes of orders and configurations.
use Rattle.std.proofs.Common.{ℕ, ◌∙◌, List, ◌++◌, refl, sym, ap, subst}
use Rattle.book_base.specs.SeqSpec.{SeqSpec}
use Rattle.book_base.specs.Sequential.{IsRunFrom}
use Rattle.book_base.specs.Reaching.{list_after_run}
use Rattle.streams.specs.Stream.{StreamEvent, Called}
use Rattle.streams.specs.StreamOrder.{StreamPlace}
use Rattle.streams.proofs.Returning.{get-longer, returns-longer}
use Rattle.streams.proofs.Pushing.{NoneReturns}
use Rattle.residue_laws.specs.Residue.{Configuration, StreamReaches}
use Rattle.residue_laws.specs.Step.{AreAlike}
use Rattle.residue_laws.proofs.Appending.{AreCalls, steps-longer}

-- a configuration that an order comes to is one to which it comes after events without a return
pub reaches-longer : (spec : SeqSpec) (stream later : List StreamEvent) (order : List StreamPlace)
    (at : Configuration) → NoneReturns stream later → StreamReaches spec stream order at
    → StreamReaches spec (stream ++ later) order at
reaches-longer spec stream later order at none h = record {
  legal = record {
    calls = λ place among. let is = h.legal.calls place among in
        (is.0, is.1, get-longer stream later place.call (Called is.0 is.1) is.2);
    once = h.legal.once;
    returned = λ call end reply returns.
        h.legal.returned call end reply (none call end reply returns);
    run = subst (λ (s : List (ℕ × ℕ)). IsRunFrom spec.next spec.init s)
        (sym (steps-longer stream later order h.legal.calls)) h.legal.run;
    precedence = λ j k a b first second (end, reply, returns, before).
        h.legal.precedence j k a b first second (end, reply, none a.call end reply returns, before);
  };
  placed = λ place. (
    λ among. let is = (h.placed place).0 among in
        (is.0, λ (end, reply, returns). is.1 (end, reply, none place.call end reply returns)),
    λ (among, not). (h.placed place).1 (
      among,
      λ (end, reply, returns).
          not (end, reply, returns-longer stream later place.call end reply returns),
    ),
  );
  list = ap (λ (s : List (ℕ × ℕ)). list_after_run spec.next spec.init s)
      (steps-longer stream later order h.legal.calls) ∙ h.list;
}

-- and the other way round, where the order has calls of the shorter stream alone
pub reaches-shorter : (spec : SeqSpec) (stream later : List StreamEvent) (order : List StreamPlace)
    (at : Configuration) → NoneReturns stream later → AreCalls stream order
    → StreamReaches spec (stream ++ later) order at → StreamReaches spec stream order at
reaches-shorter spec stream later order at none calls h = record {
  legal = record {
    calls = calls;
    once = h.legal.once;
    returned = λ call end reply returns. h.legal.returned call end reply
        (returns-longer stream later call end reply returns);
    run = subst (λ (s : List (ℕ × ℕ)). IsRunFrom spec.next spec.init s)
        (steps-longer stream later order calls) h.legal.run;
    precedence = λ j k a b first second (end, reply, returns, before).
        h.legal.precedence j k a b first second
        (end, reply, returns-longer stream later a.call end reply returns, before);
  };
  placed = λ place. (
    λ among. let is = (h.placed place).0 among in (
      is.0,
      λ (end, reply, returns).
          is.1 (end, reply, returns-longer stream later place.call end reply returns),
    ),
    λ (among, not). (h.placed place).1 (
      among,
      λ (end, reply, returns).
          not (end, reply, none place.call end reply returns),
    ),
  );
  list = ap (λ (s : List (ℕ × ℕ)). list_after_run spec.next spec.init s)
      (sym (steps-longer stream later order calls)) ∙ h.list;
}

-- an order comes to each configuration that is alike
pub reaches-alike : (spec : SeqSpec) (stream : List StreamEvent) (order : List StreamPlace)
    (at other : Configuration) → AreAlike at other → StreamReaches spec stream order at
    → StreamReaches spec stream order other
reaches-alike spec stream order at other (placed, list) h = record {
  legal = h.legal;
  placed = λ place. (
    λ among. (h.placed place).0 ((placed place).1 among),
    λ both. (placed place).0 ((h.placed place).1 both),
  );
  list = h.list ∙ list;
}

pub alike_itself : (at : Configuration) → AreAlike at at
alike_itself at = (λ place. (λ among. among, λ among. among), refl)
