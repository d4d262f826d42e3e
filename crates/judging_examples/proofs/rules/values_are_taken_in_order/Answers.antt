use Rattle.std.proofs.Common.{List, refl, sym, inl, inr, arith}
use Rattle.std.proofs.lemmas.Bool.{true≢false}
use Rattle.book_base.specs.declared.call.Call.{Call}
use Rattle.book_base.specs.Book.{Page}
use Rattle.seq_objects.specs.declared.kind.Kind.TheVariants as kinds
use Rattle.seq_objects.specs.Words.{enq, deq, push, pop, insert, min}
use Rattle.broken_rules.specs.declared.rule.Rule.TheVariants as rules
use Rattle.broken_rules.specs.Demands.{Meets}
use Rattle.broken_rules.specs.Rules.{puts_demand, takes_demand}
use Rattle.judging_examples.specs.Runs.{operation}
use Rattle.judging_examples.specs.SmallObjects.{call_of}
use Rattle.judging_examples.specs.RuleBooks.{puts_and_take}
use Rattle.judging_examples.proofs.RuleBooks.{below_one, below_three, each_call, same_put, take_is_no_put, put_takes_none, take_of_another}
use Rattle.judging_examples.proofs.rules.values_are_taken_in_order.Goals as goal

pub returns-clause-passed_over : goal.returns-clause-passed_over
returns-clause-passed_over c =
    let book : List Page = puts_and_take enq deq 6 (operation enq 7) in
    let P : Call → Type 0 =
    Meets kinds.Queue book (puts_demand rules.PassedOver) (call_of 0 0) (call_of 1 0) in
    let Q : Call → Type 0 =
    Meets kinds.Queue book (takes_demand rules.PassedOver) (call_of 0 0) (call_of 1 0) in
    record {
      first = omega arith;
      second = omega arith;
      kept = refl;
      fit = refl;
      related = tt;
      puts = each_call book P refl
          (below_three (λ k. P (call_of 0 k)) (λ e. absurd (omega (arith, same_put 5 6 e)))
          (λ e. inr (refl, omega arith)) (λ e. absurd (omega (arith, same_put 7 6 e))))
          (below_one (λ k. P (call_of 1 k)) (λ e. absurd (take_is_no_put 6 6 e)));
      takes = each_call book Q refl
          (below_three (λ k. Q (call_of 0 k))
          (λ may. absurd (put_takes_none kinds.Queue book 5 (call_of 0 0) refl may))
          (λ may. absurd (put_takes_none kinds.Queue book 5 (call_of 0 1) refl may))
          (λ may. absurd (put_takes_none kinds.Queue book 5 (call_of 0 2) refl may)))
          (below_one (λ k. Q (call_of 1 k)) (λ may. absurd (take_of_another kinds.Queue book 5 6
          (call_of 1 0) refl (λ e. omega (arith, e)) may)));
    }

pub returns-clause-first : goal.returns-clause-first
returns-clause-first c = λ breaks.
    elim (breaks.puts (call_of 0 0) (omega arith) refl) [
      | inl answered ↦ omega (arith, answered)
      | inr own ↦ omega (arith, own.1)
    ]

pub returns-clause-first_gone : goal.returns-clause-first_gone
returns-clause-first_gone c = λ breaks.
    elim (breaks.takes (call_of 0 2) (omega arith) (inr refl)) [
      | inl answered ↦ omega (arith, answered)
      | inr own ↦ omega (arith, own.0)
    ]

pub returns-clause-no_queue : goal.returns-clause-no_queue
returns-clause-no_queue c = λ breaks. true≢false (sym breaks.kept)

pub returns-clause-from_under : goal.returns-clause-from_under
returns-clause-from_under c =
    let book : List Page = puts_and_take push pop 5 (operation push 7) in
    let P : Call → Type 0 =
    Meets kinds.Stack book (puts_demand rules.TakenFromUnder) (call_of 0 1) (call_of 1 0) in
    let Q : Call → Type 0 =
    Meets kinds.Stack book (takes_demand rules.TakenFromUnder) (call_of 0 1) (call_of 1 0) in
    record {
      first = omega arith;
      second = omega arith;
      kept = refl;
      fit = refl;
      related = inl (omega arith);
      puts = each_call book P refl
          (below_three (λ k. P (call_of 0 k)) (λ e. inl (inr (refl, omega arith)))
          (λ e. absurd (omega (arith, same_put 6 5 e)))
          (λ e. absurd (omega (arith, same_put 7 5 e))))
          (below_one (λ k. P (call_of 1 k)) (λ e. absurd (take_is_no_put 5 5 e)));
      takes = each_call book Q refl
          (below_three (λ k. Q (call_of 0 k))
          (λ may. absurd (put_takes_none kinds.Stack book 6 (call_of 0 0) refl may))
          (λ may. absurd (put_takes_none kinds.Stack book 6 (call_of 0 1) refl may))
          (λ may. absurd (put_takes_none kinds.Stack book 6 (call_of 0 2) refl may)))
          (below_one (λ k. Q (call_of 1 k)) (λ may. absurd (take_of_another kinds.Stack book 6 5
          (call_of 1 0) refl (λ e. omega (arith, e)) may)));
    }

pub returns-clause-last : goal.returns-clause-last
returns-clause-last c = λ breaks.
    elim (breaks.puts (call_of 0 1) (omega arith) refl) [
      | inl before ↦ elim before [
        | inl answered ↦ omega (arith, answered)
        | inr own ↦ omega (arith, own.1)
      ]
      | inr later ↦ elim later [
        | inl answered ↦ omega (arith, answered)
        | inr own ↦ omega (arith, own.0)
      ]
    ]

pub returns-clause-above_gone : goal.returns-clause-above_gone
returns-clause-above_gone c = λ breaks.
    elim (breaks.takes (call_of 0 2) (omega arith) (inr refl)) [
      | inl answered ↦ omega (arith, answered)
      | inr own ↦ omega (arith, own.0)
    ]

pub returns-clause-lesser_left : goal.returns-clause-lesser_left
returns-clause-lesser_left c =
    let book : List Page = puts_and_take insert min 6 (operation insert 7) in
    let Q : Call → Type 0 =
    Meets kinds.Pqueue book (takes_demand rules.LesserLeft) (call_of 0 0) (call_of 1 0) in
    record {
      first = omega arith;
      second = omega arith;
      kept = refl;
      fit = refl;
      related = inl (omega arith);
      puts = λ call inside. tt;
      takes = each_call book Q refl
          (below_three (λ k. Q (call_of 0 k))
          (λ may. absurd (put_takes_none kinds.Pqueue book 5 (call_of 0 0) refl may))
          (λ may. absurd (put_takes_none kinds.Pqueue book 5 (call_of 0 1) refl may))
          (λ may. absurd (put_takes_none kinds.Pqueue book 5 (call_of 0 2) refl may)))
          (below_one (λ k. Q (call_of 1 k)) (λ may. absurd (take_of_another kinds.Pqueue book 5 6
          (call_of 1 0) refl (λ e. omega (arith, e)) may)));
    }

pub returns-clause-least : goal.returns-clause-least
returns-clause-least c = λ breaks. true≢false (sym breaks.fit)

pub returns-clause-equal : goal.returns-clause-equal
returns-clause-equal c = λ breaks. true≢false (sym breaks.fit)

pub returns-clause-lesser_gone : goal.returns-clause-lesser_gone
returns-clause-lesser_gone c = λ breaks.
    elim (breaks.takes (call_of 0 2) (omega arith) (inr refl)) [
      | inl answered ↦ omega (arith, answered)
      | inr own ↦ omega (arith, own.0)
    ]
