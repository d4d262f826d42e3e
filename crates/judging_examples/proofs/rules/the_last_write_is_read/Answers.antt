use Rattle.std.proofs.Common.{List, refl, inl, inr, arith}
use Rattle.book_base.specs.declared.call.Call.{Call}
use Rattle.book_base.specs.Book.{Page}
use Rattle.seq_objects.specs.declared.kind.Kind.TheVariants as kinds
use Rattle.seq_objects.specs.Words.{write, read}
use Rattle.broken_rules.specs.declared.rule.Rule.TheVariants as rules
use Rattle.broken_rules.specs.Demands.{Meets}
use Rattle.broken_rules.specs.Rules.{puts_demand}
use Rattle.judging_examples.specs.Runs.{operation}
use Rattle.judging_examples.specs.SmallObjects.{call_of}
use Rattle.judging_examples.specs.RuleBooks.{puts_and_take}
use Rattle.judging_examples.proofs.RuleBooks.{below_one, below_three, each_call, same_put, take_is_no_put}
use Rattle.judging_examples.proofs.rules.the_last_write_is_read.Goals as goal

pub returns-clause-overwritten : goal.returns-clause-overwritten
returns-clause-overwritten c =
    let book : List Page = puts_and_take write read 5 (operation write 7) in
    let P : Call → Type 0 =
    Meets kinds.Register book (puts_demand rules.ReadOverwritten) (call_of 0 1) (call_of 1 0) in
    record {
      first = omega arith;
      second = omega arith;
      kept = refl;
      fit = refl;
      related = inl (omega arith);
      puts = each_call book P refl
          (below_three (λ k. P (call_of 0 k)) (λ e. inl (inr (refl, omega arith)))
          (λ e. absurd (omega (arith, same_put 6 5 e)))
          (λ e. absurd (omega (arith, same_put 7 5 e))))
          (below_one (λ k. P (call_of 1 k)) (λ e. absurd (take_is_no_put 5 5 e)));
      takes = λ call inside. tt;
    }

pub returns-clause-last : goal.returns-clause-last
returns-clause-last c = λ breaks.
    elim (breaks.puts (call_of 0 1) (omega arith) refl) [
      | inl before ↦ elim before [
        | inl answered ↦ omega (arith, answered)
        | inr own ↦ omega (arith, own.1)
      ]
      | inr later ↦ elim later [
        | inl answered ↦ omega (arith, answered)
        | inr own ↦ omega (arith, own.0)
      ]
    ]

pub returns-clause-anew : goal.returns-clause-anew
returns-clause-anew c = λ breaks.
    elim (breaks.puts (call_of 0 2) (omega arith) refl) [
      | inl before ↦ elim before [
        | inl answered ↦ answered
        | inr own ↦ omega (arith, own.1)
      ]
      | inr later ↦ elim later [
        | inl answered ↦ omega (arith, answered)
        | inr own ↦ omega (arith, own.0)
      ]
    ]
