use Rattle.std.proofs.Common.{◌≡◌, List, refl, ap, arith}
use Rattle.book_base.specs.declared.call.Call.{Call}
use Rattle.book_base.specs.Book.{Page}
use Rattle.seq_objects.specs.declared.kind.Kind.TheVariants as kinds
use Rattle.broken_rules.specs.declared.rule.Rule.TheVariants as rules
use Rattle.broken_rules.specs.Demands.{Took, Meets}
use Rattle.broken_rules.specs.Rules.{puts_demand}
use Rattle.judging_examples.specs.SmallObjects.{call_of}
use Rattle.judging_examples.specs.RuleBooks.{puts_and_takes}
use Rattle.judging_examples.proofs.RuleBooks.{below_two, each_call, same_put, same_take, take_is_no_put, put_is_no_take}
use Rattle.judging_examples.proofs.rules.values_are_taken_once.Goals as goal

abbrev put : Call
put = call_of 0 0

abbrev take : Call
take = call_of 1 0

-- The numbers of calls that are the same are the same.
same_number : (a b : Call) → a ≡ b → a.number ≡ b.number
same_number a b e = ap (λ (c : Call). c.number) e

pub returns-clause-twice : goal.returns-clause-twice
returns-clause-twice c =
    let book : List Page = puts_and_takes 6 5 in
    let P : Call → Type 0 = Meets kinds.Queue book (puts_demand rules.TakenTwice) put take in
    record {
      first = omega arith;
      second = omega arith;
      kept = refl;
      fit = refl;
      related = λ all.
          absurd (omega (arith, same_number (call_of 1 1) take (all (call_of 1 1) (omega arith) refl)));
      puts = each_call book P refl
          (below_two (λ k. P (call_of 0 k)) (λ e. refl) (λ e. absurd (omega (arith, same_put 6 5 e))))
          (below_two (λ k. P (call_of 1 k)) (λ e. absurd (take_is_no_put 5 5 e))
          (λ e. absurd (take_is_no_put 5 5 e)));
      takes = λ call inside. tt;
    }

pub returns-clause-once : goal.returns-clause-once
returns-clause-once c = λ breaks.
    let book : List Page = puts_and_takes 6 6 in
    let P : Call → Type 0 = λ call. Took kinds.Queue book 5 call → call ≡ take in
    breaks.related (each_call book P refl
    (below_two (λ k. P (call_of 0 k)) (λ e. absurd (put_is_no_take 5 5 e))
    (λ e. absurd (put_is_no_take 6 5 e)))
    (below_two (λ k. P (call_of 1 k)) (λ e. refl) (λ e. absurd (omega (arith, same_take 6 5 e)))))

pub returns-clause-put_twice : goal.returns-clause-put_twice
returns-clause-put_twice c = λ breaks.
    omega (arith, same_number (call_of 0 1) put (breaks.puts (call_of 0 1) (omega arith) refl))
