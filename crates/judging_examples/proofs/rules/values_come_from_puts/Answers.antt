use Rattle.std.proofs.Common.{List, [], ◌∷◌, refl, inl, inr, arith}
use Rattle.book_base.specs.declared.call.Call.{Call}
use Rattle.book_base.specs.Book.{Page}
use Rattle.seq_objects.specs.declared.kind.Kind.TheVariants as kinds
use Rattle.seq_objects.specs.Words.{enq, deq, write, read, is_known_word, entry_of, entries}
use Rattle.broken_rules.specs.declared.rule.Rule.TheVariants as rules
use Rattle.broken_rules.specs.Demands.{Meets}
use Rattle.broken_rules.specs.Rules.{puts_demand}
use Rattle.judging_examples.specs.SmallObjects.{call_of}
use Rattle.judging_examples.specs.RuleBooks.{take_and_put, look_and_add}
use Rattle.judging_examples.proofs.RuleBooks.{below_one, each_call, take_is_no_put}
use Rattle.judging_examples.proofs.rules.values_come_from_puts.Goals as goal

pub returns-clause-taken : goal.returns-clause-taken
returns-clause-taken c =
    let book : List Page = take_and_put enq deq (1 ∷ 0 ∷ []) in
    let first : Call = call_of 0 0 in
    let P : Call → Type 0 = Meets kinds.Queue book (puts_demand rules.TakenUnput) first first in
    record {
      first = omega arith;
      second = omega arith;
      kept = refl;
      fit = refl;
      related = refl;
      puts = each_call book P refl
          (below_one (λ k. P (call_of 0 k)) (λ e. absurd (take_is_no_put 5 5 e)))
          (below_one (λ k. P (call_of 1 k)) (λ e. inl (omega arith)));
      takes = λ call inside. tt;
    }

pub returns-clause-put : goal.returns-clause-put
returns-clause-put c = λ breaks.
    elim (breaks.puts (call_of 1 0) (omega arith) refl) [
      | inl answered ↦ omega (arith, answered)
      | inr own ↦ omega (arith, own.0)
    ]

pub returns-clause-read : goal.returns-clause-read
returns-clause-read c =
    let book : List Page = take_and_put write read (1 ∷ 0 ∷ []) in
    let first : Call = call_of 0 0 in
    let P : Call → Type 0 = Meets kinds.Register book (puts_demand rules.ReadUnwritten) first first in
    record {
      first = omega arith;
      second = omega arith;
      kept = refl;
      fit = refl;
      related = refl;
      puts = each_call book P refl
          (below_one (λ k. P (call_of 0 k)) (λ e. absurd (take_is_no_put 5 5 e)))
          (below_one (λ k. P (call_of 1 k)) (λ e. inl (omega arith)));
      takes = λ call inside. tt;
    }

pub returns-clause-written : goal.returns-clause-written
returns-clause-written c = λ breaks.
    elim (breaks.puts (call_of 1 0) (omega arith) refl) [
      | inl answered ↦ omega (arith, answered)
      | inr own ↦ omega (arith, own.0)
    ]

pub returns-clause-found : goal.returns-clause-found
unfolding is_known_word entry_of entries
returns-clause-found c =
    let book : List Page = look_and_add (1 ∷ 0 ∷ []) in
    let first : Call = call_of 0 0 in
    let P : Call → Type 0 = Meets kinds.IntSet book (puts_demand rules.FoundUnput) first first in
    record {
      first = omega arith;
      second = omega arith;
      kept = refl;
      fit = refl;
      related = refl;
      puts = each_call book P refl
          (below_one (λ k. P (call_of 0 k)) (λ e. absurd (take_is_no_put 3 3 e)))
          (below_one (λ k. P (call_of 1 k)) (λ e. inl (omega arith)));
      takes = λ call inside. tt;
    }

pub returns-clause-added : goal.returns-clause-added
unfolding is_known_word entry_of entries
returns-clause-added c = λ breaks.
    elim (breaks.puts (call_of 1 0) (omega arith) refl) [
      | inl answered ↦ omega (arith, answered)
      | inr own ↦ omega (arith, own.0)
    ]
