use Rattle.std.proofs.Common.{List, [], ◌∷◌, refl, inl, inr, arith}
use Rattle.book_base.specs.declared.call.Call.{Call}
use Rattle.book_base.specs.Book.{Page}
use Rattle.seq_objects.specs.declared.kind.Kind.TheVariants as kinds
use Rattle.seq_objects.specs.Words.{enq}
use Rattle.broken_rules.specs.declared.rule.Rule.TheVariants as rules
use Rattle.broken_rules.specs.Demands.{Meets}
use Rattle.broken_rules.specs.Rules.{takes_demand}
use Rattle.judging_examples.specs.Runs.{operation}
use Rattle.judging_examples.specs.SmallObjects.{call_of}
use Rattle.judging_examples.specs.RuleBooks.{put_and_nothing}
use Rattle.judging_examples.proofs.RuleBooks.{below_one, below_two, each_call, put_takes_none, nothing_takes_none}
use Rattle.judging_examples.proofs.rules.takes_find_values.Goals as goal

-- The book in which no call takes 5.
abbrev untaken : List Page
untaken = put_and_nothing (1 ∷ 0 ∷ []) (operation enq 6)

pub returns-clause-after : goal.returns-clause-after
returns-clause-after c =
    let first : Call = call_of 0 0 in
    let second : Call = call_of 1 0 in
    let P : Call → Type 0 = Meets kinds.Queue untaken (takes_demand rules.FoundNothing) first second in
    record {
      first = omega arith;
      second = omega arith;
      kept = refl;
      fit = refl;
      related = inl (omega arith);
      puts = λ call inside. tt;
      takes = each_call untaken P refl
          (below_two (λ k. P (call_of 0 k))
          (λ may. absurd (put_takes_none kinds.Queue untaken 5 first refl may))
          (λ may. absurd (put_takes_none kinds.Queue untaken 5 (call_of 0 1) refl may)))
          (below_one (λ k. P (call_of 1 k))
          (λ may. absurd (nothing_takes_none kinds.Queue untaken 5 second refl may)));
    }

pub returns-clause-meanwhile : goal.returns-clause-meanwhile
returns-clause-meanwhile c = λ breaks. elim breaks.related [
  | inl answered ↦ omega (arith, answered)
  | inr own ↦ omega (arith, own.0)
]

pub returns-clause-unanswered : goal.returns-clause-unanswered
returns-clause-unanswered c = λ breaks. elim (breaks.takes (call_of 0 1) (omega arith) (inr refl)) [
  | inl answered ↦ omega (arith, answered)
  | inr own ↦ omega (arith, own.0)
]
