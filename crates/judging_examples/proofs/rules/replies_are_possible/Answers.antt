use Rattle.std.proofs.Common.{◌≡◌, ℕ, List, [], refl, arith}
use Rattle.seq_objects.specs.declared.kind.Kind.TheVariants as kinds
use Rattle.seq_objects.specs.Words.{enq}
use Rattle.seq_objects.specs.Replies.{reply_done, reply_value}
use Rattle.seq_objects.specs.Objects.{kind_next}
use Rattle.judging_examples.specs.Runs.{operation}
use Rattle.judging_examples.proofs.rules.replies_are_possible.Goals as goal

done_alone : (list : List ℕ) → (kind_next kinds.Queue list (operation enq 5)).1 ≡ reply_value 5 → ⊥
unfolding kind_next
done_alone list replied = let same : reply_done ≡ reply_value 5 = replied in omega (arith, same)

done_at_first : (kind_next kinds.Queue [] (operation enq 5)).1 ≡ reply_done
unfolding kind_next
done_at_first = refl

pub returns-clause-never : goal.returns-clause-never
returns-clause-never c = record {
  first = omega arith;
  second = omega arith;
  kept = refl;
  fit = refl;
  related = (refl, λ (list, replied). done_alone list replied);
  puts = λ call inside. tt;
  takes = λ call inside. tt;
}

pub returns-clause-done : goal.returns-clause-done
returns-clause-done c breaks = breaks.related.1 ([], done_at_first)
