use Rattle.std.proofs.Common.{◌≡◌, ℕ, [], refl, ap, length, arith}
use Rattle.seq_objects.specs.Objects.{kind_next}
use Rattle.judging_examples.proofs.smaller_books.reads_leave.Goals as goal

pub returns-clause-reads : goal.returns-clause-reads
unfolding kind_next
returns-clause-reads c = λ list replied. refl

pub returns-clause-writes : goal.returns-clause-writes
unfolding kind_next
returns-clause-writes c = λ leaves.
    let long : ◌≡◌ {A = ℕ} 1 0 = ap length (leaves [] refl) in
    omega (arith, long)
