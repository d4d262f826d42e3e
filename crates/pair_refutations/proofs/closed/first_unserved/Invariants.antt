use Rattle.std.proofs.Common.{ℕ, ◌<◌, List}
use Rattle.book_base.specs.declared.TheConstants.{MAX_CALLERS}
use Rattle.queue_pairs.specs.Pairs.{Paired}
use Rattle.queue_pairs.specs.NextEntries.{paired}
use Rattle.pair_refutations.specs.declared.entry.Move.TheVariants.{Callers}
use Rattle.pair_refutations.specs.Closed.{GoesOn}
use Rattle.pair_refutations.specs.Tabled.{OfEach, AreGoodTo}
use Rattle.pair_refutations.proofs.closed.first_unserved.Given as goal

abbrev pub invariant-loop-taker : goal.invariant-loop-taker
invariant-loop-taker l = OfEach l.standing l.next (λ reading book table. (standings : List Paired)
    → AreGoodTo reading book table standings l.standing MAX_CALLERS 0 l.good
    → (j : ℕ) → j < l.taker → GoesOn reading book standings (paired l.standing)
    (Callers l.putter j))
