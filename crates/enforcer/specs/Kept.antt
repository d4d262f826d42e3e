-- Which book is kept after a judgement for the caller's next one, and how much of the judged book
-- is new.
use Rattle.std.specs.Prelude.{◌≡◌, ℕ, Option, None, IfSome, IsSomeAnd, length}
use Rattle.row_gather.specs.declared.gathered.Gathered.{Gathered}
use Rattle.row_gather.specs.Gathered.{TicksForNew}
use Rattle.enforcer.specs.declared.outcome.Outcome.{Outcome}
use Rattle.enforcer.specs.declared.outcome.Outcome.TheVariants.{Delivered, Illegal}

-- After `Delivered` a book of n callers is kept with the seen cut of the outcome; after `Illegal`,
-- which carries its book, no book is kept.
abbrev pub IsKeptAfterOutcome : ℕ → Outcome → Option Gathered → Type 0
IsKeptAfterOutcome n (Delivered reply view seen order) gathered =
    IsSomeAnd gathered (λ g. (length g.book ≡ n) × (g.cut ≡ seen))
IsKeptAfterOutcome n (Illegal reply view seen book) gathered = gathered ≡ None

-- The counter of steps has risen from `before` to `after` by the number of words of the judged book
-- that the book `kept` before the call lacks, if that book is of n callers and its cut is within
-- that of the judged book. If no book was kept before, the counter has risen by the number of all
-- words of the judged book. After `Delivered` the judged book is the one that is kept after the
-- call, where one is, and after `Illegal` the one that the outcome carries.
abbrev pub TicksForNewAfter : ℕ → Option Gathered → Outcome → Option Gathered → ℕ → ℕ → Type 0
TicksForNewAfter n kept (Delivered reply view seen order) gathered before after =
    IfSome gathered (λ g. TicksForNew n kept g before after)
TicksForNewAfter n kept (Illegal reply view seen book) gathered before after =
    TicksForNew n kept (record { book = book; cut = seen }) before after
