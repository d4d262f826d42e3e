-- Counts of a table's calls that put in or take out one of some values, up to a moment.
use Rattle.std.specs.Prelude.{◌≡◌, ℕ, ◌<◌, Bool, true, false, nat_eq, nat_le, List, [], count_by, if◌then◌else◌}
use Rattle.std.specs.List.{list_any, sum_by}
use Rattle.book_base.specs.SeqSpec.{SeqSpec}
use Rattle.book_base.specs.Book.{Page}
use Rattle.book_base.specs.Order.{HasLegalOrder}
use Rattle.legal_orders.specs.Container.{Reading, IsContainer}
use Rattle.queue_pairs.specs.declared.table.QueueDeal.{QueueDeal}
use Rattle.queue_pairs.specs.declared.table.QueueDeal.TheVariants as did
use Rattle.queue_pairs.specs.declared.table.Table.{Table}
use Rattle.queue_pairs.specs.declared.table.TimedCall.{TimedCall}
use Rattle.queue_pairs.specs.Tables.{rows_of, IsTable}
use Rattle.queue_pairs.specs.declared.counts.Counted.{Counted}
use Rattle.queue_pairs.specs.declared.counts.Counted.TheVariants as counted

-- Whether a value is in a list of values.
abbrev pub listed : List ℕ → ℕ → Bool
listed values v = list_any (λ w. nat_eq w v) values

-- whether a call with this deal puts in a value that passes a test
abbrev pub puts_one : (ℕ → Bool) → QueueDeal → Bool
puts_one test (did.Put v) = test v
puts_one test (did.Took v) = false
puts_one test did.FoundNothing = false
puts_one test did.OpenTake = false
puts_one test did.Other = false

-- whether a call with this deal is a take that shows a value which passes a test
abbrev pub shows_one : (ℕ → Bool) → QueueDeal → Bool
shows_one test (did.Put v) = false
shows_one test (did.Took v) = test v
shows_one test did.FoundNothing = false
shows_one test did.OpenTake = false
shows_one test did.Other = false

-- Whether a call with this deal is a take that shows a value which passes a test, or an unanswered
-- take.
abbrev pub may_take_one : (ℕ → Bool) → QueueDeal → Bool
may_take_one test (did.Put v) = false
may_take_one test (did.Took v) = test v
may_take_one test did.FoundNothing = false
may_take_one test did.OpenTake = true
may_take_one test did.Other = false

-- Whether a call is one of those that are counted, for a list of values and up to a moment `m`: a
-- due or an early put of one of the values, or a due or an early take that shows one. A call is due
-- where the last moment of its span is no later than `m`, and early where the first moment is.
-- Unanswered takes are counted among the early takes too.
abbrev pub is_counted : Counted → List ℕ → ℕ → TimedCall → Bool
is_counted counted.DuePuts values m t =
    if puts_one (listed values) t.deal then nat_le t.span.last m else false
is_counted counted.EarlyPuts values m t =
    if puts_one (listed values) t.deal then nat_le t.span.first m else false
is_counted counted.DueTakes values m t =
    if shows_one (listed values) t.deal then nat_le t.span.last m else false
is_counted counted.EarlyTakes values m t =
    if may_take_one (listed values) t.deal then nat_le t.span.first m else false

-- how many calls of a table pass a test
abbrev pub count_in : (TimedCall → Bool) → Table → ℕ
count_in test table = sum_by (count_by test) (rows_of table)

-- More puts of some values have taken effect by the moment `m` than takes that show one of the
-- values, or are unanswered, may have taken effect by the moment `n`.
abbrev pub PutsAhead : Table → List ℕ → ℕ → ℕ → Type 0
PutsAhead table values m n = count_in (is_counted counted.EarlyTakes values n) table
    < count_in (is_counted counted.DuePuts values m) table

-- More takes that show one of some values have taken effect by the moment `n` than puts of the
-- values may have taken effect by the moment `m`.
abbrev pub TakesAhead : Table → List ℕ → ℕ → ℕ → Type 0
TakesAhead table values m n = count_in (is_counted counted.EarlyPuts values m) table
    < count_in (is_counted counted.DueTakes values n) table

-- Where the book has this table, no container that begins empty has a legal order of it.
abbrev pub ContainerHasNoOrder : Reading → Table → List Page → Type 0
ContainerHasNoOrder reading table book = (spec : SeqSpec)
    → IsTable reading book table → IsContainer reading spec.next → reading.values spec.init ≡ []
    → HasLegalOrder spec book → ⊥

-- Whatever book has this table, and however it is read, no container that begins empty has a legal
-- order of it.
abbrev pub IsRefuted : Table → Type 0
IsRefuted table = (reading : Reading) (book : List Page) → ContainerHasNoOrder reading table book
