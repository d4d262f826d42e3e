-- A small container for worked cases: an operation v + 1 puts in v, and the operation 0 takes; a
-- take replies v + 1 where it takes out v, and 0 where it finds nothing.
use Rattle.std.specs.Prelude.{ℕ, zero, suc, List, Option, Some, None}
use Rattle.book_base.specs.declared.call.Call.{Call}
use Rattle.book_base.specs.declared.call.Record.{Record}
use Rattle.book_base.specs.Book.{Page}
use Rattle.legal_orders.specs.Container.{Effect, Puts, Takes, Reading}

-- what an operation of the small container does: 0 takes, and v + 1 puts in v
abbrev pub sample_deed : ℕ → Effect
sample_deed zero = Takes
sample_deed (suc v) = Puts v

-- the value that a reply of the small container to a take shows: none for 0, and v for v + 1
abbrev pub sample_shown : ℕ → Option ℕ
sample_shown zero = None
sample_shown (suc v) = Some v

-- how the operations, replies and lists of the small container are read
abbrev pub sample : Reading
sample = record { deed = sample_deed; shown = sample_shown; values = λ list. list }

-- a page with these operation words and these records
abbrev pub caller_page : List ℕ → List Record → Page
caller_page operations records = record { operations = operations; records = records }

-- a record with this reply and this view
abbrev pub answer : ℕ → List ℕ → Record
answer reply view = record { reply = reply; view = view }

-- call `k` of caller `i`
abbrev pub call_of : ℕ → ℕ → Call
call_of i k = record { caller = i; number = k }
