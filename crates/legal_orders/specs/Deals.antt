-- What the calls of a book did to what an object holds, read off their operations and replies.
use Rattle.std.specs.Prelude.{ℕ, List, Option, Some, None}
use Rattle.book_base.specs.declared.call.Call.{Call}
use Rattle.book_base.specs.declared.call.Record.{Record}
use Rattle.book_base.specs.Book.{Page, operation_of, record_of}
use Rattle.legal_orders.specs.Container.{Effect, Puts, Takes, Neither, Reading}
use Rattle.legal_orders.specs.declared.reader.Role.{Role}
use Rattle.legal_orders.specs.declared.reader.Role.TheVariants as roles

-- What a call of a book did to what the object holds: it put a value in, took one out, found
-- nothing, is an unanswered take, or did neither.
pub data Deal : Type 0 where
  Put : ℕ → Deal
  Took : ℕ → Deal
  FoundNothing : Deal
  OpenTake : Deal
  Other : Deal

-- the effect that a role of the code names
abbrev pub deed_of : Role → Effect
deed_of (roles.Put v) = Puts v
deed_of roles.Take = Takes
deed_of roles.Other = Neither

-- what an answered take did, by what its reply shows
abbrev pub shown_deal : Option ℕ → Deal
shown_deal None = FoundNothing
shown_deal (Some v) = Took v

-- what a take did, by its record; without a record it is an unanswered take
abbrev pub recorded_deal : Reading → Option Record → Deal
recorded_deal reading None = OpenTake
recorded_deal reading (Some r) = shown_deal (reading.shown r.reply)

-- what a call that takes did
abbrev pub take_of : Reading → List Page → Call → Deal
take_of reading book call = recorded_deal reading (record_of book call)

-- what a call did whose operation has this effect
abbrev pub deal_by_deed : Reading → List Page → Call → Effect → Deal
deal_by_deed reading book call (Puts v) = Put v
deal_by_deed reading book call Takes = take_of reading book call
deal_by_deed reading book call Neither = Other

-- what a call with this operation word did: where it has no word, it is neither a put nor a take
abbrev pub deal_by_operation : Reading → List Page → Call → Option ℕ → Deal
deal_by_operation reading book call None = Other
deal_by_operation reading book call (Some op) = deal_by_deed reading book call (reading.deed op)

-- what a call of the book did
abbrev pub deal_of : Reading → List Page → Call → Deal
deal_of reading book call = deal_by_operation reading book call (operation_of book call)
