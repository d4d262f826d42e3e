-- The sorts of calls that are counted, as a table of a book's calls tells them, and how far a list
-- of such calls has come.
use Rattle.std.specs.Prelude.{◌≡◌, ℕ, ◌<◌, ◌⊎◌, Bool, List, Some}
use Rattle.book_base.specs.declared.call.Call.{Call}
use Rattle.book_base.specs.declared.call.Record.{Record}
use Rattle.book_base.specs.Book.{Page, IsCall, IsAnswered, record_of}
use Rattle.legal_orders.specs.Container.{Reading}
use Rattle.legal_orders.specs.Deals as deals
use Rattle.legal_orders.specs.Deals.{deal_of}
use Rattle.queue_pairs.specs.declared.table.QueueDeal.{QueueDeal}
use Rattle.queue_pairs.specs.Moments.{IsHeldBy}
use Rattle.queue_pairs.specs.Counts.{listed, puts_one, shows_one, may_take_one}
use Rattle.seq_objects.specs.Replies.{reply_none}
use Rattle.refutations.specs.declared.counts.Sort.{Sort}
use Rattle.refutations.specs.declared.counts.Sort.TheVariants.{TakesDue, PutsBegun, PutsBefore, TakesHeld}
use Rattle.refutations.specs.Counts.{HasEachOnce, PutsOne, ShowsOne, MayTakeOne, IsDueBy, IsAnsweredBefore, ViewHolds}

-- what a call did is counted, for a sort and some values
abbrev pub DealFits : Reading → List Page → List ℕ → Sort → Call → Type 0
DealFits reading book values (TakesDue m) call = ShowsOne reading book values call
DealFits reading book values (PutsBegun m) call = PutsOne reading book values call
DealFits reading book values (PutsBefore other) call = PutsOne reading book values call
DealFits reading book values (TakesHeld other) call = MayTakeOne reading book values call

-- a call has the time of a sort
abbrev pub TimeFits : List Page → Sort → Call → Type 0
TimeFits book (TakesDue m) call = IsDueBy book m call
TimeFits book (PutsBegun m) call = IsHeldBy book call m
TimeFits book (PutsBefore other) call = IsAnsweredBefore book call other
TimeFits book (TakesHeld other) call = ViewHolds book other call

-- a call is of a sort, for some values
abbrev pub IsOfSort : Reading → List Page → List ℕ → Sort → Call → Type 0
IsOfSort reading book values sort call =
    DealFits reading book values sort call × TimeFits book sort call

-- the call that a sort names, where it names one, is one of the book's, or is answered
abbrev pub IsAskedOf : List Page → Sort → Type 0
IsAskedOf book (TakesDue m) = Unit {0}
IsAskedOf book (PutsBegun m) = Unit {0}
IsAskedOf book (PutsBefore other) = IsCall book other
IsAskedOf book (TakesHeld other) = IsAnswered book other

-- whether a table's call that did this is counted, for a sort and some values
abbrev pub deal_fits : Sort → List ℕ → QueueDeal → Bool
deal_fits (TakesDue m) values deal = shows_one (listed values) deal
deal_fits (PutsBegun m) values deal = puts_one (listed values) deal
deal_fits (PutsBefore other) values deal = puts_one (listed values) deal
deal_fits (TakesHeld other) values deal = may_take_one (listed values) deal

-- a call is answered by `none`
abbrev pub RepliesNone : List Page → Call → Type 0
RepliesNone book call = (r : Record) × (record_of book call ≡ Some r) × (r.reply ≡ reply_none)

-- a call is a take with the reply `none`
abbrev pub FindsNothing : Reading → List Page → Call → Type 0
FindsNothing reading book find =
    RepliesNone book find × (deal_of reading book find ≡ deals.FoundNothing)

-- a call is of a caller below a number, or of this caller and with a number below another one
abbrev pub ComesBefore : Call → ℕ → ℕ → Type 0
ComesBefore call caller number = (call.caller < caller)
    ⊎ ((call.caller ≡ caller) × (call.number < number))

-- A list has all calls of a sort that come before a caller's call with a number, each once.
abbrev pub HasEachTo : (Call → Type 0) → ℕ → ℕ → List Call → Type 0
HasEachTo sort caller number calls =
    HasEachOnce (λ call. ComesBefore call caller number × sort call) calls
