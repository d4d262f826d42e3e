-- What the calls of a book did, as deals: puts, takes, takes that found nothing or have no answer,
-- or neither. It depends on the kind of the book's object.
use Rattle.std.specs.Prelude.{ℕ, ◌==◌, Bool, true, false, List, [], Option, Some, None, unwrap_or, if◌then◌else◌}
use Rattle.book_base.specs.declared.call.Call.{Call}
use Rattle.book_base.specs.declared.call.Record.{Record}
use Rattle.book_base.specs.Book.{Page, operation_of, record_of}
use Rattle.legal_orders.specs.Container.{Takes, Neither, Reading}
use Rattle.legal_orders.specs.Deals.{Deal}
use Rattle.legal_orders.specs.Deals as deals
use Rattle.legal_orders.specs.Deals.{deal_of, take_of}
use Rattle.seq_objects.specs.declared.kind.Kind.{Kind}
use Rattle.seq_objects.specs.declared.kind.Kind.TheVariants as kinds
use Rattle.seq_objects.specs.declared.cas_register.CasRegisterOperation.{CasRegisterOperation}
use Rattle.seq_objects.specs.declared.cas_register.CasRegisterOperation.TheVariants.{Write, Read, CompareAndSet}
use Rattle.seq_objects.specs.CasRegisterSteps.{cas_register_operation}
use Rattle.seq_objects.specs.Words.{code_of, argument_of, is_known_word}
use Rattle.seq_objects.specs.Replies.{reply_no, reply_none, reply_yes, is_value, shown_value}
use Rattle.kind_search.specs.Readings.{queue_reading, stack_reading}
use Rattle.kind_search.specs.PqueueReading.{pqueue_reading}
use Rattle.kind_search.specs.RegisterReading.{register_reading}
use Rattle.broken_rules.specs.declared.act.Act.{Act}
use Rattle.broken_rules.specs.declared.act.Act.TheVariants as acts

-- How a counter is read: an increment as a take of the count that it replies.
abbrev pub counter_reading : Reading
counter_reading = record {
  deed = λ word. if is_known_word kinds.Counter word then Takes else Neither;
  shown = shown_value;
  values = λ list. [];
}

-- The reading by which no operation is a put or a take. Sets, maps and registers with
-- compare-and-set have it, but what their calls did isn't told by a reading (`did`).
abbrev pub other_reading : Reading
other_reading = record { deed = λ word. Neither; shown = shown_value; values = λ list. [] }

-- How the operations and replies of a kind are read: as puts and takes of values.
abbrev pub reading_of : Kind → Reading
reading_of kinds.Queue = queue_reading
reading_of kinds.Stack = stack_reading
reading_of kinds.Pqueue = pqueue_reading
reading_of kinds.Register = register_reading
reading_of kinds.Counter = counter_reading
reading_of _ = other_reading

-- Whether a kind's objects are objects of keys: sets and maps.
abbrev pub is_keyed : Kind → Bool
is_keyed kinds.IntSet = true
is_keyed kinds.Map = true
is_keyed _ = false

-- The key of an operation word of a set or a map, where the object knows the word: the word's
-- argument.
abbrev pub key_of_word : Kind → ℕ → Option ℕ
key_of_word kind word = if is_known_word kind word then Some (argument_of word) else None

-- Whether an operation word of a set or a map puts its key in: whether it has the code 1, which is
-- that of an `add` and of a `put`.
abbrev pub puts_key : ℕ → Bool
puts_key word = code_of word == 1

-- Whether the reply to an operation of a set says that its key was there: `no` to an `add`, and
-- `yes` to a `remove` and a `has`.
abbrev pub set_finds : ℕ → ℕ → Bool
set_finds word reply = if puts_key word then reply == reply_no else reply == reply_yes

-- Whether the reply to an operation of a set or a map says that its key was there: for a set as
-- `set_finds` says, for a map where the reply gives the value that the key had. It never does for
-- other kinds.
abbrev pub finds_key : Kind → ℕ → ℕ → Bool
finds_key kinds.IntSet word reply = set_finds word reply
finds_key kinds.Map word reply = is_value reply
finds_key _ word reply = false

-- Whether an operation of a set or a map has a record, and its reply says that its key was there.
abbrev pub has_found : Kind → ℕ → Option Record → Bool
has_found kind word None = false
has_found kind word (Some r) = finds_key kind word r.reply

-- What an operation did with its key: one that found the key is read as a take of it, one that puts
-- the key in and isn't known to have found it as a put, and any other one as neither.
abbrev pub deal_on_key : Option ℕ → Bool → Bool → Deal
deal_on_key None found puts = deals.Other
deal_on_key (Some key) found puts =
    if found then deals.Took key else if puts then deals.Put key else deals.Other

-- What a call of a set or a map with the operation word `word` did with its key.
abbrev pub deal_by_word : Kind → List Page → Call → ℕ → Deal
deal_by_word kind book call word =
    deal_on_key (key_of_word kind word) (has_found kind word (record_of book call)) (puts_key word)

-- What a call of a set or a map did with its key.
abbrev pub deal_by_key : Kind → List Page → Call → Deal
deal_by_key kind book call = deal_by_word kind book call (unwrap_or (operation_of book call) 0)

-- Whether an operation word of a set or a map takes its key out: whether it has the code of a
-- `remove`, or of a `del`. It never does for other kinds.
abbrev pub takes_key_out : Kind → ℕ → Bool
takes_key_out kinds.IntSet word = code_of word == 2
takes_key_out kinds.Map word = code_of word == 3
takes_key_out _ word = false

-- Whether the reply to an operation of a set says that its key was not there: `yes` to an `add`,
-- and `no` to a `remove` and a `has`.
abbrev pub set_misses : ℕ → ℕ → Bool
set_misses word reply = if puts_key word then reply == reply_yes else reply == reply_no

-- Whether the reply to an operation of a set or a map says that its key was not there: for a set as
-- `set_misses` says, for a map where it is `none`. It never does for other kinds.
abbrev pub misses_key : Kind → ℕ → ℕ → Bool
misses_key kinds.IntSet word reply = set_misses word reply
misses_key kinds.Map word reply = reply == reply_none
misses_key _ word reply = false

-- Whether an operation of a set or a map has a record, and its reply says that its key was not
-- there.
abbrev pub has_missed : Kind → ℕ → Option Record → Bool
has_missed kind word None = false
has_missed kind word (Some r) = misses_key kind word r.reply

-- What a call of a set or a map with the operation word `word` did with the absence of its key: one
-- that missed the key is read as a take of the key's absence, one that takes the key out and isn't
-- known to have missed it as a put of this absence, and any other one as neither.
abbrev pub absence_by_word : Kind → List Page → Call → ℕ → Deal
absence_by_word kind book call word = deal_on_key (key_of_word kind word)
    (has_missed kind word (record_of book call)) (takes_key_out kind word)

-- What a call of a set or a map did with the absence of its key.
abbrev pub absence_by : Kind → List Page → Call → Deal
absence_by kind book call = absence_by_word kind book call (unwrap_or (operation_of book call) 0)

-- Whether a kind's objects are registers with compare-and-set.
abbrev pub is_cas_register : Kind → Bool
is_cas_register kinds.CasRegister = true
is_cas_register _ = false

-- What a compare-and-set to the value `value` did, by its record: one that is answered `no` does
-- nothing, and any other one is read as a put of the value.
abbrev pub set_deal : ℕ → Option Record → Deal
set_deal value None = deals.Put value
set_deal value (Some r) = if r.reply == reply_no then deals.Other else deals.Put value

-- What a call of a register with compare-and-set did by its operation: a write is read as a put, a
-- read as a take, and a compare-and-set as `set_deal` says.
abbrev pub set_by_operation : List Page → Call → Option CasRegisterOperation → Deal
set_by_operation book call (Some (Write value)) = deals.Put value
set_by_operation book call (Some Read) = take_of register_reading book call
set_by_operation book call (Some (CompareAndSet expected new)) = set_deal new (record_of book call)
set_by_operation book call None = deals.Other

-- What a call of a register with compare-and-set did.
abbrev pub set_by : List Page → Call → Deal
set_by book call =
    set_by_operation book call (cas_register_operation (unwrap_or (operation_of book call) 0))

-- What a compare-and-set that expects the value `expected` found, by its record: one that is
-- answered `yes` is read as a take of this value, and any other one as neither.
abbrev pub expected_deal : ℕ → Option Record → Deal
expected_deal expected None = deals.Other
expected_deal expected (Some r) = if r.reply == reply_yes then deals.Took expected else deals.Other

-- What a call of a register with compare-and-set found by its operation: a compare-and-set as
-- `expected_deal` says, and any other one as it is read otherwise.
abbrev pub expected_by_operation : List Page → Call → Option CasRegisterOperation → Deal
expected_by_operation book call (Some (Write value)) = deals.Put value
expected_by_operation book call (Some Read) = take_of register_reading book call
expected_by_operation book call (Some (CompareAndSet expected new)) =
    expected_deal expected (record_of book call)
expected_by_operation book call None = deals.Other

-- What a call of a register with compare-and-set found.
abbrev pub expected_by : List Page → Call → Deal
expected_by book call =
    expected_by_operation book call (cas_register_operation (unwrap_or (operation_of book call) 0))

-- What a call of a book did: for a set or a map by its key, for a register with compare-and-set by
-- what it wrote, for any other kind by the kind's reading.
abbrev pub did : Kind → List Page → Call → Deal
did kind book call =
    if is_keyed kind then deal_by_key kind book call
    else if is_cas_register kind then set_by book call else deal_of (reading_of kind) book call

-- What a call of a book took: a compare-and-set that is answered `yes` takes the value that it
-- expected, and writes another one. Any other call did nothing else.
abbrev pub took : Kind → List Page → Call → Deal
took kind book call =
    if is_cas_register kind then expected_by book call else did kind book call

-- The deal that a value of the Rust enum `Act` stands for.
abbrev pub deal_of_act : Act → Deal
deal_of_act (acts.Put value) = deals.Put value
deal_of_act (acts.Took value) = deals.Took value
deal_of_act acts.FoundNothing = deals.FoundNothing
deal_of_act acts.OpenTake = deals.OpenTake
deal_of_act acts.Other = deals.Other

-- The value that a deal puts in or takes, or 0 where it does neither.
abbrev pub value_by : Deal → ℕ
value_by (deals.Put value) = value
value_by (deals.Took value) = value
value_by _ = 0

-- The value that a call of a book puts in or takes, for a set or a map its key; 0 where the call
-- does neither. An increment takes the count that it replies, and a read the value that it shows.
abbrev pub value_at : Kind → List Page → Call → ℕ
value_at kind book call = value_by (did kind book call)

-- The value that a call of a book takes: as `value_at`, but for a compare-and-set that is answered
-- `yes` the value that it expected.
abbrev pub taken_at : Kind → List Page → Call → ℕ
taken_at kind book call = value_by (took kind book call)

-- Whether a deal is a put.
abbrev pub is_put : Deal → Bool
is_put (deals.Put value) = true
is_put _ = false

-- Whether a deal is an answered take that shows a value.
abbrev pub is_take : Deal → Bool
is_take (deals.Took value) = true
is_take _ = false

-- Whether a deal is an answered take that found nothing.
abbrev pub is_nothing : Deal → Bool
is_nothing deals.FoundNothing = true
is_nothing _ = false

-- Whether a deal is a take without an answer.
abbrev pub is_open : Deal → Bool
is_open deals.OpenTake = true
is_open _ = false
