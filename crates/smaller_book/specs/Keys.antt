-- The rule of keys: all calls that are about some keys may be left out together; of a queue, a
-- stack or a priority queue where each view holds at most one unanswered call of each caller.
use Rattle.std.specs.Prelude.{◌≢◌, ℕ, ◌≤◌, ◌&&◌, nat_le, Bool, false, not, List, [], ◌∷◌, map, filter, length, unwrap_or, Option, Some, None, option_map, if◌then◌else◌}
use Rattle.std.specs.List.{range_with_len, AllByRecursion}
use Rattle.book_base.specs.declared.call.Call.{Call}
use Rattle.book_base.specs.SeqSpec.{spec_from}
use Rattle.book_base.specs.Book.{Page, calls_of, operation_of, record_of}
use Rattle.book_base.specs.Order.{HasLegalOrder}
use Rattle.book_base.specs.Pruning.{HasOneOpen}
use Rattle.seq_objects.specs.declared.kind.Kind.{Kind}
use Rattle.seq_objects.specs.declared.kind.Kind.TheVariants as kinds
use Rattle.seq_objects.specs.Words as words
use Rattle.seq_objects.specs.Words.{OperationEntry, is_known_word, is_operation_of, argument_of}
use Rattle.seq_objects.specs.Replies.{value_of, shown_value}
use Rattle.seq_objects.specs.MapSteps.{key_of}
use Rattle.seq_objects.specs.MapLaws.{HasKeysOnce}
use Rattle.seq_objects.specs.Objects.{kind_next}
use Rattle.smaller_book.specs.Part.{IsPart}

-- The value that a reply shows, where there is a reply and it shows a value.
abbrev pub value_shown : Option ℕ → Option ℕ
value_shown None = None
value_shown (Some reply) = shown_value reply

-- The value that an operation puts in, if its entry in the table of operations is `put`, the entry
-- of a kind's put. For any other operation the value that its reply shows, where it has a reply
-- that shows one.
abbrev pub value_moved : OperationEntry → ℕ → Option ℕ → Option ℕ
value_moved put word reply =
    if is_operation_of word put then Some (argument_of word) else value_shown reply

-- The key that an operation which the kind knows is about, with its reply where it has one: of a
-- queue, a stack or a priority queue the value that is put in or shown, of a register the value
-- that is written or read, of a set or a map the argument; operations of the other kinds are about
-- no key.
abbrev pub key_by_kind : Kind → ℕ → Option ℕ → Option ℕ
key_by_kind kinds.Queue word reply = value_moved words.enq word reply
key_by_kind kinds.Stack word reply = value_moved words.push word reply
key_by_kind kinds.Pqueue word reply = value_moved words.insert word reply
key_by_kind kinds.IntSet word reply = Some (argument_of word)
key_by_kind kinds.Map word reply = Some (argument_of word)
key_by_kind kinds.Register word reply = value_moved words.write word reply
key_by_kind kinds.Counter word reply = None
key_by_kind kinds.CasRegister word reply = None

-- The key that an operation word is about, with its reply where it has one; a word that the kind
-- doesn't know is about no key.
abbrev pub key_of_step : Kind → ℕ → Option ℕ → Option ℕ
key_of_step kind word reply = if is_known_word kind word then key_by_kind kind word reply else None

-- The key that a call of a book is about, by its operation and its recorded reply. An unanswered
-- take of a queue, a stack or a priority queue and an unanswered read of a register are about no
-- key.
abbrev pub key_of_call : Kind → List Page → Call → Option ℕ
key_of_call kind book call = key_of_step kind (unwrap_or (operation_of book call) 0)
    (option_map (λ r. r.reply) (record_of book call))

-- The key of an item of an object's list: of a queue, a stack or a priority queue the value of the
-- item, of a set the item itself, of a map the key of the item; items of the other kinds have no
-- key.
abbrev pub key_of_item : Kind → ℕ → Option ℕ
key_of_item kinds.Queue item = Some (value_of item)
key_of_item kinds.Stack item = Some (value_of item)
key_of_item kinds.Pqueue item = Some (value_of item)
key_of_item kinds.IntSet item = Some item
key_of_item kinds.Map item = Some (key_of item)
key_of_item kinds.Register item = None
key_of_item kinds.Counter item = None
key_of_item kinds.CasRegister item = None

-- Whether a key is one of `keys`; false where there is no key.
abbrev pub is_among : (ℕ → Bool) → Option ℕ → Bool
is_among keys None = false
is_among keys (Some key) = keys key

-- The keys that are at least the first one and at most the last one.
abbrev pub keys_from_to : ℕ → ℕ → ℕ → Bool
keys_from_to first last key = nat_le first key && nat_le key last

-- The numbers of those calls of a caller that are about none of these keys.
abbrev pub row_without : Kind → (ℕ → Bool) → List Page → ℕ → List ℕ
row_without kind keys book i =
    filter
    (λ number. not (is_among keys (key_of_call kind book (record { caller = i; number = number }))))
    (range_with_len 0 (calls_of book i))

-- For each caller of a book the numbers of those of its calls that are about none of these keys.
abbrev pub all_without : Kind → (ℕ → Bool) → List Page → List (List ℕ)
all_without kind keys book = map (row_without kind keys book) (range_with_len 0 (length book))

-- The items of a list whose key is none of these keys, with all items that have no key, in their
-- order.
abbrev pub items_without : Kind → (ℕ → Bool) → List ℕ → List ℕ
items_without kind keys list = filter (λ item. not (is_among keys (key_of_item kind item))) list

-- No item of the list is greater than a later one.
abbrev pub Rises : List ℕ → Type 0
Rises [] = Unit {0}
Rises (x ∷ xs) = AllByRecursion (λ y. x ≤ y) xs × Rises xs

-- No item stands in the list twice.
abbrev pub HasItemsOnce : List ℕ → Type 0
HasItemsOnce [] = Unit {0}
HasItemsOnce (x ∷ xs) = AllByRecursion (λ y. x ≢ y) xs × HasItemsOnce xs

-- A list is well-formed for a kind: in a priority queue the items rise, in a map no two items have
-- the same key, and for the other kinds each list is well-formed.
abbrev pub IsWellFormed : Kind → List ℕ → Type 0
IsWellFormed kinds.Pqueue list = Rises list
IsWellFormed kinds.Map list = HasKeysOnce list
IsWellFormed kinds.Queue list = Unit {0}
IsWellFormed kinds.Stack list = Unit {0}
IsWellFormed kinds.IntSet list = Unit {0}
IsWellFormed kinds.Register list = Unit {0}
IsWellFormed kinds.Counter list = Unit {0}
IsWellFormed kinds.CasRegister list = Unit {0}

-- No item stands in a set's list twice; for the other kinds each list will do.
abbrev pub HasOnce : Kind → List ℕ → Type 0
HasOnce kinds.IntSet list = HasItemsOnce list
HasOnce kinds.Pqueue list = Unit {0}
HasOnce kinds.Map list = Unit {0}
HasOnce kinds.Queue list = Unit {0}
HasOnce kinds.Stack list = Unit {0}
HasOnce kinds.Register list = Unit {0}
HasOnce kinds.Counter list = Unit {0}
HasOnce kinds.CasRegister list = Unit {0}

-- For each well-formed list: if the book has a legal order from this list on, the part has one from
-- the list without the items of these keys.
abbrev pub CarriesOverWithout : Kind → (ℕ → Bool) → List Page → List Page → Type 0
CarriesOverWithout kind keys book part = (list : List ℕ) → IsWellFormed kind list
    → HasLegalOrder (spec_from list (kind_next kind)) book
    → HasLegalOrder (spec_from (items_without kind keys list) (kind_next kind)) part

-- There are keys such that, from whichever well-formed list the book has a legal order, of a set one
-- in which no item stands twice, the part has one from the list without the items of these keys.
abbrev pub CarriesOverWithoutSome : Kind → List Page → List Page → Type 0
CarriesOverWithoutSome kind book part = (keys : ℕ → Bool) × ((list : List ℕ)
    → IsWellFormed kind list → HasOnce kind list
    → HasLegalOrder (spec_from list (kind_next kind)) book
    → HasLegalOrder (spec_from (items_without kind keys list) (kind_next kind)) part)

-- All calls of a key may be left out of a book. An unanswered take of a queue, a stack or a
-- priority queue is about no key and stays; so there each view has to hold at most one unanswered
-- call of each caller.
abbrev pub KeysMayGo : Kind → List Page → Type 0
KeysMayGo kinds.Queue book = HasOneOpen book
KeysMayGo kinds.Stack book = HasOneOpen book
KeysMayGo kinds.Pqueue book = HasOneOpen book
KeysMayGo kinds.IntSet book = Unit {0}
KeysMayGo kinds.Map book = Unit {0}
KeysMayGo kinds.Register book = Unit {0}
KeysMayGo kinds.Counter book = Unit {0}
KeysMayGo kinds.CasRegister book = Unit {0}

-- Where calls of keys may be left out of a book that has a legal order from a well-formed list on,
-- the part without all calls that are about these keys has one from that list without the items of
-- these keys.
abbrev pub HasOneWithoutKeys : Type 0
HasOneWithoutKeys = (kind : Kind) (keys : ℕ → Bool) (book part : List Page)
    → KeysMayGo kind book → IsPart book (all_without kind keys book) part
    → CarriesOverWithout kind keys book part
