-- The text of the longest legal prefixes of a book, and of the calls that may come next after each.
use Rattle.std.specs.Prelude.{◌≡◌, ℕ, zero, suc, ◌-◌, ◌/◌, ◌%◌, ◌^◌, ◌==◌, min, if◌then◌else◌, List, [], ◌∷◌, ◌++◌, length, Some, slice_get, flat_map, codes, decimal, unwrap_or}
use Rattle.book_base.specs.declared.call.Call.{Call}
use Rattle.book_base.specs.declared.call.Place.{Place}
use Rattle.book_base.specs.Book.{Page, operation_of}
use Rattle.book_base.specs.Order.{call_at}
use Rattle.seq_objects.specs.declared.kind.Kind.{Kind}
use Rattle.seq_objects.specs.declared.kind.Kind.TheVariants.{Map}
use Rattle.seq_objects.specs.Replies.{reply_word}
use Rattle.seq_objects.specs.Words.{operation_text}
use Rattle.legal_prefixes.specs.declared.prefix.LegalPrefix.{LegalPrefix}
use Rattle.legal_prefixes.specs.declared.blocked.Blocked.{Blocked}
use Rattle.legal_prefixes.specs.declared.text.TheConstants.{MOST_TOLD}
use Rattle.legal_prefixes.specs.Longest.{AreAllBlocked}

-- a call by its caller and its number, as in the text of a book, and its operation
abbrev pub call_text : Kind → List Page → Call → List ℕ
call_text kind book call =
    codes "call " ++ decimal call.caller ++ codes " " ++ decimal call.number ++ codes " "
    ++ operation_text kind (unwrap_or (operation_of book call) 0)

-- the line of a place: its call, and its reply
abbrev pub place_line : Kind → List Page → Place → List ℕ
place_line kind book place =
    call_text kind book (call_at place) ++ codes " replies " ++ reply_word place.reply ++ codes "\n"

-- the line of a blocked call: its recorded reply, and the one that the object gives
abbrev pub blocked_line : Kind → List Page → Blocked → List ℕ
blocked_line kind book blocked =
    call_text kind book blocked.call ++ codes " replied " ++ reply_word blocked.recorded
    ++ codes ", but here the object replies " ++ reply_word blocked.given ++ codes "\n"

-- an item of an object's list, with a space before it: of a map the key and the value
abbrev pub item_text : Kind → ℕ → List ℕ
item_text Map item = codes " " ++ decimal (item / 2 ^ 32) ++ codes "=" ++ decimal (item % 2 ^ 32)
item_text _ item = codes " " ++ decimal item

-- the items of an object's list, with a space before each, or that there are none
abbrev pub held_text : Kind → List ℕ → List ℕ
held_text kind [] = codes " nothing"
held_text kind (item ∷ items) = flat_map (item_text kind) (item ∷ items)

-- what stands after a number of calls: that there is one, or that there are more or none
abbrev pub calls_text : ℕ → List ℕ
calls_text calls = if calls == 1 then codes " call:\n" else codes " calls:\n"

-- the line that says how many places a longest legal prefix has
abbrev pub start_text : ℕ → List ℕ
start_text places =
    codes "no rule of these is broken; a longest legal prefix has " ++ decimal places
    ++ calls_text places

-- The text of a prefix and of blocked calls: a line for each place of the prefix, what the object
-- holds after them, and a line for each blocked call.
abbrev pub prefix_text : Kind → List Page → LegalPrefix → List Blocked → List ℕ
prefix_text kind book prefix all =
    flat_map (place_line kind book) prefix.places.items ++ codes "then the object holds"
    ++ held_text kind prefix.words.items ++ codes "\n"
    ++ flat_map (blocked_line kind book) all

-- the line before a prefix: how many places the first one has, or that this is another one
abbrev pub head_text : ℕ → LegalPrefix → List ℕ
head_text index prefix = if index == 0 then start_text (length prefix.places.items)
    else codes "another longest legal prefix:\n"

-- A text tells the first prefixes of a list, so many of them: after the text that tells those before
-- it comes that of the last one, with all calls that may come next after it.
abbrev pub TellsFirst : Kind → List Page → List LegalPrefix → ℕ → List ℕ → Type 0
TellsFirst kind book prefixes zero text = text ≡ []
TellsFirst kind book prefixes (suc index) text = (before : List ℕ) × (prefix : LegalPrefix)
    × (all : List Blocked) × TellsFirst kind book prefixes index before
    × (slice_get prefixes index ≡ Some prefix)
    × AreAllBlocked kind book prefix.cut prefix.words.items all
    × (text ≡ before ++ head_text index prefix ++ prefix_text kind book prefix all)

-- the line that says how many prefixes aren't told, where there are any
abbrev pub more_text : ℕ → List ℕ
more_text more = if more == 0 then []
    else codes "longest legal prefixes that aren't told here: " ++ decimal more ++ codes "\n"

-- A text tells prefixes: the first `MOST_TOLD` of them, or all, and how many there are beyond these.
abbrev pub TellsPrefixes : Kind → List Page → List LegalPrefix → List ℕ → Type 0
TellsPrefixes kind book prefixes text = (told : List ℕ)
    × TellsFirst kind book prefixes (min (length prefixes) MOST_TOLD) told
    × (text ≡ told ++ more_text (length prefixes - MOST_TOLD))
