-- Entries of a map: keys with their values, as the items of its list. What the calls of a book of a
-- map did with them.
use Rattle.std.specs.Prelude.{◌≡◌, ℕ, ◌==◌, ◌&&◌, ◌||◌, not, Bool, true, false, List, Option, Some, None, unwrap_or, is_some, if◌then◌else◌}
use Rattle.book_base.specs.declared.call.Call.{Call}
use Rattle.book_base.specs.declared.call.Record.{Record}
use Rattle.book_base.specs.Book.{Page, operation_of, record_of}
use Rattle.seq_objects.specs.declared.map.MapOperation.{MapOperation}
use Rattle.seq_objects.specs.declared.map.MapOperation.TheVariants as maps
use Rattle.seq_objects.specs.MapSteps.{item_of, key_of, map_operation}
use Rattle.seq_objects.specs.Replies.{reply_none, is_value, value_of}
use Rattle.kind_search.specs.Keys.{key_in_map}

-- The operation of a call of a map, where the map knows its word.
abbrev pub asked_of : List Page → Call → Option MapOperation
asked_of book call = map_operation (unwrap_or (operation_of book call) 0)

-- The entry that an operation on the key `key` shows by its reply: the key, with the value that the
-- reply gives, where it gives one.
abbrev pub entry_in : ℕ → ℕ → Option ℕ
entry_in key reply = if is_value reply then Some (item_of key (value_of reply)) else None

-- The entry that an operation on the key `key` shows by its record, where it shows one.
abbrev pub entry_at : ℕ → Option Record → Option ℕ
entry_at key None = None
entry_at key (Some r) = entry_in key r.reply

-- The entry that an operation shows by its record, where it has a key and shows one.
abbrev pub entry_shown : Option ℕ → Option Record → Option ℕ
entry_shown None answer = None
entry_shown (Some key) answer = entry_at key answer

-- The entry that a call shows, where it shows one.
abbrev pub shown_by : List Page → Call → Option ℕ
shown_by book call = entry_shown (key_in_map (asked_of book call)) (record_of book call)

-- The entry that a call shows, or 0 where it shows none.
abbrev pub shown_at : List Page → Call → ℕ
shown_at book call = unwrap_or (shown_by book call) 0

-- A call shows an entry.
abbrev pub ShowsEntry : List Page → Call → Type 0
ShowsEntry book call = is_some (shown_by book call) ≡ true

-- The entry that an operation puts in, where it puts one in.
abbrev pub entry_put : Option MapOperation → Option ℕ
entry_put (Some (maps.Put key value)) = Some (item_of key value)
entry_put (Some (maps.Get key)) = None
entry_put (Some (maps.Delete key)) = None
entry_put None = None

-- A call puts the entry `entry` in.
abbrev pub PutsEntry : List Page → ℕ → Call → Type 0
PutsEntry book entry call = entry_put (asked_of book call) ≡ Some entry

-- Whether an entry is shown, and it is another one than the entry `entry`.
abbrev pub is_other : ℕ → Option ℕ → Bool
is_other entry None = false
is_other entry (Some item) = not (item == entry)

-- Whether a get of a key says by its record that the entry `entry` isn't there.
abbrev pub got_other : ℕ → ℕ → Option Record → Bool
got_other entry key None = false
got_other entry key (Some r) = (r.reply == reply_none) || is_other entry (entry_in key r.reply)

-- Whether the entry `entry` isn't there after an operation on its key: another value is put, the
-- key is deleted, or the operation is a get that says so by its record.
abbrev pub excludes : ℕ → Option MapOperation → Option Record → Bool
excludes entry (Some (maps.Put key value)) answer =
    (key == key_of entry) && not (item_of key value == entry)
excludes entry (Some (maps.Get key)) answer = (key == key_of entry) && got_other entry key answer
excludes entry (Some (maps.Delete key)) answer = key == key_of entry
excludes entry None answer = false

-- The entry `entry` isn't there after a call.
abbrev pub ExcludesEntry : List Page → ℕ → Call → Type 0
ExcludesEntry book entry call =
    excludes entry (asked_of book call) (record_of book call) ≡ true
