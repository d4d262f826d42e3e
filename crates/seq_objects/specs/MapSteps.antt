-- A map: what an operation makes of its list, and the reply.
use Rattle.std.proofs.Common.{◌≡◌, ℕ, ◌+◌, ◌*◌, ◌/◌, ◌^◌, ◌≤◌, ◌==◌, false, List, [], ◌∷◌, length, position, remove, slice_index, slice_set, Option, Some, None, if◌then◌else◌, ap, ◌∙◌, arith}
use Rattle.std.proofs.lemmas.Bool.{cond-false}
use Rattle.std.proofs.lemmas.List.{length-set}
use Rattle.book_base.specs.declared.TheConstants.{BAD}
use Rattle.seq_objects.specs.declared.kind.Kind.TheVariants as kinds
use Rattle.seq_objects.specs.declared.map.MapOperation.{MapOperation}
use Rattle.seq_objects.specs.declared.map.MapOperation.TheVariants.{Put, Get, Delete}
use Rattle.seq_objects.specs.Words as words
use Rattle.seq_objects.specs.Words.{entries, entry_of, is_operation_of, is_known_word, argument_of, extra_of}
use Rattle.seq_objects.specs.Replies.{reply_none, reply_value, reply_bad}
use Rattle.seq_objects.specs.Items.{inserted, length-inserted, length-without, not-found}

-- The item of a map for a key and its value: the key times 2 ^ 32, plus the value.
abbrev pub item_of : ℕ → ℕ → ℕ
item_of key value = key * 2 ^ 32 + value

-- The key of a map's item: its part above the low 32 bits. Its value is the low 32 bits.
abbrev pub key_of : ℕ → ℕ
key_of item = item / 2 ^ 32

-- The place of the first item with a key, if there is one.
abbrev pub place_of_key : List ℕ → ℕ → Option ℕ
place_of_key list key = position (λ item. key_of item == key) list

-- The list of a map with `item` put in, and the reply. Where a place is given, the item replaces
-- the one at this place, whose value is the reply. Where none is given, the item goes before the
-- first greater one, or to the end, and the reply is `none`.
abbrev pub put_at : List ℕ → ℕ → Option ℕ → List ℕ × ℕ
put_at list item (Some place) = (slice_set list place item, reply_value (slice_index list place))
put_at list item None = (inserted list item, reply_none)

-- The list of a map after a put of `value` for `key`, and the reply: the value that the key had
-- before, or `none`.
abbrev pub put_in : List ℕ → ℕ → ℕ → List ℕ × ℕ
put_in list key value = put_at list (item_of key value) (place_of_key list key)

-- The reply that gives the value of a map's item at a place, or `none` where no place is given.
abbrev pub value_at : List ℕ → Option ℕ → ℕ
value_at list (Some place) = reply_value (slice_index list place)
value_at list None = reply_none

-- The list without the item at a place, or unchanged where no place is given.
abbrev pub without : List ℕ → Option ℕ → List ℕ
without list (Some place) = remove list place
without list None = list

-- The operation that an operation word stands for, where a map knows the word.
abbrev pub map_operation : ℕ → Option MapOperation
map_operation word =
    if is_operation_of word words.put then Some (Put (argument_of word) (extra_of word))
    else if is_operation_of word words.get then Some (Get (argument_of word))
    else if is_operation_of word words.del then Some (Delete (argument_of word))
    else None

-- The list of a map after an operation, and the reply. A put gives its key the value, a get doesn't
-- change the list, and a delete takes out the first item with its key; each replies the value that
-- the key has before it, or `none` where no item has the key. An unknown operation doesn't change
-- the list, and gets the reply `bad`.
abbrev pub map_after : List ℕ → Option MapOperation → List ℕ × ℕ
map_after list (Some (Put key value)) = put_in list key value
map_after list (Some (Get key)) = (list, value_at list (place_of_key list key))
map_after list (Some (Delete key)) =
    (without list (place_of_key list key), value_at list (place_of_key list key))
map_after list None = (list, reply_bad)

length-put_at : (list : List ℕ) (item : ℕ) (place : Option ℕ)
    → length (put_at list item place).0 ≤ length list + 1
length-put_at list item (Some place) = omega (arith, length-set list place item)
length-put_at list item None = omega (arith, length-inserted list item)

length-without_place : (list : List ℕ) (place : Option ℕ)
    → length (without list place) ≤ length list + 1
length-without_place list (Some place) = length-without list place
length-without_place list None = omega arith

-- An operation of a map makes its list longer by at most one item.
pub length-map_after : (list : List ℕ) (operation : Option MapOperation)
    → length (map_after list operation).0 ≤ length list + 1
length-map_after list (Some (Put key value)) =
    length-put_at list (item_of key value) (place_of_key list key)
length-map_after list (Some (Get key)) = omega arith
length-map_after list (Some (Delete key)) = length-without_place list (place_of_key list key)
length-map_after list None = omega arith

map_operation-unknown : (word : ℕ) → is_known_word kinds.Map word ≡ false
    → map_operation word ≡ None
unfolding is_known_word entry_of entries
map_operation-unknown word unknown =
    let not_put = not-found (is_operation_of word) words.put (words.get ∷ words.del ∷ []) unknown in
    let not_get = not-found (is_operation_of word) words.get (words.del ∷ []) not_put.1 in
    let not_del = not-found (is_operation_of word) words.del [] not_get.1 in
    cond-false (is_operation_of word words.put) _ _ not_put.0
    ∙ cond-false (is_operation_of word words.get) _ _ not_get.0
    ∙ cond-false (is_operation_of word words.del) _ _ not_del.0

-- A word that a map doesn't know changes no list, and gets the reply `BAD`.
pub map_after-unknown : (list : List ℕ) (word : ℕ) → is_known_word kinds.Map word ≡ false
    → map_after list (map_operation word) ≡ (list, BAD)
map_after-unknown list word unknown = ap (map_after list) (map_operation-unknown word unknown)
