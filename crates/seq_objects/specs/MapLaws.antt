-- Laws of maps: what a get replies after a put and after a delete.
use Rattle.std.specs.Prelude.{◌≡◌, ◌≢◌, ℕ, ◌^◌, ◌<◌, List, [], ◌∷◌, Some}
use Rattle.seq_objects.specs.declared.map.MapOperation.TheVariants.{Put, Get, Delete}
use Rattle.seq_objects.specs.Replies.{reply_none, reply_value}
use Rattle.seq_objects.specs.MapSteps.{key_of, map_operation, map_after}

-- The reply of a map with the list `list` to a get of a key.
abbrev pub got : List ℕ → ℕ → ℕ
got list key = (map_after list (Some (Get key))).1

-- The list of a map after a put of a value for a key.
abbrev pub after_put : List ℕ → ℕ → ℕ → List ℕ
after_put list key value = (map_after list (Some (Put key value))).0

-- The list of a map after a delete of a key.
abbrev pub after_delete : List ℕ → ℕ → List ℕ
after_delete list key = (map_after list (Some (Delete key))).0

-- No item of a map's list has the key `key`.
abbrev pub LacksKey : ℕ → List ℕ → Type 0
LacksKey key [] = Unit {0}
LacksKey key (item ∷ rest) = (key_of item ≢ key) × LacksKey key rest

-- No two items of a map's list have the same key.
abbrev pub HasKeysOnce : List ℕ → Type 0
HasKeysOnce [] = Unit {0}
HasKeysOnce (item ∷ rest) = LacksKey (key_of item) rest × HasKeysOnce rest

-- After a put of a value below 2 ^ 32 for a key, a get of the key gives this value.
abbrev pub PutIsGot : Type 0
PutIsGot = (list : List ℕ) (key value : ℕ) → value < 2 ^ 32
    → got (after_put list key value) key ≡ reply_value value

-- A put of a value below 2 ^ 32 doesn't change what a get gives of any other key.
abbrev pub PutLeavesOthers : Type 0
PutLeavesOthers = (list : List ℕ) (key value other : ℕ) → value < 2 ^ 32 → other ≢ key
    → got (after_put list key value) other ≡ got list other

-- A delete doesn't change what a get gives of any other key.
abbrev pub DeleteLeavesOthers : Type 0
DeleteLeavesOthers = (list : List ℕ) (key other : ℕ) → other ≢ key
    → got (after_delete list key) other ≡ got list other

-- Where no two items of a map's list have the same key, a get of a key after a delete of this key
-- gives none.
abbrev pub DeletedIsNone : Type 0
DeletedIsNone = (list : List ℕ) (key : ℕ) → HasKeysOnce list
    → got (after_delete list key) key ≡ reply_none

-- Where no two items of a map's list have the same key, no two items have the same key after an
-- operation.
abbrev pub KeysStayOnce : Type 0
KeysStayOnce = (list : List ℕ) (word : ℕ) → HasKeysOnce list
    → HasKeysOnce (map_after list (map_operation word)).0
