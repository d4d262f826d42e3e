-- The keys of a set's and of a map's operations: an operation sees and changes only the items of
-- its key.
use Rattle.std.specs.Prelude.{◌≡◌, ℕ, ◌==◌, ◌↔◌, List, Option, None, Some, unwrap_or}
use Rattle.std.specs.List.{filter}
use Rattle.search_hints.specs.declared.marked_callers.MarkedCallers.{MarkedCallers}
use Rattle.book_base.specs.Book.{Page, operation_of}
use Rattle.book_base.specs.Next.{next_call}
use Rattle.search_hints.specs.Marks.{IsMarked}
use Rattle.seq_objects.specs.declared.int_set.IntSetOperation.{IntSetOperation}
use Rattle.seq_objects.specs.declared.int_set.IntSetOperation.TheVariants.{Add, Remove, Has}
use Rattle.seq_objects.specs.declared.map.MapOperation.{MapOperation}
use Rattle.seq_objects.specs.declared.map.MapOperation.TheVariants.{Put, Get, Delete}
use Rattle.seq_objects.specs.IntSetSteps.{set_operation}
use Rattle.seq_objects.specs.MapSteps.{key_of, map_operation}

-- The operation word of a caller's next call after a cut, or 0 where the book lacks this call.
abbrev pub next_word : List Page → List ℕ → ℕ → ℕ
next_word book cut caller = unwrap_or (operation_of book (next_call cut caller)) 0

-- The marks `new` are the marks `old` narrowed to the key of the forced call, the next call of
-- caller `forced`. Where the forced call has a key, exactly the marked callers whose next calls
-- have this key keep their marks; where it has none, all marked callers do.
pub record IsNarrowedToKey (key : ℕ → Option ℕ) (book : List Page) (cut : List ℕ) (forced : ℕ)
    (old new : MarkedCallers) : Type 0 where
  pub keyed : (k : ℕ) → key (next_word book cut forced) ≡ Some k
      → (i : ℕ) → IsMarked new i ↔ (IsMarked old i × (key (next_word book cut i) ≡ Some k))
  pub unkeyed : key (next_word book cut forced) ≡ None → new ≡ old

-- The key of a set's operation: the value that is added, removed or looked for.
abbrev pub key_in_set : Option IntSetOperation → Option ℕ
key_in_set (Some (Add value)) = Some value
key_in_set (Some (Remove value)) = Some value
key_in_set (Some (Has value)) = Some value
key_in_set None = None

-- The key of an operation word of a set, where the set knows the word.
abbrev pub set_key : ℕ → Option ℕ
set_key word = key_in_set (set_operation word)

-- The key of a map's operation: the key that is put, got or deleted.
abbrev pub key_in_map : Option MapOperation → Option ℕ
key_in_map (Some (Put key value)) = Some key
key_in_map (Some (Get key)) = Some key
key_in_map (Some (Delete key)) = Some key
key_in_map None = None

-- The key of an operation word of a map, where the map knows the word.
abbrev pub map_key : ℕ → Option ℕ
map_key word = key_in_map (map_operation word)

-- The items of a set's list that equal the key `k`.
abbrev pub set_part : ℕ → List ℕ → List ℕ
set_part k list = filter (λ item. item == k) list

-- The items of a map's list that have the key `k`.
abbrev pub map_part : ℕ → List ℕ → List ℕ
map_part k list = filter (λ item. key_of item == k) list
