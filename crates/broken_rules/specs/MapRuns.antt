-- Runs of maps.
use Rattle.std.specs.Prelude.{ℕ, ◌≤◌, List, [], length}
use Rattle.book_base.specs.Reaching.{list_after_run}
use Rattle.seq_objects.specs.declared.kind.Kind.TheVariants.{Map}
use Rattle.seq_objects.specs.Objects.{kind_next}
use Rattle.kind_search.specs.Keys.{map_part}

-- After any operations, from the first list of a map on, at most one item has a given key.
abbrev pub KeysAreHeldOnce : Type 0
KeysAreHeldOnce = (steps : List (ℕ × ℕ)) (key : ℕ)
    → length (map_part key (list_after_run (kind_next Map) [] steps)) ≤ 1
