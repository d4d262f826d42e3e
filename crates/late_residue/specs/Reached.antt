-- Descriptions as the code has them.
use Rattle.std.specs.Prelude.{◌≡◌, ℕ, List, ◌++◌, map, Some, slice_get}
use Rattle.streams.specs.StreamOrder.{StreamPlace}
use Rattle.late_residue.specs.declared.reached.Placed.{Placed}
use Rattle.late_residue.specs.declared.reached.Reached.{Reached}
use Rattle.late_residue.specs.Description.{Description}

-- a list has an item
abbrev pub Has : {X : Type 0} → List X → X → Type 0
Has xs x = (k : ℕ) × (slice_get xs k ≡ Some x)

-- a list is another one with more items after it
abbrev pub Grows : {X : Type 0} → List X → List X → Type 0
Grows {X} old new = (more : List X) × (new ≡ old ++ more)

-- a placed call as a place of a stream's order
abbrev pub place_of : Placed → StreamPlace
place_of placed = record { call = placed.call; reply = placed.reply }

-- a description of the code as one of configurations
abbrev pub description_of : Reached → Description
description_of reached = record {
  placed = map place_of reached.placed.items;
  optional = map place_of reached.optional.items;
  list = reached.list.items;
}

-- the descriptions of a list
abbrev pub descriptions_of : List Reached → List Description
descriptions_of ones = map description_of ones
