-- The words of a closed table.
use Rattle.std.specs.Prelude.{ℕ, List}
use Rattle.row_table.specs.declared.world.World.{World}

-- The words of a closed table, by index.
abbrev pub words_in : {P : Type 0} → World P → List ℕ
words_in w = w.words.items
