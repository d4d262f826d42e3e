-- What entries say, apart from how their lists are stored.
use Rattle.std.specs.Prelude.{ℕ, List, map}
use Rattle.level_refutations.specs.declared.entry.LevelEntry.{LevelEntry}
use Rattle.level_refutations.specs.declared.entry.LevelEntry.TheVariants as entry

-- What an entry says: the number of a cut and a caller; an item and the numbers of the levels right
-- above which it may lie; or the number of a level and those of the cuts after which it is on top.
pub data EntrySaid : Type 0 where
  Cut : ℕ → ℕ → EntrySaid
  Level : ℕ → List ℕ → EntrySaid
  At : ℕ → List ℕ → EntrySaid

-- what a stored entry says
abbrev pub entry_said : LevelEntry → EntrySaid
entry_said (entry.Cut p i) = Cut p i
entry_said (entry.Level v below) = Level v below.items
entry_said (entry.At l cuts) = At l cuts.items

-- what stored entries say
abbrev pub entries_said : List LevelEntry → List EntrySaid
entries_said entries = map entry_said entries
