-- The word of each task.
use Rattle.std.specs.Prelude.{ℕ, List, [], ◌∷◌, Option, Some, None, codes, if◌then◌else◌}
use Rattle.std.specs.Str.{bytes_eq}
use Rattle.witness_tool.specs.declared.task.Task.{Task}
use Rattle.witness_tool.specs.declared.task.Task.TheVariants.{Picture, Smaller, Explain, Evidence}

-- The tasks, each with its word.
abbrev pub tasks : List (List ℕ × Task)
tasks =
    (codes "picture", Picture)
    ∷ (codes "smaller", Smaller)
    ∷ (codes "explain", Explain)
    ∷ (codes "evidence", Evidence)
    ∷ []

-- The task of the first row that has this word, where one has it.
abbrev pub named_in : List (List ℕ × Task) → List ℕ → Option Task
named_in [] word = None
named_in (row ∷ rows) word = if bytes_eq word row.0 then Some row.1 else named_in rows word

-- the task that a word names
unfoldable pub task_named : List ℕ → Option Task
task_named word = named_in tasks word
