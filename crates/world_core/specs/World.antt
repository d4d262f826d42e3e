-- The world: the words of the table, and one local for each caller; runs, and the worlds that runs
-- reach.
use Rattle.std.specs.Prelude.{◌≡◌, ℕ, Bool, true, ◌&&◌, IsTrue, List, [], ◌∷◌, replicate, slice_index, slice_index_or, slice_set}
use Rattle.world_core.specs.declared.region.Region.{Region}
use Rattle.world_core.specs.Layout.{count_index, place_index, object_index}
use Rattle.world_core.specs.Shape.{Shape, words_of}
use Rattle.world_core.specs.Local.{Local, fresh}
use Rattle.world_core.specs.Event.{Event, is_allowed, is_loaded, words_after, local_after}

-- A world: the words of the table, and the locals of the callers, by number. The shape is no part
-- of it, since no step changes it.
pub record World : Type 0 where
  pub words : List ℕ
  pub locals : List Local

-- A step: an event, and the number of the caller that makes it.
pub record Step : Type 0 where
  pub who : ℕ
  pub event : Event

-- The world of a shape at the start: each word is 0, and each caller has the fresh local.
abbrev pub start : Shape → World
start s = record { words = replicate (words_of s) 0; locals = replicate s.callers fresh }

-- The local of caller i in a world, and the fresh local where the world has no caller i.
abbrev pub local_of : World → ℕ → Local
local_of w i = slice_index_or w.locals i fresh

-- The count word of caller i in a region.
abbrev pub count_of : Shape → World → Region → ℕ → ℕ
count_of s w region i = slice_index w.words (count_index s.callers region i)

-- The word at a place of a region in row k of caller i.
abbrev pub row_word : Shape → World → Region → ℕ → ℕ → ℕ → ℕ
row_word s w region i k place = slice_index w.words (place_index s.callers s.cap region i k place)

-- The object word at a place, by its place among the object words.
abbrev pub object_word : Shape → World → ℕ → ℕ
object_word s w place = slice_index w.words (object_index s.callers s.cap place)

-- The world after a step: the words and the local of its caller are those after its event, and the
-- other callers' locals are as before.
abbrev pub after : Shape → World → Step → World
after s w step =
    record {
      words = words_after s step.who (local_of w step.who) w.words step.event;
      locals = slice_set w.locals step.who (local_after s.callers (local_of w step.who) step.event);
    }

-- Whether a step is enabled in a world: its event is allowed to its caller with the local that this
-- caller has there, and if its event loads a word, this is the word that the table has.
abbrev pub is_possible : Shape → World → Step → Bool
is_possible s w step =
    is_allowed s step.who (local_of w step.who) step.event && is_loaded s w.words step.event

-- The world after these steps, made one after another.
abbrev pub after_all : Shape → World → List Step → World
after_all s w [] = w
after_all s w (step ∷ steps) = after_all s (after s w step) steps

-- Whether each of these steps is enabled in the world after the steps before it.
abbrev pub are_possible : Shape → World → List Step → Bool
are_possible s w [] = true
are_possible s w (step ∷ steps) = is_possible s w step && are_possible s (after s w step) steps

-- Steps are a run where each of them is enabled in the world that the steps before it lead to from
-- the start.
abbrev pub IsRun : Shape → List Step → Type 0
IsRun s steps = IsTrue (are_possible s (start s) steps)

-- The world that these steps lead to from the start.
abbrev pub end_of : Shape → List Step → World
end_of s steps = after_all s (start s) steps

-- A world is reachable where some run ends in it.
abbrev pub IsReachable : Shape → World → Type 0
IsReachable s w = (steps : List Step) × IsRun s steps × (end_of s steps ≡ w)
