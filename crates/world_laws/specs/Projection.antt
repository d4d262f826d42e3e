-- A run without its object steps: the same run for the program whose object is outside.
use Rattle.std.specs.Prelude.{◌≡◌, Bool, true, false, if◌then◌else◌, List, [], ◌∷◌, ◌++◌, map, take}
use Rattle.world_core.specs.Layout.{row_words}
use Rattle.world_core.specs.Shape.{Shape}
use Rattle.world_core.specs.Programs.{outside}
use Rattle.world_core.specs.Local.{Local, Object_step}
use Rattle.world_core.specs.Event.{Event, Object}
use Rattle.world_core.specs.World.{World, Step, IsRun, end_of}
use Rattle.world_core.specs.History.{history_of}
use Rattle.world_core.specs.Calls.{book_in}

-- The shape with the same callers and cap, whose object is outside the world.
abbrev pub outside_of : Shape → Shape
outside_of s = record s { program = outside }

-- Whether an event is an object step.
abbrev pub is_object : Event → Bool
is_object (Object step) = true
is_object _ = false

-- A list of steps, with the object steps left out.
abbrev pub plain : List Step → List Step
plain [] = []
plain (step ∷ steps) = if is_object step.event then plain steps else step ∷ plain steps

-- The local with an empty list of object steps for each of its calls, and otherwise as it was.
abbrev pub without_steps : Local → Local
without_steps l = record l { object_steps = map (λ (steps : List Object_step). []) l.object_steps }

-- World v is world w without its object words, and without the object steps of its calls.
pub record IsPlain (s : Shape) (w v : World) : Type 0 where
  pub words : v.words ≡ take (row_words s.callers s.cap) w.words
  pub locals : v.locals ≡ map without_steps w.locals

-- A run of any program, without its object steps, is a run for the program whose object is outside
-- the world. It ends in the same words but for the object words, and in the same locals but for
-- their object steps, and it has the same object history.
abbrev pub RunsProject : Type 0
RunsProject =
    (s : Shape) (steps : List Step) → IsRun s steps
    → IsRun (outside_of s) (plain steps)
    × IsPlain s (end_of s steps) (end_of (outside_of s) (plain steps))
    × (history_of (outside_of s) (plain steps) ≡ history_of s steps)

-- A prefix of some steps, without its object steps, is a prefix of these steps without their object
-- steps. So what `RunsProject` says of the end of a run holds at each of its moments.
abbrev pub BeginningsProject : Type 0
BeginningsProject = (before later : List Step)
    → plain (before ++ later) ≡ plain before ++ plain later

-- The book of some locals without their object steps is the book of these locals.
abbrev pub BooksProject : Type 0
BooksProject = (locals : List Local) → book_in (map without_steps locals) ≡ book_in locals
