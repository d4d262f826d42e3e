-- The rule of the table: its words and the locals of its callers are a reachable world, and each
-- caller's local is with at most one seat; and how a step changes the locals of the seat that makes
-- it.
use Rattle.std.specs.Prelude.{◌≡◌, ℕ, ◌<◌, ◌^◌, IsTrue, List, Option, Some, length, slice_index, slice_set}
use Rattle.atomic_table.specs.Table.{State, Me}
use Rattle.world_core.specs.Shape.{Shape}
use Rattle.world_core.specs.Local.{Local, fresh}
use Rattle.world_core.specs.Event.{Event, is_allowed, is_loaded, words_after, local_after}
use Rattle.world_core.specs.World.{World, local_of, IsReachable}
use Rattle.row_table.specs.Holders.{has, held_or, AreHeld}

-- The view of a seat: for each caller, the local that the seat has, where it has one.
abbrev pub View : Type 0
View = List (Option Local)

-- A local, or the local at the start where none is given.
abbrev pub the : Option Local → Local
the = held_or fresh

-- The rule of a table with this shape: its number of object words is the one that its program has;
-- its words and the locals of its callers are a reachable world; and the local that a seat's view
-- has of a caller is this caller's in that world, and in no other seat's view.
pub record Ruled (s : Shape) (objects : ℕ) (t : State (Unit {0}) View) : Type 0 where
  pub counted : objects ≡ s.program.objects
  pub world : World
  pub reach : IsReachable s world
  pub words : t.words ≡ world.words
  pub wide : length world.locals ≡ s.callers
  pub locals : AreHeld (λ i l. local_of world i ≡ l) t.views

-- The locals of a seat's view are those of one reachable world, which has one local for each
-- caller.
pub record Together (s : Shape) (v : View) : Type 0 where
  pub world : World
  pub reach : IsReachable s world
  pub wide : length world.locals ≡ s.callers
  pub locals_are : (i : ℕ) (l : Local) → has v i ≡ Some l → local_of world i ≡ l

-- A seat's view after an event of caller `who`: it has this caller's local as it is after the
-- event.
abbrev pub moved : ℕ → View → ℕ → Event → View
moved n v who event = slice_set v who (Some (local_after n (the (has v who)) event))

-- What a seat knows after a step that found a word: its view is the one after the event for this
-- word, and the locals in it are those of one reachable world.
pub record Tells (s : Shape) (who : ℕ) (event : ℕ → Event) (me : Me (Unit {0}) View) (found : ℕ)
    (after : Me (Unit {0}) View) : Type 0 where
  pub done : after ≡ (moved s.callers me.0 who (event found), me.1)
  pub together : Together s after.0

-- What a seat knows after a store, which doesn't answer the word that it found: for some word, what
-- it would know after a step that found this word.
pub record TellsOfSome (s : Shape) (who : ℕ) (event : ℕ → Event)
    (me after : Me (Unit {0}) View) : Type 0 where
  pub found : ℕ
  pub word : found < 2 ^ 64
  pub tells : Tells s who event me found after

-- What a seat knows after a step that is no event: its view is the one before, and the locals in it
-- are those of one reachable world.
pub record Shows (s : Shape) (me after : Me (Unit {0}) View) : Type 0 where
  pub same : after ≡ me
  pub together : Together s me.0

-- To change the word at the index `word` by `f` is an event of caller `who` with this local,
-- whatever word is found: the event is allowed, it loads the found word, and it changes this word
-- by `f` and no other word.
pub record Makes (s : Shape) (objects : ℕ) (who : ℕ) (local : Local) (word : ℕ) (f : ℕ → ℕ)
    (event : ℕ → Event) : Type 0 where
  pub allowed : objects ≡ s.program.objects → (x : ℕ) → x < 2 ^ 64
      → IsTrue (is_allowed s who local (event x))
  pub loads : (words : List ℕ) → IsTrue (is_loaded s words (event (slice_index words word)))
  pub writes : (words : List ℕ) → words_after s who local words (event (slice_index words word))
      ≡ slice_set words word (f (slice_index words word))

-- Some reachable world has just these words and these locals.
pub record IsWorldOf (s : Shape) (words : List ℕ) (locals : List Local) : Type 0 where
  pub world : World
  pub reach : IsReachable s world
  pub words_are : world.words ≡ words
  pub locals_are : world.locals ≡ locals
