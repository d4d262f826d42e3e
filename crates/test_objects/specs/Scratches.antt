-- The scratches of machines: a new one, and their capacities.
use Rattle.std.specs.Prelude.{◌≡◌, ℕ, ◌+◌, ◌*◌, ◌<◌, [], None, replicate, vec_len}
use Rattle.book_base.specs.State.{Contents}
use Rattle.test_objects.specs.declared.scratch.Scratch.{Scratch}

-- An empty state with this capacity.
abbrev pub empty_state : ℕ → Contents
empty_state room = record { words = []; room = room }

-- The scratch is new: both its states are empty, with capacity for n * `cap` + 1 words, and no
-- operation of any of the n callers waits.
pub record IsClear (n cap : ℕ) (s : Scratch) : Type 0 where
  pub state : s.state ≡ empty_state (n * cap + 1)
  pub other : s.other ≡ empty_state (n * cap + 1)
  pub waiting : s.waiting.items ≡ replicate n None

-- Both states of the scratch have capacity for more than `count` words.
pub record HasCapacity (count : ℕ) (s : Scratch) : Type 0 where
  pub state : count < s.state.room
  pub other : count < s.other.room

-- The scratch `after` has the capacities of the scratch `before`, and is for as many callers.
pub record KeepsCapacity (before after : Scratch) : Type 0 where
  pub state : after.state.room ≡ before.state.room
  pub other : after.other.room ≡ before.other.room
  pub waiting : vec_len after.waiting ≡ vec_len before.waiting
