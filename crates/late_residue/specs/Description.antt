-- Descriptions of configurations: one stands for all that place some of its optional calls.
use Rattle.std.specs.Prelude.{ℕ, List}
use Rattle.streams.specs.StreamOrder.{StreamPlace}

-- A description has the places of all its configurations, the places that each of these may have or
-- lack, of which one call may have several with different replies, and the object's list.
pub record Description : Type 0 where
  pub placed : List StreamPlace
  pub optional : List StreamPlace
  pub list : List ℕ
