-- What a caller has found only grows.
use Rattle.std.specs.Prelude.{◌≡◌, ℕ, Some, Contains, slice_get}
use Rattle.world_core.specs.Local.{Local, Given, Looked, Peeked}

-- The local `m` has all looks and all peeks of the local `l`, and all its given cuts, each at its
-- place, as the local of the same caller at a later moment has.
pub record Grows (l m : Local) : Type 0 where
  pub looked : (x : Looked) → Contains l.looked x → Contains m.looked x
  pub peeked : (x : Peeked) → Contains l.peeked x → Contains m.peeked x
  pub cuts : (place : ℕ) (given : Given) → slice_get l.cuts place ≡ Some given
      → slice_get m.cuts place ≡ Some given
