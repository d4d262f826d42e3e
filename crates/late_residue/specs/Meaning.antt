-- What descriptions mean.
use Rattle.std.specs.Prelude.{◌≡◌, ◌⊎◌, List}
use Rattle.streams.specs.StreamOrder.{StreamPlace, IsAmong}
use Rattle.residue_laws.specs.Residue.{Configuration}
use Rattle.late_residue.specs.Description.{Description}
use Rattle.late_residue.specs.Reached.{Has}

-- a place of a description, optional or not
abbrev pub IsPlaceOf : Description → StreamPlace → Type 0
IsPlaceOf one place = IsAmong one.placed place ⊎ IsAmong one.optional place

-- no call has two replies at some places
abbrev pub AreOnce : List StreamPlace → Type 0
AreOnce places = (a b : StreamPlace) → IsAmong places a → IsAmong places b → a.call ≡ b.call → a ≡ b

-- A description means a configuration: this has the list, each placed call, besides these optional
-- ones alone, and no call with two replies.
pub record Means (one : Description) (at : Configuration) : Type 0 where
  pub list : at.list ≡ one.list
  pub placed : (place : StreamPlace) → IsAmong one.placed place → IsAmong at.placed place
  pub either : (place : StreamPlace) → IsAmong at.placed place → IsPlaceOf one place
  pub once : AreOnce at.placed

-- one of some descriptions means a configuration
abbrev pub AreMeant : List Description → Configuration → Type 0
AreMeant ones at = (one : Description) × Has ones one × Means one at

-- A description serves for another one: it has the same list, at most the other one's placed calls,
-- and each other place of the other one as an optional one. So it means all that the other one means.
pub record Serves (one other : Description) : Type 0 where
  pub list : one.list ≡ other.list
  pub fewer : (place : StreamPlace) → IsAmong one.placed place → IsAmong other.placed place
  pub either : (place : StreamPlace) → IsAmong other.placed place → IsPlaceOf one place
  pub optional : (place : StreamPlace) → IsAmong other.optional place → IsAmong one.optional place

-- A description is another one with more optional places: it means all that the other one means.
pub record IsWider (one wider : Description) : Type 0 where
  pub list : wider.list ≡ one.list
  pub placed : wider.placed ≡ one.placed
  pub means : (at : Configuration) → Means one at → Means wider at
