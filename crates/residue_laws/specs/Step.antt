-- Steps of the residue, from one event to the next.
use Rattle.std.specs.Prelude.{◌≡◌, ◌≢◌, ℕ, ◌↔◌, List, [], ◌∷◌, ◌++◌}
use Rattle.streams.specs.Stream.{StreamEvent, Called, Returned, Lost, IsStreamCall, HasReturned, IsWaiting}
use Rattle.streams.specs.StreamOrder.{StreamPlace, stream_step, IsAmong}
use Rattle.residue_laws.specs.Residue.{Configuration}

-- Two configurations are alike: they have the same placed calls with the same replies, and the same
-- list.
abbrev pub AreAlike : Configuration → Configuration → Type 0
AreAlike one other =
    ((place : StreamPlace) → (IsAmong one.placed place ↔ IsAmong other.placed place))
    × (one.list ≡ other.list)

-- A call may be placed at a configuration: it is a call of the stream that hasn't returned and
-- isn't placed yet, and the reply is the one that the object gives at the list.
pub record MayPlace (next : List ℕ → ℕ → List ℕ × ℕ) (stream : List StreamEvent)
    (at : Configuration) (place : StreamPlace) : Type 0 where
  pub call : IsStreamCall stream place.call
  pub pending : HasReturned stream place.call → ⊥
  pub unplaced : (other : StreamPlace) → IsAmong at.placed other → other.call ≡ place.call → ⊥
  pub reply : (next at.list (stream_step stream place).0).1 ≡ place.reply

-- the configuration after a call is placed
abbrev pub with_place : (List ℕ → ℕ → List ℕ × ℕ) → List StreamEvent → Configuration → StreamPlace
    → Configuration
with_place next stream at place = record {
  placed = place ∷ at.placed;
  list = (next at.list (stream_step stream place).0).0;
}

-- Some calls may be placed one after another at a configuration, and lead to another one.
abbrev pub ArePlaced : (List ℕ → ℕ → List ℕ × ℕ) → List StreamEvent → Configuration
    → List StreamPlace → Configuration → Type 0
ArePlaced next stream at [] after = AreAlike at after
ArePlaced next stream at (place ∷ rest) after = MayPlace next stream at place
    × ArePlaced next stream (with_place next stream at place) rest after

-- A configuration is another one without a call.
abbrev pub IsWithout : ℕ → Configuration → Configuration → Type 0
IsWithout call with without = ((place : StreamPlace)
    → (IsAmong without.placed place ↔ IsAmong with.placed place × (place.call ≢ call)))
    × (with.list ≡ without.list)

-- A configuration of a stream steps to another one by the next event. At a call, calls may be
-- placed. At a return, the call that returns must be placed with the reply of the return, and is
-- placed no more. At a loss nothing changes.
abbrev pub StepsTo : (List ℕ → ℕ → List ℕ × ℕ) → List StreamEvent → StreamEvent → Configuration
    → Configuration → Type 0
StepsTo next stream (Called process op) at after = (rest : List StreamPlace)
    × ArePlaced next (stream ++ Called process op ∷ []) at rest after
StepsTo next stream (Returned process reply) at after = (call : ℕ)
    × IsWaiting stream process call × IsAmong at.placed (record { call = call; reply = reply })
    × IsWithout call at after
StepsTo next stream (Lost process) at after = AreAlike at after
