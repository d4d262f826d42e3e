-- The late residue: the configurations that a stream's legal orders reach without placing a call
-- before it is needed (Wing and Gong 1993; Lowe 2017).
use Rattle.std.specs.Prelude.{◌≡◌, ℕ, ◌⊎◌, List, [], ◌∷◌, ◌++◌}
use Rattle.book_base.specs.SeqSpec.{SeqSpec}
use Rattle.streams.specs.Stream.{StreamEvent, Called, Returned, Lost, HasReturned, IsWaiting}
use Rattle.streams.specs.StreamOrder.{StreamPlace, IsAmong}
use Rattle.residue_laws.specs.Residue.{Configuration, StreamReaches}
use Rattle.residue_laws.specs.Step.{AreAlike, MayPlace, with_place, ArePlaced, IsWithout}

-- The order has no place, or its last call returns in the stream.
abbrev pub EndsInAReturn : List StreamEvent → List StreamPlace → Type 0
EndsInAReturn stream order = (order ≡ []) ⊎ ((front : List StreamPlace) × (last : StreamPlace)
    × (order ≡ front ++ last ∷ []) × HasReturned stream last.call)

-- The late residue of a stream has the configurations that those of its legal orders reach that
-- have no place, or whose last call returns.
abbrev pub IsInLateResidue : SeqSpec → List StreamEvent → Configuration → Type 0
IsInLateResidue spec stream at = (order : List StreamPlace) × StreamReaches spec stream order at
    × EndsInAReturn stream order

-- A configuration of a stream steps late to another one by the next event: calls are placed at
-- returns alone. At a return, the call that returns is placed already with the reply of the return,
-- or some other calls are placed and then this one with this reply.
abbrev pub StepsLateTo : (List ℕ → ℕ → List ℕ × ℕ) → List StreamEvent → StreamEvent → Configuration
    → Configuration → Type 0
StepsLateTo next stream (Called process op) at after = AreAlike at after
StepsLateTo next stream (Returned process reply) at after = (call : ℕ)
    × IsWaiting stream process call
    × ((IsAmong at.placed (record { call = call; reply = reply }) × IsWithout call at after)
    ⊎ ((rest : List StreamPlace) × (middle : Configuration)
    × ArePlaced next stream at rest middle
    × MayPlace next stream middle (record { call = call; reply = reply })
    × IsWithout call (with_place next stream middle (record { call = call; reply = reply })) after))
StepsLateTo next stream (Lost process) at after = AreAlike at after
