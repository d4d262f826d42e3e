-- Lookahead: what the returns of a longer stream say of a configuration.
use Rattle.std.specs.Prelude.{◌≡◌, ℕ, List}
use Rattle.streams.specs.Stream.{StreamEvent, Returns}
use Rattle.streams.specs.StreamOrder.{StreamPlace, IsAmong}
use Rattle.residue_laws.specs.Residue.{Configuration}

-- A configuration agrees with a stream where each placed call that returns there has the reply with
-- which it is placed.
abbrev pub AgreesWith : List StreamEvent → Configuration → Type 0
AgreesWith stream at = (place : StreamPlace) → IsAmong at.placed place → (end reply : ℕ)
    → Returns stream place.call end reply → place.reply ≡ reply
