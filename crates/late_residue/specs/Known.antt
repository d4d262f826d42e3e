-- What is known of the replies of open calls before they return.
use Rattle.std.specs.Prelude.{◌≡◌, ◌==◌, ℕ, List, Some, if◌then◌else◌}
use Rattle.streams.specs.StreamOrder.{StreamPlace, IsAmong}
use Rattle.residue_laws.specs.Residue.{Configuration}
use Rattle.late_residue.specs.declared.open_call.OpenCall.{OpenCall}
use Rattle.late_residue.specs.Reached.{Has}

-- an open call may have a reply: none is known of it, or this one
abbrev pub MayHaveReply : OpenCall → ℕ → Type 0
MayHaveReply one reply = (known : ℕ) → one.reply ≡ Some known → reply ≡ known

-- an open call of which a reply is known now, where it is the call of this number
abbrev pub with_reply : ℕ → ℕ → OpenCall → OpenCall
with_reply call reply one = if one.call == call then record one { reply = Some reply } else one

-- A place agrees with what is known: an open call there may have the reply.
abbrev pub IsKnownPlace : List OpenCall → StreamPlace → Type 0
IsKnownPlace calls place = (one : OpenCall) → Has calls one → one.call ≡ place.call
    → MayHaveReply one place.reply

-- A configuration agrees with the known replies of open calls: each of these calls that is placed
-- there and whose reply is known is placed with this reply.
abbrev pub AgreesWithKnown : List OpenCall → Configuration → Type 0
AgreesWithKnown calls at = (place : StreamPlace) → IsAmong at.placed place
    → IsKnownPlace calls place
