-- Laws of late residues as far as replies are known, for every sequential object.
use Rattle.std.specs.Prelude.{◌≡◌, ◌↔◌, ℕ, List, [], ◌++◌, Some, None}
use Rattle.book_base.specs.SeqSpec.{SeqSpec}
use Rattle.streams.specs.Stream.{StreamEvent, Returns}
use Rattle.streams.specs.StreamOrder.{HasLegalStreamOrder}
use Rattle.residue_laws.specs.Residue.{Configuration, IsInResidue}
use Rattle.late_residue.specs.declared.open_call.OpenCall.{OpenCall}
use Rattle.late_residue.specs.Description.{Description}
use Rattle.late_residue.specs.Reached.{Has}
use Rattle.late_residue.specs.LateOnes.{AreLedTo, AreLate}

-- The replies that are known of open calls of a stream are those with which these return in the
-- stream with later events.
abbrev pub AreKnownFrom : List StreamEvent → List StreamEvent → List OpenCall → Type 0
AreKnownFrom stream later calls = (one : OpenCall) → Has calls one → (reply : ℕ)
    → one.reply ≡ Some reply → (end : ℕ) × Returns (stream ++ later) one.call end reply

-- Where no reply is known, the residue has exactly the configurations to which placed calls lead
-- from those that the descriptions mean.
abbrev pub WhereNothingIsKnown : Type 0
WhereNothingIsKnown = (spec : SeqSpec) (stream : List StreamEvent) (calls : List OpenCall)
    (ones : List Description) → ((one : OpenCall) → Has calls one → one.reply ≡ None)
    → AreLate spec stream calls ones
    → (at : Configuration) → (IsInResidue spec stream at ↔ AreLedTo spec stream ones at)

-- A stream has a legal order where there is a description of its residue, as far as this agrees with
-- what is known. Where there is none, the stream with the events from which the replies are known has
-- no legal order.
abbrev pub KnownRepliesDecide : Type 0
KnownRepliesDecide = (spec : SeqSpec) (stream : List StreamEvent) (calls : List OpenCall)
    (ones : List Description) → AreLate spec stream calls ones
    → ((one : Description) → Has ones one → HasLegalStreamOrder spec stream)
    × ((later : List StreamEvent) → AreKnownFrom stream later calls → ones ≡ []
    → HasLegalStreamOrder spec (stream ++ later) → ⊥)
