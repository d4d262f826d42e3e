-- Configurations that agree with known replies.
use Rattle.std.proofs.Common.{◌≡◌, ◌∙◌, ℕ, List, Some, slice_get, sym, ap, subst, inl, inr}
use Rattle.std.proofs.lemmas.Bool.{cases_eq}
use Rattle.std.proofs.lemmas.Option.{same_Some}
use Rattle.book_base.specs.SeqSpec.{SeqSpec}
use Rattle.streams.specs.Stream.{StreamEvent}
use Rattle.streams.specs.StreamOrder.{StreamPlace, IsAmong, IsLegalStreamOrder}
use Rattle.residue_laws.specs.Residue.{Configuration, IsInResidue}
use Rattle.residue_laws.specs.Step.{ArePlaced, IsWithout}
use Rattle.residue_laws.proofs.Placing.{follow_on}
use Rattle.late_residue.specs.declared.open_call.OpenCall.{OpenCall}
use Rattle.late_residue.specs.Reached.{Has}
use Rattle.late_residue.specs.Meaning.{AreOnce}
use Rattle.late_residue.specs.Known.{MayHaveReply, IsKnownPlace, AgreesWithKnown}
use Rattle.late_residue.specs.LateOnes.{AreOpen}
use Rattle.late_residue.proofs.Meanings.{same_place}

-- the place of an open call with a reply that it may have agrees
pub known-placed : (stream : List StreamEvent) (calls : List OpenCall) → AreOpen stream calls
    → (one : OpenCall) (reply : ℕ) → Has calls one → MayHaveReply one reply
    → IsKnownPlace calls (record { call = one.call; reply = reply })
known-placed stream calls are one reply has may two also same known is =
    may known (sym (are.same two one also has same) ∙ is)

-- of an order in which each call stands once, two places of one call have one reply
pub one_reply : (spec : SeqSpec) (stream : List StreamEvent) (order : List StreamPlace)
    → IsLegalStreamOrder spec stream order → (a b : StreamPlace) → IsAmong order a
    → IsAmong order b → a.call ≡ b.call → a.reply ≡ b.reply
one_reply spec stream order legal a b (j, first) (k, second) same =
    let equal : j ≡ k = legal.once j k a b first second same in
    ap (λ (p : StreamPlace). p.reply) (same_Some a b
    (sym (subst (λ (n : ℕ). slice_get order n ≡ Some a) equal first) ∙ second))

-- a configuration of the residue at which a call is placed with a reply that it may have agrees
-- where the one without the call agrees
pub agree-without : (spec : SeqSpec) (stream : List StreamEvent) (calls : List OpenCall)
    → AreOpen stream calls → (one : OpenCall) (reply : ℕ) (at after : Configuration)
    → Has calls one → MayHaveReply one reply → IsInResidue spec stream at
    → IsAmong at.placed (record { call = one.call; reply = reply })
    → IsWithout one.call at after → AgreesWithKnown calls after → AgreesWithKnown calls at
agree-without spec stream calls are one reply at after has may (order, reaches) placed without
    agrees place among two also same known is = elim (cases_eq place.call one.call) [
      | inl equal ↦
          let it : StreamPlace = record { call = one.call; reply = reply } in
          let replies : place.reply ≡ reply = one_reply spec stream order reaches.legal place it
          ((reaches.placed place).0 among).0 ((reaches.placed it).0 placed).0 equal in
          replies ∙ may known (sym (are.same two one also has (same ∙ equal)) ∙ is)
      | inr apart ↦ agrees place ((without.0 place).1 (among, apart)) two also same known is
    ]

-- a configuration before some calls are placed agrees where the one after them agrees
pub agree-before : (next : List ℕ → ℕ → List ℕ × ℕ) (stream : List StreamEvent)
    (calls : List OpenCall) (at after : Configuration) (rest : List StreamPlace)
    → ArePlaced next stream at rest after → AgreesWithKnown calls after
    → AgreesWithKnown calls at
agree-before next stream calls at after rest placed agrees place among =
    agrees place (((follow_on next stream at after rest placed).placed place).1 (inl among))

-- a configuration of the residue has no call with two replies
pub once_in_residue : (spec : SeqSpec) (stream : List StreamEvent) (at : Configuration)
    → IsInResidue spec stream at → AreOnce at.placed
once_in_residue spec stream at (order, reaches) a b first second same =
    same_place a b same (one_reply spec stream order reaches.legal a b
    ((reaches.placed a).0 first).0 ((reaches.placed b).0 second).0 same)
