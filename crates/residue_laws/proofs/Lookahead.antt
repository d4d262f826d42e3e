-- Configurations that agree with the returns of the next events are enough.
use Rattle.std.proofs.Common.{◌≡◌, ℕ, ◌∙◌, List, [], ◌∷◌, ◌++◌, length, Some, refl, sym, ap, subst, inl, inr, slice_get, append_assoc}
use Rattle.std.proofs.lemmas.Bool.{cases_eq}
use Rattle.std.proofs.lemmas.Option.{same_Some}
use Rattle.book_base.specs.SeqSpec.{SeqSpec}
use Rattle.streams.specs.Stream.{StreamEvent, Called, Returned, Lost, Returns}
use Rattle.streams.specs.StreamOrder.{StreamPlace, IsAmong, IsLegalStreamOrder}
use Rattle.streams.proofs.Returning.{returns_once, returns-longer}
use Rattle.residue_laws.specs.Residue.{Configuration, StreamReaches, IsInResidue}
use Rattle.residue_laws.specs.Step.{StepsTo}
use Rattle.residue_laws.specs.Lookahead.{AgreesWith}
use Rattle.residue_laws.specs.Laws.{AgreeingOnesDecide, AgreeingOnesStep}
use Rattle.residue_laws.proofs.Appending.{among-left}
use Rattle.residue_laws.proofs.Fronts.{front_of, reaches_somewhere, front_is_legal, rest_continues}
use Rattle.residue_laws.proofs.Joining.{joined_is_legal}
use Rattle.streams.proofs.Pushing.{returns_now}
use Rattle.residue_laws.proofs.Placing.{follow_on}
use Rattle.residue_laws.proofs.Stepping.{residues_step}

-- of an order in which each call stands once, two places of one call have one reply
one_reply : (spec : SeqSpec) (stream : List StreamEvent) (order : List StreamPlace)
    → IsLegalStreamOrder spec stream order → (a b : StreamPlace) → IsAmong order a
    → IsAmong order b → a.call ≡ b.call → a.reply ≡ b.reply
one_reply spec stream order legal a b (j, first) (k, second) same =
    let equal : j ≡ k = legal.once j k a b first second same in
    ap (λ (p : StreamPlace). p.reply) (same_Some a b
    (sym (subst (λ (n : ℕ). slice_get order n ≡ Some a) equal first) ∙ second))

-- where a front comes to agrees with the stream of the whole order
front-agrees : (spec : SeqSpec) (stream whole : List StreamEvent) (front rest : List StreamPlace)
    (at : Configuration) → IsLegalStreamOrder spec whole (front ++ rest)
    → StreamReaches spec stream front at → AgreesWith whole at
front-agrees spec stream whole front rest at legal reaches place placed end reply returns =
    one_reply spec whole (front ++ rest) legal place
    (record { call = place.call; reply = reply })
    (among-left front rest place ((reaches.placed place).0 placed).0)
    (legal.returned place.call end reply returns) refl

agrees-shorter : (stream window later : List StreamEvent) (at : Configuration)
    → AgreesWith (stream ++ (window ++ later)) at → AgreesWith (stream ++ window) at
agrees-shorter stream window later at agrees place placed end reply returns =
    agrees place placed end reply
    (subst (λ (s : List StreamEvent). Returns s place.call end reply)
    (append_assoc stream window later)
    (returns-longer (stream ++ window) later place.call end reply returns))

pub agreeing_ones_decide : AgreeingOnesDecide
agreeing_ones_decide spec stream window later = (
  λ (order, legal).
      let cut = front_of stream order in
      let joined : IsLegalStreamOrder spec (stream ++ (window ++ later)) (cut.0 ++ cut.1) =
      subst (λ (o : List StreamPlace). IsLegalStreamOrder spec (stream ++ (window ++ later)) o)
      cut.2 legal in
      let front = front_is_legal spec stream (window ++ later) cut.0 cut.1 joined cut.3 cut.4 in
      let at = reaches_somewhere spec stream cut.0 front in (
        at.0,
        (cut.0, at.1),
        agrees-shorter stream window later at.0
            (front-agrees spec stream (stream ++ (window ++ later)) cut.0 cut.1 at.0 joined at.1),
        (cut.1, rest_continues spec stream (window ++ later) cut.0 cut.1 at.0 joined at.1 cut.4),
      ),
  λ (at, (order, reaches), agrees, (rest, continues)). (
    order ++ rest,
    joined_is_legal spec stream (window ++ later) order rest at reaches continues,
  ),
)

-- a configuration before a step agrees with the returns with which the one after it does
agrees-before : (spec : SeqSpec) (stream : List StreamEvent) (event : StreamEvent)
    (later : List StreamEvent) (at after : Configuration) → IsInResidue spec stream at
    → StepsTo spec.next stream event at after
    → AgreesWith (stream ++ event ∷ later) after → AgreesWith (stream ++ event ∷ later) at
agrees-before spec stream (Called process op) later at after in_residue (rest, placed) agrees =
    λ place among.
    agrees place (((follow_on spec.next (stream ++ Called process op ∷ []) at after rest
    placed).placed place).1 (inl among))
agrees-before spec stream (Returned process reply) later at after (order, reaches)
    (call, waits, placed, (without, list)) agrees =
    λ place among end last returns. elim (cases_eq place.call call) [
      | inl same ↦
          let it : StreamPlace = record { call = call; reply = reply } in
          let equal : place.reply ≡ reply = one_reply spec stream order reaches.legal place it
          ((reaches.placed place).0 among).0 ((reaches.placed it).0 placed).0 same in
          let now : Returns (stream ++ Returned process reply ∷ later) call (length stream) reply =
          subst (λ (s : List StreamEvent). Returns s call (length stream) reply)
          (append_assoc stream (Returned process reply ∷ []) later)
          (returns-longer (stream ++ Returned process reply ∷ []) later call (length stream) reply
          (returns_now stream process call reply waits)) in
          let here : Returns (stream ++ Returned process reply ∷ later) call end last =
          subst (λ (c : ℕ). Returns (stream ++ Returned process reply ∷ later) c end last) same
          returns in
          equal ∙ sym (returns_once (stream ++ Returned process reply ∷ later) call end last
          (length stream) reply here now).1
      | inr apart ↦ agrees place ((without place).1 (among, apart)) end last returns
    ]
agrees-before spec stream (Lost process) later at after in_residue (placed, list) agrees =
    λ place among. agrees place ((placed place).0 among)

pub agreeing_ones_step : AgreeingOnesStep
agreeing_ones_step spec stream event later after valid in_residue agrees =
    let found = (residues_step spec stream event after valid).0 in_residue in (
      found.0,
      found.1,
      agrees-before spec stream event later found.0 after found.1 found.2 agrees,
      found.2,
    )
