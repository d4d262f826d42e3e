-- Faithful descriptions decide.
use Rattle.std.proofs.Common.{◌≡◌, List, [], ◌∷◌, ◌++◌, sym, subst, append-nil, append_assoc}
use Rattle.book_base.specs.SeqSpec.{SeqSpec}
use Rattle.streams.specs.Stream.{StreamEvent, IsValidStream}
use Rattle.streams.specs.StreamOrder.{StreamPlace, IsLegalStreamOrder}
use Rattle.streams.proofs.Pushing.{valid-prefix}
use Rattle.residue_laws.specs.Residue.{Configuration, IsInResidue}
use Rattle.residue_laws.specs.Late.{IsInLateResidue}
use Rattle.residue_laws.specs.Simulation.{AreFaithful, RetainedOnesDecide, RetainedOnesAreSound, RetainedOnesServe}
use Rattle.residue_laws.proofs.Fronts.{reaches_somewhere}
use Rattle.residue_laws.proofs.Placing.{follow_on, reaches_on}
use Rattle.residue_laws.proofs.Stepping.{empty_residue, residues_step}
use Rattle.residue_laws.proofs.Lateness.{late_residues_suffice, late_residues_step}

-- a stream with a legal order has a configuration in its late residue
pub late_of : (spec : SeqSpec) (stream : List StreamEvent) (order : List StreamPlace)
    → IsLegalStreamOrder spec stream order
    → (at : Configuration) × IsInLateResidue spec stream at
late_of spec stream order legal =
    let at = reaches_somewhere spec stream order legal in
    let found = (late_residues_suffice spec stream at.0).0 (order, at.1) in (found.0, found.1)

module _ {D : Type 0} (spec : SeqSpec) (retained : List StreamEvent → D → Type 0)
    (steps : List StreamEvent → StreamEvent → D → D → Type 0)
    (means serves : D → Configuration → Type 0)
    (faithful : AreFaithful spec retained steps means serves) where
  -- what is so after a stream: retained descriptions mean configurations of the residue, and for
  -- each configuration of the late residue one is retained that serves for it
  abbrev Holds : List StreamEvent → Type 0
  Holds stream = ((one : D) (at : Configuration) → retained stream one → means one at
      → IsInResidue spec stream at)
      × ((at : Configuration) → IsInLateResidue spec stream at
      → (one : D) × retained stream one × serves one at)

  at_first : Holds []
  at_first = (
    λ one at keeps mean. (empty_residue spec at).1 (faithful.first_means one at keeps mean),
    λ at (order, reaches, ends).
        faithful.first_serves at ((empty_residue spec at).0 (order, reaches)),
  )

  one_more : (stream : List StreamEvent) (event : StreamEvent)
      → IsValidStream (stream ++ event ∷ []) → Holds stream → Holds (stream ++ event ∷ [])
  one_more stream event valid (sound, serving) = (
    λ other after keeps mean.
        let from = faithful.stepped stream event other valid keeps in
        let found = faithful.sound stream event from.0 other after valid from.1 from.2 mean in
        let residue = sound from.0 found.0 from.1 found.1 in
        let middle : IsInResidue spec stream found.2.1 = (
          residue.0 ++ found.2.0,
          reaches_on spec stream residue.0 found.2.0 found.0 found.2.1 residue.1
              (follow_on spec.next stream found.0 found.2.1 found.2.0 found.2.2),
        ) in
        (residues_step spec stream event after valid).1 (found.2.1, middle, found.2.3),
    λ after late.
        let found = (late_residues_step spec stream event after valid).0 late in
        let one = serving found.0 found.1 in
        let step = faithful.simulates stream event one.0 found.0 after valid one.1 one.2 found.2 in
        let better = faithful.dominated stream event one.0 step.0 valid one.1 step.1 in
        (better.0, better.1, better.2 after step.2),
  )

  walk : (later stream : List StreamEvent) → IsValidStream (stream ++ later) → Holds stream
      → Holds (stream ++ later)
  walk [] stream valid holds =
      subst (λ (s : List StreamEvent). Holds s) (sym (append-nil stream)) holds
  walk (event ∷ later) stream valid holds =
      let same : (stream ++ event ∷ []) ++ later ≡ stream ++ event ∷ later =
      append_assoc stream (event ∷ []) later in
      let longer : IsValidStream ((stream ++ event ∷ []) ++ later) =
      subst (λ (s : List StreamEvent). IsValidStream s) (sym same) valid in
      let next = one_more stream event (valid-prefix (stream ++ event ∷ []) later longer) holds in
      subst (λ (s : List StreamEvent). Holds s) same
      (walk later (stream ++ event ∷ []) longer next)

  everywhere : (stream : List StreamEvent) → IsValidStream stream → Holds stream
  everywhere stream valid = walk stream [] valid at_first

  pub retained_ones_are_sound : RetainedOnesAreSound spec retained means
  retained_ones_are_sound stream one at valid keeps mean =
      (everywhere stream valid).0 one at keeps mean

  pub retained_ones_serve : RetainedOnesServe spec retained serves
  retained_ones_serve stream at valid late = (everywhere stream valid).1 at late

  pub retained_ones_decide : RetainedOnesDecide spec retained
  retained_ones_decide stream valid = (
    λ (order, legal).
        let late = late_of spec stream order legal in
        let one = retained_ones_serve stream late.0 valid late.1 in (one.0, one.1),
    λ (one, keeps).
        let mean = faithful.meaning stream one keeps in
        let residue = retained_ones_are_sound stream one mean.0 valid keeps mean.1 in
        (residue.0, residue.1.legal),
  )
