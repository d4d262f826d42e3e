-- Descriptions in place of configurations: what makes a set of descriptions decide a stream.
use Rattle.std.specs.Prelude.{◌↔◌, List, [], ◌∷◌, ◌++◌}
use Rattle.book_base.specs.SeqSpec.{SeqSpec}
use Rattle.streams.specs.Stream.{StreamEvent, IsValidStream}
use Rattle.streams.specs.StreamOrder.{StreamPlace, HasLegalStreamOrder}
use Rattle.residue_laws.specs.Residue.{Configuration, IsInResidue}
use Rattle.residue_laws.specs.Step.{AreAlike, ArePlaced, StepsTo}
use Rattle.residue_laws.specs.Late.{IsInLateResidue, StepsLateTo}

-- A description dominates another one where it serves for each configuration for which the other
-- one serves.
abbrev pub Dominates : {D : Type 0} → (D → Configuration → Type 0) → D → D → Type 0
Dominates serves one other = (at : Configuration) → serves other at → serves one at

-- Descriptions are faithful to an object. Some are retained after each stream, and a description
-- steps by an event to others. A description means some configurations, which legal orders reach;
-- and it serves for some configurations, which it can replace, whatever follows.
pub record AreFaithful {D : Type 0} (spec : SeqSpec) (retained : List StreamEvent → D → Type 0)
    (steps : List StreamEvent → StreamEvent → D → D → Type 0)
    (means serves : D → Configuration → Type 0) : Type 0 where
  -- each description that is retained means a configuration
  pub meaning : (stream : List StreamEvent) (one : D) → retained stream one
      → (at : Configuration) × means one at
  -- a description that is retained after no event means only the beginning
  pub first_means : (one : D) (at : Configuration) → retained [] one → means one at
      → AreAlike (record { placed = []; list = spec.init }) at
  -- one that is retained after no event serves for the beginning
  pub first_serves : (at : Configuration) → AreAlike (record { placed = []; list = spec.init }) at
      → (one : D) × retained [] one × serves one at
  -- one that is retained after one more event is reached by a step from one that was retained
  -- before it
  pub stepped : (stream : List StreamEvent) (event : StreamEvent) (other : D)
      → IsValidStream (stream ++ event ∷ []) → retained (stream ++ event ∷ []) other
      → (one : D) × retained stream one × steps stream event one other
  -- Soundness: what a description means after a step is reached from what it meant before, by calls
  -- that are placed and a step.
  pub sound : (stream : List StreamEvent) (event : StreamEvent) (one other : D)
      (after : Configuration) → IsValidStream (stream ++ event ∷ []) → retained stream one
      → steps stream event one other → means other after
      → (at : Configuration) × means one at × ((rest : List StreamPlace)
      × (middle : Configuration) × ArePlaced spec.next stream at rest middle
      × StepsTo spec.next stream event middle after)
  -- Simulation: where a description serves for a configuration that steps late, some step of the
  -- description serves for what the configuration steps to.
  pub simulates : (stream : List StreamEvent) (event : StreamEvent) (one : D)
      (at after : Configuration) → IsValidStream (stream ++ event ∷ []) → retained stream one
      → serves one at → StepsLateTo spec.next stream event at after
      → (other : D) × steps stream event one other × serves other after
  -- Dominance: for each step of a description that is retained, one that dominates it is retained.
  pub dominated : (stream : List StreamEvent) (event : StreamEvent) (one other : D)
      → IsValidStream (stream ++ event ∷ []) → retained stream one → steps stream event one other
      → (better : D) × retained (stream ++ event ∷ []) better × Dominates serves better other

-- A valid stream has a legal order exactly where a description is retained after it.
abbrev pub RetainedOnesDecide : {D : Type 0} → SeqSpec → (List StreamEvent → D → Type 0) → Type 0
RetainedOnesDecide {D} spec retained = (stream : List StreamEvent) → IsValidStream stream
    → (HasLegalStreamOrder spec stream ↔ ((one : D) × retained stream one))

-- What a description means that is retained after a valid stream is in the stream's residue.
abbrev pub RetainedOnesAreSound : {D : Type 0} → SeqSpec → (List StreamEvent → D → Type 0)
    → (D → Configuration → Type 0) → Type 0
RetainedOnesAreSound {D} spec retained means =
    (stream : List StreamEvent) (one : D) (at : Configuration)
    → IsValidStream stream → retained stream one → means one at → IsInResidue spec stream at

-- For each configuration of a valid stream's late residue a description is retained that serves for
-- it.
abbrev pub RetainedOnesServe : {D : Type 0} → SeqSpec → (List StreamEvent → D → Type 0)
    → (D → Configuration → Type 0) → Type 0
RetainedOnesServe {D} spec retained serves = (stream : List StreamEvent) (at : Configuration)
    → IsValidStream stream → IsInLateResidue spec stream at
    → (one : D) × retained stream one × serves one at

-- Configurations are faithful descriptions of themselves, where those of the late residue are
-- retained.
abbrev pub ConfigurationsAreFaithful : Type 0
ConfigurationsAreFaithful = (spec : SeqSpec) → AreFaithful {D = Configuration} spec
    (IsInLateResidue spec) (StepsLateTo spec.next) AreAlike AreAlike
