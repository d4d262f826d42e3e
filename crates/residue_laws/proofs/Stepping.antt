-- The residue steps from one event to the next.
use Rattle.std.proofs.Common.{◌≡◌, ℕ, List, [], ◌∷◌, ◌++◌, refl}
use Rattle.std.proofs.lemmas.Option.{none-some}
use Rattle.book_base.specs.SeqSpec.{SeqSpec}
use Rattle.streams.specs.Stream.{StreamEvent, Called, Returned, Lost}
use Rattle.streams.specs.StreamOrder.{StreamPlace}
use Rattle.residue_laws.specs.Residue.{Configuration, StreamReaches}
use Rattle.residue_laws.specs.Step.{AreAlike, MayPlace, with_place, ArePlaced}
use Rattle.residue_laws.specs.Laws.{EmptyResidue, ResiduesAreClosed, ResiduesStep}
use Rattle.streams.proofs.Pushing.{no_return-called, no_return-lost, old_call, waits_before}
use Rattle.residue_laws.proofs.Events.{reaches-longer, reaches-shorter, reaches-alike, alike_itself}
use Rattle.residue_laws.proofs.Placing.{are_placed, follow_on, reaches_on, nothing_among}
use Rattle.residue_laws.proofs.Following.{cut_order, before_return, after_return}

-- the configuration after a call is placed is that to which one call comes
pub placed_one : (next : List ℕ → ℕ → List ℕ × ℕ) (stream : List StreamEvent) (at : Configuration)
    (place : StreamPlace) → MayPlace next stream at place
    → ArePlaced next stream at (place ∷ []) (with_place next stream at place)
placed_one next stream at place may = (may, alike_itself (with_place next stream at place))

pub residues_are_closed : ResiduesAreClosed
residues_are_closed spec stream at place (order, reaches) may = (
  order ++ place ∷ [],
  reaches_on spec stream order (place ∷ []) at (with_place spec.next stream at place) reaches
      (follow_on spec.next stream at (with_place spec.next stream at place) (place ∷ [])
      (placed_one spec.next stream at place may)),
)

empty_only : (spec : SeqSpec) (order : List StreamPlace) (at : Configuration)
    → StreamReaches spec [] order at → AreAlike (record { placed = []; list = spec.init }) at
empty_only spec [] at reaches = (
  λ place. (
    λ among. absurd (nothing_among place among),
    λ among. ((reaches.placed place).0 among).0,
  ),
  reaches.list,
)
empty_only spec (place ∷ order) at reaches =
    let is = reaches.legal.calls place (0, refl) in absurd (none-some _ is.2)

empty_reaches : (spec : SeqSpec) (at : Configuration)
    → AreAlike (record { placed = []; list = spec.init }) at → StreamReaches spec [] [] at
empty_reaches spec at (placed, list) = record {
  legal = record {
    calls = λ place among. absurd (nothing_among place among);
    once = λ j k a b first second same. absurd (none-some a first);
    returned = λ call end reply returns. absurd (none-some _ returns.called);
    run = tt;
    precedence = λ j k a b first second before. absurd (none-some a first);
  };
  placed = λ place. (
    λ among. absurd (nothing_among place ((placed place).1 among)),
    λ (among, not). (placed place).0 among,
  );
  list = list;
}

pub empty_residue : EmptyResidue
empty_residue spec at = (
  λ (order, reaches). empty_only spec order at reaches,
  λ alike. ([], empty_reaches spec at alike),
)

pub residues_step : ResiduesStep
residues_step spec stream (Called process op) after valid = (
  λ (order, reaches).
      let cut = cut_order spec stream (Called process op ∷ [])
      (no_return-called stream process op) order after reaches in (
        cut.0,
        (cut.1.0, cut.1.1),
        (
          cut.2.0,
          are_placed spec.next (stream ++ Called process op ∷ []) cut.0 after cut.2.0
              cut.2.1,
        ),
      ),
  λ (at, (order, reaches), (rest, placed)). (
    order ++ rest,
    reaches_on spec (stream ++ Called process op ∷ []) order rest at after
        (reaches-longer spec stream (Called process op ∷ []) order at
        (no_return-called stream process op) reaches)
        (follow_on spec.next (stream ++ Called process op ∷ []) at after rest placed),
  ),
)
residues_step spec stream (Returned process reply) after valid = (
  λ (order, reaches).
      let waits = waits_before stream process reply valid in
      let before = before_return spec stream process waits.0 reply waits.1 order after reaches in
      (before.0, (order, before.1), (waits.0, waits.1, before.2, before.3)),
  λ (at, (order, reaches), (call, waits, placed, without)). (
    order,
    after_return spec stream process call reply waits order after at reaches placed without,
  ),
)
residues_step spec stream (Lost process) after valid = (
  λ (order, reaches). (
    after,
    (
      order,
      reaches-shorter spec stream (Lost process ∷ []) order after (no_return-lost stream process)
          (λ place among. old_call stream (Lost process)
          (λ p o (e : Called p o ≡ Lost process). cc) place.call (reaches.legal.calls place among))
          reaches,
    ),
    alike_itself after,
  ),
  λ (at, (order, reaches), alike). (
    order,
    reaches-longer spec stream (Lost process ∷ []) order after (no_return-lost stream process)
        (reaches-alike spec stream order at after alike reaches),
  ),
)
