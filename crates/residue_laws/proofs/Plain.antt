-- Configurations as descriptions of themselves.
use Rattle.std.proofs.Common.{◌≡◌, ℕ, ◌∙◌, List, [], ◌∷◌, ◌++◌, refl, sym, ap, subst, inl, inr}
use Rattle.std.proofs.lemmas.Option.{none-some}
use Rattle.book_base.specs.SeqSpec.{SeqSpec}
use Rattle.streams.specs.Stream.{StreamEvent, Called, Returned, Lost}
use Rattle.streams.specs.StreamOrder.{StreamPlace, stream_step}
use Rattle.residue_laws.specs.Residue.{Configuration, StreamReaches}
use Rattle.residue_laws.specs.Step.{AreAlike, MayPlace, with_place, ArePlaced, StepsTo, IsWithout}
use Rattle.residue_laws.specs.Late.{IsInLateResidue, StepsLateTo}
use Rattle.residue_laws.specs.Simulation.{ConfigurationsAreFaithful}
use Rattle.residue_laws.proofs.Events.{alike_itself}
use Rattle.residue_laws.proofs.Placing.{among-cons, among-first, among-later}
use Rattle.residue_laws.proofs.Stepping.{empty_residue}
use Rattle.residue_laws.proofs.Lateness.{late_residues_step, without-alike}

alike-back : (one other : Configuration) → AreAlike one other → AreAlike other one
alike-back one other (placed, list) =
    (λ place. ((placed place).1, (placed place).0), sym list)

alike-on : (one other last : Configuration) → AreAlike one other → AreAlike other last
    → AreAlike one last
alike-on one other last (placed, list) (also, same) = (
  λ place. (
    λ among. (also place).0 ((placed place).0 among),
    λ among. (placed place).1 ((also place).1 among),
  ),
  list ∙ same,
)

-- what may be placed at a configuration may be placed at each that is alike
may-alike : (next : List ℕ → ℕ → List ℕ × ℕ) (stream : List StreamEvent) (one other : Configuration)
    (place : StreamPlace) → AreAlike one other → MayPlace next stream other place
    → MayPlace next stream one place
may-alike next stream one other place (placed, list) may = record {
  call = may.call;
  pending = may.pending;
  unplaced = λ p among same. may.unplaced p ((placed p).0 among) same;
  reply = subst (λ (l : List ℕ). (next l (stream_step stream place).0).1 ≡ place.reply) (sym list)
      may.reply;
}

with-alike : (next : List ℕ → ℕ → List ℕ × ℕ) (stream : List StreamEvent)
    (one other : Configuration)
    (place : StreamPlace) → AreAlike one other
    → AreAlike (with_place next stream one place) (with_place next stream other place)
with-alike next stream one other place (placed, list) = (
  λ p. (
    λ among. elim (among-cons place one.placed p among) [
      | inl is ↦ among-first place other.placed p is
      | inr old ↦ among-later place other.placed p ((placed p).0 old)
    ],
    λ among. elim (among-cons place other.placed p among) [
      | inl is ↦ among-first place one.placed p is
      | inr old ↦ among-later place one.placed p ((placed p).1 old)
    ],
  ),
  ap (λ (l : List ℕ). (next l (stream_step stream place).0).0) list,
)

placed-alike : (next : List ℕ → ℕ → List ℕ × ℕ) (stream : List StreamEvent)
    (one other : Configuration)
    (rest : List StreamPlace) (after : Configuration) → AreAlike one other
    → ArePlaced next stream other rest after → ArePlaced next stream one rest after
placed-alike next stream one other [] after alike same = alike-on one other after alike same
placed-alike next stream one other (place ∷ rest) after alike (may, later) = (
  may-alike next stream one other place alike may,
  placed-alike next stream (with_place next stream one place) (with_place next stream other place)
      rest after (with-alike next stream one other place alike) later,
)

-- one more call is placed after some others
placed-more : (next : List ℕ → ℕ → List ℕ × ℕ) (stream : List StreamEvent) (at : Configuration)
    (rest : List StreamPlace) (middle : Configuration) (last : StreamPlace)
    → ArePlaced next stream at rest middle → MayPlace next stream middle last
    → ArePlaced next stream at (rest ++ last ∷ []) (with_place next stream middle last)
placed-more next stream at [] middle last alike may = (
  may-alike next stream at middle last alike may,
  with-alike next stream at middle last alike,
)
placed-more next stream at (place ∷ rest) middle last (first, later) may =
    (first, placed-more next stream (with_place next stream at place) rest middle last later may)

without-on : (call : ℕ) (with one other : Configuration) → IsWithout call with one
    → AreAlike one other → IsWithout call with other
without-on call with one other (lacks, same) (placed, list) = (
  λ place. (
    λ among. (lacks place).0 ((placed place).1 among),
    λ both. (placed place).0 ((lacks place).1 both),
  ),
  same ∙ list,
)

-- what a late step comes to is come to by calls that are placed and a step
plain-sound : (spec : SeqSpec) (stream : List StreamEvent) (event : StreamEvent)
    (one other after : Configuration) → StepsLateTo spec.next stream event one other
    → AreAlike other after
    → (at : Configuration) × AreAlike one at × ((rest : List StreamPlace)
    × (middle : Configuration) × ArePlaced spec.next stream at rest middle
    × StepsTo spec.next stream event middle after)
plain-sound spec stream (Called process op) one other after steps alike = (
  one,
  alike_itself one,
  ([], one, alike_itself one, ([], alike-on one other after steps alike)),
)
plain-sound spec stream (Returned process reply) one other after
    (call, waits, inl (placed, without)) alike = (
      one,
      alike_itself one,
      (
        [],
        one,
        alike_itself one,
        (call, waits, placed, without-on call one other after without alike),
      ),
    )
plain-sound spec stream (Returned process reply) one other after
    (call, waits, inr (rest, middle, placed, may, without)) alike =
    let it : StreamPlace = record { call = call; reply = reply } in
    let last : Configuration = with_place spec.next stream middle it in (
      one,
      alike_itself one,
      (
        rest ++ it ∷ [],
        last,
        placed-more spec.next stream one rest middle it placed may,
        (call, waits, (0, refl), without-on call last other after without alike),
      ),
    )
plain-sound spec stream (Lost process) one other after steps alike = (
  one,
  alike_itself one,
  ([], one, alike_itself one, alike-on one other after steps alike),
)

-- alike configurations step late to the same ones
plain-simulates : (spec : SeqSpec) (stream : List StreamEvent) (event : StreamEvent)
    (one at after : Configuration) → AreAlike one at
    → StepsLateTo spec.next stream event at after → StepsLateTo spec.next stream event one after
plain-simulates spec stream (Called process op) one at after alike steps =
    alike-on one at after alike steps
plain-simulates spec stream (Returned process reply) one at after alike
    (call, waits, inl (placed, without)) = (
      call,
      waits,
      inl (
        (alike.0 (record { call = call; reply = reply })).1 placed,
        without-alike call one at after alike without,
      ),
    )
plain-simulates spec stream (Returned process reply) one at after alike
    (call, waits, inr (rest, middle, placed, may, without)) = (
      call,
      waits,
      inr (
        rest,
        middle,
        placed-alike spec.next stream one at rest middle alike placed,
        may,
        without,
      ),
    )
plain-simulates spec stream (Lost process) one at after alike steps =
    alike-on one at after alike steps

first_late : (spec : SeqSpec) (at : Configuration) (order : List StreamPlace)
    → StreamReaches spec [] order at → IsInLateResidue spec [] at
first_late spec at [] reaches = ([], reaches, inl refl)
first_late spec at (place ∷ order) reaches =
    let is = reaches.legal.calls place (0, refl) in absurd (none-some _ is.2)

pub configurations_are_faithful : ConfigurationsAreFaithful
configurations_are_faithful spec = record {
  meaning = λ stream one retained. (one, alike_itself one);
  first_means = λ one at (order, reaches, ends) same.
      alike-on (record { placed = []; list = spec.init }) one at
      ((empty_residue spec one).0 (order, reaches)) same;
  first_serves = λ at alike.
      let found = (empty_residue spec at).1 alike in
      (at, first_late spec at found.0 found.1, alike_itself at);
  stepped =
      λ stream event other valid late. (late_residues_step spec stream event other valid).0 late;
  sound = λ stream event one other after valid retained steps alike.
      plain-sound spec stream event one other after steps alike;
  simulates = λ stream event one at after valid retained alike steps.
      (after, plain-simulates spec stream event one at after alike steps, alike_itself after);
  dominated = λ stream event one other valid late steps. (
    other,
    (late_residues_step spec stream event other valid).1 (one, late, steps),
    λ at alike. alike,
  );
}
