-- Configurations that are alike.
use Rattle.std.proofs.Common.{◌≡◌, ℕ, ◌∙◌, List, ◌∷◌, sym, inl, inr}
use Rattle.streams.specs.StreamOrder.{StreamPlace}
use Rattle.residue_laws.specs.Residue.{Configuration}
use Rattle.residue_laws.specs.Step.{AreAlike}
use Rattle.residue_laws.proofs.Placing.{among-cons, among-first, among-later}
use Rattle.late_residue.specs.Placing.{IsPlacedAt}

pub alike-back : (one other : Configuration) → AreAlike one other → AreAlike other one
alike-back one other (placed, list) =
    (λ place. ((placed place).1, (placed place).0), sym list)

pub alike-on : (one other last : Configuration) → AreAlike one other → AreAlike other last
    → AreAlike one last
alike-on one other last (placed, list) (also, same) = (
  λ place. (
    λ among. (also place).0 ((placed place).0 among),
    λ among. (placed place).1 ((also place).1 among),
  ),
  list ∙ same,
)

-- one place more at configurations that are alike
pub alike-cons : (one other : Configuration) (first second : StreamPlace) (list last : List ℕ)
    → AreAlike one other → first ≡ second → list ≡ last
    → AreAlike (record { placed = first ∷ one.placed; list = list })
    (record { placed = second ∷ other.placed; list = last })
alike-cons one other first second list last (placed, lists) same equal = (
  λ p. (
    λ among. elim (among-cons first one.placed p among) [
      | inl is ↦ among-first second other.placed p (sym same ∙ is)
      | inr old ↦ among-later second other.placed p ((placed p).0 old)
    ],
    λ among. elim (among-cons second other.placed p among) [
      | inl is ↦ among-first first one.placed p (same ∙ is)
      | inr old ↦ among-later first one.placed p ((placed p).1 old)
    ],
  ),
  equal,
)

pub placed-alike : (one other : Configuration) (call : ℕ) → AreAlike one other
    → IsPlacedAt one call → IsPlacedAt other call
placed-alike one other call (placed, list) (reply, among) =
    (reply, (placed (record { call = call; reply = reply })).0 among)
