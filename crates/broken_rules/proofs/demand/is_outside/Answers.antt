use Rattle.std.proofs.Common.{refl, inl, inr}
use Rattle.std.proofs.lemmas.Bool.{iff_false}
use Rattle.broken_rules.proofs.demand.is_outside.Goals as goal

pub returns-then-precedes : goal.returns-then-precedes
returns-then-precedes c = (λ yes. inl (c.precedes.ensures.0 c.if-precedes.true), λ outside. refl)

pub returns-else-precedes : goal.returns-else-precedes
returns-else-precedes c = (
  λ yes. inr (c.precedes-else-precedes.ensures.0 yes),
  λ outside. elim outside [
    | inl before ↦ absurd (iff_false c.precedes.ensures c.if-precedes.false before)
    | inr after ↦ c.precedes-else-precedes.ensures.1 after
  ],
)
