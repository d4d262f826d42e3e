-- Runs of a sequential object.
use Rattle.std.specs.Prelude.{◌≡◌, ℕ, List, [], ◌∷◌}
use Rattle.book_base.specs.SeqSpec.{SeqSpec}

-- The steps are a run from this list on: each is an operation word with the reply that the object
-- gives when the operations are applied in this order (Herlihy and Wing 1990).
abbrev pub IsRunFrom : (List ℕ → ℕ → List ℕ × ℕ) → List ℕ → List (ℕ × ℕ) → Type 0
IsRunFrom next list [] = Unit {0}
IsRunFrom next list (step ∷ steps) = ((next list step.0).1 ≡ step.1)
    × IsRunFrom next (next list step.0).0 steps

-- the steps are a run from the object's first list on
abbrev pub IsLegalRun : SeqSpec → List (ℕ × ℕ) → Type 0
IsLegalRun spec steps = IsRunFrom spec.next spec.init steps
