-- What a pass tells of its calls, where it tells them at all.
use Rattle.std.specs.Prelude.{ℕ, List, [], ◌∷◌, ◌++◌, Option, option_map}

-- The told list after one more call has the call's operation and reply at its end. A pass that
-- tells no list tells none after the call either.
abbrev pub told_after : ℕ → ℕ → Option (List (ℕ × ℕ)) → Option (List (ℕ × ℕ))
told_after op reply told = option_map (λ pairs. pairs ++ (op, reply) ∷ []) told
