-- Sequential objects over states of any type.
use Rattle.std.specs.Prelude.{◌≡◌, ℕ, List, [], ◌∷◌, ◌++◌}
use Rattle.book_base.specs.SeqSpec.{SeqSpec}

-- The state after some operations, applied in order from a state on.
abbrev pub state_after : {S : Type 0} → (S → ℕ → S × ℕ) → S → List ℕ → S
state_after next state [] = state
state_after next state (op ∷ ops) = state_after next (next state op).0 ops

-- The sequential object with this initial state and this transition function. States of any type
-- aren't lists of words, so its list has the operation words that were applied so far; its replies
-- are those of the transition function at the state after them.
abbrev pub object_of : {S : Type 0} → S → (S → ℕ → S × ℕ) → SeqSpec
object_of init next = record {
  init = [];
  next = λ ops op. (ops ++ op ∷ [], (next (state_after next init ops) op).1);
}

-- The steps are a run of a transition function from this state on: each is an operation word with
-- the reply that the function gives when the operations are applied in this order.
abbrev pub IsOwnRunFrom : {S : Type 0} → (S → ℕ → S × ℕ) → S → List (ℕ × ℕ) → Type 0
IsOwnRunFrom next state [] = Unit {0}
IsOwnRunFrom next state (step ∷ steps) = ((next state step.0).1 ≡ step.1)
    × IsOwnRunFrom next (next state step.0).0 steps

-- An operation changes no state at which it has this reply.
abbrev pub IsReadOnlyWith : {S : Type 0} → (S → ℕ → S × ℕ) → ℕ → ℕ → Type 0
IsReadOnlyWith {S} next op reply =
    (state : S) → (next state op).1 ≡ reply → (next state op).0 ≡ state
