-- Runs of sets.
use Rattle.std.specs.Prelude.{◌≡◌, ◌⊎◌, ℕ, true, List, ◌∷◌, ◌++◌}
use Rattle.seq_objects.specs.declared.kind.Kind.TheVariants.{IntSet}
use Rattle.seq_objects.specs.Words as words
use Rattle.seq_objects.specs.Replies.{reply_no, reply_yes}
use Rattle.broken_rules.specs.Runs.{IsRunOfKind, does_with, NonePass}

-- An add of a value stands after some steps: it is one of the steps, and no later step removes the
-- value.
pub record AddStands (value : ℕ) (steps : List (ℕ × ℕ)) : Type 0 where
  pub before : List (ℕ × ℕ)
  pub add : ℕ × ℕ
  pub later : List (ℕ × ℕ)
  pub steps_are : steps ≡ before ++ add ∷ later
  pub adds : does_with words.add value add ≡ true
  pub stays : NonePass (does_with words.remove value) later

-- A reply says whether a fact holds: it is `yes` where the fact holds, and `no` where it doesn't.
abbrev pub SaysWhether : ℕ → Type 0 → Type 0
SaysWhether reply P = ((reply ≡ reply_yes) × P) ⊎ ((reply ≡ reply_no) × (P → ⊥))

-- In each run of a set, the reply to `has` says whether an add of the value stands after the steps
-- before it.
abbrev pub HasTells : Type 0
HasTells = (before rest : List (ℕ × ℕ)) (step : ℕ × ℕ) (value : ℕ)
    → IsRunOfKind IntSet (before ++ step ∷ rest)
    → does_with words.has value step ≡ true → SaysWhether step.1 (AddStands value before)

-- In each run of a set, the reply to `remove` says whether an add of the value stands after the
-- steps before it.
abbrev pub RemoveTells : Type 0
RemoveTells = (before rest : List (ℕ × ℕ)) (step : ℕ × ℕ) (value : ℕ)
    → IsRunOfKind IntSet (before ++ step ∷ rest)
    → does_with words.remove value step ≡ true → SaysWhether step.1 (AddStands value before)

-- In each run of a set, the reply to `add` says whether no add of the value stands after the steps
-- before it.
abbrev pub AddTells : Type 0
AddTells = (before rest : List (ℕ × ℕ)) (step : ℕ × ℕ) (value : ℕ)
    → IsRunOfKind IntSet (before ++ step ∷ rest)
    → does_with words.add value step ≡ true → SaysWhether step.1 (AddStands value before → ⊥)
