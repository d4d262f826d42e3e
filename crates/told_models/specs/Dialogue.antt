-- What may be asked of an object.
use Rattle.std.specs.Prelude.{◌≡◌, ℕ, zero, suc, ◌+◌, ◌*◌, None}
use Rattle.told_models.specs.Table.{Table, told_step}
use Rattle.told_models.specs.Closed.{IsNear}

-- A pair of a state and an operation word may be asked for: its step wasn't told, the word is one
-- of these words, and fewer than `most` told steps of them lead to the state.
pub record IsAsk (table : Table) (IsWord : ℕ → Type 0) (most state op : ℕ) : Type 0 where
  pub untold : told_step table state op ≡ None
  pub word : IsWord op
  pub near : IsNear table IsWord most state

-- How many lists of at least one and at most `most` operation words there are, of `ops` words.
abbrev pub word_lists : ℕ → ℕ → ℕ
word_lists ops zero = 0
word_lists ops (suc most) = ops * (word_lists ops most + 1)
