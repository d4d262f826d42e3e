-- A lock that is told step by step, and books of one caller with two calls.
use Rattle.std.specs.Prelude.{ℕ, zero, suc, List, [], ◌∷◌}
use Rattle.book_base.specs.declared.call.Place.{Place}
use Rattle.book_base.specs.SeqSpec.{SeqSpec}
use Rattle.book_base.specs.Book.{Page}
use Rattle.told_models.specs.declared.table.Transition.{Transition}
use Rattle.told_models.specs.Table.{Table}

-- The transition to a state, with a reply.
abbrev pub to : ℕ → ℕ → Transition
to next reply = record { next = next; reply = reply }

-- The table of the lock before any step is told. State 0 is free.
abbrev pub nothing_told : Table
nothing_told = record { init = 0; steps = []; promises = [] }

-- The table in which acquiring the free lock is told: it leads to state 1, with reply 1.
abbrev pub acquired : Table
acquired = record { init = 0; steps = ((0, 1), to 1 1) ∷ []; promises = [] }

-- The table in which acquiring the held lock is told too: it leads nowhere, with reply 0.
abbrev pub refused : Table
refused = record {
  init = 0;
  steps = ((0, 1), to 1 1) ∷ ((1, 1), to 1 0) ∷ [];
  promises = [];
}

-- A table whose states 1 and 2 are one state of the lock: acquiring it leads from each of them to
-- the other one.
abbrev pub twice : Table
twice = record {
  init = 0;
  steps = ((0, 1), to 1 1) ∷ ((1, 1), to 2 0) ∷ ((2, 1), to 1 0) ∷ [];
  promises = [];
}

-- What another lock does: it replies 7 at all other lists and to all other operations.
abbrev pub other_after : List ℕ → ℕ → List ℕ × ℕ
other_after (zero ∷ []) (suc zero) = (1 ∷ [], 1)
other_after (suc zero ∷ []) (suc zero) = (1 ∷ [], 0)
other_after list op = (list, 7)

-- Another lock, which agrees with both steps.
abbrev pub other_lock : SeqSpec
other_lock = record { init = 0 ∷ []; next = other_after }

-- The book in which one caller makes the operation `a` with reply `r` and then `b` with reply `s`.
abbrev pub two_calls : ℕ → ℕ → ℕ → ℕ → List Page
two_calls a r b s = record {
  operations = a ∷ b ∷ [];
  records = record { reply = r; view = 1 ∷ [] } ∷ record { reply = s; view = 2 ∷ [] } ∷ [];
} ∷ []

-- The order of the two calls.
abbrev pub two_places : ℕ → ℕ → List Place
two_places r s = record { caller = 0; number = 0; reply = r }
    ∷ record { caller = 0; number = 1; reply = s } ∷ []

-- The list of the other lock for each number of a state of this table.
abbrev pub twice_list : ℕ → List ℕ
twice_list zero = 0 ∷ []
twice_list (suc state) = 1 ∷ []
