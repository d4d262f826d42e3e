-- Books of two callers on the two counters, whose first caller has two unanswered calls, one on
-- each counter, and the parts of their keys.
use Rattle.std.specs.Prelude.{ℕ, zero, suc, List, [], ◌∷◌}
use Rattle.book_base.specs.Book.{Page}
use Rattle.smaller_book.specs.Part.{count_below}

-- The book in which the first caller increments the first counter and then the second one, neither
-- answered, and the second caller increments the second counter with reply `r` and then the first
-- one with reply `s`. Both views hold the first `held` calls of the first caller.
abbrev pub crossed_calls : ℕ → ℕ → ℕ → List Page
crossed_calls held r s = record { operations = 0 ∷ 1 ∷ []; records = [] } ∷ record {
  operations = 1 ∷ 0 ∷ [];
  records = record { reply = r; view = held ∷ 1 ∷ [] } ∷ record { reply = s; view = held ∷ 2 ∷ [] }
      ∷ [];
} ∷ []

-- The book in which both callers make one call with this operation word, and the second one is
-- answered; its view holds the first `held` calls of the first caller.
abbrev pub one_each : ℕ → ℕ → ℕ → List Page
one_each op held reply = record { operations = op ∷ []; records = [] } ∷ record {
  operations = op ∷ [];
  records = record { reply = reply; view = held ∷ 1 ∷ [] } ∷ [];
} ∷ []

-- The numbers of the crossed calls with a key.
abbrev pub crossed_names : ℕ → List (List ℕ)
crossed_names zero = (0 ∷ []) ∷ (1 ∷ []) ∷ []
crossed_names (suc zero) = (1 ∷ []) ∷ (0 ∷ []) ∷ []
crossed_names (suc (suc k)) = [] ∷ [] ∷ []

-- The parts of the crossed calls by key: one for each counter, and no call has another key.
abbrev pub crossed_part : ℕ → ℕ → ℕ → ℕ → List Page
crossed_part held r s zero = one_each 0 (count_below (0 ∷ []) held) s
crossed_part held r s (suc zero) = one_each 1 (count_below (1 ∷ []) held) r
crossed_part held r s (suc (suc k)) = record { operations = []; records = [] }
    ∷ record { operations = []; records = [] } ∷ []
