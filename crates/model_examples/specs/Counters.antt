-- Two counters side by side: operation 0 increments the first one, and each other operation the
-- second one. The reply is the count before.
use Rattle.std.specs.Prelude.{ℕ, zero, suc, ◌+◌, List, [], ◌∷◌, slice_index}
use Rattle.book_base.specs.SeqSpec.{SeqSpec}
use Rattle.book_base.specs.Book.{Page}

-- The key of an operation: which of the two counters it increments.
abbrev pub side_key : ℕ → ℕ
side_key zero = 0
side_key (suc op) = 1

-- The list of a counter in the list of both.
abbrev pub side_list : ℕ → List ℕ → List ℕ
side_list zero list = slice_index list 0 ∷ []
side_list (suc zero) list = slice_index list 1 ∷ []
side_list (suc (suc k)) list = []

-- What one counter does.
abbrev pub counted : List ℕ → ℕ → List ℕ × ℕ
counted list op = ((slice_index list 0 + 1) ∷ [], slice_index list 0)

-- The object of each key: a counter for the keys 0 and 1.
abbrev pub side_counter : ℕ → SeqSpec
side_counter zero = record { init = 0 ∷ []; next = counted }
side_counter (suc zero) = record { init = 0 ∷ []; next = counted }
side_counter (suc (suc k)) = record { init = []; next = counted }

-- What the two counters do.
abbrev pub both_after : List ℕ → ℕ → List ℕ × ℕ
both_after list zero = ((slice_index list 0 + 1) ∷ slice_index list 1 ∷ [], slice_index list 0)
both_after list (suc op) = (slice_index list 0 ∷ (slice_index list 1 + 1) ∷ [], slice_index list 1)

-- The two counters as one object.
abbrev pub both_counters : SeqSpec
both_counters = record { init = 0 ∷ 0 ∷ []; next = both_after }

-- The book with the first one's call alone.
abbrev pub first_part : List Page
first_part = record {
  operations = 0 ∷ [];
  records = record { reply = 0; view = 1 ∷ [] } ∷ [];
} ∷ []
