-- Hands: what a caller knows of the log, and what it has stored of its next call.
use Rattle.std.specs.Prelude.{◌≡◌, ℕ, ◌+◌, ◌<◌, ◌≤◌, List, [], length, slice_index, Option}
use Rattle.row_table.specs.Holders.{held_or}
use Rattle.shared_words.specs.declared.entry.Entry.{Entry}
use Rattle.shared_words.specs.Entries.{calls_by, BeginsWith}
use Rattle.shared_words.specs.Words.{number_of, operation_index}

-- The hand of a caller: the log as far as the caller knows it, the words of its next operation that
-- it has stored, and the indices of the words of the table at which it made an exchange, in order.
pub record Hand : Type 0 where
  pub log : List Entry
  pub staged : List ℕ
  pub tried : List ℕ

-- What a seat knows: for each caller its hand, where that is with the seat.
abbrev pub View : Type 0
View = List (Option Hand)

-- The hand with this log, these stored words of the next operation, and exchanges at the words with
-- these indices.
abbrev pub hand : List Entry → List ℕ → List ℕ → Hand
hand log staged tried = record { log = log; staged = staged; tried = tried }

-- The hand of a caller that knows nothing yet.
abbrev pub empty : Hand
empty = hand [] [] []

-- The hand that is given, or the empty hand where none is.
abbrev pub the : Option Hand → Hand
the = held_or empty

-- The number, among the calls of all callers, of the next call of caller `i` with the hand `h`.
abbrev pub next_number : ℕ → ℕ → Hand → ℕ
next_number cap i h = number_of cap i (length (calls_by i h.log))

-- The hand `h` of caller `i`, one of n, agrees with these words of the table and this log: the log
-- begins with what the caller knows of it, and has no other entries of the caller. The table has
-- the words that the caller has staged: at most two, and none where the caller has no call left.
pub record HandFits (n cap : ℕ) (words : List ℕ) (log : List Entry) (i : ℕ)
    (h : Hand) : Type 0 where
  pub caller : i < n
  pub prefix : BeginsWith log h.log
  pub own : calls_by i log ≡ calls_by i h.log
  pub room : 0 < length h.staged → length (calls_by i h.log) < cap
  pub few : length h.staged ≤ 2
  pub staged : (half : ℕ) → half < length h.staged
      → slice_index words (operation_index (next_number cap i h) + half) ≡ slice_index h.staged half
