-- What a call of a tally or of a cell does to its one word, and which form its reply has.
use Rattle.std.specs.Prelude.{◌≡◌, ◌≢◌, ℕ, ◌+◌, ◌*◌, ◌%◌, ◌^◌, ◌<◌, ◌⊎◌, List, [], ◌∷◌, ◌++◌, All, length}
use Rattle.book_base.specs.declared.TheConstants.{BAD}
use Rattle.seq_objects.specs.Replies.{reply_done, reply_value}
use Rattle.shared_words.specs.Deeds.{Deed, Added, Stored, Loaded, AreCalls}
use Rattle.shared_words.specs.Histories.{Access, access, word_at, IsLawfulHistory}

-- The operation word of a code and an argument.
abbrev pub operation : ℕ → ℕ → ℕ
operation code argument = code * 2 ^ 32 + argument

-- The operation word of a counter's increment.
abbrev pub increment : ℕ
increment = operation 1 0

-- The operation word of a register's write of a value.
abbrev pub write : ℕ → ℕ
write value = operation 1 value

-- The operation word of a register's read.
abbrev pub read : ℕ
read = operation 2 0

-- The operation isn't the write of any value below 2^32.
abbrev pub IsNoWrite : ℕ → Type 0
IsNoWrite op = (value : ℕ) → value < 2 ^ 32 → op ≢ write value

-- A call of a tally: an increment adds 1 to the word in one step, and its reply is the word found;
-- any other operation makes no step, and its reply is `bad`.
pub record IsTallied (op reply : ℕ) (before after : List Deed) : Type 0 where
  pub counts : op ≡ increment → (found : ℕ) × (after ≡ before ++ Added 0 1 found ∷ [])
      × (reply ≡ reply_value found)
  pub other : op ≢ increment → (after ≡ before) × (reply ≡ BAD)

-- A call of a cell: a write stores its value in one step; a read loads the word in one step, and
-- its reply is the word found; any other operation makes no step, and its reply is `bad`.
pub record IsCellCall (op reply : ℕ) (before after : List Deed) : Type 0 where
  pub writes : (value : ℕ) → value < 2 ^ 32 → op ≡ write value
      → (after ≡ before ++ Stored 0 value ∷ []) × (reply ≡ reply_done)
  pub reads : op ≡ read → (found : ℕ) × (after ≡ before ++ Loaded 0 found ∷ [])
      × (reply ≡ reply_value found)
  pub other : IsNoWrite op → op ≢ read → (after ≡ before) × (reply ≡ BAD)

-- The form of a tally's reply: a value to the increment, and `bad` to any other operation.
pub record IsTallyReply (op reply : ℕ) : Type 0 where
  pub counts : op ≡ increment → (value : ℕ) × (reply ≡ reply_value value)
  pub other : op ≢ increment → reply ≡ BAD

-- The form of a cell's reply: `done` to a write, a value to the read, and `bad` to any other
-- operation.
pub record IsCellReply (op reply : ℕ) : Type 0 where
  pub writes : (value : ℕ) → value < 2 ^ 32 → op ≡ write value → reply ≡ reply_done
  pub reads : op ≡ read → (value : ℕ) × (reply ≡ reply_value value)
  pub other : IsNoWrite op → op ≢ read → reply ≡ BAD

-- Each reply of a tally's calls has the form of a tally's reply to its operation.
abbrev pub TalliesAreFormed : Type 0
TalliesAreFormed = (pairs : List (ℕ × ℕ)) (before after : List Deed)
    → AreCalls IsTallied pairs before after → All (λ pair. IsTallyReply pair.0 pair.1) pairs

-- Each reply of a cell's calls has the form of a cell's reply to its operation.
abbrev pub CellsAreFormed : Type 0
CellsAreFormed = (pairs : List (ℕ × ℕ)) (before after : List Deed)
    → AreCalls IsCellCall pairs before after → All (λ pair. IsCellReply pair.0 pair.1) pairs

-- The callers of a tally make additions of 1 alone.
abbrev pub tally_may : ℕ → Deed → Type 0
tally_may caller deed = (found : ℕ) × (deed ≡ Added 0 1 found)

-- The callers of a cell make stores and loads alone.
abbrev pub cell_may : ℕ → Deed → Type 0
cell_may caller deed = ((value : ℕ) × (deed ≡ Stored 0 value))
    ⊎ ((found : ℕ) × (deed ≡ Loaded 0 found))

-- The history ends with an increment of caller `who`, which found the number of accesses before it,
-- modulo 2^64; and `reply` gives this number.
pub record IsCounted (who reply : ℕ) (history : List Access) : Type 0 where
  pub before : List Access
  pub ends : history ≡ before ++ access who (Added 0 1 (length before % 2 ^ 64)) ∷ []
  pub told : reply ≡ reply_value (length before % 2 ^ 64)

-- The access is a load.
abbrev pub IsLoad : Access → Type 0
IsLoad a = (found : ℕ) × (a.deed ≡ Loaded 0 found)

-- The last store of a history stored this word; where it has no store, the word is 0.
abbrev pub IsLastStored : ℕ → List Access → Type 0
IsLastStored word history =
    (All IsLoad history × (word ≡ 0)) ⊎ ((before rest : List Access) × (who : ℕ)
    × (history ≡ before ++ access who (Stored 0 word) ∷ rest) × All IsLoad rest)

-- The history ends with a load of caller `who`, which found the word that the last store before it
-- stored, or 0 where there is no store before it; and `reply` gives this word.
pub record IsLastRead (who reply : ℕ) (history : List Access) : Type 0 where
  pub before : List Access
  pub word : ℕ
  pub last : IsLastStored word before
  pub ends : history ≡ before ++ access who (Loaded 0 word) ∷ []
  pub told : reply ≡ reply_value word

-- The word of a tally is the number of increments in its history, modulo 2^64.
abbrev pub TalliesCount : Type 0
TalliesCount = (history : List Access) → IsLawfulHistory tally_may history
    → word_at 0 history ≡ length history % 2 ^ 64

-- The word of a cell is the last one stored in its history, or 0 where none was stored.
abbrev pub CellsHoldTheLast : Type 0
CellsHoldTheLast = (history : List Access) → IsLawfulHistory cell_may history
    → IsLastStored (word_at 0 history) history
