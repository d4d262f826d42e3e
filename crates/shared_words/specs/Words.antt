-- Where the words of a log of n callers with `cap` calls each lie in its table, and what they say
-- of the log's entries.
use Rattle.std.specs.Prelude.{◌≡◌, ◌⊎◌, ℕ, ◌+◌, ◌*◌, ◌<◌, ◌≤◌, List, [], ◌∷◌, ◌++◌, length, slice_index}
use Rattle.book_base.specs.OperationWord.{low_of, high_of}
use Rattle.shared_words.specs.declared.entry.Entry.{Entry}
use Rattle.shared_words.specs.Entries.{calls_by, IsWithinCap}

-- The number of call `k` of caller `i` among the calls of all callers.
abbrev pub number_of : ℕ → ℕ → ℕ → ℕ
number_of cap i k = i * cap + k

-- The index of the low word of the operation of the call with this number; its high word is at the
-- next index.
abbrev pub operation_index : ℕ → ℕ
operation_index number = 2 * number

-- The index of the word that has the ticket of a place of the log.
abbrev pub ticket_index : ℕ → ℕ → ℕ → ℕ
ticket_index n cap place = 2 * (n * cap) + place

-- How many words the table of a log has.
abbrev pub word_count : ℕ → ℕ → ℕ
word_count n cap = 3 * (n * cap)

-- The number, among the calls of all callers, of the call whose entry `e` comes after the entries
-- `before` in a log: the calls of one caller are numbered in the order of their entries.
abbrev pub number_after : ℕ → List Entry → Entry → ℕ
number_after cap before e = number_of cap e.caller (length (calls_by e.caller before))

-- The words of the table have the entry `e`, which comes after the entries `before` in the log: the
-- ticket of its call, and both words of its operation.
pub record IsStored (n cap : ℕ) (words : List ℕ) (before : List Entry) (e : Entry) : Type 0 where
  pub ticket : slice_index words (ticket_index n cap (length before))
      ≡ number_after cap before e + 1
  pub low : slice_index words (operation_index (number_after cap before e)) ≡ low_of e.op
  pub high : slice_index words (operation_index (number_after cap before e) + 1) ≡ high_of e.op

-- These are the words of a log of n callers with `cap` calls each: each entry of the log is stored
-- in them, and the words for the tickets of later places are 0.
pub record AreWordsOf (n cap : ℕ) (words : List ℕ) (log : List Entry) : Type 0 where
  pub count : length words ≡ word_count n cap
  pub within : IsWithinCap n cap log
  pub stored : (before rest : List Entry) (e : Entry) → log ≡ before ++ e ∷ rest
      → IsStored n cap words before e
  pub free : (place : ℕ) → length log ≤ place → place < n * cap
      → slice_index words (ticket_index n cap place) ≡ 0

-- These are indices of words that have the tickets of places of the log, in the order of the places
-- and each at most once. Each place is at least `from` and less than `past`.
abbrev pub AreTickets : ℕ → ℕ → ℕ → ℕ → List ℕ → Type 0
AreTickets n cap from past [] = Unit {0}
AreTickets n cap from past (word ∷ words) = (place : ℕ) × (from ≤ place) × (place < past)
    × (word ≡ ticket_index n cap place) × AreTickets n cap (place + 1) past words

-- The list `after` of the indices at which a caller made an exchange is the list `before`, followed
-- by indices of tickets of places of the log, in order and each at most once. Each place is at
-- least `from` and less than `past`.
abbrev pub HasTried : ℕ → ℕ → ℕ → ℕ → List ℕ → List ℕ → Type 0
HasTried n cap from past before after = (more : List ℕ) × (after ≡ before ++ more)
    × AreTickets n cap from past more

-- The list `after` of the indices at which a caller made an exchange is the list `before`, or has
-- the index `word` after it.
abbrev pub MayHaveTried : ℕ → List ℕ → List ℕ → Type 0
MayHaveTried word before after = (after ≡ before) ⊎ (after ≡ before ++ word ∷ [])
