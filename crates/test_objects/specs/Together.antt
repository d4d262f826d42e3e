-- The transcripts of all callers of a tally, and of a cell, and the one history of their accesses.
use Rattle.std.specs.Prelude.{◌≡◌, ℕ, ◌%◌, ◌^◌, ◌==◌, List, ◌∷◌, ◌++◌, length, count_by, sum_by}
use Rattle.shared_words.specs.Deeds.{Added, Loaded}
use Rattle.shared_words.specs.Histories.{Access, access, word_at, IsLawfulHistory}
use Rattle.shared_words.specs.Transcripts.{Transcript, AreOfOneHistory}
use Rattle.test_objects.specs.Forms.{increment, tally_may, cell_may, IsTallied, IsCellCall, IsLastStored}

-- Each access of a history is an increment that found the number of accesses before it, modulo
-- 2^64.
abbrev pub AreCounted : List Access → Type 0
AreCounted history = (before rest : List Access) (a : Access) → history ≡ before ++ a ∷ rest
    → a.deed ≡ Added 0 1 (length before % 2 ^ 64)

-- Each load of a history found the word that the last store before it stored, or 0 where there is
-- none.
abbrev pub LoadsFindTheLast : List Access → Type 0
LoadsFindTheLast history = (before rest : List Access) (who found : ℕ)
    → history ≡ before ++ access who (Loaded 0 found) ∷ rest → IsLastStored found before

-- How many increments a transcript has.
abbrev pub increments_in : Transcript → ℕ
increments_in t = count_by (λ pair. pair.0 == increment) t.pairs

-- The transcripts are those of all n callers of a tally, and this lawful history has just the
-- increments of their calls. Each increment found the number of those before it, and the word ends
-- as the number of all increments, both modulo 2^64.
pub record TellOneTally (n : ℕ) (history : List Access)
    (transcripts : List Transcript) : Type 0 where
  pub told : AreOfOneHistory tally_may (λ _. IsTallied) n history transcripts
  pub counted : AreCounted history
  pub all : length history ≡ sum_by increments_in transcripts
  pub word : word_at 0 history ≡ sum_by increments_in transcripts % 2 ^ 64

-- The transcripts are those of all n callers of a cell, and this lawful history has just the stores
-- and loads of their calls. Each load found the word that the last store before it stored, or 0
-- where there is none. The word ends as the last one stored, or as 0 where none was stored.
pub record TellOneCell (n : ℕ) (history : List Access)
    (transcripts : List Transcript) : Type 0 where
  pub told : AreOfOneHistory cell_may (λ _. IsCellCall) n history transcripts
  pub found : LoadsFindTheLast history
  pub word : IsLastStored (word_at 0 history) history

-- In each lawful history of a tally each increment found the number of those before it, modulo
-- 2^64.
abbrev pub TalliesAreCounted : Type 0
TalliesAreCounted = (history : List Access) → IsLawfulHistory tally_may history → AreCounted history

-- In the history of a cell each load found the last word stored before it, or 0 where there is
-- none.
abbrev pub CellsAreRead : Type 0
CellsAreRead = (history : List Access) → IsLawfulHistory cell_may history → LoadsFindTheLast history
