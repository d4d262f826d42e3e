-- Which pairs of a cut and a list a memo remembers.
use Rattle.std.specs.Prelude.{◌≡◌, ℕ, ◌+◌, ◌*◌, ◌<◌, ◌≤◌, ◌^◌, List, length, slice_get, slice_range, Some}
use Rattle.frontier_check.specs.declared.memo.MemoEntry.{MemoEntry}
use Rattle.frontier_check.specs.declared.memo.Memo.{Memo}

-- The counts of the cut that a memo has for its entry with the index `k`.
abbrev pub counts_at : Memo → ℕ → List ℕ
counts_at memo k =
    slice_range memo.counts.items (k * memo.callers) (k * memo.callers + memo.callers)

-- The words of the list that a memo has for an entry.
abbrev pub words_at : Memo → MemoEntry → List ℕ
words_at memo entry = slice_range memo.words.items entry.from (entry.from + entry.len)

-- A memo remembers a pair of a cut and a list where one of its entries has the counts of this cut
-- and the words of this list.
abbrev pub Remembers : Memo → List ℕ → List ℕ → Type 0
Remembers memo cut list = (k : ℕ) × (entry : MemoEntry)
    × (slice_get memo.entries.items k ≡ Some entry)
    × (cut ≡ counts_at memo k) × (list ≡ words_at memo entry)

-- A memo is sound: its list of counts has for each entry one count a caller, the words of each
-- entry lie within its list of words, and it has fewer than 2 ^ 32 entries.
pub record IsMemo (memo : Memo) : Type 0 where
  pub counts : length memo.counts.items ≡ length memo.entries.items * memo.callers
  pub words : (k : ℕ) (entry : MemoEntry) → slice_get memo.entries.items k ≡ Some entry
      → entry.from + entry.len ≤ length memo.words.items
  pub few : length memo.entries.items < 2 ^ 32
