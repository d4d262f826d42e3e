-- The order of the words of the table: the count words of N, the count words of M, the rows, caller
-- by caller, and then the object words.
use Rattle.std.specs.Prelude.{ℕ, zero, suc, ◌+◌, ◌-◌, ◌*◌, nat_lt, if◌then◌else◌}
use Rattle.world_core.specs.declared.region.Region.{Region}
use Rattle.world_core.specs.declared.region.Region.TheVariants.{N, M}

-- What a place of a row is for: the low or the high word of the operation; the reply; the view's
-- entry for a caller; or the entry for a caller of the cut that the row embeds in a region.
pub data Content : Type 0 where
  Low : Content
  High : Content
  Reply : Content
  View_entry : (caller : ℕ) → Content
  Embedded_entry : (region : Region) (caller : ℕ) → Content

-- How many places a row has in a region, with n callers: in N two for the operation and one for
-- each entry of the embedded cut, in M one for the reply, and one for each entry of the view and of
-- the embedded cut.
abbrev pub places : ℕ → Region → ℕ
places n N = 2 + n
places n M = 1 + (n + n)

-- What place 1 + j of M is for, with n callers: the view's entry for caller j where j is below n,
-- and otherwise the entry for caller j - n of the cut that the row embeds in M.
abbrev pub entry_after_reply : ℕ → ℕ → Content
entry_after_reply n j = if nat_lt j n then View_entry j else Embedded_entry M (j - n)

-- What a place of a region is for, with n callers. The definition gives an answer at places past
-- the region's number of places too, but no enabled event names one of them.
abbrev pub content : ℕ → Region → ℕ → Content
content n N zero = Low
content n N (suc zero) = High
content n N (suc (suc j)) = Embedded_entry N j
content n M zero = Reply
content n M (suc j) = entry_after_reply n j

-- The place, in a region, of the entry for caller j of the cut that a row embeds there.
abbrev pub embedded_place : ℕ → Region → ℕ → ℕ
embedded_place n N j = 2 + j
embedded_place n M j = 1 + (n + j)

-- How many words of a row stand before its places of a region: in N no word, in M the places of N.
abbrev pub first_place : ℕ → Region → ℕ
first_place n N = 0
first_place n M = places n N

-- How many words a row has: one for each of its places in N and in M.
abbrev pub row_width : ℕ → ℕ
row_width n = first_place n M + places n M

-- How many count words there are: one for each caller in each region.
abbrev pub count_words : ℕ → ℕ
count_words n = 2 * n

-- The index in the table of the count word of caller i in a region.
abbrev pub count_index : ℕ → Region → ℕ → ℕ
count_index n N i = i
count_index n M i = n + i

-- The index in the table of the first word of row k of caller i, where each caller has cap rows.
abbrev pub row_index : ℕ → ℕ → ℕ → ℕ → ℕ
row_index n cap i k = count_words n + (i * cap + k) * row_width n

-- The index in the table of the word at a place of a region in row k of caller i.
abbrev pub place_index : ℕ → ℕ → Region → ℕ → ℕ → ℕ → ℕ
place_index n cap region i k place = row_index n cap i k + (first_place n region + place)

-- How many words the counts and the rows of n callers with cap rows each have together.
abbrev pub row_words : ℕ → ℕ → ℕ
row_words n cap = count_words n + (n * cap) * row_width n

-- The index in the table of an object word, given its place among the object words.
abbrev pub object_index : ℕ → ℕ → ℕ → ℕ
object_index n cap place = row_words n cap + place
