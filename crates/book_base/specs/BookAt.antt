-- The book at a cut: the part of a book that the records within the cut determine.
use Rattle.std.specs.Prelude.{◌≡◌, ℕ, ◌↔◌, max, List, [], ◌∷◌, ◌++◌, length, map, take, Some, slice_index}
use Rattle.std.specs.List.{range_with_len}
use Rattle.book_base.specs.declared.call.Call.{Call}
use Rattle.book_base.specs.declared.call.Record.{Record}
use Rattle.book_base.specs.Cut.{Holds}
use Rattle.book_base.specs.Book.{Page, page_of, IsCall, operation_of, record_of}

-- Some record within the cut has a view that holds this call.
abbrev pub IsHeldBySomeView : List Page → List ℕ → Call → Type 0
IsHeldBySomeView book cut call = (answered : Call) × (r : Record) × Holds cut answered
    × (record_of book answered ≡ Some r) × Holds r.view call

-- A part of a book is the book at a cut: it has of each caller as many first records as the cut
-- counts, and the calls that some view of these records holds (Castañeda and Rodríguez 2023).
pub record IsBookAt (book : List Page) (cut : List ℕ) (part : List Page) : Type 0 where
  -- the part has as many callers as the book
  pub callers : length part ≡ length book
  -- each caller of the part has as many of its first records as the cut counts for it, or all where
  -- it has fewer
  pub records : (i : ℕ)
      → (page_of part i).records ≡ take (slice_index cut i) (page_of book i).records
  -- the part's calls are exactly those that the view of some record within the cut holds
  pub calls : (call : Call) → IsCall part call ↔ IsHeldBySomeView book cut call
  -- each call of the part has the operation word that the book has for it
  pub operations : (call : Call) → IsCall part call
      → operation_of part call ≡ operation_of book call

-- The greatest count for caller `i` in a list of cuts: 0 for an empty list.
abbrev pub greatest_count : List (List ℕ) → ℕ → ℕ
greatest_count [] i = 0
greatest_count (cut ∷ cuts) i = max (slice_index cut i) (greatest_count cuts i)

-- The views of the records that a cut holds, by caller and then by number.
abbrev pub views_at : List ℕ → List Page → List (List ℕ)
views_at cut [] = []
views_at [] (page ∷ pages) = []
views_at (count ∷ counts) (page ∷ pages) =
    map (λ r. r.view) (take count page.records) ++ views_at counts pages

-- The page of a caller in the book at a cut: as many of the caller's first records as the cut
-- counts, or all where it has fewer, and its calls up to the last one that some view of a record
-- within the cut holds.
abbrev pub page_at : List ℕ → List Page → ℕ → Page
page_at cut book i = record {
  operations = take (greatest_count (views_at cut book) i) (page_of book i).operations;
  records = take (slice_index cut i) (page_of book i).records;
}

-- The book at a cut, as a function; the relation `IsBookAt` states which book that is.
abbrev pub book_at : List ℕ → List Page → List Page
book_at cut book = map (page_at cut book) (range_with_len 0 (length book))
