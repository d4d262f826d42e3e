-- The numbers of the calls that pass a test.
use Rattle.std.proofs.Common.{◌≡◌, ℕ, ◌<◌, ◌≤◌, Bool, List, [], length, map, filter, get_or, sym, subst, inl, inr, zero-add, arith}
use Rattle.std.specs.List.{range_with_len}
use Rattle.std.proofs.lemmas.Bool.{cases_lt}
use Rattle.std.proofs.lemmas.List.{get_or_past}
use Rattle.std.proofs.lemmas.List.FromFn.{get_or-range_with_len, length-range_with_len, get_or-map-range_with_len, length-map-range_with_len}
use Rattle.std.proofs.lemmas.List.Elements.{All-filter}
use Rattle.book_base.specs.Book.{Page, calls_of}
use Rattle.smaller_book.specs.Part.{numbers_of, AreRising}
use Rattle.smaller_book.specs.Numbers.{AreNumbersOf}
use Rattle.smaller_book.proofs.Filtering.{rising-filter_range}

module _ (stays : ℕ → ℕ → Bool) (book : List Page) where
  -- the numbers of a caller's calls that pass
  abbrev chosen : ℕ → List ℕ
  chosen i = filter (stays i) (range_with_len 0 (calls_of book i))

  -- for each caller the numbers of its calls that pass
  abbrev rows : List (List ℕ)
  rows = map chosen (range_with_len 0 (length book))

  cases_rows : (P : ℕ → List ℕ → Type 0) → ((i : ℕ) → P i (chosen i)) → ((i : ℕ) → P i [])
      → (i : ℕ) → P i (numbers_of rows i)
  cases_rows P here past i = elim (cases_lt i (length book)) [
    | inl inside ↦ subst (P i)
        (sym (get_or-map-range_with_len chosen 0 (length book) i i [] inside (zero-add i))) (here i)
    | inr out ↦ subst (P i)
        (sym (get_or_past rows i []
        (omega (arith, out, length-map-range_with_len chosen 0 (length book))))) (past i)
  ]

  inside-chosen : (i k : ℕ) → k < length (chosen i) → get_or (chosen i) k 0 < calls_of book i
  inside-chosen i k room =
      All-filter (stays i) (λ (n : ℕ). n < calls_of book i) (range_with_len 0 (calls_of book i))
      (λ j d less. omega (
        arith,
        less,
        length-range_with_len 0 (calls_of book i),
        get_or-range_with_len 0 (calls_of book i) j d
            (omega (arith, less, length-range_with_len 0 (calls_of book i))),
      ))
      k 0 room

  -- the numbers of all calls that pass are rising numbers of calls of the book
  pub passing_are_numbers : AreNumbersOf book rows
  passing_are_numbers = record {
    wide = length-map-range_with_len chosen 0 (length book);
    rising = cases_rows (λ i xs. AreRising xs)
        (λ i. rising-filter_range (stays i) (calls_of book i))
        (λ i j k less room. absurd (omega arith));
    inside = cases_rows (λ i xs. (k : ℕ) → k < length xs → get_or xs k 0 < calls_of book i)
        (λ i k room. inside-chosen i k room) (λ i k room. absurd (omega arith));
  }
