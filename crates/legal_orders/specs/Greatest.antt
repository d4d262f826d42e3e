-- The greatest counts of some cuts.
use Rattle.std.specs.Prelude.{◌≡◌, ℕ, List, ◌∷◌, length, map, Some, slice_get}
use Rattle.std.specs.List.{range_with_len}
use Rattle.book_base.specs.Cut.{IsWithin, AreComparable}
use Rattle.book_base.specs.BookAt.{greatest_count}

-- The greatest counts of some cuts of n callers: for each caller the greatest count that a cut has
-- for it, or 0 where there is no cut.
abbrev pub greatest_counts : ℕ → List (List ℕ) → List ℕ
greatest_counts n cuts = map (greatest_count cuts) (range_with_len 0 n)

-- each of the cuts has n counts
abbrev pub AreCutsOf : ℕ → List (List ℕ) → Type 0
AreCutsOf n cuts = (k : ℕ) (cut : List ℕ) → slice_get cuts k ≡ Some cut → length cut ≡ n

-- any two of the cuts are comparable
abbrev pub ArePairwiseComparable : List (List ℕ) → Type 0
ArePairwiseComparable cuts = (j k : ℕ) (a b : List ℕ) → slice_get cuts j ≡ Some a
    → slice_get cuts k ≡ Some b → AreComparable a b

-- The greatest counts of one or more pairwise comparable cuts are one of these cuts.
abbrev pub GreatestIsOne : Type 0
GreatestIsOne = (n : ℕ) (first : List ℕ) (others : List (List ℕ)) → AreCutsOf n (first ∷ others)
    → ArePairwiseComparable (first ∷ others)
    → (k : ℕ) × (slice_get (first ∷ others) k ≡ Some (greatest_counts n (first ∷ others)))

-- Each of the cuts is within their greatest counts.
abbrev pub GreatestContainsEach : Type 0
GreatestContainsEach = (n : ℕ) (cuts : List (List ℕ)) → AreCutsOf n cuts
    → (k : ℕ) (cut : List ℕ) → slice_get cuts k ≡ Some cut → IsWithin cut (greatest_counts n cuts)
