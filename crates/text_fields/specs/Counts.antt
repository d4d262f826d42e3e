-- Counts of calls in texts: in a head, and in a cut.
use Rattle.std.specs.Prelude.{◌≡◌, ℕ, zero, suc, ◌+◌, ◌<◌, ◌≤◌, ◌^◌, ◌⊎◌, Bool, false, IsTrue, List, [], ◌∷◌, ◌++◌, map, decimal, Some, is_some}
use Rattle.std.specs.List.{AllByRecursion}
use Rattle.text_fields.specs.Lines.{cut_at}
use Rattle.text_fields.specs.declared.version.Version.{Version}
use Rattle.text_fields.specs.declared.version.Version.TheVariants.{First, Second}

-- each of the counts is at most `most`
abbrev pub AreAtMost : ℕ → List ℕ → Type 0
AreAtMost most counts = AllByRecursion (λ n. n ≤ most) counts

-- each of the numbers is below 2^64, as numbers in texts are
abbrev pub AreNumbers : List ℕ → Type 0
AreNumbers counts = AllByRecursion (λ n. n < 2 ^ 64) counts

-- a pair: a caller, a colon, and the count for it
abbrev pub pair_word : ℕ → ℕ → List ℕ
pair_word j count = decimal j ++ 58 ∷ decimal count

-- the pairs of the counts that aren't 0, by rising caller; the first count is that of caller `j`
abbrev pub pair_words : ℕ → List ℕ → List (List ℕ)
pair_words j [] = []
pair_words j (zero ∷ counts) = pair_words (j + 1) counts
pair_words j (suc count ∷ counts) = pair_word j (suc count) ∷ pair_words (j + 1) counts

-- the words of a cut: all its counts in version 1, and its pairs in version 2
abbrev pub cut_words : Version → List ℕ → List (List ℕ)
cut_words First cut = map decimal cut
cut_words Second cut = pair_words 0 cut

-- whether a word has a colon, as the words of pairs have
abbrev pub has_colon : List ℕ → Bool
has_colon word = is_some (cut_at 58 word)

-- in the word made of `prefix`, a colon and `suffix`, this colon is the first one
abbrev pub AreParts : List ℕ → List ℕ → Type 0
AreParts prefix suffix = cut_at 58 (prefix ++ 58 ∷ suffix) ≡ Some (prefix, suffix)

-- the word is the pair J:C of caller `j` and `count`: J is below `n`, and C is above 0 and below
-- 2^64
pub record IsPair (n : ℕ) (word : List ℕ) (j count : ℕ) : Type 0 where
  pub caller : j < n
  pub some : 0 < count
  pub small : count < 2 ^ 64
  pub text : word ≡ pair_word j count

-- the word is no pair J:C with J below `n`, and C above 0 and below 2^64
abbrev pub IsNoPair : ℕ → List ℕ → Type 0
IsNoPair n word = (j count : ℕ) → IsPair n word j count → ⊥

-- Of the words up to the first one without a colon, one is no pair J:C with J below `n`, and C
-- above 0 and below 2^64; or the J of the first pair is below `least`; or a pair's J isn't above
-- that of the pair before it.
abbrev pub HasBadPair : ℕ → ℕ → List (List ℕ) → Type 0
HasBadPair n least [] = ⊥
HasBadPair n least (word ∷ words) = IsTrue (has_colon word)
    × (IsNoPair n word
    ⊎ ((j : ℕ) × (count : ℕ) × IsPair n word j count × ((j < least) ⊎ HasBadPair n (j + 1) words)))

-- a word without a colon is among these words
abbrev pub HasWordAfterPairs : List (List ℕ) → Type 0
HasWordAfterPairs [] = ⊥
HasWordAfterPairs (word ∷ words) = (has_colon word ≡ false) ⊎ HasWordAfterPairs words

-- the words don't begin with a word with a colon
abbrev pub NoPairFirst : List (List ℕ) → Type 0
NoPairFirst [] = Unit {0}
NoPairFirst (word ∷ words) = has_colon word ≡ false
