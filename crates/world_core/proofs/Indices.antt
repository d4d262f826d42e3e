-- The indices of two places of the table differ where the places do.
use Rattle.std.proofs.Common.{◌≡◌, ◌≢◌, ℕ, ◌+◌, ◌*◌, ◌<◌, ◌≤◌, refl, arith}
use Rattle.std.proofs.lemmas.Nat.{same_from_place, mul-add-lt}
use Rattle.world_core.specs.declared.region.Region.{Region}
use Rattle.world_core.specs.declared.region.Region.TheVariants.{N, M}
use Rattle.world_core.specs.Layout.{places, first_place, row_width, count_index, place_index, row_words, object_index}

-- each place of a region lies within its row
place_fits : (n : ℕ) (r : Region) (p : ℕ) → p < places n r → first_place n r + p < row_width n
place_fits n N p h = omega arith
place_fits n M p h = omega arith

-- places that are one word of a row are of one region, and are one place of it
place_apart : (n : ℕ) (r q : Region) (p t : ℕ) → p < places n r → t < places n q
    → first_place n r + p ≡ first_place n q + t → (r ≡ q) × (p ≡ t)
place_apart n N N p t a b e = (refl, omega arith)
place_apart n M M p t a b e = (refl, omega arith)
place_apart n N M p t a b e = absurd (omega arith)
place_apart n M N p t a b e = absurd (omega arith)

module _ (n : ℕ) where
  -- each count word is before the rows
  pub count_low : (r : Region) (i : ℕ) → i < n → count_index n r i < 2 * n
  count_low N i h = omega arith
  count_low M i h = omega arith

  -- count words with one index are of one region and one caller
  pub count_apart : (r q : Region) (i j : ℕ) → i < n → j < n → count_index n r i ≡ count_index n q j
      → (r ≡ q) × (i ≡ j)
  count_apart N N i j a b e = (refl, e)
  count_apart M M i j a b e = (refl, omega arith)
  count_apart N M i j a b e = absurd (omega arith)
  count_apart M N i j a b e = absurd (omega arith)

-- two words of rows are of one region, caller and row, and at one place
pub record IsSamePlace (r q : Region) (i j k m p t : ℕ) : Type 0 where
  pub region : r ≡ q
  pub caller : i ≡ j
  pub row : k ≡ m
  pub place : p ≡ t

module _ (n cap : ℕ) where
  -- each word of a row is after the count words
  pub row_high : (r : Region) (i k p : ℕ) → 2 * n ≤ place_index n cap r i k p
  row_high r i k p = omega arith

  -- no count word is a word of a row
  pub count_or_row : (r q : Region) (i j k p : ℕ) → i < n
      → count_index n r i ≢ place_index n cap q j k p
  count_or_row r q i j k p h e = omega (arith, count_low n r i h, row_high q j k p, e)

  -- words of rows below the cap with one index are of one region, caller and row, and at one place
  pub row_apart : (r q : Region) (i j k m p t : ℕ) → k < cap → m < cap → p < places n r
      → t < places n q
      → place_index n cap r i k p ≡ place_index n cap q j m t → IsSamePlace r q i j k m p t
  row_apart r q i j k m p t a b c d e =
      let rows = same_from_place (i * cap + k) (first_place n r + p) (j * cap + m)
      (first_place n q + t) (row_width n)
      (place_fits n r p c) (place_fits n q t d) (omega arith) in
      let callers = same_from_place i k j m cap a b rows.0 in
      let place = place_apart n r q p t c d rows.1 in
      record { region = place.0; caller = callers.0; row = callers.1; place = place.1 }

  -- each count word is before the object words
  pub count_within : (r : Region) (i : ℕ) → i < n → count_index n r i < row_words n cap
  count_within r i h = omega (arith, count_low n r i h)

  -- each word of a row below the cap, of one of the callers, is before the object words
  pub row_within : (r : Region) (i k p : ℕ) → i < n → k < cap → p < places n r
      → place_index n cap r i k p < row_words n cap
  row_within r i k p a b c =
      let row : i * cap + k < n * cap = omega (arith, mul-add-lt i cap k n a b) in
      let word : (i * cap + k) * row_width n + (first_place n r + p) < (n * cap) * row_width n =
      omega (
        arith,
        mul-add-lt (i * cap + k) (row_width n) (first_place n r + p) (n * cap) row
            (place_fits n r p c),
      ) in
      omega (arith, word)

  -- no count word is an object word
  pub count_or_object : (r : Region) (i t : ℕ) → i < n → count_index n r i ≢ object_index n cap t
  count_or_object r i t h e = omega (arith, count_within r i h, e)

  -- no word of a row below the cap, of one of the callers, is an object word
  pub row_or_object : (r : Region) (i k p t : ℕ) → i < n → k < cap → p < places n r
      → place_index n cap r i k p ≢ object_index n cap t
  row_or_object r i k p t a b c e = omega (arith, row_within r i k p a b c, e)
