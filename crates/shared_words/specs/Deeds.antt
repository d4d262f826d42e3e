-- What callers do to shared words, and how calls are made of these deeds.
use Rattle.std.specs.Prelude.{◌≡◌, ℕ, ◌+◌, ◌%◌, ◌^◌, List, [], ◌∷◌}

-- A deed on the word at a place: an addition of an amount to the word found, a store, a load of the
-- word found, or a swap of the word found for another.
pub data Deed : Type 0 where
  Added : (place amount found : ℕ) → Deed
  Stored : (place word : ℕ) → Deed
  Loaded : (place found : ℕ) → Deed
  Swapped : (place word found : ℕ) → Deed

-- The place of the word of a deed.
abbrev pub place_of : Deed → ℕ
place_of (Added place amount found) = place
place_of (Stored place word) = place
place_of (Loaded place found) = place
place_of (Swapped place word found) = place

-- The word that a deed leaves at its place, where the word `before` was there: after an addition
-- the sum modulo 2^64, after a store or a swap the word that was put in, and after a load `before`.
abbrev pub leaves : Deed → ℕ → ℕ
leaves (Added place amount found) before = (before + amount) % 2 ^ 64
leaves (Stored place word) before = word
leaves (Loaded place found) before = before
leaves (Swapped place word found) before = word

-- The deed found the word `before` at its place. A store finds no word, so of a store this is
-- always true.
abbrev pub HasFound : Deed → ℕ → Type 0
HasFound (Added place amount found) before = found ≡ before
HasFound (Stored place word) before = Unit {0}
HasFound (Loaded place found) before = found ≡ before
HasFound (Swapped place word found) before = found ≡ before

-- These pairs of operations and replies are calls one after the other, each as the relation `call`
-- says of its operation, its reply, and the caller's deeds before and after it. The first begins
-- after the deeds `before`, and the last ends with the deeds `after`.
abbrev pub AreCalls : (ℕ → ℕ → List Deed → List Deed → Type 0) → List (ℕ × ℕ) → List Deed
    → List Deed → Type 0
AreCalls call [] before after = before ≡ after
AreCalls call (pair ∷ pairs) before after = (between : List Deed)
    × call pair.0 pair.1 before between × AreCalls call pairs between after
