-- Lists with an item for each of n callers.
use Rattle.std.specs.Prelude.{◌≡◌, ℕ, ◌+◌, List, Some, length, slice_get}

-- The items are those of the callers below n, the last caller first: item 0 is that of caller
-- n - 1, and the last item is that of caller 0.
abbrev pub AreDownFrom : {X : Type 0} → ℕ → (ℕ → X → Type 0) → List X → Type 0
AreDownFrom {X} n Is xs = (i j : ℕ) (x : X) → i + j + 1 ≡ n → slice_get xs j ≡ Some x → Is i x

-- Item i is that of caller i.
abbrev pub AreInOrder : {X : Type 0} → (ℕ → X → Type 0) → List X → Type 0
AreInOrder {X} Is xs = (i : ℕ) (x : X) → slice_get xs i ≡ Some x → Is i x

-- There is one item for each of n callers, the last caller first.
pub record AreAllDown {X : Type 0} (n : ℕ) (Is : ℕ → X → Type 0) (xs : List X) : Type 0 where
  pub all : length xs ≡ n
  pub each : AreDownFrom n Is xs
