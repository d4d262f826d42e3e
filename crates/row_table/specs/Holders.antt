-- The views of seats, each of which may hold something of each caller. What is held of a caller is
-- held by one seat alone.
use Rattle.std.specs.Prelude.{◌≡◌, ℕ, List, [], ◌∷◌, ◌++◌, Option, Some, None, replicate, slice_index_or}
use mathlib.Core.Option.{some}
use lib.ListN.{get_elem?}

module _ {A : Type 0} where
  -- What the view `v` has of caller `i`, if it has something.
  abbrev pub has : List (Option A) → ℕ → Option A
  has v i = slice_index_or v i None

  -- What is held, or `x` where nothing is.
  abbrev pub held_or : A → Option A → A
  held_or x None = x
  held_or x (Some y) = y

  -- The view that has `x` of caller `i`, and nothing of any other caller.
  abbrev pub only : ℕ → A → List (Option A)
  only i x = replicate i None ++ Some x ∷ []

  -- The view that has `x` of each of n callers.
  abbrev pub whole : ℕ → A → List (Option A)
  whole n x = replicate n (Some x)

  -- What two views have together: of each caller in the first view what that view has of it, or
  -- where it has nothing, what the second view has.
  abbrev pub union_of : List (Option A) → List (Option A) → List (Option A)
  union_of [] w = []
  union_of (x ∷ v) [] = x ∷ v
  union_of (None ∷ v) (y ∷ w) = y ∷ union_of v w
  union_of (Some x ∷ v) (y ∷ w) = Some x ∷ union_of v w

  -- What a view holds of a caller fits this caller, and only the view of one seat holds something
  -- of it.
  pub record AreHeld (fits : ℕ → A → Type 0) (views : List (List (Option A))) : Type 0 where
    pub owner : ℕ → ℕ
    pub held : (i seat : ℕ) (v : List (Option A)) (x : A) → get_elem? views seat ≡ some v
        → has v i ≡ Some x → (owner i ≡ seat) × fits i x
