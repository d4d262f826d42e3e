-- A fact of each item of a list, by the list's form.
use Rattle.std.proofs.Common.{◌≡◌, ℕ, zero, suc, ◌<◌, Bool, true, ◌||◌, List, [], ◌∷◌, ◌++◌, length, Some, slice_get, slice_index_or, slice_set, sym, ap, ◌∙◌, subst, arith, inl, inr}
use Rattle.std.specs.List.{list_any}
use Rattle.std.proofs.lemmas.Bool.{cases_Bool}
use Rattle.std.proofs.lemmas.Option.{same_Some, none-some}

module _ {X : Type 0} where
  abbrev pub Each : (X → Type 0) → List X → Type 0
  Each P [] = Unit {0}
  Each P (x ∷ xs) = P x × Each P xs

  pub each_map : (P Q : X → Type 0) (xs : List X) → ((x : X) → P x → Q x) → Each P xs → Each Q xs
  each_map P Q [] f h = tt
  each_map P Q (x ∷ xs) f h = (f x h.0, each_map P Q xs f h.1)

  pub each_push : (P : X → Type 0) (xs : List X) (y : X) → Each P xs → P y → Each P (xs ++ y ∷ [])
  each_push P [] y h new = (new, tt)
  each_push P (x ∷ xs) y h new = (h.0, each_push P xs y h.1 new)

  pub each_set : (P : X → Type 0) (xs : List X) (k : ℕ) (y : X) → Each P xs → P y
      → Each P (slice_set xs k y)
  each_set P [] k y h new = tt
  each_set P (x ∷ xs) zero y h new = (new, h.1)
  each_set P (x ∷ xs) (suc k) y h new = (h.0, each_set P xs k y h.1 new)

  pub each_at : (P : X → Type 0) (xs : List X) (k : ℕ) (d : X) → Each P xs → k < length xs
      → P (slice_index_or xs k d)
  each_at P [] k d h below = absurd (omega arith)
  each_at P (x ∷ xs) zero d h below = h.0
  each_at P (x ∷ xs) (suc k) d h below = each_at P xs k d h.1 (omega arith)

  pub each_get : (P : X → Type 0) (xs : List X) (k : ℕ) (y : X) → Each P xs
      → slice_get xs k ≡ Some y → P y
  each_get P [] k y h e = absurd (none-some y e)
  each_get P (x ∷ xs) zero y h e = subst P (same_Some x y e) h.0
  each_get P (x ∷ xs) (suc k) y h e = each_get P xs k y h.1 e

  -- an item that passes a test, with what holds of it
  pub each_any : (P : X → Type 0) (test : X → Bool) (xs : List X) → Each P xs
      → list_any test xs ≡ true → (x : X) × P x × (test x ≡ true)
  each_any P test [] h e = absurd cc
  each_any P test (x ∷ xs) h e = elim (cases_Bool (test x)) [
    | inl passes ↦ (x, h.0, passes)
    | inr fails ↦ each_any P test xs h.1 (sym (ap (λ (b : Bool). b || list_any test xs) fails) ∙ e)
  ]
