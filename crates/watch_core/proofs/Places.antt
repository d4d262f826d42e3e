-- The places of lists of which an item is taken out.
use Rattle.std.proofs.Common.{◌≡◌, ◌≢◌, ◌⊎◌, ℕ, zero, suc, ◌+◌, ◌-◌, ◌<◌, ◌≤◌, List, [], ◌∷◌, length, get_or, Some, slice_get, slice_set, refl, sym, ap, ◌∙◌, inl, inr, arith}
use Rattle.std.specs.List.{remove}
use Rattle.std.proofs.lemmas.Bool.{cases_lt}
use Rattle.std.proofs.lemmas.List.Edits.{length-remove, get_or-remove_below, get_or-remove_above}
use Rattle.std.proofs.lemmas.Option.{none-some, same_Some, slice_get-get_or, slice_get_within, get_or_from_slice_get}
use Rattle.late_residue.specs.Reached.{Has}

pub remove-from : {X : Type 0} (xs : List X) (i k : ℕ) (x : X) → i < length xs
    → slice_get (remove xs i) k ≡ Some x
    → ((k < i) × (slice_get xs k ≡ Some x)) ⊎ ((i ≤ k) × (slice_get xs (k + 1) ≡ Some x))
remove-from xs i k x inside at =
    let within : k < length (remove xs i) = slice_get_within (remove xs i) k x at in
    let item : get_or (remove xs i) k x ≡ x = get_or_from_slice_get (remove xs i) k x x at in
    let long : length (remove xs i) + 1 ≡ length xs = length-remove xs i inside in
    elim (cases_lt k i) [
      | inl below ↦ inl (
        below,
        slice_get-get_or xs k x (omega (arith, within, long))
            ∙ ap (λ v. Some v) (sym (get_or-remove_below xs i x k below inside) ∙ item),
      )
      | inr above ↦ inr (
        above,
        slice_get-get_or xs (k + 1) x (omega (arith, within, long))
            ∙ ap (λ v. Some v) (sym (get_or-remove_above xs i x k above inside) ∙ item),
      )
    ]

pub remove-to : {X : Type 0} (xs : List X) (i j : ℕ) (x : X) → i < length xs
    → slice_get xs j ≡ Some x → j ≢ i → Has (remove xs i) x
remove-to {X} xs i j x inside at apart =
    let within : j < length xs = slice_get_within xs j x at in
    let item : get_or xs j x ≡ x = get_or_from_slice_get xs j x x at in
    let long : length (remove xs i) + 1 ≡ length xs = length-remove xs i inside in
    elim (cases_lt j i) [
      | inl below ↦ (
        j,
        slice_get-get_or (remove xs i) j x (omega (arith, below, inside, long))
            ∙ ap (λ v. Some v) (get_or-remove_below xs i x j below inside ∙ item),
      )
      | inr above ↦
          let next : j - 1 + 1 ≡ j = omega (arith, above, apart) in (
            j - 1,
            slice_get-get_or (remove xs i) (j - 1) x (omega (arith, above, apart, within, long))
                ∙ ap (λ v. Some v) (get_or-remove_above xs i x (j - 1)
                (omega (arith, above, apart)) inside
                ∙ (ap (λ (k : ℕ). get_or xs k x) next ∙ item)),
          )
    ]
