-- What stored parts of a refutation say, each with a property.
use Rattle.std.proofs.Common.{◌≡◌, ℕ, zero, suc, ◌<◌, List, [], ◌∷◌, ◌++◌, length, map, take, get_or, refl, sym, ap, subst, arith}
use Rattle.std.specs.List.{AllByRecursion}
use Rattle.std.proofs.lemmas.List.{map-append}
use Rattle.list_laws.proofs.Elements.{AllByRecursion-append}
use Rattle.refutation_text.specs.Said.{LineSaid}

module _ {X Y : Type 0} (said : X → Y) where
  -- the lines of parts, from what is stored of them
  pub lines_of : (line : Y → LineSaid) (xs : List X)
      → map (λ x. line (said x)) xs ≡ map line (map said xs)
  lines_of line [] = refl
  lines_of line (x ∷ xs) =
      ap (λ (lines : List LineSaid). line (said x) ∷ lines) (lines_of line xs)

  module _ (P : Y → Type 0) where
    pub said_at : (xs : List X) (i : ℕ) (d : X) → i < length xs → AllByRecursion P (map said xs)
        → P (said (get_or xs i d))
    said_at [] i d lt h = absurd (omega arith)
    said_at (x ∷ xs) zero d lt h = h.0
    said_at (x ∷ xs) (suc i) d lt h = said_at xs i d (omega arith) h.1

    pub said_take : (xs : List X) (n : ℕ) → AllByRecursion P (map said xs)
        → AllByRecursion P (map said (take n xs))
    said_take [] zero h = tt
    said_take [] (suc n) h = tt
    said_take (x ∷ xs) zero h = tt
    said_take (x ∷ xs) (suc n) h = (h.0, said_take xs n h.1)

    pub said_push : (xs : List X) (x : X) → AllByRecursion P (map said xs) → P (said x)
        → AllByRecursion P (map said (xs ++ x ∷ []))
    said_push xs x h k = subst (AllByRecursion P) (sym (map-append said xs (x ∷ [])))
        (AllByRecursion-append P (map said xs) (said x ∷ []) h (k, tt))
