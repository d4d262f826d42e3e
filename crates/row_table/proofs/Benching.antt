-- What a bench keeps of its callers, by caller.
use Rattle.std.proofs.Common.{◌≡◌, ℕ, ◌+◌, ◌<◌, List, [], ◌∷◌, ◌++◌, length, map, replicate, slice_get, slice_index_or, slice_set, Option, Some, None, zero, suc, refl, sym, ap, ◌∙◌, arith}
use Rattle.world_core.specs.Local.{Local, fresh}
use Rattle.row_table.specs.declared.notes.Notes.{Notes}
use Rattle.row_table.specs.declared.bench.Kept.{Kept}
use Rattle.row_table.specs.Holders.{has}
use Rattle.row_table.specs.Seats.{View}
use Rattle.row_table.specs.Notes.{notes_of, notes_from}
use Rattle.row_table.specs.Benches.{kept_notes, fresh_kept}

-- The notes of the local of a caller, where it is given.
abbrev pub noted : ℕ → ℕ → Option Local → Option Notes
noted n i None = None
noted n i (Some l) = Some (notes_of n i l)

pub length_notes : (n i : ℕ) (v : View) → length (notes_from n i v) ≡ length v
length_notes n i [] = refl
length_notes n i (None ∷ v) = ap suc (length_notes n (suc i) v)
length_notes n i (Some l ∷ v) = ap suc (length_notes n (suc i) v)

pub length_kept : (xs : List (Option Kept)) → length (map kept_notes xs) ≡ length xs
length_kept [] = refl
length_kept (x ∷ xs) = ap suc (length_kept xs)

pub notes_at : (n j : ℕ) (v : View) (i k : ℕ) → k ≡ j + i
    → slice_index_or (notes_from n j v) i None ≡ noted n k (has v i)
notes_at n j [] i k e = refl
notes_at n j (None ∷ v) zero k e = refl
notes_at n j (Some l ∷ v) zero k e = let same : j ≡ k = omega arith in
    ap (λ (i : ℕ). noted n i (Some l)) same
notes_at n j (None ∷ v) (suc i) k e = notes_at n (suc j) v i k (omega arith)
notes_at n j (Some l ∷ v) (suc i) k e = notes_at n (suc j) v i k (omega arith)

pub kept_at : (xs : List (Option Kept)) (i : ℕ)
    → slice_index_or (map kept_notes xs) i None ≡ kept_notes (slice_index_or xs i None)
kept_at [] i = refl
kept_at (x ∷ xs) zero = refl
kept_at (x ∷ xs) (suc i) = kept_at xs i

pub notes_without : (n j : ℕ) (v : View) (i : ℕ)
    → slice_set (notes_from n j v) i None ≡ notes_from n j (slice_set v i None)
notes_without n j [] i = refl
notes_without n j (None ∷ v) zero = refl
notes_without n j (Some l ∷ v) zero = refl
notes_without n j (None ∷ v) (suc i) =
    ap (λ (ns : List (Option Notes)). None ∷ ns) (notes_without n (suc j) v i)
notes_without n j (Some l ∷ v) (suc i) =
    ap (λ (ns : List (Option Notes)). Some (notes_of n j l) ∷ ns) (notes_without n (suc j) v i)

pub notes_with : (n j : ℕ) (v : View) (i k : ℕ) (l : Local) → k ≡ j + i → slice_set
    (notes_from n j v) i (Some (notes_of n k l)) ≡ notes_from n j (slice_set v i (Some l))
notes_with n j [] i k l e = refl
notes_with n j (None ∷ v) zero k l e = let same : k ≡ j = omega arith in
    ap (λ (i : ℕ). Some (notes_of n i l) ∷ notes_from n (suc j) v) same
notes_with n j (Some m ∷ v) zero k l e = let same : k ≡ j = omega arith in
    ap (λ (i : ℕ). Some (notes_of n i l) ∷ notes_from n (suc j) v) same
notes_with n j (None ∷ v) (suc i) k l e =
    ap (λ (ns : List (Option Notes)). None ∷ ns) (notes_with n (suc j) v i k l (omega arith))
notes_with n j (Some m ∷ v) (suc i) k l e =
    ap (λ (ns : List (Option Notes)). Some (notes_of n j m) ∷ ns)
    (notes_with n (suc j) v i k l (omega arith))

pub kept_set : (xs : List (Option Kept)) (i : ℕ) (x : Option Kept)
    → map kept_notes (slice_set xs i x) ≡ slice_set (map kept_notes xs) i (kept_notes x)
kept_set [] i x = refl
kept_set (y ∷ xs) zero x = refl
kept_set (y ∷ xs) (suc i) x = ap (λ (ns : List (Option Notes)). kept_notes y ∷ ns) (kept_set xs i x)

-- what is kept at the start
notes_fresh : (n j m : ℕ)
    → notes_from n j (replicate m (Some fresh)) ≡ replicate m (Some (notes_of 0 0 fresh))
notes_fresh n j zero = refl
notes_fresh n j (suc m) =
    ap (λ (ns : List (Option Notes)). Some (notes_of 0 0 fresh) ∷ ns) (notes_fresh n (suc j) m)

kept_fresh : (m : ℕ)
    → map kept_notes (replicate m (Some fresh_kept)) ≡ replicate m (Some (notes_of 0 0 fresh))
kept_fresh zero = refl
kept_fresh (suc m) =
    ap (λ (ns : List (Option Notes)). Some (notes_of 0 0 fresh) ∷ ns) (kept_fresh m)

-- At the start the notes that a bench keeps are those of the locals in its view.
pub tied_fresh : (n m : ℕ)
    → map kept_notes (replicate m (Some fresh_kept)) ≡ notes_from n 0 (replicate m (Some fresh))
tied_fresh n m = kept_fresh m ∙ sym (notes_fresh n 0 m)

-- A list of equal elements with one more of them is the one that is longer by one.
pub replicate_push : {A : Type 0} (m : ℕ) (x : A) → replicate m x ++ x ∷ [] ≡ replicate (suc m) x
replicate_push zero x = refl
replicate_push (suc m) x = ap (λ (xs : List _). x ∷ xs) (replicate_push m x)

pub fresh_kept_at : (m i : ℕ) → i < m
    → slice_index_or (replicate m (Some fresh_kept)) i None ≡ Some fresh_kept
fresh_kept_at zero i low = absurd (omega arith)
fresh_kept_at (suc m) zero low = refl
fresh_kept_at (suc m) (suc i) low = fresh_kept_at m i (omega arith)

-- The view of a bench has a local of a caller, and the bench keeps the notes of this local.
pub record IsKept (n i : ℕ) (v : View) (kept : Kept) : Type 0 where
  pub local : Local
  pub there : has v i ≡ Some local
  pub notes : kept.notes ≡ notes_of n i local

some_noted : (n i : ℕ) (v : View) (kept : Kept) (o : Option Local) → has v i ≡ o
    → Some kept.notes ≡ noted n i o → IsKept n i v kept
some_noted n i v kept None there e = absurd cc
some_noted n i v kept (Some l) there e = record { local = l; there = there; notes = cc }

-- Where a bench keeps a caller, its view has a local of this caller, and the notes are of this
-- local.
pub is_kept : (n : ℕ) (xs : List (Option Kept)) (v : View) (i : ℕ) (kept : Kept) → map kept_notes xs
    ≡ notes_from n 0 v → slice_index_or xs i None ≡ Some kept → IsKept n i v kept
is_kept n xs v i kept tied e =
    some_noted n i v kept (has v i) refl
    (ap kept_notes (sym e) ∙ sym (kept_at xs i)
    ∙ ap (λ (ns : List (Option Notes)). slice_index_or ns i None) tied
    ∙ notes_at n 0 v i i (omega arith))

none_noted : (n i : ℕ) (o : Option Local) → None ≡ noted n i o → o ≡ None
none_noted n i None e = refl
none_noted n i (Some l) e = absurd cc

-- Where a bench doesn't keep a caller, its view has no local of this caller.
pub is_gone : (n : ℕ) (xs : List (Option Kept)) (v : View) (i : ℕ)
    → map kept_notes xs ≡ notes_from n 0 v → slice_index_or xs i None ≡ None → has v i ≡ None
is_gone n xs v i tied e =
    none_noted n i (has v i) (ap kept_notes (sym e) ∙ sym (kept_at xs i)
    ∙ ap (λ (ns : List (Option Notes)). slice_index_or ns i None) tied
    ∙ notes_at n 0 v i i (omega arith))

-- A bench has as many places for its callers as its view has.
pub places_wide : (n : ℕ) (xs : List (Option Kept)) (v : View)
    → map kept_notes xs ≡ notes_from n 0 v → length xs ≡ length v
places_wide n xs v tied =
    sym (length_kept xs) ∙ ap (λ (ns : List (Option Notes)). length ns) tied ∙ length_notes n 0 v

-- Where a caller is taken off a bench and out of its view, the notes that the bench keeps are still
-- those of the locals in its view.
pub tied_without : (n : ℕ) (xs : List (Option Kept)) (v : View) (i : ℕ) → map kept_notes xs
    ≡ notes_from n 0 v → map kept_notes (slice_set xs i None) ≡ notes_from n 0 (slice_set v i None)
tied_without n xs v i tied = kept_set xs i None
    ∙ ap (λ (ns : List (Option Notes)). slice_set ns i None) tied ∙ notes_without n 0 v i

-- Where a caller is put on a bench and into its view, the notes that the bench keeps are still
-- those of the locals in its view.
pub tied_with : (n : ℕ) (xs : List (Option Kept)) (v : View) (i : ℕ) (kept : Kept) (l : Local)
    → map kept_notes xs ≡ notes_from n 0 v → kept.notes ≡ notes_of n i l
    → map kept_notes (slice_set xs i (Some kept)) ≡ notes_from n 0 (slice_set v i (Some l))
tied_with n xs v i kept l tied notes =
    kept_set xs i (Some kept) ∙ (λ k. slice_set (tied k) i (Some (notes k)))
    ∙ notes_with n 0 v i i l (omega arith)

-- An element that is found at an index of a list is the one there, whatever the default.
pub index_get : {A : Type 0} (xs : List A) (i : ℕ) (x d : A) → slice_get xs i ≡ Some x
    → slice_index_or xs i d ≡ x
index_get [] i x d e = absurd cc
index_get (y ∷ xs) zero x d e = cc
index_get (y ∷ xs) (suc i) x d e = index_get xs i x d e

pub index_none : {A : Type 0} (xs : List A) (i : ℕ) (d : A) → slice_get xs i ≡ None
    → slice_index_or xs i d ≡ d
index_none [] i d e = refl
index_none (y ∷ xs) zero d e = absurd cc
index_none (y ∷ xs) (suc i) d e = index_none xs i d e
