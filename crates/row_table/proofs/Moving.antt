-- What a caller takes from a bench, and what it brings back.
use Rattle.std.proofs.Common.{◌≡◌, ◌≢◌, ℕ, ◌+◌, ◌<◌, ◌≤◌, ◌↔◌, IsTrue, false, replicate, List, [], ◌∷◌, ◌++◌, length, map, slice_index_or, slice_set, Option, Some, None, zero, suc, refl, sym, ap, ◌∙◌, subst, arith}
use Rattle.std.proofs.lemmas.List.{get_or-set_other, get_or-set_same}
use Rattle.std.proofs.lemmas.Option.{none-some}
use Rattle.std.specs.Option.{is_some}
use Rattle.world_core.specs.Shape.{Shape}
use Rattle.world_core.specs.Local.{Local, fresh}
use Rattle.world_core.specs.Calls.{IsLocalOf}
use Rattle.row_table.specs.declared.notes.Notes.{Notes}
use Rattle.row_table.specs.declared.stance.Stance.{Stance}
use Rattle.row_table.specs.declared.bench.Kept.{Kept}
use Rattle.row_table.specs.Holders.{has, only}
use Rattle.row_table.specs.Seats.{View, the, Together}
use Rattle.row_table.specs.Notes.{notes_of, notes_from}
use Rattle.row_table.specs.Benches.{kept_notes, fresh_kept, fresh_stance}
use Rattle.row_table.specs.Callers.{kept_stance}
use Rattle.row_table.proofs.Holders.{inside, only_here, with_here, with_else}
use Rattle.row_table.proofs.Benching.{replicate_push, is_kept, IsKept, is_gone, places_wide, tied_without, tied_with}
use Rattle.row_table.proofs.Deeds.{local_together}

-- an element at an index of a list is the one there, whatever the default
index_any : {A : Type 0} (xs : List A) (i : ℕ) (d e : A) → i < length xs
    → slice_index_or xs i d ≡ slice_index_or xs i e
index_any [] i d e low = absurd (omega arith)
index_any (x ∷ xs) zero d e low = refl
index_any (x ∷ xs) (suc i) d e low = index_any xs i d e (omega arith)

-- A caller of whom a bench's view has a local, and what was found at its place on the bench.
module _ (n : ℕ) (items : List (Option Kept)) (v : View) (who : ℕ) (l : Local)
    (tied : map kept_notes items ≡ notes_from n 0 v) (here : has v who ≡ Some l) where
  -- The bench has a place for the caller.
  pub place_low : who < length items
  place_low = let low = inside v who l here in let wide = places_wide n items v tied in omega arith

  module _ (found : Option Kept) (value : found ≡ slice_index_or items who found) where
    -- What was found is what the bench keeps at the caller's place.
    pub place_found : slice_index_or items who None ≡ found
    place_found = index_any items who None found place_low ∙ sym value

    -- The bench keeps the caller.
    pub place_kept : found ≡ None → ⊥
    place_kept none = none-some l (sym (is_gone n items v who tied (place_found ∙ none)) ∙ here)

    -- The notes that were found are those of the caller's local.
    pub kept_local : (kept : Kept) → found ≡ Some kept → kept.notes ≡ notes_of n who l
    kept_local kept some =
        let k : IsKept n who v kept = is_kept n items v who kept tied (place_found ∙ some) in
        let same : k.local ≡ l = cc (k.there, here) in
        k.notes ∙ ap (notes_of n who) same

-- The local in the view that a caller is taken off with is the one that the bench had of it.
pub left_local : (v w : View) (who i : ℕ) (l : Local) → has v who ≡ Some l
    → w ≡ only who (the (has v who)) → i ≡ who → the (has w i) ≡ l
left_local v w who i l here is same =
    ap the ((λ k. has (is k) (same k)) ∙ only_here who (the (has v who))) ∙ ap the here

-- The notes of a local are those of an equal local, for an equal caller and equally many callers.
pub left_notes : (n m who i : ℕ) (k : Notes) (l r : Local) → k ≡ notes_of n who l → n ≡ m → i ≡ who
    → r ≡ l → k ≡ notes_of m i r
left_notes n m who i k l r is nm same local = is ∙ (λ j. notes_of (nm j) (sym same j) (sym local j))

-- The local that a caller is taken off with is the one of this caller in a reachable world.
pub left_reached : (s : Shape) (v : View) (who i : ℕ) (l r : Local) → Together s v → who < s.callers
    → has v who ≡ Some l → i ≡ who → r ≡ l → IsLocalOf s i r
left_reached s v who i l r t low here same local = subst (λ (x : ℕ × Local). IsLocalOf s x.0 x.1)
    (λ j. (sym same j, sym local j)) (local_together s v who l t low here)

-- Once a caller is put back, the notes that the bench keeps are still those of the locals in its
-- view.
pub back_tied : (n m : ℕ) (items new : List (Option Kept)) (v u : View) (who : ℕ) (kept : Kept)
    (l : Local) → map kept_notes items ≡ notes_from n 0 v → kept.notes ≡ notes_of m who l → m ≡ n
    → u ≡ slice_set v who (Some l) → new ≡ slice_set items who (Some kept)
    → map kept_notes new ≡ notes_from n 0 u
back_tied n m items new v u who kept l tied notes same view place =
    ap (λ (xs : List (Option Kept)). map kept_notes xs) place
    ∙ tied_with n items v who kept l tied (notes ∙ ap (λ (k : ℕ). notes_of k who l) same)
    ∙ ap (λ (w : View). notes_from n 0 w) (sym view)

-- Once a caller is taken off, the notes that the bench keeps are still those of the locals in its
-- view.
pub left_tied : (n : ℕ) (items new : List (Option Kept)) (v u : View) (who : ℕ)
    → map kept_notes items ≡ notes_from n 0 v → u ≡ slice_set v who None
    → new ≡ slice_set items who None
    → map kept_notes new ≡ notes_from n 0 u
left_tied n items new v u who tied view place =
    ap (λ (xs : List (Option Kept)). map kept_notes xs) place ∙ tied_without n items v who tied
    ∙ ap (λ (w : View). notes_from n 0 w) (sym view)

-- Once a caller is put back, the bench has its local and its stance.
pub back_here : (items new : List (Option Kept)) (v u : View) (who : ℕ) (kept : Kept) (l : Local)
    → who < length v → who < length items
    → u ≡ slice_set v who (Some l) → new ≡ slice_set items who (Some kept) → (has u who ≡ Some l)
    × (kept_stance (slice_index_or new who None) ≡ Some kept.stance)
back_here items new v u who kept l low inside view place = (
  ap (λ (w : View). has w who) view ∙ with_here v who l low,
  ap (λ (xs : List (Option Kept)). kept_stance (slice_index_or xs who None)) place
      ∙ ap kept_stance (get_or-set_same items who (Some kept) None inside),
)

-- Once a caller is put back, the bench has the local and the stance of each other caller as before.
pub back_else : (items new : List (Option Kept)) (v u : View) (who i : ℕ) (kept : Kept) (l : Local)
    → i ≢ who
    → u ≡ slice_set v who (Some l) → new ≡ slice_set items who (Some kept) → (has u i ≡ has v i)
    × (kept_stance (slice_index_or new i None) ≡ kept_stance (slice_index_or items i None))
back_else items new v u who i kept l ne view place = (
  ap (λ (w : View). has w i) view ∙ with_else v who i l ne,
  ap (λ (xs : List (Option Kept)). kept_stance (slice_index_or xs i None)) place
      ∙ ap kept_stance (get_or-set_other items who i (Some kept) None ne),
)

-- whether a bench holds a caller, by what it keeps at the caller's place
module _ (n : ℕ) (items : List (Option Kept)) (v : View) (who : ℕ)
    (tied : map kept_notes items ≡ notes_from n 0 v) where
  -- Something is kept at the place of a caller exactly where the view of the bench has a local of
  -- this caller.
  pub holds_found : (found : Option Kept) → found ≡ slice_index_or items who found
      → who < length items → IsTrue (is_some found) ↔ ((l : Local) × (has v who ≡ Some l))
  holds_found None value low = (
    λ never. absurd cc,
    λ h. absurd (none-some h.0
        (sym (is_gone n items v who tied (index_any items who None None low ∙ sym value)) ∙ h.1)),
  )
  holds_found (Some kept) value low =
      let k : IsKept n who v kept =
      is_kept n items v who kept tied (index_any items who None (Some kept) low ∙ sym value) in
      (λ always. (k.local, k.there), λ h. refl)

  -- The view of a bench has no local of a caller for whom the bench has no place.
  pub holds_outside : (low : length items ≤ who) → IsTrue false
      ↔ ((l : Local) × (has v who ≡ Some l))
  holds_outside low = (
    λ never. absurd cc,
    λ h. absurd (let wide = places_wide n items v tied in let inner = inside v who h.0 h.1 in
        omega arith),
  )

-- Places that keep callers at their start, with one more such place at the end, are places that
-- keep callers at their start.
pub push_fresh : (xs new : List (Option Kept)) (m : ℕ) (k : Notes) (s : Stance)
    → new ≡ xs ++ Some (record { notes = k; stance = s }) ∷ [] → xs ≡ replicate m (Some fresh_kept)
    → k ≡ notes_of 0 0 fresh → s ≡ fresh_stance → new ≡ replicate (m + 1) (Some fresh_kept)
push_fresh xs new m k s is old notes stance =
    let up : suc m ≡ m + 1 = omega arith in
    is ∙ (λ i. old i ++ Some (record { notes = notes i; stance = stance i }) ∷ [])
    ∙ replicate_push m (Some fresh_kept) ∙ ap (λ (j : ℕ). replicate j (Some fresh_kept)) up
