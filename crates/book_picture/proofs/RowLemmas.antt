-- Rows, one after the other.
use Rattle.std.proofs.Common.{◌≡◌, ℕ, ◌+◌, ◌-◌, ◌*◌, ◌<◌, ◌≤◌, ◌^◌, ◌∙◌, min, List, [], ◌∷◌, ◌++◌, length, get_or, Some, sym, ap, subst, inl, inr, slice_get, length-append, arith}
use Rattle.std.proofs.lemmas.Bool.{cases_lt}
use Rattle.std.proofs.lemmas.List.{length_push, get_or_append_left, get_or_push}
use Rattle.list_laws.proofs.Places.{slice_get-push_cases}
use Rattle.book_picture.specs.declared.row.Row.{Row}
use Rattle.book_picture.specs.Rows.{capped, row_height, AreRising, IsRow, AreFolded}

-- at most 24 places, as many as a dozen calls have, stay on one row
pub one_row : (places callers top : ℕ) (rows : List Row) → places ≤ 24
    → AreFolded places callers top rows → length rows ≡ 1
one_row places callers top rows few folded = elim (cases_lt 1 (length rows)) [
  | inl more ↦
      let needed : length rows * 24 < places + 24 = folded.needed more in
      absurd (omega (arith, needed, few, more))
  | inr less ↦ let some : 1 ≤ length rows = folded.some in omega (arith, some, less)
]

-- the row that begins where this many rows end
pub row_is : (places callers top n left count : ℕ) (row : Row) → row.first ≡ n * 24
    → row.top ≡ capped (top + n * row_height callers) → left ≡ places - row.first
    → count ≡ min left 24 → length row.edges.items ≡ count + 1 → AreRising row.edges.items
    → IsRow places callers top n row
row_is places callers top n left count row first below rest most edges rising = record {
  first = first;
  below = below;
  edges = omega (arith, first, rest, most, edges);
  rising = rising;
}

-- the first row begins at the top
pub first_top : (top height : ℕ) → top < 2 ^ 64 → top ≡ capped (top + 0 * height)
first_top top height small = omega arith

-- the next row begins a row height below
pub next_top : (top height n here next count : ℕ) → here ≡ capped (top + n * height)
    → next ≡ capped (here + height) → count ≡ n + 1 → next ≡ capped (top + count * height)
next_top top height n here next count is below more =
    let one : (n + 1) * height ≡ n * height + height = omega arith in
    let plain : next ≡ capped (top + (n + 1) * height) = omega (arith, one, is, below) in
    subst (λ (m : ℕ). next ≡ capped (top + m * height)) (sym more) plain

pub count_more : (rows new : List Row) (row : Row)
    → new ≡ rows ++ row ∷ [] → length new ≡ length rows + 1
count_more rows new row e = ap (length {A = Row}) e ∙ length-append rows (row ∷ [])

module _ (places callers top first : ℕ) (rows new : List Row) (row : Row)
    (is_new : new ≡ rows ++ row ∷ [])
    (place : first ≡ length rows * 24)
    (each : (k : ℕ) (r : Row) → slice_get rows k ≡ Some r → IsRow places callers top k r)
    (last : IsRow places callers top (length rows) row) where
  -- with one row more, the next place is one row later
  pub next_place : first + 24 ≡ length new * 24
  next_place = omega (arith, count_more rows new row is_new, place)

  pub each_new : (k : ℕ) (r : Row) → slice_get new k ≡ Some r → IsRow places callers top k r
  each_new = λ k r at. elim (slice_get-push_cases rows row k r
      (ap (λ (rs : List Row). slice_get rs k) (sym is_new) ∙ at)) [
        | inl old ↦ each k r old
        | inr added ↦ subst (λ (m : ℕ). IsRow places callers top m r) (sym added.0)
            (subst (IsRow places callers top (length rows)) (sym added.1) last)
      ]

  -- the rows have all places where no more places are left than the last row has
  pub all_folded : first ≤ places → (0 < length rows → first < places) → places - first ≤ 24
      → AreFolded places callers top new
  all_folded within started few =
      let count = count_more rows new row is_new in
      record {
        some = omega (arith, count);
        all = omega (arith, count, place, few, within);
        needed = λ more. let below : first < places = started (omega (arith, count, more)) in
            omega (arith, count, place, below);
        each = each_new;
      }

-- edges that rise still do with one more edge that is far enough right of the last one
pub rising_more : (edges new : List ℕ) (last edge : ℕ) → new ≡ edges ++ edge ∷ []
    → AreRising edges → ((k : ℕ) → k + 1 ≡ length edges → get_or edges k 0 ≡ last)
    → capped (last + 28) ≤ edge → AreRising new
rising_more edges new last edge is rising at_end far k inside =
    let read : ℕ → List ℕ → ℕ = λ i xs. get_or xs i 0 in
    let count : length new ≡ length edges + 1 = ap (length {A = ℕ}) is ∙ length_push edges edge in
    elim (cases_lt (k + 1) (length edges)) [
      | inl less ↦
          let here : get_or new k 0 ≡ get_or edges k 0 =
          ap (read k) is ∙ get_or_append_left edges (edge ∷ []) 0 k (omega (arith, less)) in
          let next : get_or new (k + 1) 0 ≡ get_or edges (k + 1) 0 =
          ap (read (k + 1)) is ∙ get_or_append_left edges (edge ∷ []) 0 (k + 1) less in
          let was : capped (get_or edges k 0 + 28) ≤ get_or edges (k + 1) 0 = rising k less in
          omega (arith, here, next, was)
      | inr more ↦
          let ends : k + 1 ≡ length edges = omega (arith, count, inside, more) in
          let here : get_or new k 0 ≡ get_or edges k 0 =
          ap (read k) is ∙ get_or_append_left edges (edge ∷ []) 0 k (omega (arith, ends)) in
          let next : get_or new (k + 1) 0 ≡ edge =
          ap (read (k + 1)) is ∙ get_or_push edges edge 0 (k + 1) (sym ends) in
          let there : get_or edges k 0 ≡ last = at_end k ends in
          omega (arith, here, next, there, far)
    ]

-- the last of some edges with one more edge is that edge
pub last_more : (edges new : List ℕ) (edge : ℕ) → new ≡ edges ++ edge ∷ [] → (k : ℕ)
    → k + 1 ≡ length new → get_or new k 0 ≡ edge
last_more edges new edge is k ends =
    let count : length new ≡ length edges + 1 = ap (length {A = ℕ}) is ∙ length_push edges edge in
    ap (λ (xs : List ℕ). get_or xs k 0) is ∙ get_or_push edges edge 0 k (omega (arith, count, ends))
