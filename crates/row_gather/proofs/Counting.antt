-- The greatest counts in the views of some records.
use Rattle.std.proofs.Common.{◌≡◌, ℕ, zero, suc, ◌+◌, ◌<◌, ◌≤◌, max, List, [], ◌∷◌, ◌++◌, length, map, take, get_or, slice_get, slice_index, Some, refl, sym, ap, ◌∙◌, subst, arith, inl, inr}
use Rattle.std.proofs.lemmas.Bool.{cases_lt}
use Rattle.std.proofs.lemmas.List.{map_more, get_or-map}
use Rattle.std.proofs.lemmas.Option.{none-some}
use Rattle.book_base.specs.declared.call.Record.{Record}
use Rattle.book_base.specs.BookAt.{greatest_count}
use Rattle.legal_orders.proofs.GreatestCounts.{greatest_count-append, greatest_count-at_least, greatest_count-reached}
use Rattle.row_gather.specs.Words.{records_at, greatest_of, greatest_in}

-- The greatest count for a caller in the views of the first k + 1 records is the greater one of
-- that in the first k views and the count in view number k.
pub greatest_of-more : (rs : List Record) (i k : ℕ) (r : Record) → k < length rs → r ≡ get_or rs k r
    → greatest_of (take (k + 1) rs) i ≡ max (greatest_of (take k rs) i) (slice_index r.view i)
greatest_of-more rs i k r inside is =
    let view : Record → List ℕ = λ q. q.view in
    let last : List (List ℕ) = view (get_or rs k r) ∷ [] in
    let one : greatest_count last i ≡ slice_index r.view i =
    omega (arith, ap (λ (q : Record). get_or q.view i 0) is) in
    ap (λ (vs : List (List ℕ)). greatest_count vs i) (map_more view rs k r inside)
    ∙ greatest_count-append (map view (take k rs)) last i
    ∙ ap (max (greatest_of (take k rs) i)) one

-- The greatest count for a caller in the views of two lists of callers' records is the greater one
-- of those in the first and in the second list.
greatest_in-append : (xs ys : List (List Record)) (i : ℕ)
    → greatest_in (xs ++ ys) i ≡ max (greatest_in xs i) (greatest_in ys i)
greatest_in-append [] ys i = omega arith
greatest_in-append (x ∷ xs) ys i = omega (arith, greatest_in-append xs ys i)

-- The greatest count for a caller in the views of the records of the first k + 1 callers is the
-- greater one of that for the first k callers and that in the views of caller k's records.
pub greatest_in-more : {V : Type 0} (items : V → List Record) (vs : List V) (i k : ℕ) (v : V)
    → k < length vs → v ≡ get_or vs k v
    → greatest_in (map items (take (k + 1) vs)) i
    ≡ max (greatest_in (map items (take k vs)) i) (greatest_of (items v) i)
greatest_in-more items vs i k v inside is =
    let last : List (List Record) = items (get_or vs k v) ∷ [] in
    let one : greatest_in last i ≡ greatest_of (items v) i =
    omega (arith, ap (λ (x : _). greatest_of (items x) i) is) in
    ap (λ (ls : List (List Record)). greatest_in ls i) (map_more items vs k v inside)
    ∙ greatest_in-append (map items (take k vs)) last i
    ∙ ap (max (greatest_in (map items (take k vs)) i)) one

-- Among the lists of records of these values, the list at place j is that of the value at place j.
pub records_at-map : {V : Type 0} (items : V → List Record) (vs : List V) (j : ℕ) (v : V)
    → j < length vs → v ≡ get_or vs j v → records_at (map items vs) j ≡ items v
records_at-map items vs j v inside is = get_or-map items vs j v [] inside ∙ ap items (sym is)

-- The view of the record at place k of a list is at place k of the list of the records' views.
map_stands : (rs : List Record) (k : ℕ) (r : Record) → slice_get rs k ≡ Some r
    → slice_get (map (λ (s : Record). s.view) rs) k ≡ Some r.view
map_stands [] k r e = absurd (none-some r e)
map_stands (s ∷ rs) zero r e = cc
map_stands (s ∷ rs) (suc k) r e = map_stands rs k r e

map_stood : (rs : List Record) (k : ℕ) (v : List ℕ) → slice_get (map (λ (r : Record). r.view) rs) k
    ≡ Some v → (r : Record) × (slice_get rs k ≡ Some r) × (r.view ≡ v)
map_stood [] k v e = absurd (none-some v e)
map_stood (r ∷ rs) zero v e = (r, refl, cc)
map_stood (r ∷ rs) (suc k) v e = map_stood rs k v e

-- The count for a caller in the view of a record is at most the greatest one in the views of all
-- these records.
pub greatest_in-least : (lists : List (List Record)) (j k : ℕ) (r : Record) (i : ℕ)
    → slice_get (records_at lists j) k ≡ Some r → slice_index r.view i ≤ greatest_in lists i
greatest_in-least [] j k r i e = absurd (none-some r e)
greatest_in-least (rs ∷ lists) zero k r i e =
    omega (
      arith,
      greatest_count-at_least (map (λ (s : Record). s.view) rs) k r.view i (map_stands rs k r e),
    )
greatest_in-least (rs ∷ lists) (suc j) k r i e = omega (arith, greatest_in-least lists j k r i e)

-- Where the greatest count for a caller in the views of these records is above n, the view of one
-- of them has a count for it above n.
pub greatest_in-reached : (lists : List (List Record)) (n i : ℕ) → n < greatest_in lists i
    → (j k : ℕ) × (r : Record) × (slice_get (records_at lists j) k ≡ Some r)
    × (n < slice_index r.view i)
greatest_in-reached [] n i h = absurd (omega arith)
greatest_in-reached (rs ∷ lists) n i h =
    elim (cases_lt n (greatest_of rs i)) [
      | inl lt ↦
          let found = greatest_count-reached (map (λ (s : Record). s.view) rs) n i lt in
          let known = map_stood rs found.0 found.1 found.2 in (
            0,
            found.0,
            known.0,
            known.1,
            subst (λ (v : List ℕ). n < get_or v i 0) (sym known.2) found.3,
          )
      | inr le ↦
          let found = greatest_in-reached lists n i (omega arith) in
          (suc found.0, found.1, found.2, found.3, found.4)
    ]
