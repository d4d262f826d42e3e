-- Least cuts at which a book has no legal order, and the book at them.
use Rattle.std.proofs.Common.{◌≡◌, ◌≢◌, ℕ, zero, suc, ◌+◌, ◌-◌, ◌<◌, ◌≤◌, ◌⊎◌, ◌∙◌, List, [], length, map, get_or, set, Some, refl, sym, ap, subst, inl, inr, zero-add, arith}
use Rattle.std.specs.List.{range_with_len}
use Rattle.std.specs.Option.{IsSomeAnd}
use Rattle.std.proofs.lemmas.Bool.{cases_lt, cases_eq}
use Rattle.std.proofs.lemmas.List.{get_or_past, get_or-set_same, get_or-set_other, set-set, length-set, length-map}
use Rattle.std.proofs.lemmas.List.FromFn.{get_or-range_with_len, length-range_with_len, get_or-map-range_with_len, length-map-range_with_len}
use Rattle.std.proofs.lemmas.Option.{slice_get_within}
use Rattle.book_base.specs.declared.call.Call.{Call}
use Rattle.book_base.specs.declared.call.Record.{Record}
use Rattle.book_base.specs.SeqSpec.{SeqSpec, spec_from}
use Rattle.book_base.specs.Cut.{IsWithin}
use Rattle.book_base.specs.Book.{Page, calls_of, IsCall, operation_of, record_of, answered, IsValid}
use Rattle.book_base.specs.BookAt.{IsBookAt, book_at}
use Rattle.book_base.specs.Order.{HasLegalOrder}
use Rattle.book_base.specs.Pruning.{HasOneOpen}
use Rattle.book_base.proofs.PageLemmas.{page_past}
use Rattle.book_base.proofs.GrowthLemmas.{below_calls}
use Rattle.legal_orders.proofs.BookAt.{record_from_part, record_of-part, answered_at, book_at_is_valid}
use Rattle.legal_orders.proofs.BookAtLaws.{is_the_only_one, is_the_book_at_the_smaller, record_counts_are_the_cut, has_one_where_the_book_has, smaller_has_one}
use Rattle.legal_orders.proofs.LegalOrder.{same_call}
use Rattle.smaller_book.specs.Part.{size_of, numbers_of, AreRising, count_below, original, IsRenumbered, IsPart, CarriesOver}
use Rattle.smaller_book.specs.declared.TheConstants.{FEW_CALLS}
use Rattle.smaller_book.specs.Earliest.{all_numbers, IsTried, IsEarliest, IsIllegalCut, one_less, IsLeastAt, IsLegalBelow, IsLeastOpenCut, IsLeastCut}
use Rattle.smaller_book.proofs.Counts.{counted_from_below, count_below-at, count_below-within}

-- The numbers below n, from 0 up, rise.
pub range-rising : (n : ℕ) → AreRising (range_with_len 0 n)
range-rising n j k less inside =
    let room : k < n = omega (arith, inside, length-range_with_len 0 n) in
    omega
    (arith, get_or-range_with_len 0 n j 0 (omega arith), get_or-range_with_len 0 n k 0 room, less)

pub count_below-range : (n bound : ℕ) → bound ≤ n → count_below (range_with_len 0 n) bound ≡ bound
count_below-range n bound few =
    let xs : List ℕ = range_with_len 0 n in
    let long : length xs ≡ n = length-range_with_len 0 n in
    elim (cases_lt bound n) [
      | inl less ↦
          let at : get_or xs bound 0 ≡ bound =
          omega (arith, get_or-range_with_len 0 n bound 0 less) in
          ap (count_below xs) (sym at) ∙ count_below-at xs bound (range-rising n) (omega arith)
      | inr most ↦ whole n bound (omega arith)
    ]
  where
    whole : (n bound : ℕ) → bound ≡ n → count_below (range_with_len 0 n) bound ≡ bound
    whole zero bound e = sym e
    whole (suc n) bound e =
        let long : length (range_with_len 0 (suc n)) ≡ suc n = length-range_with_len 0 (suc n) in
        let last : get_or (range_with_len 0 (suc n)) n 0 < bound =
        omega (arith, get_or-range_with_len 0 (suc n) n 0 (omega arith), e) in
        omega (
          arith,
          counted_from_below (range_with_len 0 (suc n)) bound n (range-rising (suc n))
              (omega (arith, long)) last,
          count_below-within (range_with_len 0 (suc n)) bound,
          long,
          e,
        )

-- In the numbers of all calls of a book, those of a caller are the numbers below its count of
-- calls.
pub numbers_of-all : (book : List Page) (i : ℕ)
    → numbers_of (all_numbers book) i ≡ range_with_len 0 (calls_of book i)
numbers_of-all book i =
    let numbers : ℕ → List ℕ = λ j. range_with_len 0 (calls_of book j) in
    elim (cases_lt i (length book)) [
      | inl inside ↦ get_or-map-range_with_len numbers 0 (length book) i i [] inside (zero-add i)
      | inr past ↦
          get_or_past (map numbers (range_with_len 0 (length book)))
          i [] (omega (arith, length-map-range_with_len numbers 0 (length book), past))
          ∙ sym (ap (λ (p : Page). range_with_len 0 (length p.operations)) (page_past book i past))
    ]

-- In a part that has all calls of a book, each call has the number that it has in the book.
pub original-all : (book : List Page) (call : Call) → IsCall book call
    → original (all_numbers book) call ≡ call
original-all book call inside =
    let xs : List ℕ = numbers_of (all_numbers book) call.caller in
    let at : get_or xs call.number 0 ≡ call.number
    = ap (λ (l : List ℕ). get_or l call.number 0) (numbers_of-all book call.caller)
    ∙ (get_or-range_with_len 0 (calls_of book call.caller) call.number 0 inside
    ∙ zero-add call.number) in
    same_call (original (all_numbers book) call) call refl at

-- A valid book with as many callers as another one, whose calls and records are those of the other
-- one, is a part of it in which each call has the number that it has there.
pub part_with_numbers : (book part : List Page) → IsValid part → length part ≡ length book
    → ((call : Call) → IsCall part call → operation_of part call ≡ operation_of book call)
    → ((call : Call) (r : Record) → record_of part call ≡ Some r → record_of book call ≡ Some r)
    → IsPart book (all_numbers part) part
part_with_numbers book part valid callers operations records = record {
  callers = callers;
  calls = λ i. sym (ap length (numbers_of-all part i) ∙ length-range_with_len 0 (calls_of part i));
  rising = λ i. subst AreRising (sym (numbers_of-all part i)) (range-rising (calls_of part i));
  operations = λ call inside. operations call inside
      ∙ ap (operation_of book) (sym (original-all part call inside));
  answers = valid.answers;
  records = λ call small known.
      let inside : IsCall part call =
      omega (arith, valid.answers call.caller, slice_get_within _ call.number small known) in
      let same : record_of book (original (all_numbers part) call) ≡ Some small =
      ap (record_of book) (original-all part call inside) ∙ records call small known in
      let kept : IsRenumbered (all_numbers part) small small = record {
        reply = refl;
        view = λ i.
            let few : get_or small.view i 0 ≤ calls_of part i =
            below_calls part small.view (valid.within call small known) i in
            sym
            (ap (λ (l : List ℕ). count_below l (get_or small.view i 0)) (numbers_of-all part i)
            ∙ count_below-range (calls_of part i) (get_or small.view i 0) few);
      } in
      subst (λ o. IsSomeAnd o (λ (whole : Record). IsRenumbered (all_numbers part) whole small))
      (sym same) kept;
}

-- The book at a cut is a part of the book in which each call has the number that it has in the
-- book.
pub part_from_book_at : (book : List Page) (cut : List ℕ) (part : List Page) → IsValid book
    → IsBookAt book cut part → IsPart book (all_numbers part) part
part_from_book_at book cut part valid at =
    part_with_numbers book part (book_at_is_valid book cut part valid at) at.callers at.operations
    (λ (call : Call) (r : Record) known. (record_from_part book cut part at call r known).1)

-- A valid book without a legal order has none at the cut of all its records.
pub illegal_at_all : (spec : SeqSpec) (book : List Page) → IsValid book → ¬ HasLegalOrder spec book
    → IsIllegalCut spec book (answered book)
illegal_at_all spec book valid none = record {
  wide = length-map book (λ (p : Page). length p.records);
  within = λ i. omega arith;
  illegal = λ h. none ((has_one_where_the_book_has spec book valid).0 h);
}

-- A cut that is changed to a smaller or equal count of one caller is within the cut before the
-- change.
pub set-within : (cut : List ℕ) (i count : ℕ) → count ≤ get_or cut i 0
    → IsWithin (set cut i count) cut
set-within cut i count few j =
    elim (cases_eq j i) [
      | inl e ↦ elim (cases_lt i (length cut)) [
        | inl inside ↦ subst (λ (k : ℕ). get_or (set cut i count) k 0 ≤ get_or cut k 0) (sym e)
            (omega (arith, get_or-set_same cut i count 0 inside, few))
        | inr past ↦ omega (
          arith,
          get_or_past (set cut i count) j 0 (omega (arith, length-set cut i count, e, past)),
        )
      ]
      | inr other ↦ omega (arith, get_or-set_other cut i j count 0 other)
    ]

-- A cut at which the book has no legal order, changed to a smaller or equal count of one caller,
-- has a count for each caller and is within the book's records.
pub set-within_answered : (spec : SeqSpec) (book : List Page) (cut : List ℕ) (i count : ℕ)
    → IsIllegalCut spec book cut → count ≤ get_or cut i 0 → (length (set cut i count) ≡ length book)
    × IsWithin (set cut i count) (answered book)
set-within_answered spec book cut i count is few = (
  length-set cut i count ∙ is.wide,
  λ (j : ℕ). omega (arith, set-within cut i count few j, is.within j),
)

-- A cut at which the book has no legal order, changed to a smaller or equal count of one caller, is
-- one as `IsIllegalCut` says where the book has no legal order at the changed cut.
pub illegal_with : (spec : SeqSpec) (book : List Page) (cut : List ℕ) (i count : ℕ)
    → IsIllegalCut spec book cut → count ≤ get_or cut i 0
    → ¬ HasLegalOrder spec (book_at (set cut i count) book)
    → IsIllegalCut spec book (set cut i count)
illegal_with spec book cut i count is few none =
    let both = set-within_answered spec book cut i count is few in
    record { wide = both.0; within = both.1; illegal = none }

-- A cut with a new count of a caller is least for this caller where the count is 0 or the book has
-- a legal order at the cut with that count less by 1.
pub least_from_search : (spec : SeqSpec) (book : List Page) (cut : List ℕ) (i count : ℕ)
    → i < length cut → (count ≡ 0) ⊎ HasLegalOrder spec (book_at (set cut i (count - 1)) book)
    → IsLeastAt spec book (set cut i count) i
least_from_search spec book cut i count inside h =
    let at : get_or (set cut i count) i 0 ≡ count = get_or-set_same cut i count 0 inside in
    elim h [
      | inl none ↦ inl (at ∙ none)
      | inr legal ↦
          let same : one_less (set cut i count) i ≡ set cut i (count - 1)
          = ap (λ (n : ℕ). set (set cut i count) i (n - 1)) at ∙ set-set cut i count (count - 1) in
          inr (subst (λ (c : List ℕ). HasLegalOrder spec (book_at c book)) (sym same) legal)
    ]

-- A cut that is least for a caller stays so where the count of another caller gets smaller.
pub least_stays : (spec : SeqSpec) (book : List Page) (cut : List ℕ) (i j count : ℕ) → IsValid book
    → j ≢ i → count ≤ get_or cut i 0 → IsLeastAt spec book cut j
    → IsLeastAt spec book (set cut i count) j
least_stays spec book cut i j count valid other few h =
    let same : get_or (set cut i count) j 0 ≡ get_or cut j 0 =
    get_or-set_other cut i j count 0 other in
    elim h [
      | inl none ↦ inl (same ∙ none)
      | inr legal ↦ inr (smaller_has_one spec book (one_less (set cut i count) j)
          (one_less cut j) valid (within cut i j count other few same) legal)
    ]
  where
    within : (cut : List ℕ) (i j count : ℕ) → j ≢ i → count ≤ get_or cut i 0
        → get_or (set cut i count) j 0 ≡ get_or cut j 0
        → IsWithin (one_less (set cut i count) j) (one_less cut j)
    within cut i j count other few same k =
        let less : ℕ = get_or (set cut i count) j 0 - 1 in
        elim (cases_eq k j) [
          | inl e ↦ elim (cases_lt j (length cut)) [
            | inl inside ↦
                let left : get_or (set (set cut i count) j less) j 0 ≡ less = get_or-set_same
                (set cut i count) j less 0 (omega (arith, length-set cut i count, inside)) in
                let right : get_or (one_less cut j) j 0 ≡ get_or cut j 0 - 1 =
                get_or-set_same cut j (get_or cut j 0 - 1) 0 inside in
                subst
                (λ (n : ℕ). get_or (one_less (set cut i count) j) n 0 ≤ get_or (one_less cut j) n 0)
                (sym e) (omega (arith, left, right, same))
            | inr past ↦ omega (
              arith,
              get_or_past (set (set cut i count) j less) k 0 (omega
                  (arith, length-set (set cut i count) j less, length-set cut i count, past, e)),
            )
          ]
          | inr apart ↦ omega (
            arith,
            get_or-set_other (set cut i count) j k less 0 apart,
            get_or-set_other cut j k (get_or cut j 0 - 1) 0 apart,
            set-within cut i count few k,
          )
        ]

-- A cut that is within another one and counts fewer calls of a caller is also within that other cut
-- with its count of this caller less by 1.
within_one_less : (cut other : List ℕ) (i : ℕ) → IsWithin other cut
    → get_or other i 0 < get_or cut i 0 → IsWithin other (one_less cut i)
within_one_less cut other i within less k =
    elim (cases_eq k i) [
      | inl e ↦ elim (cases_lt i (length cut)) [
        | inl inside ↦ subst (λ (n : ℕ). get_or other n 0 ≤ get_or (one_less cut i) n 0) (sym e)
            (omega (arith, get_or-set_same cut i (get_or cut i 0 - 1) 0 inside, less))
        | inr past ↦ absurd (omega (arith, get_or_past cut i 0 past, less))
      ]
      | inr other_one ↦
          omega (arith, get_or-set_other cut i k (get_or cut i 0 - 1) 0 other_one, within k)
    ]

-- A cut at which the book has no legal order, and which is least for each caller, is a least cut.
pub least_from_all : (spec : SeqSpec) (book : List Page) (cut : List ℕ) → IsValid book
    → IsIllegalCut spec book cut → ((i : ℕ) → IsLeastAt spec book cut i) → IsLeastCut spec book cut
least_from_all spec book cut valid here least = record {
  here = here;
  least = λ other i within less tried. elim (least i) [
    | inl none ↦ absurd (omega (arith, none, less))
    | inr legal ↦
        smaller_has_one spec book other (one_less cut i) valid
        (within_one_less cut other i within less) legal
  ];
}

-- A least cut among those with one open is a least cut, where at it the book has one open and more
-- than `FEW_CALLS` calls.
pub least_from_open : (spec : SeqSpec) (book : List Page) (cut : List ℕ) → IsValid book
    → FEW_CALLS < size_of (book_at cut book) → HasOneOpen (book_at cut book)
    → IsLeastOpenCut spec book cut → IsLeastCut spec book cut
least_from_open spec book cut valid large one is = record {
  here = is.here;
  least = λ other i within less tried. elim tried [
    | inl few ↦ absurd (omega (arith, few, large))
    | inr rest ↦ elim rest [
      | inl several ↦ absurd (several one)
      | inr still ↦ is.least i other within less
          (subst HasOneOpen (is_the_book_at_the_smaller book other cut valid within) still)
    ]
  ];
}

-- Where a book is legal below a count of a caller within a cut, it is legal below each smaller or
-- equal count within each cut that is within this one.
pub legal_below_stays : (spec : SeqSpec) (book : List Page) (cut few : List ℕ) (i high low : ℕ)
    → IsWithin few cut → low ≤ high → IsLegalBelow spec book cut i high
    → IsLegalBelow spec book few i low
legal_below_stays spec book cut few i high low within le legal other inside less one =
    legal other (λ j. omega (arith, inside j, within j)) (omega (arith, less, le)) one

-- A book is legal below the count `count + 1` of a caller within a cut where it has a legal order
-- at some cut that contains all these: the cuts within the first one that count at most `count`
-- calls of the caller and at which the book has one open.
pub legal_below_from_greatest : (spec : SeqSpec) (book : List Page) (cut tried : List ℕ)
    (i count : ℕ) → IsValid book → HasLegalOrder spec (book_at tried book)
    → ((other : List ℕ) → IsWithin other cut → get_or other i 0 ≤ count
    → HasOneOpen (book_at other book) → IsWithin other tried)
    → IsLegalBelow spec book cut i (count + 1)
legal_below_from_greatest spec book cut tried i count valid legal greatest other within less
    one =
    smaller_has_one spec book other tried valid
    (greatest other within (omega (arith, less)) one) legal

-- Where a book has no legal order at a cut, each book that is the book at this cut has none.
pub illegal_from_cut : (spec : SeqSpec) (book : List Page) (cut : List ℕ) (part : List Page)
    → IsValid book → IsIllegalCut spec book cut → IsBookAt book cut part → ¬ HasLegalOrder spec part
illegal_from_cut spec book cut part valid is at h =
    is.illegal (subst (λ (b : List Page). HasLegalOrder spec b)
    (is_the_only_one book cut part valid at) h)

-- The book at a least cut has a legal order at each earlier cut at which it is tried, and has only
-- calls that some view holds.
pub earliest_from_least : (spec : SeqSpec) (book : List Page) (cut : List ℕ) (part : List Page)
    → IsValid book → IsLeastCut spec book cut → IsBookAt book cut part → IsEarliest spec part
earliest_from_least spec book cut part valid is at =
    let part_is : part ≡ book_at cut book = is_the_only_one book cut part valid at in
    let counts : answered part ≡ cut =
    ap answered part_is ∙ record_counts_are_the_cut book cut is.here.wide is.here.within in
    record {
      earlier = λ other i within less tried.
          let few : IsWithin other cut = subst (IsWithin other) counts within in
          let below : get_or other i 0 < get_or cut i 0 =
          omega (arith, less, answered_at part i, ap (λ (c : List ℕ). get_or c i 0) counts) in
          let same : book_at other part ≡ book_at other book =
          ap (book_at other) part_is ∙ is_the_book_at_the_smaller book other cut valid few in
          let there : IsTried (book_at cut book) other =
          subst (λ (b : List Page). IsTried b other) part_is tried in
          subst (λ (b : List Page). HasLegalOrder spec b) (sym same)
          (is.least other i few below there);
      held = λ call inside.
          let found = (at.calls call).0 inside in
          let there : record_of part found.0 ≡ Some found.1 =
          record_of-part book cut part at found.0 found.2 ∙ found.3 in
          (found.0, found.1, there, found.4);
    }

-- The book at a least cut has no legal order.
pub illegal_from_least : (spec : SeqSpec) (book : List Page) (cut : List ℕ) (part : List Page)
    → IsValid book → IsLeastCut spec book cut → IsBookAt book cut part → ¬ HasLegalOrder spec part
illegal_from_least spec book cut part valid is at =
    illegal_from_cut spec book cut part valid is.here at

-- From whichever list, a legal order of the book gives one of the book at a cut within its records.
pub carried_to_cut : (next : List ℕ → ℕ → List ℕ × ℕ) (book : List Page) (cut : List ℕ)
    (part : List Page) → IsValid book → IsWithin cut (answered book) → IsBookAt book cut part
    → CarriesOver next book part
carried_to_cut next book cut part valid within at list legal =
    subst (λ (b : List Page). HasLegalOrder (spec_from list next) b)
    (sym (is_the_only_one book cut part valid at))
    (smaller_has_one (spec_from list next) book cut (answered book) valid within
    ((has_one_where_the_book_has (spec_from list next) book valid).1 legal))
