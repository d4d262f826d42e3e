-- The book at a cut, computed.
use Rattle.std.proofs.Common.{◌≡◌, ℕ, zero, suc, ◌<◌, ◌≤◌, ◌↔◌, ◌∙◌, List, [], ◌∷◌, length, map, take, get_or, Some, refl, sym, ap, subst, inl, inr, slice_get, arith, length-take}
use Rattle.std.proofs.lemmas.Bool.{cases_lt}
use Rattle.std.proofs.lemmas.List.{take_all, take-take, length-map, get_or-map, get_or_past, ext_get_or, length-take-le}
use Rattle.std.proofs.lemmas.List.FromFn.{length-map-range_with_len, get_or-map-range_with_len}
use Rattle.std.proofs.lemmas.Option.{none-some, slice_get_past}
use Rattle.list_laws.proofs.Prefixes.{slice_get-take_within, slice_get-take_below, same_from_places}
use Rattle.list_laws.proofs.Places.{slice_get-take}
use Rattle.book_base.specs.declared.call.Call.{Call}
use Rattle.book_base.specs.declared.call.Record.{Record}
use Rattle.book_base.specs.Cut.{Holds, IsWithin}
use Rattle.book_base.specs.Book.{Page, page_of, calls_of, answers_of, answered, IsCall, record_of, IsValid}
use Rattle.book_base.specs.BookAt.{IsHeldBySomeView, IsBookAt, greatest_count, views_at, page_at, book_at}
use Rattle.book_base.proofs.PageLemmas.{empty, page_past}
use Rattle.book_base.proofs.GrowthLemmas.{within_announced, below_calls}
use Rattle.legal_orders.proofs.GreatestCounts.{greatest_count-append, greatest_count-at_least, greatest_count-reached}
pub use Rattle.book_base.proofs.ViewLemmas.{record_from_part, book_at_is_valid, answered_at, held_is_call}

-- a record's view is in the list of the views of a list of records, at the record's place
map_stands : (rs : List Record) (k : ℕ) (r : Record) → slice_get rs k ≡ Some r
    → slice_get (map (λ (s : Record). s.view) rs) k ≡ Some r.view
map_stands [] k r e = absurd (none-some r e)
map_stands (s ∷ rs) zero r e = cc
map_stands (s ∷ rs) (suc k) r e = map_stands rs k r e

-- no record that the cut holds counts more than the greatest count of the views
pub views_at-least : (cut : List ℕ) (book : List Page) (i k : ℕ) (r : Record) (j : ℕ)
    → k < get_or cut i 0 → slice_get (page_of book i).records k ≡ Some r
    → get_or r.view j 0 ≤ greatest_count (views_at cut book) j
views_at-least cut [] i k r j h e = absurd (none-some r e)
views_at-least [] (page ∷ pages) i k r j h e = absurd (omega arith)
views_at-least (count ∷ counts) (page ∷ pages) zero k r j h e =
    let here : List (List ℕ) = map (λ (s : Record). s.view) (take count page.records) in
    let stands : slice_get here k ≡ Some r.view =
    map_stands (take count page.records) k r (slice_get-take_within count page.records k h ∙ e) in
    omega (
      arith,
      greatest_count-append here (views_at counts pages) j,
      greatest_count-at_least here k r.view j stands,
    )
views_at-least (count ∷ counts) (page ∷ pages) (suc i) k r j h e =
    omega (
      arith,
      greatest_count-append (map (λ (s : Record). s.view) (take count page.records))
          (views_at counts pages) j,
      views_at-least counts pages i k r j h e,
    )

-- a view in the list of the views of records is the view of the record at its place
slice_get-map_some : (rs : List Record) (k : ℕ) (v : List ℕ)
    → slice_get (map (λ (r : Record). r.view) rs) k ≡ Some v → (r : Record)
    × (slice_get rs k ≡ Some r) × (r.view ≡ v)
slice_get-map_some [] k v e = absurd (none-some v e)
slice_get-map_some (r ∷ rs) zero v e = (r, refl, cc)
slice_get-map_some (r ∷ rs) (suc k) v e = slice_get-map_some rs k v e

-- where the greatest count is above a number, some record that the cut holds counts more than this
-- number
pub views_at-reached : (cut : List ℕ) (book : List Page) (n j : ℕ)
    → n < greatest_count (views_at cut book) j
    → (i k : ℕ) × (r : Record) × (k < get_or cut i 0)
    × (slice_get (page_of book i).records k ≡ Some r) × (n < get_or r.view j 0)
views_at-reached cut [] n j h = absurd (omega arith)
views_at-reached [] (page ∷ pages) n j h = absurd (omega arith)
views_at-reached (count ∷ counts) (page ∷ pages) n j h =
    let here : List (List ℕ) = map (λ (s : Record). s.view) (take count page.records) in
    elim (cases_lt n (greatest_count here j)) [
      | inl lt ↦
          let found = greatest_count-reached here n j lt in
          let known = slice_get-map_some (take count page.records) found.0 found.1 found.2 in
          let more : n < get_or known.0.view j 0 =
          subst (λ (v : List ℕ). n < get_or v j 0) (sym known.2) found.3 in (
            0,
            found.0,
            known.0,
            slice_get-take_below count page.records found.0 known.0 known.1,
            slice_get-take count page.records found.0 known.0 known.1,
            more,
          )
      | inr le ↦
          let found = views_at-reached counts pages n j
          (omega (arith, greatest_count-append here (views_at counts pages) j)) in
          (suc found.0, found.1, found.2, found.3, found.4, found.5)
    ]

-- each page of the book at a cut is the page at the cut
pub page_of-book_at : (cut : List ℕ) (book : List Page) (i : ℕ)
    → page_of (book_at cut book) i ≡ page_at cut book i
page_of-book_at cut book i =
    elim (cases_lt i (length book)) [
      | inl inside ↦ get_or-map-range_with_len (page_at cut book) 0 (length book) i i empty inside
          (omega arith)
      | inr past ↦
          let long : length (book_at cut book) ≡ length book =
          length-map-range_with_len (page_at cut book) 0 (length book) in
          let made : Page → Page = λ p. record {
            operations = take (greatest_count (views_at cut book) i) p.operations;
            records = take (get_or cut i 0) p.records;
          } in
          let none : made empty ≡ empty =
          ap (λ (ops : List ℕ). record { operations = ops; records = take (get_or cut i 0) [] })
          (take_all (greatest_count (views_at cut book) i) [] (omega arith))
          ∙ ap (λ (rs : List Record). record { operations = []; records = rs })
          (take_all (get_or cut i 0) [] (omega arith)) in
          page_past (book_at cut book) i (omega (arith, long))
          ∙ (sym none ∙ ap made (sym (page_past book i past)))
    ]

-- the records of a caller in the book at a cut are its first ones in the book, and so are its calls
pub records-book_at : (cut : List ℕ) (book : List Page) (i : ℕ)
    → (page_of (book_at cut book) i).records ≡ take (get_or cut i 0) (page_of book i).records
records-book_at cut book i = ap (λ (p : Page). p.records) (page_of-book_at cut book i)

pub operations-book_at : (cut : List ℕ) (book : List Page) (i : ℕ)
    → (page_of (book_at cut book) i).operations
    ≡ take (greatest_count (views_at cut book) i) (page_of book i).operations
operations-book_at cut book i = ap (λ (p : Page). p.operations) (page_of-book_at cut book i)

pub length-book_at : (cut : List ℕ) (book : List Page) → length (book_at cut book) ≡ length book
length-book_at cut book = length-map-range_with_len (page_at cut book) 0 (length book)

-- in a valid book the calls that the views of records held by a cut count are calls of the book
views_at-within : (book : List Page) → IsValid book → (cut : List ℕ) (i : ℕ)
    → greatest_count (views_at cut book) i ≤ calls_of book i
views_at-within book valid cut i =
    elim (cases_lt (calls_of book i) (greatest_count (views_at cut book) i)) [
      | inl more ↦
          let found = views_at-reached cut book (calls_of book i) i more in
          let it : Call = record { caller = found.0; number = found.1 } in
          absurd (omega
          (arith, found.5, below_calls book found.2.view (valid.within it found.2 found.4) i))
      | inr fits ↦ fits
    ]

-- the number of calls of the book at a cut
calls_of-book_at : (book : List Page) → IsValid book → (cut : List ℕ) (i : ℕ)
    → calls_of (book_at cut book) i ≡ greatest_count (views_at cut book) i
calls_of-book_at book valid cut i =
    ap length (operations-book_at cut book i)
    ∙ omega (
      arith,
      length-take (greatest_count (views_at cut book) i) (page_of book i).operations,
      views_at-within book valid cut i,
    )

-- A call's number is below the views' greatest count exactly where some view of a record that the
-- cut holds holds the call.
held-from_count : (cut : List ℕ) (book : List Page) (call : Call)
    → call.number < greatest_count (views_at cut book) call.caller ↔ IsHeldBySomeView book cut call
held-from_count cut book call = (
  λ (h : call.number < greatest_count (views_at cut book) call.caller).
      let found = views_at-reached cut book call.number call.caller h in
      let it : Call = record { caller = found.0; number = found.1 } in
      (it, found.2, found.3, found.4, found.5),
  λ (h : IsHeldBySomeView book cut call).
      omega (arith, h.4, views_at-least cut book h.0.caller h.0.number h.1 call.caller h.2 h.3),
)

-- The computed book is the book at the cut.
pub book_at_is_the_book_at : (book : List Page) (cut : List ℕ) → IsValid book
    → IsBookAt book cut (book_at cut book)
book_at_is_the_book_at book cut valid = record {
  callers = length-book_at cut book;
  records = records-book_at cut book;
  calls = λ (call : Call). (
    λ (h : IsCall (book_at cut book) call). (held-from_count cut book call).0
        (omega (arith, calls_of-book_at book valid cut call.caller)),
    λ (h : IsHeldBySomeView book cut call). omega
        (arith, (held-from_count cut book call).1 h, calls_of-book_at book valid cut call.caller),
  );
  operations = λ (call : Call) (h : IsCall (book_at cut book) call).
      ap (λ (ops : List ℕ). slice_get ops call.number) (operations-book_at cut book call.caller)
      ∙ slice_get-take_within (greatest_count (views_at cut book) call.caller)
      (page_of book call.caller).operations call.number
      (omega (arith, calls_of-book_at book valid cut call.caller));
}

-- two numbers with the same lesser numbers are equal
same_length_from_tests : (m n : ℕ) → ((k : ℕ) → k < m ↔ k < n) → m ≡ n
same_length_from_tests m n h =
    elim (cases_lt m n) [
      | inl less ↦ let none = (h m).1 less in absurd (omega arith)
      | inr le ↦ elim (cases_lt n m) [
        | inl more ↦ let none = (h n).0 more in absurd (omega arith)
        | inr ge ↦ omega arith
      ]
    ]

-- lists of one length with the same elements at each place are equal
same_from_places_within : {X : Type 0} (xs ys : List X) → length xs ≡ length ys
    → ((k : ℕ) → k < length xs → slice_get xs k ≡ slice_get ys k) → xs ≡ ys
same_from_places_within xs ys long h = same_from_places xs ys (λ (k : ℕ).
    elim (cases_lt k (length xs)) [
      | inl inside ↦ h k inside
      | inr past ↦ slice_get_past xs k past ∙ sym (slice_get_past ys k (omega arith))
    ])

-- Two books that are the book at one cut are equal.
pub books_at_are_one : (book : List Page) (cut : List ℕ) (a b : List Page) → IsBookAt book cut a
    → IsBookAt book cut b → a ≡ b
books_at_are_one book cut a b one other =
    ext_get_or empty a b (one.callers ∙ sym other.callers) (λ (i : ℕ) (inside : i < length a).
    let same_calls : calls_of a i ≡ calls_of b i =
    same_length_from_tests (calls_of a i) (calls_of b i) (λ (k : ℕ).
    let it : Call = record { caller = i; number = k } in (
      λ (h : k < calls_of a i). (other.calls it).1 ((one.calls it).0 h),
      λ (h : k < calls_of b i). (one.calls it).1 ((other.calls it).0 h),
    )) in
    let operations : (page_of a i).operations ≡ (page_of b i).operations = same_from_places_within
    (page_of a i).operations (page_of b i).operations same_calls (λ (k : ℕ) (h : k < calls_of a i).
    let it : Call = record { caller = i; number = k } in
    one.operations it h ∙ sym (other.operations it (omega (arith, same_calls)))) in
    let records : (page_of a i).records ≡ (page_of b i).records =
    one.records i ∙ sym (other.records i) in
    let made : List ℕ → List Record → Page = λ ops rs. record { operations = ops; records = rs } in
    ap (λ (ops : List ℕ). made ops (page_of a i).records) operations
    ∙ ap (made (page_of b i).operations) records)

-- the book at a cut has each record of the book that the cut holds
pub record_of-part : (book : List Page) (cut : List ℕ) (part : List Page) → IsBookAt book cut part
    → (call : Call) → Holds cut call
    → record_of part call ≡ record_of book call
record_of-part book cut part at call h =
    ap (λ (rs : List Record). slice_get rs call.number) (at.records call.caller)
    ∙ slice_get-take_within (get_or cut call.caller 0)
    (page_of book call.caller).records call.number h

-- The book at a cut of the book at a larger cut is the book at the smaller one.
pub book_at_of_book_at : (book : List Page) (larger smaller : List ℕ) (part : List Page)
    → IsWithin smaller larger → IsBookAt book larger part
    → (least : List Page) → IsBookAt part smaller least → IsBookAt book smaller least
book_at_of_book_at book larger smaller part within at least under =
    let back : (call : Call) → IsHeldBySomeView part smaller call
    → IsHeldBySomeView book smaller call
    = λ (call : Call) (h : IsHeldBySomeView part smaller call).
    (h.0, h.1, h.2, (record_from_part book larger part at h.0 h.1 h.3).1, h.4) in
    let forth : (call : Call) → IsHeldBySomeView book smaller call
    → IsHeldBySomeView part smaller call
    = λ (call : Call) (h : IsHeldBySomeView book smaller call).
    let held : Holds larger h.0 = omega (arith, h.2, within h.0.caller) in
    (h.0, h.1, h.2, record_of-part book larger part at h.0 held ∙ h.3, h.4) in
    let wider : (call : Call) → IsHeldBySomeView book smaller call
    → IsHeldBySomeView book larger call
    = λ (call : Call) (h : IsHeldBySomeView book smaller call).
    let held : Holds larger h.0 = omega (arith, h.2, within h.0.caller) in
    (h.0, h.1, held, h.3, h.4) in
    record {
      callers = under.callers ∙ at.callers;
      records = λ (i : ℕ). under.records i ∙ (ap (take (get_or smaller i 0)) (at.records i)
          ∙ take-take (get_or smaller i 0) (get_or larger i 0) (page_of book i).records (within i));
      calls = λ (call : Call). (
        λ (h : IsCall least call). back call ((under.calls call).0 h),
        λ (h : IsHeldBySomeView book smaller call). (under.calls call).1 (forth call h),
      );
      operations = λ (call : Call) (h : IsCall least call).
          under.operations call h ∙ at.operations call
          ((at.calls call).1 (wider call (back call ((under.calls call).0 h))));
    }

-- The record counts of the book at a cut are the cut, where the cut counts no more records than the
-- book has.
pub answered-book_at : (book : List Page) (cut : List ℕ) → length cut ≡ length book
    → IsWithin cut (answered book) → answered (book_at cut book) ≡ cut
answered-book_at book cut wide within =
    let long : length (answered (book_at cut book)) ≡ length cut = length-map (book_at cut book)
    (λ (p : Page). length p.records) ∙ (length-book_at cut book ∙ sym wide) in
    ext_get_or 0 (answered (book_at cut book)) cut long
    (λ (i : ℕ) (h : i < length (answered (book_at cut book))).
    let few : get_or cut i 0 ≤ answers_of book i = omega (arith, within i, answered_at book i) in
    answered_at (book_at cut book) i ∙ (ap length (records-book_at cut book i)
    ∙ length-take-le (get_or cut i 0) (page_of book i).records few))

-- The book at the cut of all its records has each record of the book.
pub record_of-all : (book : List Page) (part : List Page) → IsBookAt book (answered book) part
    → (call : Call) → record_of part call ≡ record_of book call
record_of-all book part at call =
    ap (λ (rs : List Record). slice_get rs call.number)
    (at.records call.caller ∙ take_all (get_or (answered book) call.caller 0)
    (page_of book call.caller).records (omega (arith, answered_at book call.caller)))
