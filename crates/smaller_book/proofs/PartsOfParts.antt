-- A part of a part.
use Rattle.std.proofs.Common.{◌≡◌, ℕ, ◌<◌, ◌∙◌, List, [], length, map, get_or, Some, refl, sym, ap, subst, inl, inr, zero-add, arith}
use Rattle.std.specs.Option.{IsSomeAnd}
use Rattle.std.specs.List.{range_with_len}
use Rattle.std.proofs.lemmas.Bool.{cases_lt}
use Rattle.std.proofs.lemmas.List.{get_or-map, get_or_past, length-map}
use Rattle.std.proofs.lemmas.List.FromFn.{get_or-map-range_with_len, length-map-range_with_len}
use Rattle.std.proofs.lemmas.Option.{slice_get_within}
use Rattle.book_base.specs.declared.call.Call.{Call}
use Rattle.book_base.specs.declared.call.Record.{Record}
use Rattle.book_base.specs.Book.{Page, calls_of, IsCall, operation_of, record_of}
use Rattle.legal_orders.proofs.LegalOrder.{same_call}
use Rattle.smaller_book.specs.Part.{numbers_of, AreRising, count_below, original, IsRenumbered, IsPart}
use Rattle.smaller_book.specs.Numbers.{picked, composed}
use Rattle.smaller_book.proofs.Counts.{counted_from_below, below_from_counted, count_below-within}
use Rattle.smaller_book.proofs.Following.{call_from_answer, record_was}
use Rattle.smaller_book.proofs.Removing.{original_is_call}

-- The numbers of a caller in a part of a part are those of its first numbers at the places that its
-- second numbers say.
pub numbers_of-composed : (first second : List (List ℕ)) (i : ℕ)
    → numbers_of (composed first second) i ≡ picked (numbers_of first i) (numbers_of second i)
numbers_of-composed first second i =
    let kept_by : ℕ → List ℕ = λ j. picked (numbers_of first j) (numbers_of second j) in
    elim (cases_lt i (length second)) [
      | inl inside ↦ get_or-map-range_with_len kept_by 0 (length second) i i [] inside (zero-add i)
      | inr past ↦
          get_or_past (map kept_by (range_with_len 0 (length second)))
          i [] (omega (arith, length-map-range_with_len kept_by 0 (length second), past))
          ∙ sym (ap (picked (numbers_of first i)) (get_or_past second i [] past))
    ]

pub get_or-picked : (numbers places : List ℕ) (k : ℕ) → k < length places
    → get_or (picked numbers places) k 0 ≡ get_or numbers (get_or places k 0) 0
get_or-picked numbers places k inside =
    get_or-map (λ (place : ℕ). get_or numbers place 0) places k 0 0 inside

same_from_below : (m n : ℕ) → ((k : ℕ) → k < m → k < n) → ((k : ℕ) → k < n → k < m) → m ≡ n
same_from_below m n up down =
    elim (cases_lt m n) [
      | inl less ↦ absurd (omega (arith, down m less))
      | inr most ↦ elim (cases_lt n m) [
        | inl less ↦ absurd (omega (arith, up n less))
        | inr le ↦ omega arith
      ]
    ]

-- The numbers at rising places of a rising list rise.
picked-rising : (numbers places : List ℕ) → AreRising numbers → AreRising places
    → ((k : ℕ) → k < length places → get_or places k 0 < length numbers)
    → AreRising (picked numbers places)
picked-rising numbers places first second inside j k less room =
    let few : k < length places =
    omega (arith, room, length-map places (λ (place : ℕ). get_or numbers place 0)) in
    let apart : get_or numbers (get_or places j 0) 0 < get_or numbers (get_or places k 0) 0 =
    first (get_or places j 0) (get_or places k 0) (second j k less few) (inside k few) in
    omega
    (arith, apart, get_or-picked numbers places j (omega arith), get_or-picked numbers places k few)

-- Of the numbers at rising places of a rising list, as many are below a bound as places are below
-- the count of all numbers that are below it.
count_below-picked : (numbers places : List ℕ) (bound : ℕ) → AreRising numbers → AreRising places
    → ((k : ℕ) → k < length places → get_or places k 0 < length numbers)
    → count_below (picked numbers places) bound ≡ count_below places (count_below numbers bound)
count_below-picked numbers places bound first second inside =
    let long : length (picked numbers places) ≡ length places =
    length-map places (λ (place : ℕ). get_or numbers place 0) in
    same_from_below (count_below (picked numbers places) bound)
    (count_below places (count_below numbers bound))
    (λ (k : ℕ) (less : k < count_below (picked numbers places) bound).
    let few : k < length places =
    omega (arith, less, count_below-within (picked numbers places) bound, long) in
    let below : get_or numbers (get_or places k 0) 0 < bound = omega (
      arith,
      below_from_counted (picked numbers places) bound k less,
      get_or-picked numbers places k few,
    ) in
    counted_from_below places (count_below numbers bound) k second few
    (counted_from_below numbers bound (get_or places k 0) first (inside k few) below))
    (λ (k : ℕ) (less : k < count_below places (count_below numbers bound)).
    let few : k < length places =
    omega (arith, less, count_below-within places (count_below numbers bound)) in
    let below : get_or numbers (get_or places k 0) 0 < bound
    = below_from_counted numbers bound (get_or places k 0)
    (below_from_counted places (count_below numbers bound) k less) in
    counted_from_below (picked numbers places) bound k
    (picked-rising numbers places first second inside) (omega (arith, few, long))
    (omega (arith, below, get_or-picked numbers places k few)))

-- Each of the second numbers of a caller is a place in the caller's first numbers.
pub places_inside : (book mid part : List Page) (first second : List (List ℕ))
    → IsPart book first mid → IsPart mid second part
    → (i k : ℕ) → k < length (numbers_of second i)
    → get_or (numbers_of second i) k 0 < length (numbers_of first i)
places_inside book mid part first second outer inner i k room =
    let inside : get_or (numbers_of second i) k 0 < calls_of mid i
    = original_is_call mid second part inner (record { caller = i; number = k })
    (omega (arith, room, inner.calls i)) in
    omega (arith, inside, outer.calls i)

-- The call of the book that a call of a part of a part was is the original, by the first numbers,
-- of its original by the second ones.
pub original-composed : (book mid part : List Page) (first second : List (List ℕ))
    → IsPart book first mid → IsPart mid second part → (call : Call) → IsCall part call
    → original (composed first second) call ≡ original first (original second call)
original-composed book mid part first second outer inner call inside =
    let i : ℕ = call.caller in
    let few : call.number < length (numbers_of second i) = omega (arith, inside, inner.calls i) in
    same_call (original (composed first second) call) (original first (original second call)) refl
    (ap (λ (xs : List ℕ). get_or xs call.number 0) (numbers_of-composed first second i)
    ∙ get_or-picked (numbers_of first i) (numbers_of second i) call.number few)

-- The numbers of a part of a part are a list for each caller of the book.
pub wide-composed : (book mid : List Page) (first second : List (List ℕ)) → IsPart book first mid
    → length second ≡ length mid → length (composed first second) ≡ length book
wide-composed book mid first second outer wide =
    let kept_by : ℕ → List ℕ = λ i. picked (numbers_of first i) (numbers_of second i) in
    length-map-range_with_len kept_by 0 (length second) ∙ (wide ∙ outer.callers)

-- A part of a part of a book is a part of the book, by the first numbers at the places that the
-- second ones say.
pub part_of_part : (book mid part : List Page) (first second : List (List ℕ))
    → IsPart book first mid → IsPart mid second part → IsPart book (composed first second) part
part_of_part book mid part first second outer inner = record {
  callers = inner.callers ∙ outer.callers;
  calls = λ i. inner.calls i
      ∙ (sym (length-map (numbers_of second i) (λ (place : ℕ). get_or (numbers_of first i) place 0))
      ∙ sym (ap length (numbers_of-composed first second i)));
  rising = λ i. subst AreRising (sym (numbers_of-composed first second i))
      (picked-rising (numbers_of first i) (numbers_of second i) (outer.rising i) (inner.rising i)
      (places_inside book mid part first second outer inner i));
  operations = λ call inside.
      inner.operations call inside
      ∙ (outer.operations (original second call)
      (original_is_call mid second part inner call inside)
      ∙ ap (operation_of book)
      (sym (original-composed book mid part first second outer inner call inside)));
  answers = inner.answers;
  records = λ call small known.
      let inside : IsCall part call =
      call_from_answer mid second part inner call (slice_get_within _ call.number small known) in
      let middle = record_was mid second part inner call small known in
      let whole = record_was book first mid outer (original second call) middle.0 middle.1 in
      let found : record_of book (original (composed first second) call) ≡ Some whole.0
      = ap (record_of book) (original-composed book mid part first second outer inner call inside)
      ∙ whole.1 in
      let kept : IsRenumbered (composed first second) whole.0 small = record {
        reply = middle.2.reply ∙ whole.2.reply;
        view = λ i.
            middle.2.view i
            ∙ (ap (count_below (numbers_of second i)) (whole.2.view i)
            ∙ (sym (count_below-picked (numbers_of first i) (numbers_of second i)
            (get_or whole.0.view i 0) (outer.rising i) (inner.rising i)
            (places_inside book mid part first second outer inner i))
            ∙ ap (λ (xs : List ℕ). count_below xs (get_or whole.0.view i 0))
            (sym (numbers_of-composed first second i))));
      } in
      subst (λ o. IsSomeAnd o (λ (w : Record). IsRenumbered (composed first second) w small))
      (sym found) kept;
}
