-- A book without one of its calls.
use Rattle.std.proofs.Common.{◌≡◌, ◌≢◌, ℕ, zero, suc, ◌+◌, ◌-◌, ◌<◌, ◌≤◌, ◌∙◌, nat_eq, List, [], ◌∷◌, length, map, sum, get_or, Some, refl, sym, ap, subst, inl, inr, zero-add, arith}
use Rattle.std.specs.List.{range_with_len}
use Rattle.std.proofs.lemmas.Bool.{cases_lt, cases_eq, cond-true, cond-false, eq-eqb, ne_eqb}
use Rattle.std.proofs.lemmas.List.{get_or_append_left, get_or-append_right, get_or_past, length-append, length-map}
use Rattle.std.proofs.lemmas.List.FromFn.{get_or-range_with_len, length-range_with_len, get_or-map-range_with_len, length-map-range_with_len}
use Rattle.std.proofs.lemmas.List.Sums.{sum_by-cons}
use Rattle.std.proofs.lemmas.Option.{slice_get_within, slice_get-get_or}
use Rattle.list_laws.proofs.Totals.{sum-within}
use Rattle.book_base.specs.declared.call.Call.{Call}
use Rattle.book_base.specs.Book.{Page, page_of, calls_of, IsCall, operation_of, announced}
use Rattle.book_base.proofs.PageLemmas.{caller_from_call}
use Rattle.book_base.proofs.GrowthLemmas.{announced_at}
use Rattle.legal_orders.proofs.LegalOrder.{same_call}
use Rattle.smaller_book.specs.Part.{size_of, numbers_of, AreRising, original, IsNamed, IsPart}
use Rattle.smaller_book.specs.Numbers.{AreNumbersOf}
use Rattle.smaller_book.specs.Minimal.{numbers_except, row_but, all_but}
use Rattle.smaller_book.proofs.LeastCuts.{range-rising}
use Rattle.smaller_book.proofs.Building.{length-rising}

-- Of n numbers from 0 up, without one of them, n - 1 are left.
length-numbers_except : (n k : ℕ) → k < n → length (numbers_except n k) + 1 ≡ n
length-numbers_except n k inside =
    omega (
      arith,
      length-append (range_with_len 0 k) (range_with_len (k + 1) (n - (k + 1))),
      length-range_with_len 0 k,
      length-range_with_len (k + 1) (n - (k + 1)),
    )

but_before : (n k j : ℕ) → j < k → get_or (numbers_except n k) j 0 ≡ j
but_before n k j less =
    get_or_append_left (range_with_len 0 k) (range_with_len (k + 1) (n - (k + 1))) 0 j
    (omega (arith, length-range_with_len 0 k, less))
    ∙ (get_or-range_with_len 0 k j 0 less ∙ zero-add j)

but_after : (n k j : ℕ) → k < n → k ≤ j → j + 1 < n → get_or (numbers_except n k) j 0 ≡ j + 1
but_after n k j inside most less =
    let there : get_or (range_with_len (k + 1) (n - (k + 1))) (j - k) 0 ≡ k + 1 + (j - k) =
    get_or-range_with_len (k + 1) (n - (k + 1)) (j - k) 0 (omega arith) in
    get_or-append_right (range_with_len 0 k) (range_with_len (k + 1) (n - (k + 1))) k j 0
    (length-range_with_len 0 k) most ∙ (there ∙ omega arith)

rising-numbers_except : (n k : ℕ) → k < n → AreRising (numbers_except n k)
rising-numbers_except n k inside i j less room =
    let few : j + 1 < n = omega (arith, length-numbers_except n k inside, room) in
    elim (cases_lt i k) [
      | inl before ↦ elim (cases_lt j k) [
        | inl both ↦ omega (arith, but_before n k i before, but_before n k j both, less)
        | inr after ↦ omega (arith, but_before n k i before, but_after n k j inside after few, less)
      ]
      | inr after ↦ omega (
        arith,
        but_after n k i inside after (omega arith),
        but_after n k j inside (omega arith) few,
        less,
      )
    ]

inside-numbers_except : (n k j : ℕ) → k < n → j < length (numbers_except n k)
    → get_or (numbers_except n k) j 0 < n
inside-numbers_except n k j inside room =
    let few : j + 1 < n = omega (arith, length-numbers_except n k inside, room) in
    elim (cases_lt j k) [
      | inl before ↦ omega (arith, but_before n k j before)
      | inr after ↦ omega (arith, but_after n k j inside after few)
    ]

-- Each number below n but the one that is left out is among those that are kept.
has-numbers_except : (n k other : ℕ) → k < n → other < n → other ≢ k → (j : ℕ)
    × (j < length (numbers_except n k)) × (get_or (numbers_except n k) j 0 ≡ other)
has-numbers_except n k other inside here apart =
    elim (cases_lt other k) [
      | inl before ↦
          (other, omega (arith, length-numbers_except n k inside), but_before n k other before)
      | inr most ↦
          let after : k < other = elim (cases_lt k other) [
            | inl lt ↦ lt
            | inr le ↦ absurd (apart (omega arith))
          ] in
          let same : other - 1 + 1 ≡ other = omega arith in (
            other - 1,
            omega (arith, length-numbers_except n k inside),
            but_after n k (other - 1) inside (omega arith) (omega arith) ∙ same,
          )
    ]

-- In a book without a call, the numbers of the call's own caller are those of its calls but this
-- one.
numbers_of-own : (book : List Page) (call : Call) → IsCall book call → numbers_of
    (all_but book call) call.caller ≡ numbers_except (calls_of book call.caller) call.number
numbers_of-own book call inside =
    let kept_by : ℕ → List ℕ = row_but book call in
    get_or-map-range_with_len kept_by 0 (length book) call.caller
    call.caller [] (caller_from_call book call.caller call.number inside) (zero-add call.caller)
    ∙ cond-true (nat_eq call.caller call.caller)
    (numbers_except (calls_of book call.caller) call.number)
    (range_with_len 0 (calls_of book call.caller)) (eq-eqb call.caller call.caller refl)

numbers_of-other : (book : List Page) (call : Call) (i : ℕ) → i ≢ call.caller → i < length book
    → numbers_of (all_but book call) i ≡ range_with_len 0 (calls_of book i)
numbers_of-other book call i apart inside =
    let kept_by : ℕ → List ℕ = row_but book call in
    get_or-map-range_with_len kept_by 0 (length book) i i [] inside (zero-add i)
    ∙ cond-false (nat_eq i call.caller) (numbers_except (calls_of book i) call.number)
    (range_with_len 0 (calls_of book i)) (ne_eqb i call.caller apart)

numbers_of-past : (book : List Page) (call : Call) (i : ℕ) → length book ≤ i
    → numbers_of (all_but book call) i ≡ []
numbers_of-past book call i past =
    let kept_by : ℕ → List ℕ = row_but book call in
    get_or_past (map kept_by (range_with_len 0 (length book)))
    i [] (omega (arith, length-map-range_with_len kept_by 0 (length book), past))

-- A property of a number and its list in the numbers of all calls but one holds of each number
-- where it holds of the call's own caller, of each other caller, and, with no numbers, of each
-- number that is no caller of the book.
cases_all_but : (book : List Page) (call : Call) → IsCall book call → (P : ℕ → List ℕ → Type 0)
    → P call.caller (numbers_except (calls_of book call.caller) call.number)
    → ((i : ℕ) → i ≢ call.caller → i < length book → P i (range_with_len 0 (calls_of book i)))
    → ((i : ℕ) → length book ≤ i → P i []) → (i : ℕ) → P i (numbers_of (all_but book call) i)
cases_all_but book call inside P own others past i =
    elim (cases_eq i call.caller) [
      | inl e ↦ subst (λ (j : ℕ). P j (numbers_of (all_but book call) j)) (sym e)
          (subst (P call.caller) (sym (numbers_of-own book call inside)) own)
      | inr apart ↦ elim (cases_lt i (length book)) [
        | inl here ↦
            subst (P i) (sym (numbers_of-other book call i apart here)) (others i apart here)
        | inr none ↦ subst (P i) (sym (numbers_of-past book call i none)) (past i none)
      ]
    ]

-- The numbers of all calls of a book but one are rising numbers of its calls, a list for each
-- caller.
pub all_but_are_numbers : (book : List Page) (call : Call) → IsCall book call
    → AreNumbersOf book (all_but book call)
all_but_are_numbers book call inside = record {
  wide =
      let kept_by : ℕ → List ℕ = row_but book call in
      length-map-range_with_len kept_by 0 (length book);
  rising = cases_all_but book call inside (λ i xs. AreRising xs)
      (rising-numbers_except (calls_of book call.caller) call.number inside)
      (λ i apart here. range-rising (calls_of book i))
      (λ i past j k less room. absurd (omega arith));
  inside = cases_all_but book call inside
      (λ i xs. (k : ℕ) → k < length xs → get_or xs k 0 < calls_of book i)
      (λ k room. inside-numbers_except (calls_of book call.caller) call.number k inside room)
      (λ i apart here k room. omega (
        arith,
        get_or-range_with_len 0 (calls_of book i) k 0
            (omega (arith, length-range_with_len 0 (calls_of book i), room)),
        length-range_with_len 0 (calls_of book i),
        room,
      ))
      (λ i past k room. absurd (omega arith));
}

-- What holds of a call holds of each call that the book without this one call lacks.
pub lacks_one : (P : Call → Type 0) (book : List Page) (call : Call) → IsCall book call → P call
    → (other : Call) → IsCall book other → ¬ IsNamed (all_but book call) other → P other
lacks_one P book call inside claim other there lacking =
    elim (cases_eq other.caller call.caller) [
      | inl e ↦ elim (cases_eq other.number call.number) [
        | inl same ↦ subst P (sym (same_call other call e same)) claim
        | inr apart ↦
            let xs : List ℕ = numbers_except (calls_of book call.caller) call.number in
            let found = has-numbers_except (calls_of book call.caller) call.number other.number
            inside (subst (λ (i : ℕ). other.number < calls_of book i) e there) apart in
            let own : numbers_of (all_but book call) other.caller ≡ xs =
            ap (numbers_of (all_but book call)) e ∙ numbers_of-own book call inside in
            let Has : List ℕ → Type 0 =
            λ l. (k : ℕ) × (k < length l) × (get_or l k 0 ≡ other.number) in
            absurd (lacking (subst Has (sym own) found))
      ]
      | inr apart ↦
          let n : ℕ = calls_of book other.caller in
          let Has : List ℕ → Type 0 =
          λ l. (k : ℕ) × (k < length l) × (get_or l k 0 ≡ other.number) in
          let found : Has (range_with_len 0 n) = (
            other.number,
            omega (arith, length-range_with_len 0 n, there),
            get_or-range_with_len 0 n other.number 0 there ∙ zero-add other.number,
          ) in
          absurd (lacking (subst Has (sym (numbers_of-other book call other.caller apart
          (caller_from_call book other.caller other.number there))) found))
    ]

-- The call of the book that a call of a part was is a call of the book.
pub original_is_call : (book : List Page) (names : List (List ℕ)) (part : List Page)
    → IsPart book names part → (call : Call) → IsCall part call → IsCall book (original names call)
original_is_call book names part is call inside =
    let op : ℕ = get_or (page_of part call.caller).operations call.number 0 in
    let known : operation_of part call ≡ Some op =
    slice_get-get_or (page_of part call.caller).operations call.number 0 inside in
    slice_get_within (page_of book call.caller).operations (original names call).number op
    (sym (is.operations call inside) ∙ known)

-- A part has at most as many calls of each caller as the book.
pub calls-within : (book : List Page) (names : List (List ℕ)) (part : List Page)
    → IsPart book names part → (i : ℕ) → calls_of part i ≤ calls_of book i
calls-within book names part is i =
    let few : length (numbers_of names i) ≤ calls_of book i = length-rising (numbers_of names i)
    (calls_of book i) (is.rising i) (λ (k : ℕ) (room : k < length (numbers_of names i)).
    original_is_call book names part is (record { caller = i; number = k })
    (omega (arith, room, is.calls i))) in
    omega (arith, few, is.calls i)

-- A part has at most as many calls as the book.
pub size-within : (book : List Page) (names : List (List ℕ)) (part : List Page)
    → IsPart book names part → size_of part ≤ size_of book
size-within book names part is =
    sum-within (announced part) (announced book) (omega (
      arith,
      length-map part (λ (p : Page). length p.operations),
      length-map book (λ (p : Page). length p.operations),
      is.callers,
    ))
    (λ (i : ℕ).
    omega (arith, announced_at part i, announced_at book i, calls-within book names part is i))

sum-less : (xs ys : List ℕ) (i : ℕ) → length xs ≡ length ys
    → ((j : ℕ) → get_or xs j 0 ≤ get_or ys j 0) → get_or xs i 0 < get_or ys i 0 → sum xs < sum ys
sum-less [] [] i long within less = absurd (omega arith)
sum-less [] (y ∷ ys) i long within less = absurd (omega (arith, long))
sum-less (x ∷ xs) [] i long within less = absurd (omega (arith, long))
sum-less (x ∷ xs) (y ∷ ys) zero long within less =
    let rest : sum xs ≤ sum ys = sum-within xs ys (omega arith) (λ j. within (suc j)) in
    omega (arith, sum_by-cons (λ (n : ℕ). n) x xs, sum_by-cons (λ (n : ℕ). n) y ys, rest, less)
sum-less (x ∷ xs) (y ∷ ys) (suc i) long within less =
    let rest : sum xs < sum ys = sum-less xs ys i (omega arith) (λ j. within (suc j)) less in
    omega (arith, sum_by-cons (λ (n : ℕ). n) x xs, sum_by-cons (λ (n : ℕ). n) y ys, rest, within 0)

-- A part that has fewer calls of some caller than the book has fewer calls in all.
pub size-less_at : (book : List Page) (names : List (List ℕ)) (part : List Page) (i : ℕ)
    → IsPart book names part → calls_of part i < calls_of book i → size_of part < size_of book
size-less_at book names part i is less =
    sum-less (announced part) (announced book) i
    (length-map part (λ (p : Page). length p.operations)
    ∙ (is.callers ∙ sym (length-map book (λ (p : Page). length p.operations))))
    (λ (j : ℕ).
    omega (arith, announced_at part j, announced_at book j, calls-within book names part is j))
    (omega (arith, less, announced_at part i, announced_at book i))

-- The part of a book without one of its calls has fewer calls than the book.
pub size-less : (book : List Page) (call : Call) (part : List Page) → IsCall book call
    → IsPart book (all_but book call) part → size_of part < size_of book
size-less book call part inside is =
    let i : ℕ = call.caller in
    let own : length (numbers_of (all_but book call) i) + 1 ≡ calls_of book i
    = ap (λ (xs : List ℕ). length xs + 1) (numbers_of-own book call inside)
    ∙ length-numbers_except (calls_of book i) call.number inside in
    size-less_at book (all_but book call) part i is (omega (arith, own, is.calls i))
