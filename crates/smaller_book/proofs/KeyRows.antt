-- The numbers of the calls that are about none of some keys.
use Rattle.std.proofs.Common.{◌≡◌, ℕ, ◌<◌, ◌∙◌, Bool, true, false, not, List, [], length, get_or, sym, ap, subst, inl, inr, zero-add, arith}
use Rattle.std.specs.List.{range_with_len}
use Rattle.std.proofs.lemmas.Bool.{cases_Bool, not-true}
use Rattle.std.proofs.lemmas.List.FromFn.{get_or-range_with_len, length-range_with_len, get_or-map-range_with_len}
use Rattle.book_base.specs.declared.call.Call.{Call}
use Rattle.book_base.specs.Book.{Page, calls_of, IsCall}
use Rattle.book_base.proofs.PageLemmas.{caller_from_call}
use Rattle.seq_objects.specs.declared.kind.Kind.{Kind}
use Rattle.smaller_book.specs.Part.{numbers_of, IsNamed}
use Rattle.smaller_book.specs.Numbers.{AreNumbersOf}
use Rattle.smaller_book.specs.Keys.{key_of_call, is_among, row_without, all_without}
use Rattle.smaller_book.proofs.Filtering.{filter-passes, filter-finds}
use Rattle.smaller_book.proofs.PassingRows.{passing_are_numbers}

-- Whether the call of a caller with this number is about none of these keys.
abbrev stays_in : Kind → (ℕ → Bool) → List Page → ℕ → ℕ → Bool
stays_in kind keys book i number =
    not (is_among keys (key_of_call kind book (record { caller = i; number = number })))

module _ (kind : Kind) (keys : ℕ → Bool) (book : List Page) where
  numbers_of-here : (i : ℕ) → i < length book
      → numbers_of (all_without kind keys book) i ≡ row_without kind keys book i
  numbers_of-here i inside =
      let remaining : ℕ → List ℕ = row_without kind keys book in
      get_or-map-range_with_len remaining 0 (length book) i i [] inside (zero-add i)

  -- The numbers of all calls that are about none of these keys are rising numbers of calls of the
  -- book, a list for each caller.
  pub all_without_are_numbers : AreNumbersOf book (all_without kind keys book)
  all_without_are_numbers = passing_are_numbers (stays_in kind keys book) book

  -- A call that is named is about none of these keys.
  pub named_stays : (call : Call) → IsCall book call → IsNamed (all_without kind keys book) call
      → is_among keys (key_of_call kind book call) ≡ false
  named_stays call inside named =
      let i : ℕ = call.caller in
      let row : numbers_of (all_without kind keys book) i ≡ row_without kind keys book i =
      numbers_of-here i (caller_from_call book i call.number inside) in
      let P : List ℕ → Type 0 = λ xs. (k : ℕ) × (k < length xs) × (get_or xs k 0 ≡ call.number) in
      let found : P (row_without kind keys book i) = subst P row named in
      let passes : stays_in kind keys book i (get_or (row_without kind keys book i) found.0 0)
      ≡ true = filter-passes (stays_in kind keys book i)
      (range_with_len 0 (calls_of book i)) found.0 0 found.1 in
      not-true (is_among keys (key_of_call kind book call))
      (sym (ap (stays_in kind keys book i) found.2) ∙ passes)

  -- A call that isn't named is about one of these keys.
  pub unnamed_goes : (call : Call) → IsCall book call → ¬ IsNamed (all_without kind keys book) call
      → is_among keys (key_of_call kind book call) ≡ true
  unnamed_goes call inside unnamed =
      elim (cases_Bool (is_among keys (key_of_call kind book call))) [
        | inl goes ↦ goes
        | inr stays ↦
            let i : ℕ = call.caller in
            let n : ℕ = calls_of book i in
            let row : numbers_of (all_without kind keys book) i ≡ row_without kind keys book i =
            numbers_of-here i (caller_from_call book i call.number inside) in
            let P : List ℕ → Type 0 =
            λ xs. (k : ℕ) × (k < length xs) × (get_or xs k 0 ≡ call.number) in
            let at : get_or (range_with_len 0 n) call.number 0 ≡ call.number =
            get_or-range_with_len 0 n call.number 0 inside ∙ zero-add call.number in
            let found = filter-finds (stays_in kind keys book i) (range_with_len 0 n) call.number 0
            (omega (arith, inside, length-range_with_len 0 n))
            (ap (stays_in kind keys book i) at ∙ ap not stays) in
            let there : P (row_without kind keys book i) = (found.0, found.1, found.2 ∙ at) in
            absurd (unnamed (subst P (sym row) there))
      ]
