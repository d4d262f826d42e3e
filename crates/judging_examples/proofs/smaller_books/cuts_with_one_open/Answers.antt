use Rattle.std.proofs.Common.{◌≡◌, ℕ, zero, suc, ◌+◌, ◌≤◌, [], ◌∷◌, List, get_or, slice_get, Some, refl, subst, inl, arith}
use Rattle.std.proofs.lemmas.Option.{same_Some, slice_get_within}
use Rattle.book_base.specs.declared.call.Call.{Call}
use Rattle.book_base.specs.declared.call.Record.{Record}
use Rattle.book_base.specs.Book.{Page, page_of, answers_of}
use Rattle.book_base.specs.BookAt.{book_at}
use Rattle.judging_examples.specs.Books.{answer}
use Rattle.seq_objects.specs.Replies.{reply_done, reply_value}
use Rattle.judging_examples.specs.SmallerBooks.{two_puts}
use Rattle.judging_examples.proofs.smaller_books.cuts_with_one_open.Goals as goal

-- The book `two_puts` at the cut without the last put.
abbrev part : List Page
part = book_at (1 ∷ 1 ∷ []) two_puts

-- Each count of the view of the first put is at most one more than the answers of its caller at the
-- cut.
first_counts : (i : ℕ) → get_or (1 ∷ 0 ∷ []) i 0 ≤ answers_of part i + 1
first_counts zero = omega arith
first_counts (suc zero) = omega arith
first_counts (suc (suc i)) = omega arith

second_counts : (i : ℕ) → get_or (2 ∷ 1 ∷ []) i 0 ≤ answers_of part i + 1
second_counts zero = omega arith
second_counts (suc zero) = omega arith
second_counts (suc (suc i)) = omega arith

few : (caller number : ℕ) (r : Record) (i : ℕ) → slice_get (page_of part caller).records number
    ≡ Some r → get_or r.view i 0 ≤ answers_of part i + 1
few zero zero r i e =
    let it : Record = answer reply_done (1 ∷ 0 ∷ []) in
    let same : it ≡ r = same_Some it r e in
    subst (λ (s : Record). get_or s.view i 0 ≤ answers_of part i + 1) same (first_counts i)
few zero (suc number) r i e = let none = slice_get_within [] number r e in
    absurd (omega (arith, none))
few (suc zero) zero r i e =
    let it : Record = answer (reply_value 5) (2 ∷ 1 ∷ []) in
    let same : it ≡ r = same_Some it r e in
    subst (λ (s : Record). get_or s.view i 0 ≤ answers_of part i + 1) same (second_counts i)
few (suc zero) (suc number) r i e = let none = slice_get_within [] number r e in
    absurd (omega (arith, none))
few (suc (suc caller)) number r i e = let none = slice_get_within [] number r e in
    absurd (omega (arith, none))

pub returns-clause-one : goal.returns-clause-one
returns-clause-one c call r i known = few call.caller call.number r i known

pub returns-clause-two : goal.returns-clause-two
returns-clause-two c = λ holds.
    let call : Call = record { caller = 1; number = 0 } in
    let it : Record = answer (reply_value 5) (2 ∷ 1 ∷ []) in
    omega (arith, holds call it 0 refl)

pub returns-clause-few : goal.returns-clause-few
returns-clause-few c = inl (omega arith)
