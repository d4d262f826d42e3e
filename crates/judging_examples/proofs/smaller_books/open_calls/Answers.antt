use Rattle.std.proofs.Common.{◌≡◌, ℕ, zero, suc, ◌+◌, ◌≤◌, [], ◌∷◌, get_or, slice_get, Some, refl, subst, arith}
use Rattle.std.proofs.lemmas.Option.{same_Some, slice_get_within}
use Rattle.book_base.specs.declared.call.Call.{Call}
use Rattle.book_base.specs.declared.call.Record.{Record}
use Rattle.book_base.specs.Book.{page_of, answers_of}
use Rattle.judging_examples.specs.Books.{answer}
use Rattle.seq_objects.specs.Replies.{reply_value}
use Rattle.judging_examples.specs.SmallerBooks.{one_open}
use Rattle.judging_examples.proofs.smaller_books.open_calls.Goals as goal

-- Each count of the only view is at most one more than the answers of its caller.
few_counts : (i : ℕ) → get_or (1 ∷ 1 ∷ []) i 0 ≤ answers_of one_open i + 1
few_counts zero = omega arith
few_counts (suc zero) = omega arith
few_counts (suc (suc i)) = omega arith

few : (caller number : ℕ) (r : Record) (i : ℕ) → slice_get (page_of one_open caller).records number
    ≡ Some r → get_or r.view i 0 ≤ answers_of one_open i + 1
few zero number r i e = let none = slice_get_within [] number r e in absurd (omega (arith, none))
few (suc zero) zero r i e =
    let it : Record = answer (reply_value 7) (1 ∷ 1 ∷ []) in
    let same : it ≡ r = same_Some it r e in
    subst (λ (s : Record). get_or s.view i 0 ≤ answers_of one_open i + 1) same (few_counts i)
few (suc zero) (suc number) r i e = let none = slice_get_within [] number r e in
    absurd (omega (arith, none))
few (suc (suc caller)) number r i e = let none = slice_get_within [] number r e in
    absurd (omega (arith, none))

pub returns-clause-two : goal.returns-clause-two
returns-clause-two c = λ holds.
    let call : Call = record { caller = 1; number = 0 } in
    let it : Record = answer (reply_value 7) (2 ∷ 1 ∷ []) in
    omega (arith, holds call it 0 refl)

pub returns-clause-keys_stay : goal.returns-clause-keys_stay
returns-clause-keys_stay c = λ holds.
    let call : Call = record { caller = 1; number = 0 } in
    let it : Record = answer (reply_value 7) (2 ∷ 1 ∷ []) in
    omega (arith, holds call it 0 refl)

pub returns-clause-one : goal.returns-clause-one
returns-clause-one c call r i known = few call.caller call.number r i known
