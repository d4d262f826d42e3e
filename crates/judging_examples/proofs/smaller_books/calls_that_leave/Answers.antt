use Rattle.std.proofs.Common.{◌≡◌, ℕ, List, [], ◌∷◌, length, refl, sym, ap, arith}
use Rattle.std.proofs.lemmas.Option.{none-some}
use Rattle.book_base.specs.Reaching.{Leaves}
use Rattle.smaller_book.specs.ReadOnly.{IsReadOnly}
use Rattle.judging_examples.specs.Books.{line_next, overtaken}
use Rattle.judging_examples.proofs.smaller_books.calls_that_leave.Goals as goal

-- The empty list isn't a list of one item.
one_is_not_none : (item : ℕ) → ◌≡◌ {A = List ℕ} [] (item ∷ []) → ⊥
one_is_not_none item same =
    let long : ◌≡◌ {A = ℕ} 0 1 = ap length same in
    omega (arith, long)

pub returns-clause-replies : goal.returns-clause-replies
returns-clause-replies c = (omega arith, λ reply may list replied. refl)

pub returns-clause-changes_nothing : goal.returns-clause-changes_nothing
returns-clause-changes_nothing c = (omega arith, λ reply may list replied. refl)

pub returns-clause-unanswered : goal.returns-clause-unanswered
returns-clause-unanswered c =
    λ (leaves : IsReadOnly line_next overtaken (record { caller = 0; number = 2 })).
    one_is_not_none 7 (sym (leaves.1 0 (λ r e. absurd (none-some r e)) [] refl))

pub returns-clause-takes : goal.returns-clause-takes
returns-clause-takes c = λ (leaves : Leaves line_next 0 6). one_is_not_none 6 (leaves (6 ∷ []) refl)

pub returns-clause-takes_none : goal.returns-clause-takes_none
returns-clause-takes_none c =
    λ (leaves : Leaves line_next 0 0). one_is_not_none 0 (leaves (0 ∷ []) refl)
