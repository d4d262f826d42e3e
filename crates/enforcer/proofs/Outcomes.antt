-- What outcomes say of lines and of later outcomes.
use Rattle.std.proofs.Common.{refl, sym, subst, List}
use Rattle.book_base.specs.Book.{Page}
use Rattle.book_base.specs.Order.{HasLegalOrder}
use Rattle.legal_orders.proofs.BookAtLaws.{smaller_has_one}
use Rattle.world_core.specs.Calls.{book_in}
use Rattle.world_laws.proofs.Validity.{books_are_valid}
use Rattle.enforcer.specs.declared.outcome.Outcome.TheVariants.{Delivered, Illegal}
use Rattle.enforcer.specs.Enforced.{OutcomesAreVerdicts, ErrorsAreFinal, IllegalOutcomesAreErrors, IllegalOutcomesAreEvidence}

-- An outcome that is right by what its caller has peeked makes a right end of its call's line.
pub outcomes_are_verdicts : OutcomesAreVerdicts
outcomes_are_verdicts spec n l (Delivered reply view seen order) (book, gathered, legal) =
    (book, gathered, (order.items, legal))
outcomes_are_verdicts spec n l (Illegal reply view seen carried)
    (book, gathered, (same, none)) = (book, gathered, none)

-- An error is final: where the book of all callers' calls has no legal order at a cut, each outcome
-- that is right at a cut which contains that one is an error.
pub errors_are_final : ErrorsAreFinal
errors_are_final spec s locals lower
    (Delivered reply view seen order) together within none legal =
    absurd (none (smaller_has_one spec (book_in locals) lower seen
    (books_are_valid s locals together) within (order.items, legal)))
errors_are_final spec s locals lower
    (Illegal reply view seen carried) together within none right = refl

-- An illegal outcome is an error with what it carries.
pub illegal_outcomes_are_errors : IllegalOutcomesAreErrors
illegal_outcomes_are_errors reply view seen book standing = (
  record { record_is = refl; cut_is = refl; illegal = refl; line = refl; halted = refl },
  refl,
)

-- The book that an illegal outcome carries is that of all callers' calls at the seen cut.
pub illegal_outcomes_are_evidence : IllegalOutcomesAreEvidence
illegal_outcomes_are_evidence spec s i l locals reply view seen book right together mine =
    let found = right locals together mine in (
      found.0,
      subst (λ (pages : List Page). ¬ HasLegalOrder spec pages) (sym found.0) found.1,
    )
