use Rattle.std.proofs.Common.{ℕ, Bool, List, refl, sym, subst}
use Rattle.book_base.specs.Book.{Page}
use Rattle.smaller_book.specs.Part.{IsPart, KeepsAnswers}
use Rattle.smaller_book.specs.Numbers.{numbers_in, AreNumbersOf}
use Rattle.smaller_book.specs.Keys.{keys_from_to, all_without}
use Rattle.smaller_book.specs.Evidence.{IsEvidence}
use Rattle.smaller_book.proofs.KeyRows.{all_without_are_numbers}
use Rattle.smaller_book.proofs.Steps.{keys_evidence}
use Rattle.smaller_book.proofs.keyless.part_without.Goals as goal

pub part-requires : goal.part-requires
part-requires c =
    let book = c.args.book.now in
    subst (λ rows. AreNumbersOf book (numbers_in rows)) (sym c.deref.ensures.value)
    (subst (AreNumbersOf book) (sym c.in_ok-numbers.ensures)
    (all_without_are_numbers c.args.kind (keys_from_to c.args.first c.args.last) book))

pub returns-clause-part : goal.returns-clause-part
returns-clause-part c =
    let book = c.args.book.now in
    let small = c.in_ok-smaller.smaller in
    subst (λ names. IsPart book names small) c.in_ok-numbers.ensures
    (subst (λ rows. IsPart book (numbers_in rows) small) c.deref.ensures.value
    c.in_ok-smaller.ensures.part)

pub returns-clause-answers : goal.returns-clause-answers
returns-clause-answers c =
    let book = c.args.book.now in
    let small = c.in_ok-smaller.smaller in
    subst (λ names. KeepsAnswers book names small) c.in_ok-numbers.ensures
    (subst (λ rows. KeepsAnswers book (numbers_in rows) small) c.deref.ensures.value
    c.in_ok-smaller.ensures.answers)

pub returns-clause-evidence : goal.returns-clause-evidence
returns-clause-evidence c may =
    let kind = c.args.kind in
    let book = c.args.book.now in
    let small : List Page = c.in_ok-smaller.smaller in
    let keys : ℕ → Bool = keys_from_to c.args.first c.args.last in
    let names : List (List ℕ) = all_without kind keys book in
    subst (λ (ns : List (List ℕ)). IsEvidence kind book ns small) (sym c.in_ok-numbers.ensures)
    (keys_evidence kind book names small c.callers-callers.ensures.valid
    c.callers-of_part.ensures.valid
    (record {
      may_go = may;
      keys = keys;
      named = refl;
      is_part = returns-clause-part c;
      answers = returns-clause-answers c;
    }))
