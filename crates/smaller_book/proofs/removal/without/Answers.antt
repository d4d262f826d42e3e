use Rattle.std.proofs.Common.{List, sym, subst, inl}
use Rattle.book_base.specs.Book.{Page, IsCall}
use Rattle.seq_objects.specs.Objects.{kind_next}
use Rattle.smaller_book.specs.Part.{IsPart, KeepsAnswers}
use Rattle.smaller_book.specs.Numbers.{numbers_in, AreNumbersOf}
use Rattle.smaller_book.specs.ReadOnly.{IsReadOnly}
use Rattle.smaller_book.specs.Evidence.{IsEvidence}
use Rattle.smaller_book.specs.Minimal.{all_but}
use Rattle.smaller_book.proofs.Removing.{all_but_are_numbers, lacks_one, size-less}
use Rattle.smaller_book.proofs.Steps.{unseen_evidence}
use Rattle.smaller_book.proofs.removal.without.Goals as goal

pub all_numbers_but-requires : goal.all_numbers_but-requires
all_numbers_but-requires c = c.requires.call

pub part-requires : goal.part-requires
part-requires c =
    let book = c.args.book.now in
    let inside : IsCall book c.args.call = c.requires.call in
    subst (λ rows. AreNumbersOf book (numbers_in rows)) (sym c.deref.ensures.value)
    (subst (AreNumbersOf book) (sym c.in_ok-numbers.ensures)
    (all_but_are_numbers book c.args.call inside))

pub returns-then-branch-clause-smaller : goal.returns-then-branch-clause-smaller
returns-then-branch-clause-smaller c =
    let book = c.args.book.now in
    let call = c.args.call in
    let small : List Page = c.in_ok-smaller.smaller in
    let inside : IsCall book call = c.requires.call in
    let is : IsPart book (numbers_in c.in_ok-numbers.numbers.items) small =
    subst (λ rows. IsPart book (numbers_in rows) small) c.deref.ensures.value
    c.in_ok-smaller.ensures.part in
    let but : IsPart book (all_but book call) small =
    subst (λ names. IsPart book names small) c.in_ok-numbers.ensures is in
    let answers : KeepsAnswers book (all_but book call) small =
    subst (λ names. KeepsAnswers book names small) c.in_ok-numbers.ensures
    (subst (λ rows. KeepsAnswers book (numbers_in rows) small) c.deref.ensures.value
    c.in_ok-smaller.ensures.answers) in
    record {
      evidence = subst (λ names. IsEvidence c.args.kind book names small)
          (sym c.in_ok-numbers.ensures)
          (unseen_evidence c.args.kind book (all_but book call) small
          c.callers-callers.ensures.valid c.callers-of_part.ensures.valid
          (record {
            wide = (all_but_are_numbers book call inside).wide;
            is_part = but;
            answers = answers;
            unseen = λ other there unnamed.
                inl (lacks_one (IsReadOnly (kind_next c.args.kind) book) book call inside
                c.requires.goes other there unnamed);
          }));
      illegal = c.in_ok-is_illegal.ensures.illegal c.if-branch.true;
      fewer = size-less book call small inside but;
    }
