use Rattle.std.proofs.Common.{◌∙◌, sym, subst}
use Rattle.list_laws.proofs.Options.{none_from_is_some}
use Rattle.std.specs.Prelude.{IfNone}
use Rattle.smaller_book.specs.Part.{IsPart, KeepsAnswers}
use Rattle.smaller_book.specs.Numbers.{numbers_in, AreNumbersOf}
use Rattle.smaller_book.specs.Settings.{LacksOnlyUnseen, IsWithoutUnseen}
use Rattle.smaller_book.proofs.Removing.{size-less_at}
use Rattle.smaller_book.proofs.Settings.{words_tell}
use Rattle.smaller_book.proofs.Steps.{unseen_evidence}
use Rattle.smaller_book.proofs.kept.illegal_part.Goals as goal

pub part-requires : goal.part-requires
part-requires c =
    let book = c.args.book.now in
    subst (λ rows. AreNumbersOf book (numbers_in rows))
    (sym c.deref-2.ensures.value) c.in_ok-numbers.ensures

pub returns-then-branch : goal.returns-then-branch
returns-then-branch c =
    let kind = c.args.kind in
    let book = c.args.book.now in
    let names = numbers_in c.in_ok-numbers.numbers.items in
    let small = c.in_ok-smaller.smaller in
    let without : IsWithoutUnseen kind book names small = record {
      wide = c.in_ok-numbers.ensures.wide;
      is_part = subst (λ rows. IsPart book (numbers_in rows) small) c.deref-2.ensures.value
          c.in_ok-smaller.ensures.part;
      answers = subst (λ rows. KeepsAnswers book (numbers_in rows) small) c.deref-2.ensures.value
          c.in_ok-smaller.ensures.answers;
      lacks = subst (λ rows. LacksOnlyUnseen kind book (numbers_in rows)) c.deref.ensures.value
          (subst (λ found. IfNone found
          (LacksOnlyUnseen kind book (numbers_in c.deref.result.now)))
          (none_from_is_some c.first_seen.result (sym c.is_some.ensures ∙ c.if-is_some.false))
          c.first_seen.ensures.none);
    } in
    let fewer = c.has_fewer.ensures c.if-not-has_fewer.false in
    record {
      smaller = record {
        evidence = unseen_evidence kind book names small c.callers-callers.ensures.valid
            c.callers-of_part.ensures.valid
            (record {
              wide = without.wide;
              is_part = without.is_part;
              answers = without.answers;
              unseen = words_tell kind book names without.lacks;
            });
        illegal = c.in_ok-is_illegal.ensures.illegal c.if-branch.true;
        fewer = size-less_at book names small fewer.0 without.is_part fewer.1;
      };
      unseen = without;
    }
