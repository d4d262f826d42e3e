-- Parts of books are books.
use Rattle.std.proofs.Common.{◌≡◌, ℕ, ◌+◌, ◌<◌, List, length, get_or, Some, inl, inr, ap, ◌∙◌, arith}
use Rattle.std.proofs.lemmas.Bool.{cases_lt}
use Rattle.std.proofs.lemmas.Option.{slice_get_within}
use Rattle.book_base.specs.declared.call.Call.{Call}
use Rattle.book_base.specs.declared.call.Record.{Record}
use Rattle.book_base.specs.Cut.{IsWithin}
use Rattle.book_base.specs.Book.{Page, page_of, answers_of, record_of, IsValid}
use Rattle.book_base.specs.Pruning.{HasOneOpen}
use Rattle.book_base.proofs.GrowthLemmas.{announced_at}
use Rattle.smaller_book.specs.Part.{numbers_of, count_below, IsPart, IsRenumbered, KeepsAnswers}
use Rattle.smaller_book.proofs.Counts.{count_below-within, count_below-monotone, count_below-past, below_from_counted}
use Rattle.smaller_book.proofs.Following.{record_was}
use Rattle.locality.specs.Locality.{PartsAreBooks}

module _ (book : List Page) (names : List (List ℕ)) (part : List Page)
    (is : IsPart book names part) where
  -- of two views the one that is within the other stays so
  views_within : (one other small next : Record) → IsRenumbered names one small
      → IsRenumbered names other next → IsWithin one.view other.view
      → IsWithin small.view next.view
  views_within one other small next a b within i = omega (
    arith,
    a.view i,
    b.view i,
    count_below-monotone (numbers_of names i) (get_or one.view i 0) (get_or other.view i 0)
        (is.rising i) (within i),
  )

  part_is_valid : IsValid book
      → ((call : Call) (r : Record) → record_of part call ≡ Some r → length r.view ≡ length part)
      → IsValid part
  part_is_valid valid wide = record {
    answers = is.answers;
    wide = wide;
    within = λ call r at i. let was = record_was book names part is call r at in
        omega (
          arith,
          was.2.view i,
          count_below-within (numbers_of names i) (get_or was.0.view i 0),
          is.calls i,
          announced_at part i,
        );
    own = λ call r at. let was = record_was book names part is call r at in
        let numbers = numbers_of names call.caller in
        let inside : call.number < length numbers = omega (
          arith,
          slice_get_within (page_of part call.caller).records call.number r at,
          is.answers call.caller,
          is.calls call.caller,
        ) in
        was.2.view call.caller
        ∙ ap (count_below numbers)
        (valid.own (record { caller = call.caller; number = get_or numbers call.number 0 }) was.0
        was.1)
        ∙ count_below-past numbers call.number (is.rising call.caller) inside;
    comparable = λ a b r s at_a at_b.
        let one = record_was book names part is a r at_a in
        let other = record_was book names part is b s at_b in
        elim (valid.comparable _ _ one.0 other.0 one.1 other.1) [
          | inl within ↦ inl (views_within one.0 other.0 r s one.2 other.2 within)
          | inr within ↦ inr (views_within other.0 one.0 s r other.2 one.2 within)
        ];
  }

  part_has_one_open : KeepsAnswers book names part → HasOneOpen book → HasOneOpen part
  part_has_one_open keeps one_open call r i at =
      let was = record_was book names part is call r at in
      let numbers = numbers_of names i in
      let bound = get_or was.0.view i 0 in
      let known = one_open _ was.0 i was.1 in
      let few = count_below-within numbers bound in
      elim (cases_lt (answers_of part i + 1) (count_below numbers bound)) [
        | inr small ↦ omega (arith, small, was.2.view i)
        | inl more ↦
            let last = below_from_counted numbers bound (answers_of part i + 1) more in
            let rises = is.rising i (answers_of part i) (answers_of part i + 1) (omega arith)
            (omega (arith, more, few)) in
            let answered = keeps (record { caller = i; number = answers_of part i })
            (omega (arith, more, few, is.calls i)) (omega (arith, rises, last, known)) in
            absurd (omega (arith, answered))
      ]

pub parts_are_books : PartsAreBooks
parts_are_books key k book names part is = (
  part_is_valid book names part is.is_part,
  part_has_one_open book names part is.is_part is.answers,
)
