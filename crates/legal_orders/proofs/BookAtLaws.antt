-- The laws of the book at a cut.
use Rattle.std.proofs.Common.{List, take, subst, arith}
use Rattle.std.proofs.lemmas.Option.{slice_get_within}
use Rattle.book_base.specs.Cut.{Holds}
use Rattle.book_base.specs.Book.{Page, IsCall, answered}
use Rattle.book_base.specs.BookAt.{book_at}
use Rattle.book_base.specs.Order.{IsLegalOrder, HasLegalOrder}
use Rattle.legal_orders.specs.BooksAtCuts.{IsTheBookAt, IsTheOnlyOne, StaysValid, IsTheBookAtTheSmaller, RecordCountsAreTheCut, KeepsEachRecord, IsHeldByAView, KeepsEachHeldCall, KeepsEachOperation, HasOneWhereTheBookHas}
use Rattle.legal_orders.specs.Finality.{SomePrefixIsLegal, SmallerHasOne, LargerHasNone}
use Rattle.legal_orders.proofs.BookAt.{answered_at, books_at_are_one, book_at_of_book_at, held_is_call, record_of-all}
use Rattle.legal_orders.proofs.BookAt as BookAt
use Rattle.legal_orders.proofs.Final.{some_prefix_is_legal, whole_order_is_legal}

pub is_the_book_at : IsTheBookAt
is_the_book_at book cut valid = BookAt.book_at_is_the_book_at book cut valid

pub is_the_only_one : IsTheOnlyOne
is_the_only_one book cut part valid at =
    books_at_are_one book cut part (book_at cut book) at (is_the_book_at book cut valid)

pub stays_valid : StaysValid
stays_valid book cut valid =
    BookAt.book_at_is_valid book cut (book_at cut book) valid (is_the_book_at book cut valid)

pub is_the_book_at_the_smaller : IsTheBookAtTheSmaller
is_the_book_at_the_smaller book smaller larger valid within =
    let part = book_at larger book in
    is_the_only_one book smaller (book_at smaller part) valid
    (book_at_of_book_at book larger smaller part within (is_the_book_at book larger valid)
    (book_at smaller part)
    (is_the_book_at part smaller (stays_valid book larger valid)))

pub record_counts_are_the_cut : RecordCountsAreTheCut
record_counts_are_the_cut book cut wide within = BookAt.answered-book_at book cut wide within

pub keeps_each_record : KeepsEachRecord
keeps_each_record book call valid = record_of-all book (book_at (answered book) book)
    (is_the_book_at book (answered book) valid) call

pub keeps_each_held_call : KeepsEachHeldCall
keeps_each_held_call book call valid =
    let at = is_the_book_at book (answered book) valid in (
      λ (h : IsCall (book_at (answered book) book) call).
          let held = (at.calls call).0 h in
          (held_is_call book (answered book) call valid held, (held.0, held.1, held.3, held.4)),
      λ (h : IsCall book call × IsHeldByAView book call).
          let there : Holds (answered book) h.1.0 = omega
          (arith, answered_at book h.1.0.caller, slice_get_within _ h.1.0.number h.1.1 h.1.2) in
          (at.calls call).1 (h.1.0, h.1.1, there, h.1.2, h.1.3),
    )

pub keeps_each_operation : KeepsEachOperation
keeps_each_operation book call valid h =
    (is_the_book_at book (answered book) valid).operations call h

pub has_one_where_the_book_has : HasOneWhereTheBookHas
has_one_where_the_book_has spec book valid =
    let part = book_at (answered book) book in
    let at = is_the_book_at book (answered book) valid in (
      λ (h : HasLegalOrder spec part). (
        h.0,
        whole_order_is_legal spec book (answered book) part h.0 valid at
            (record_of-all book part at) h.1,
      ),
      λ (h : HasLegalOrder spec book).
          let prefix = some_prefix_is_legal spec book (answered book) part h.0 at h.1 in
          (take prefix.0 h.0, prefix.1),
    )

pub some_prefix_of_larger_is_legal : SomePrefixIsLegal
some_prefix_of_larger_is_legal spec book smaller larger order valid within legal =
    let part = book_at larger book in
    let found = some_prefix_is_legal spec part smaller (book_at smaller part) order
    (is_the_book_at part smaller (stays_valid book larger valid)) legal in (
      found.0,
      subst (λ (b : List Page). IsLegalOrder spec b (take found.0 order))
          (is_the_book_at_the_smaller book smaller larger valid within) found.1,
    )

pub smaller_has_one : SmallerHasOne
smaller_has_one spec book smaller larger valid within h =
    let found = some_prefix_of_larger_is_legal spec book smaller larger h.0 valid within h.1 in
    (take found.0 h.0, found.1)

pub larger_has_none : LargerHasNone
larger_has_none spec book smaller larger valid within none h =
    none (smaller_has_one spec book smaller larger valid within h)
