-- Minimal books at earlier cuts and moments.
use Rattle.std.proofs.Common.{◌≡◌, ℕ, ◌+◌, ◌<◌, ◌∙◌, List, length, get_or, ap, inl, inr, arith}
use Rattle.std.proofs.lemmas.Bool.{cases_lt}
use Rattle.std.proofs.lemmas.List.{length-take-le}
use Rattle.book_base.specs.declared.call.Call.{Call}
use Rattle.book_base.specs.declared.call.Record.{Record}
use Rattle.book_base.specs.Cut.{IsWithin}
use Rattle.book_base.specs.Book.{Page, page_of, answers_of, answered, IsValid}
use Rattle.book_base.specs.BookAt.{book_at}
use Rattle.book_base.specs.Pruning.{HasOneOpen}
use Rattle.book_base.proofs.ViewLemmas.{answer_stands, record_from_part, answered_at}
use Rattle.legal_orders.proofs.BookAt.{records-book_at}
use Rattle.legal_orders.proofs.BookAtLaws.{is_the_book_at}
use Rattle.smaller_book.specs.Minimal.{IsMoment, ClosedCutsAreMoments, MinimalAtMoments, FewCallsAtCuts, SeveralOpenAtCuts}

-- Where a cut lies within a book's records, the book at the cut has of each caller as many records
-- as the cut counts.
answers-cut : (book : List Page) (cut : List ℕ) (i : ℕ) → IsWithin cut (answered book)
    → answers_of (book_at cut book) i ≡ get_or cut i 0
answers-cut book cut i within =
    ap length (records-book_at cut book i)
    ∙ length-take-le (get_or cut i 0) (page_of book i).records
    (omega (arith, within i, answered_at book i))

-- In a valid book with one open, each closed cut is a moment: a call that a view holds, and that
-- isn't the first unanswered one at the cut, has a smaller view.
pub closed_cuts_are_moments : ClosedCutsAreMoments
closed_cuts_are_moments book cut valid one closed call r i held known =
    elim (cases_lt (get_or cut i 0 + 1) (get_or r.view i 0)) [
      | inl more ↦
          let next : Call = record { caller = i; number = get_or cut i 0 } in
          let answered_next : get_or cut i 0 < answers_of book i =
          omega (arith, more, one call r i known) in
          let there = answer_stands book next answered_next in
          let s : Record = there.0 in
          let less : get_or s.view i 0 < get_or r.view i 0 =
          omega (arith, valid.own next s there.1, more) in
          elim (valid.comparable call next r s known there.1) [
            | inl within ↦ absurd (omega (arith, within i, less))
            | inr within ↦
                let more_in_r : ¬ IsWithin r.view s.view = λ back. omega (arith, back i, less) in
                absurd (omega (arith, closed call next r s held known there.1 within more_in_r))
          ]
      | inr few ↦ omega (arith, few)
    ]

-- At each moment within its records, a valid book has one open.
pub moment_open : (book : List Page) (cut : List ℕ) → IsValid book → IsMoment book cut
    → IsWithin cut (answered book) → HasOneOpen (book_at cut book)
moment_open book cut valid moment within call r i there =
    let whole = record_from_part book cut (book_at cut book) (is_the_book_at book cut valid) call r
    there in
    omega (arith, moment call r i whole.0 whole.1, answers-cut book cut i within)

-- A minimal valid book has a legal order at each moment that lacks one of its records.
pub minimal_at_moments : MinimalAtMoments
minimal_at_moments kind book cut valid minimal moment i within less =
    minimal.earliest.earlier cut i within less
    (inr (inr (moment_open book cut valid moment within)))

-- A minimal book of at most `FEW_CALLS` calls has a legal order at each cut within its records that
-- lacks one of them.
pub few_calls_at_cuts : FewCallsAtCuts
few_calls_at_cuts kind book cut few minimal i within less =
    minimal.earliest.earlier cut i within less (inl few)

-- A minimal book that hasn't one open has a legal order at each cut within its records that lacks
-- one of them.
pub several_open_at_cuts : SeveralOpenAtCuts
several_open_at_cuts kind book cut several minimal i within less =
    minimal.earliest.earlier cut i within less (inr (inl several))
