-- Cuts at which each view of the book holds at most one unanswered call of each caller.
use Rattle.std.proofs.Common.{◌≡◌, ℕ, ◌+◌, ◌<◌, ◌≤◌, ◌∙◌, List, length, get_or, set, Some, sym, ap, subst, inl, inr, arith}
use Rattle.std.proofs.lemmas.Bool.{cases_lt, cases_eq}
use Rattle.std.proofs.lemmas.List.{length-take, get_or-set_same, get_or-set_other}
use Rattle.book_base.specs.declared.call.Call.{Call}
use Rattle.book_base.specs.declared.call.Record.{Record}
use Rattle.book_base.specs.Cut.{Holds, IsWithin}
use Rattle.book_base.specs.Book.{Page, page_of, answers_of, record_of, IsValid}
use Rattle.book_base.specs.BookAt.{book_at}
use Rattle.book_base.specs.Pruning.{HasOneOpen}
use Rattle.legal_orders.proofs.BookAt.{record_of-part, records-book_at}
use Rattle.legal_orders.proofs.BookAtLaws.{is_the_book_at}

-- The book at a cut has no more records of a caller than the cut.
answers-few : (book : List Page) (cut : List ℕ) (i : ℕ)
    → answers_of (book_at cut book) i ≤ get_or cut i 0
answers-few book cut i = omega (
  arith,
  ap length (records-book_at cut book i),
  length-take (get_or cut i 0) (page_of book i).records,
)

-- Where the book has one open at a cut, the view of a record that the cut holds has at most one
-- call more of each caller than the cut has records.
pub open_view : (book : List Page) (cut : List ℕ) (call : Call) (r : Record) (i : ℕ) → IsValid book
    → HasOneOpen (book_at cut book) → Holds cut call → record_of book call ≡ Some r
    → get_or r.view i 0 ≤ get_or cut i 0 + 1
open_view book cut call r i valid one held known =
    let at = is_the_book_at book cut valid in
    let there : record_of (book_at cut book) call ≡ Some r
    = record_of-part book cut (book_at cut book) at call held ∙ known in
    omega (arith, one call r i there, answers-few book cut i)

-- Where the view of a record counts for some caller more than one call beyond a cut's records of
-- it, no cut within this one at which the book has one open holds the record.
pub open_lacks : (book : List Page) (cut other : List ℕ) (call : Call) (r : Record) (i : ℕ)
    → IsValid book → record_of book call ≡ Some r → get_or cut i 0 + 1 < get_or r.view i 0
    → IsWithin other cut → HasOneOpen (book_at other book)
    → get_or other call.caller 0 ≤ call.number
open_lacks book cut other call r i valid known more within one =
    elim (cases_lt call.number (get_or other call.caller 0)) [
      | inl held ↦ absurd (omega (
        arith,
        open_view book other call r i valid one held known,
        within i,
        more,
      ))
      | inr past ↦ omega (arith, past)
    ]

-- A cut that is within another one, and has at most this count of a caller, is within the other one
-- changed to this count of the caller.
pub within-set : (other cut : List ℕ) (i count : ℕ) → i < length cut → IsWithin other cut
    → get_or other i 0 ≤ count → IsWithin other (set cut i count)
within-set other cut i count inside within few j =
    elim (cases_eq j i) [
      | inl e ↦ subst (λ (k : ℕ). get_or other k 0 ≤ get_or (set cut i count) k 0) (sym e)
          (omega (arith, get_or-set_same cut i count 0 inside, few))
      | inr apart ↦ omega (arith, get_or-set_other cut i j count 0 apart, within j)
    ]
