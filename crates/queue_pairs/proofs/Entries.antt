-- What the entries of a table say of the calls of its book.
use Rattle.std.proofs.Common.{◌≡◌, ℕ, ◌<◌, ◌∙◌, List, [], length, get_or, Some, sym, ap, inl, inr, slice_get, arith}
use Rattle.std.proofs.lemmas.Bool.{cases_lt}
use Rattle.std.proofs.lemmas.List.{get_or_past}
use Rattle.std.proofs.lemmas.Option.{none-some, slice_get_cases, get_or_from_slice_get}
use Rattle.book_base.specs.declared.call.Call.{Call}
use Rattle.book_base.specs.declared.call.Record.{Record}
use Rattle.book_base.specs.Book.{Page, answers_of, calls_of, IsCall, record_of}
use Rattle.book_base.proofs.PageLemmas.{caller_from_call}
use Rattle.book_base.proofs.ViewLemmas.{answer_stands}
use Rattle.legal_orders.specs.Container.{Reading}
use Rattle.queue_pairs.specs.declared.TheConstants.{NEVER}
use Rattle.queue_pairs.specs.declared.table.Table.{Table}
use Rattle.queue_pairs.specs.declared.table.TimedCall.{TimedCall}
use Rattle.queue_pairs.specs.Moments.{moment_of}
use Rattle.queue_pairs.specs.Tables.{rows_of, timed_at, IsTimed, IsTable}

-- An entry of a book's table is right for the call of its caller and number.
pub timed-is : (reading : Reading) (book : List Page) (table : Table) (i n : ℕ) (t : TimedCall)
    → IsTable reading book table → timed_at table i n ≡ Some t
    → IsTimed reading book (record { caller = i; number = n }) t
timed-is reading book table i n t is at =
    let rows : List (List TimedCall) = rows_of table in
    elim (slice_get_cases rows i).1 [
      | inl here ↦
          let row : get_or rows i [] ≡ here.0 = get_or_from_slice_get rows i here.0 [] here.2 in
          (is.rows.rows i here.0 here.2).calls n t
          (ap (λ (r : List TimedCall). slice_get r n) (sym row) ∙ at)
      | inr past ↦
          let none : get_or rows i [] ≡ [] = get_or_past rows i [] past.0 in
          absurd (none-some t (ap (λ (r : List TimedCall). slice_get r n) (sym none) ∙ at))
    ]

-- The table of a book has an entry for each call of the book.
pub timed-there : (reading : Reading) (book : List Page) (table : Table) (call : Call)
    → IsTable reading book table → IsCall book call
    → (t : TimedCall) × (timed_at table call.caller call.number ≡ Some t)
timed-there reading book table call is there =
    let rows : List (List TimedCall) = rows_of table in
    let inside : call.caller < length rows
    = omega (arith, caller_from_call book call.caller call.number there, is.rows.size) in
    elim (slice_get_cases rows call.caller).1 [
      | inl here ↦
          let row : get_or rows call.caller [] ≡ here.0
          = get_or_from_slice_get rows call.caller here.0 [] here.2 in
          let size : length here.0 ≡ calls_of book call.caller
          = (is.rows.rows call.caller here.0 here.2).size in
          elim (slice_get_cases here.0 call.number).1 [
            | inl found ↦
                (found.0, ap (λ (r : List TimedCall). slice_get r call.number) row ∙ found.2)
            | inr past ↦ absurd (omega (arith, past.0, size, there))
          ]
      | inr past ↦ absurd (omega (arith, past.0, inside))
    ]

-- A call whose last moment is before `NEVER` is answered, and this is the moment of its own view.
pub answered-last : (reading : Reading) (book : List Page) (t : TimedCall)
    → IsTimed reading book t.call t → t.span.last < NEVER
    → (r : Record) × (record_of book t.call ≡ Some r) × (t.span.last ≡ moment_of r)
answered-last reading book t timed few =
    elim (cases_lt t.call.number (answers_of book t.call.caller)) [
      | inl answered ↦
          let there = answer_stands book t.call answered in
          (there.0, there.1, (timed.span.answered there.0 there.1).0)
      | inr past ↦ absurd (omega (arith, few, timed.span.unanswered past))
    ]
