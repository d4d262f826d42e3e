-- Books whose views hold at most one unanswered call of each caller.
use Rattle.std.proofs.Common.{◌≡◌, ℕ, ◌+◌, ◌<◌, ◌≤◌, List, length, get_or, Some, ap, inl, inr, arith}
use Rattle.std.proofs.lemmas.Bool.{cases_lt}
use Rattle.std.proofs.lemmas.Option.{slice_get_within}
use Rattle.book_base.specs.declared.call.Call.{Call}
use Rattle.book_base.specs.declared.call.Record.{Record}
use Rattle.book_base.specs.Book.{Page, IsValid, answers_of, record_of}
use Rattle.book_base.specs.Pruning.{HasOneOpen}
use Rattle.book_base.proofs.PageLemmas.{caller_from_answer}
use Rattle.book_base.proofs.ViewLemmas.{views_grow}

-- Each view of the records of the callers below a number holds at most one unanswered call of each
-- caller.
abbrev pub HasOneOpenBelow : List Page → ℕ → Type 0
HasOneOpenBelow book below = (call : Call) (r : Record) (i : ℕ) → call.caller < below
    → record_of book call ≡ Some r → get_or r.view i 0 ≤ answers_of book i + 1

-- the views of the callers below the next number hold at most one unanswered call of each caller,
-- where this caller has no records and those of the callers below it do
pub open_more-none : (book : List Page) (caller : ℕ) → HasOneOpenBelow book caller
    → answers_of book caller ≤ 0 → HasOneOpenBelow book (caller + 1)
open_more-none book caller h none call r i below there =
    elim (cases_lt call.caller caller) [
      | inl early ↦ h call r i early there
      | inr here ↦
          let at : call.caller ≡ caller = omega arith in
          absurd
          (omega (arith, none, slice_get_within _ call.number r there, ap (answers_of book) at))
    ]

-- the views of the callers below the next number hold at most one unanswered call of each caller,
-- where this caller's last view and those of the callers below it do
pub open_more-last : (book : List Page) (caller number : ℕ) (last : Record) → IsValid book
    → HasOneOpenBelow book caller → number + 1 ≡ answers_of book caller
    → record_of book (record { caller = caller; number = number }) ≡ Some last
    → ((i : ℕ) → get_or last.view i 0 ≤ answers_of book i + 1) → HasOneOpenBelow book (caller + 1)
open_more-last book caller number last valid h is there few call r i below at =
    elim (cases_lt call.caller caller) [
      | inl early ↦ h call r i early at
      | inr here ↦
          let same : call.caller ≡ caller = omega arith in
          let inside : call.number < answers_of book call.caller =
          slice_get_within _ call.number r at in
          let no_later : call.number ≤ number =
          omega (arith, is, inside, ap (answers_of book) same) in
          omega (
            arith,
            few i,
            views_grow book valid call
                (record { caller = caller; number = number }) r last at there same no_later i,
          )
    ]

pub open_all : (book : List Page) (below : ℕ) → below ≡ length book → HasOneOpenBelow book below
    → HasOneOpen book
open_all book below is h call r i at =
    let inside : call.caller < length book =
    caller_from_answer book call.caller call.number (slice_get_within _ call.number r at) in
    h call r i (omega arith) at
