-- Tests of recorded replies: for which calls of a book a test of an operation and a reply holds.
use Rattle.std.specs.Prelude.{◌≡◌, ℕ, Bool, Some, List}
use Rattle.book_base.specs.declared.call.Call.{Call}
use Rattle.book_base.specs.declared.call.Record.{Record}
use Rattle.book_base.specs.Book.{Page, operation_of, record_of}

-- A call is answered, and a test has this answer for the call's operation and its recorded reply.
pub record IsTested (test : ℕ × ℕ → Bool → Type 0) (book : List Page) (call : Call)
    (answer : Bool) : Type 0 where
  pub op : ℕ
  pub r : Record
  pub asked : operation_of book call ≡ Some op
  pub answered : record_of book call ≡ Some r
  pub tested : test (op, r.reply) answer
