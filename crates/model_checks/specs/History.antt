-- Histories: calls that begin and end one after another, and the books that they give.
use Rattle.std.specs.Prelude.{◌≡◌, ℕ, ◌+◌, ◌<◌, ◌≤◌, nat_eq, if◌then◌else◌, List, [], ◌∷◌, ◌++◌, length, replicate}
use Rattle.book_base.specs.declared.TheConstants.{MAX_CALLS}
use Rattle.book_base.specs.declared.call.Call.{Call}
use Rattle.book_base.specs.Book.{Page, calls_of, answers_of, announced, with_call, with_answer}
use Rattle.seq_objects.specs.Replies.{reply_value}
use Rattle.model_checks.specs.Words.{operation_word}

-- A caller's call begins, with the number of its operation; or the caller's call that has begun
-- ends, with the number of its reply.
pub data Event : Type 0 where
  Begins : (caller op : ℕ) → Event
  Ends : (caller reply : ℕ) → Event

-- A call of a caller may begin: the book has the caller, its last call has ended, and it has made
-- fewer calls than a caller may have.
pub record MayBegin (book : List Page) (caller : ℕ) : Type 0 where
  pub is_caller : caller < length book
  pub ended : answers_of book caller ≡ calls_of book caller
  pub few : calls_of book caller < MAX_CALLS

-- A call of a caller may end: the book has the caller, and a call of it that has begun hasn't
-- ended.
pub record MayEnd (book : List Page) (caller : ℕ) : Type 0 where
  pub is_caller : caller < length book
  pub begun : answers_of book caller < calls_of book caller

abbrev pub MayHappen : List Page → Event → Type 0
MayHappen book (Begins caller op) = MayBegin book caller
MayHappen book (Ends caller reply) = MayEnd book caller

-- The book after an event: with the call that begins, or with the answer of the call that ends,
-- whose view counts of each caller the calls that have begun.
abbrev pub book_with : List Page → Event → List Page
book_with book (Begins caller op) = with_call book caller (operation_word op)
book_with book (Ends caller reply) =
    with_answer book caller (record { reply = reply_value reply; view = announced book })

-- the book after some events, in their order
abbrev pub book_after : List Page → List Event → List Page
book_after book [] = book
book_after book (event ∷ events) = book_after (book_with book event) events

-- Some events may happen after a book, in their order.
abbrev pub MayAllHappen : List Page → List Event → Type 0
MayAllHappen book [] = Unit {0}
MayAllHappen book (event ∷ events) =
    MayHappen book event × MayAllHappen (book_with book event) events

-- the book of so many callers, none of which has made a call
abbrev pub book_without_calls : ℕ → List Page
book_without_calls callers = replicate callers (record { operations = []; records = [] })

-- how many calls of a caller begin in some events
abbrev pub begun_in : List Event → ℕ → ℕ
begun_in [] i = 0
begun_in (Begins caller op ∷ events) i = (if nat_eq caller i then 1 else 0) + begun_in events i
begun_in (Ends caller reply ∷ events) i = begun_in events i

-- how many calls of a caller end in some events
abbrev pub ended_in : List Event → ℕ → ℕ
ended_in [] i = 0
ended_in (Begins caller op ∷ events) i = ended_in events i
ended_in (Ends caller reply ∷ events) i = (if nat_eq caller i then 1 else 0) + ended_in events i

-- In some events call a ends before call b begins: at an end of a call of a's caller as many of its
-- calls have ended as a's number says, and no more calls of b's caller have begun than b's number
-- says.
pub record EndsBefore (events : List Event) (a b : Call) : Type 0 where
  pub before : List Event
  pub reply : ℕ
  pub after : List Event
  pub split : events ≡ before ++ Ends a.caller reply ∷ after
  pub ended : ended_in before a.caller ≡ a.number
  pub unbegun : begun_in before b.caller ≤ b.number
