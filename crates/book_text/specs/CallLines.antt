-- The lines of a book's calls: which are right, and which test the others fail.
use Rattle.std.specs.Prelude.{◌≡◌, ◌≢◌, ℕ, zero, suc, ◌+◌, ◌<◌, ◌≤◌, ◌^◌, ◌⊎◌, Bool, true, false, IsTrue, nat_lt, List, [], ◌∷◌, ◌++◌, length, codes, decimal, Option, Some, None}
use Rattle.book_base.specs.declared.call.Call.{Call}
use Rattle.book_base.specs.declared.call.Record.{Record}
use Rattle.book_base.specs.declared.fault.BookFault.{BookFault}
use Rattle.book_base.specs.declared.fault.BookFault.TheVariants as tests
use Rattle.book_base.specs.declared.fault.ReadFault.{ReadFault}
use Rattle.book_base.specs.declared.fault.TextFault.{TextFault}
use Rattle.book_base.specs.declared.fault.What.{What}
use Rattle.book_base.specs.declared.fault.What.TheVariants as what
use Rattle.book_base.specs.declared.TheConstants.{MAX_CALLERS}
use Rattle.book_base.specs.Book.{Page, answers_of, unanswered_book, with_operation, with_answer}
use Rattle.book_base.specs.Refusal.{MayAnswer, FailsTest}
use Rattle.seq_objects.specs.Replies.{reply_word}
use Rattle.text_fields.specs.declared.version.Version.{Version}
use Rattle.text_fields.specs.declared.version.Version.TheVariants.{First, Second}
use Rattle.text_fields.specs.Counts.{AreNumbers, cut_words, HasBadPair, HasWordAfterPairs}
use Rattle.text_fields.specs.Operations.{Operations}
use Rattle.text_fields.specs.Lines.{Unread}
use Rattle.text_fields.specs.Faults.{Wanted, ALine, Nothing, Rules, GoesTo, IsFirstFault, StopsFor}

-- ---- what a line says

-- the words of a call's caller and number
abbrev pub place_words : Call → List (List ℕ)
place_words call = decimal call.caller ∷ decimal call.number ∷ []

-- the words after the operation: none where the call is unanswered, and else the reply, 'view', and
-- the view's counts or pairs
abbrev pub answer_words : Version → Option Record → List (List ℕ)
answer_words version None = []
answer_words version (Some answer) =
    reply_word answer.reply ∷ codes "view" ∷ cut_words version answer.view

-- the line of a call: its caller and number, its operation, and its answer
abbrev pub call_words : Version → Operations → Call → ℕ → Option Record → List (List ℕ)
call_words version operations call op answer =
    place_words call ++ (operations.words op ++ answer_words version answer)

-- ---- what the tests of a line speak of

-- after the caller, the number and an operation the line has the words `suffix`
pub record IsAfterOperation (operations : Operations) (call : Call)
    (words suffix : List (List ℕ)) : Type 0 where
  pub op : ℕ
  pub has : IsTrue (operations.has op)
  pub text : words ≡ place_words call ++ (operations.words op ++ suffix)

-- after the caller, the number, an operation and a reply the line has the words `suffix`
pub record IsAfterReply (operations : Operations) (call : Call)
    (words suffix : List (List ℕ)) : Type 0 where
  pub reply : ℕ
  pub small : reply < 2 ^ 64
  pub text : IsAfterOperation operations call words (reply_word reply ∷ suffix)

-- after the reply the line has the words of the view `view`, of `n` counts, and nothing else
pub record HasView (version : Version) (operations : Operations) (n : ℕ) (call : Call)
    (words : List (List ℕ)) (view : List ℕ) : Type 0 where
  pub wide : length view ≡ n
  pub numbers : AreNumbers view
  pub text : IsAfterReply operations call words (codes "view" ∷ cut_words version view)

-- the words are those of the view `view`, of `n` counts: 'view' and then its counts or pairs
abbrev pub AreView : Version → ℕ → List ℕ → List (List ℕ) → Type 0
AreView version n view words = (length view ≡ n) × AreNumbers view
    × (words ≡ codes "view" ∷ cut_words version view)

-- the words don't begin with 'view'
abbrev pub LacksViewWord : List (List ℕ) → Type 0
LacksViewWord words = (suffix : List (List ℕ)) → words ≢ codes "view" ∷ suffix

-- The words after a reply are no view. In version 1: they aren't 'view' and then a number below
-- 2^64 for each caller. In version 2: they don't begin with 'view'; or one of the words after it
-- has no colon; or one of these is no pair of a caller below `n` and a count above 0 and below
-- 2^64; or a pair's caller isn't above that of the pair before it.
abbrev pub IsNoView : Version → ℕ → List (List ℕ) → Type 0
IsNoView First n words = (view : List ℕ) → length view ≡ n → AreNumbers view
    → words ≢ codes "view" ∷ cut_words First view
IsNoView Second n words = LacksViewWord words ⊎ ((suffix : List (List ℕ))
    × (words ≡ codes "view" ∷ suffix) × (HasBadPair n 0 suffix ⊎ HasWordAfterPairs suffix))

-- ---- the tests of a line, by itself

-- A line fails a test that needs no other line's view, where `call` is due in a text of `n`
-- callers; `gap` says whether an earlier call of the same caller is unanswered.
abbrev pub EntryFails : Version → Operations → ℕ → Bool → Call → List (List ℕ) → What → Type 0
-- the line doesn't begin with the caller and the number that are due
EntryFails version operations n gap call words what.Place = (suffix : List (List ℕ))
    → words ≢ place_words call ++ suffix
-- the words after the caller and the number begin with those of no operation
EntryFails version operations n gap call words what.Op = (suffix : List (List ℕ))
    × (words ≡ place_words call ++ suffix)
    × ((op : ℕ) (others : List (List ℕ)) → IsTrue (operations.has op)
    → suffix ≢ operations.words op ++ others)
-- words follow the operation, and an earlier call of this caller is unanswered
EntryFails version operations n gap call words what.Gap = (suffix : List (List ℕ))
    × IsAfterOperation operations call words suffix × (suffix ≢ []) × (gap ≡ true)
-- the word after the operation is no reply
EntryFails version operations n gap call words what.Reply = (word : List ℕ)
    × (suffix : List (List ℕ)) × IsAfterOperation operations call words (word ∷ suffix)
    × ((reply : ℕ) → reply < 2 ^ 64 → reply_word reply ≢ word)
-- the words after the reply are no view
EntryFails version operations n gap call words what.View = (suffix : List (List ℕ))
    × IsAfterReply operations call words suffix × IsNoView version n suffix
EntryFails version operations n gap call words _ = ⊥

-- ---- the tests of a view

-- for a fault of a book that says which test a view failed, the name of this test in texts; `None`
-- for any other fault
abbrev pub view_test : BookFault → Option What
view_test tests.TooManyCalls = None
view_test tests.NoSuchCall = None
view_test (tests.ViewOutside j) = Some what.ViewOutside
view_test (tests.ViewLacksOwn count) = Some what.ViewLacksOwn
view_test (tests.ViewHasLater count) = Some what.ViewHasLater
view_test (tests.ViewsCross other) = Some what.ViewsCross
view_test tests.NoMemory = None

-- A fault by which a book may refuse an answer to one of its unanswered calls: a test of views, or
-- want of memory.
abbrev pub MayRefuse : BookFault → Type 0
MayRefuse tests.TooManyCalls = ⊥
MayRefuse tests.NoSuchCall = ⊥
MayRefuse _ = Unit {0}

-- neither the call nor a later one of its caller is answered
abbrev pub IsUnanswered : List Page → Call → Type 0
IsUnanswered book call = answers_of book call.caller ≤ call.number

-- the line's view fails the test with this name, as the view of an answer to this call in the book
-- that the lines before it give
pub record ViewFails (version : Version) (operations : Operations) (book : List Page) (call : Call)
    (words : List (List ℕ)) (name : What) : Type 0 where
  pub view : List ℕ
  pub has : HasView version operations (length book) call words view
  pub fault : BookFault
  pub test : view_test fault ≡ Some name
  pub fails : FailsTest book call.caller view fault

-- ---- the rules

-- What the lines of calls so far say: a book with all the calls that the head announces, in which
-- the calls that are still due have the operation 0 and no answer; and those calls, in their order.
pub record BookSoFar : Type 0 where
  pub book : List Page
  pub due : List Call

-- the calls of caller `i` from number `k` on, as many as the last argument says
abbrev pub calls_from : ℕ → ℕ → ℕ → List Call
calls_from i k zero = []
calls_from i k (suc more) = record { caller = i; number = k } ∷ calls_from i (k + 1) more

-- the calls of caller `i` and of the callers after it, as many of each as the list of counts says,
-- by caller and then by number
abbrev pub all_calls : ℕ → List ℕ → List Call
all_calls i [] = []
all_calls i (count ∷ counts) = calls_from i 0 count ++ all_calls (i + 1) counts

-- the lines so far give this book, and these calls are still due
abbrev pub reading : List Page → List Call → BookSoFar
reading book due = record { book = book; due = due }

-- what is read before the first line of a call: each call has the operation 0 and no answer, and is
-- due
abbrev pub no_call_read : List ℕ → BookSoFar
no_call_read calls = record { book = unanswered_book calls; due = all_calls 0 calls }

-- whether an earlier call of this caller is unanswered
abbrev pub is_gap : List Page → Call → Bool
is_gap book call = nat_lt (answers_of book call.caller) call.number

-- a line may give a call this answer, or none, where the lines before it give this book
abbrev pub MayStand : List Page → Call → Option Record → Type 0
MayStand book call None = Unit {0}
MayStand book call (Some answer) = (is_gap book call ≡ false) × (answer.reply < 2 ^ 64)
    × (length answer.view ≡ length book) × AreNumbers answer.view
    × MayAnswer book call.caller answer.view

-- the book with what the line of a call says
abbrev pub with_line : List Page → Call → ℕ → Option Record → List Page
with_line book call op None = with_operation book call op
with_line book call op (Some answer) = with_operation (with_answer book call.caller answer) call op

-- a call that a line can name: its caller is one of the book's, of which there are at most
-- `MAX_CALLERS`, and its number is below 2^64
pub record IsNamedCall (book : List Page) (call : Call) : Type 0 where
  pub caller : call.caller < length book
  pub callers : length book ≤ MAX_CALLERS
  pub number : call.number < 2 ^ 64

-- a right line for this call, and the book after it
pub record IsCallLine (version : Version) (operations : Operations) (book : List Page) (call : Call)
    (words : List (List ℕ)) (after : List Page) : Type 0 where
  pub named : IsNamedCall book call
  pub op : ℕ
  pub answer : Option Record
  pub has : IsTrue (operations.has op)
  pub stands : MayStand book call answer
  pub text : words ≡ call_words version operations call op answer
  pub book_is : after ≡ with_line book call op answer

-- a line of these words is right for the first call that is due, and leads to a book and to the
-- calls that are due after it
abbrev pub CallPasses : Version → Operations → List Page → List Call → List (List ℕ)
    → BookSoFar → Type 0
CallPasses version operations book [] words after = ⊥
CallPasses version operations book (call ∷ calls) words after =
    IsCallLine version operations book call words after.book × (after.due ≡ calls)

-- a line of these words fails a test, where the first of these calls is due
abbrev pub CallFails : Version → Operations → List Page → List Call → List (List ℕ) → What → Type 0
CallFails version operations book [] words name = ⊥
CallFails version operations book (call ∷ calls) words name =
    EntryFails version operations (length book) (is_gap book call) call words name
    ⊎ ViewFails version operations book call words name

-- what is due next: a line as long as some call is due, and after the last call nothing
abbrev pub call_wanted : List Call → Wanted
call_wanted [] = Nothing
call_wanted (call ∷ calls) = ALine

-- the rules of the lines of calls
abbrev pub call_rules : Version → Operations → Rules BookSoFar
call_rules version operations = record {
  Passes =
      λ progress words after. CallPasses version operations progress.book progress.due words after;
  Fails = λ progress words name. CallFails version operations progress.book progress.due words name;
  wanted = λ progress. call_wanted progress.due;
}

-- ---- reading

-- The lines of these calls lead from one book to another, whatever is due after them, and `left` is
-- the rest of the text.
abbrev pub AreRead : Version → Operations → List Call → List Page → Unread → List Page
    → Unread → Type 0
AreRead version operations calls book text after left = (more : List Call)
    → GoesTo (call_rules version operations) (reading book (calls ++ more)) text
    (reading after more) left

-- The reading of the lines of these calls stops with this fault, whatever is due after them.
abbrev pub AreStopped : Version → Operations → List Call → List Page → Unread → ReadFault → Type 0
AreStopped version operations calls book text fault = (more : List Call)
    → StopsFor (call_rules version operations) (reading book (calls ++ more)) text fault

-- The text begins with the lines of a book's calls, as many of each caller as `calls` says, and
-- `left` is the rest of it.
abbrev pub AreCallLines : Version → Operations → List ℕ → List Page → Unread → Unread → Type 0
AreCallLines version operations calls book text left =
    GoesTo (call_rules version operations) (no_call_read calls) text (reading book []) left

-- Reading the lines of calls, as many of each caller as `calls` says, stops for want of memory or
-- with their first fault.
abbrev pub AreNoCallLines : Version → Operations → List ℕ → Unread → ReadFault → Type 0
AreNoCallLines version operations calls text fault =
    StopsFor (call_rules version operations) (no_call_read calls) text fault

-- The first fault of lines of calls, as many of each caller as `calls` says.
abbrev pub IsFirstCallFault : Version → Operations → List ℕ → Unread → TextFault → Type 0
IsFirstCallFault version operations calls text fault =
    IsFirstFault (call_rules version operations) (no_call_read calls) text fault
