-- Which answers a book refuses, and by which test.
use Rattle.std.specs.Prelude.{◌≡◌, ℕ, ◌+◌, ◌<◌, ◌≤◌, ◌⊎◌, List, length, Some, IsSomeAnd, slice_index}
use Rattle.book_base.specs.declared.call.Call.{Call}
use Rattle.book_base.specs.declared.call.Record.{Record}
use Rattle.book_base.specs.declared.fault.BookFault.{BookFault}
use Rattle.book_base.specs.declared.fault.BookFault.TheVariants.{TooManyCalls, NoSuchCall, ViewOutside, ViewLacksOwn, ViewHasLater, ViewsCross, NoMemory}
use Rattle.book_base.specs.Cut.{IsWithin, AreComparable}
use Rattle.book_base.specs.Book.{Page, calls_of, answers_of, announced, record_of}

-- An answer with this view, to the first unanswered call of caller i, keeps the book valid.
pub record MayAnswer (book : List Page) (i : ℕ) (view : List ℕ) : Type 0 where
  -- the caller has an unanswered call
  pub unanswered : answers_of book i < calls_of book i
  -- the view lies within the announced counts
  pub within : IsWithin view (announced book)
  -- the view counts the caller's calls up to the one that is answered
  pub own : slice_index view i ≡ answers_of book i + 1
  -- the view is comparable with each view of the book
  pub comparable : (call : Call) (r : Record) → record_of book call ≡ Some r
      → AreComparable view r.view

-- An answer of caller i with this view fails the test that the fault names.
abbrev pub FailsTest : List Page → ℕ → List ℕ → BookFault → Type 0
-- the caller has no unanswered call
FailsTest book i view NoSuchCall = calls_of book i ≤ answers_of book i
-- the view counts more calls of caller j of the book than j made
FailsTest book i view (ViewOutside j) = (j < length book) × (calls_of book j < slice_index view j)
-- `count` is the view's count for caller i, and is below the number of the answered call plus 1
FailsTest book i view (ViewLacksOwn count) = (count ≡ slice_index view i)
    × (count < answers_of book i + 1)
-- `count` is the view's count for caller i, and is above the number of the answered call plus 1
FailsTest book i view (ViewHasLater count) = (count ≡ slice_index view i)
    × (answers_of book i + 1 < count)
-- the view and the recorded view of the call that the fault names aren't comparable
FailsTest book i view (ViewsCross call) =
    IsSomeAnd (record_of book call) (λ r. ¬ AreComparable view r.view)
-- `TooManyCalls` and `NoMemory` name no test of an answer
FailsTest book i view TooManyCalls = ⊥
FailsTest book i view NoMemory = ⊥

-- the turn at which the test that a fault names is tried: 5, after all tests, where it names none
abbrev pub turn_of : BookFault → ℕ
turn_of NoSuchCall = 0
turn_of (ViewOutside j) = 1
turn_of (ViewLacksOwn count) = 2
turn_of (ViewHasLater count) = 3
turn_of (ViewsCross call) = 4
turn_of TooManyCalls = 5
turn_of NoMemory = 5

-- the caller that a fault names: 0 where it names none
abbrev pub named_caller : BookFault → ℕ
named_caller (ViewOutside j) = j
named_caller (ViewsCross call) = call.caller
named_caller e = 0

-- the number of the call that a fault names: 0 where it names none
abbrev pub named_number : BookFault → ℕ
named_number (ViewsCross call) = call.number
named_number e = 0

-- The test of one fault is tried before that of another where its turn is less. Of equal turns, the
-- fault that names a lesser caller comes first, and of one caller, the one that names a lesser
-- number of a call.
abbrev pub IsTriedBefore : BookFault → BookFault → Type 0
IsTriedBefore e f =
    (turn_of e < turn_of f)
    ⊎ ((turn_of e ≡ turn_of f) × ((named_caller e < named_caller f)
    ⊎ ((named_caller e ≡ named_caller f) × (named_number e < named_number f))))

-- The fault names the first test that the answer fails.
pub record IsFirstFault (book : List Page) (i : ℕ) (view : List ℕ)
    (fault : BookFault) : Type 0 where
  pub fails : FailsTest book i view fault
  pub first : (other : BookFault) → IsTriedBefore other fault → FailsTest book i view other → ⊥
