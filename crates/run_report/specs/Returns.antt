-- What callers that are back on their bench leave.
use Rattle.std.specs.Prelude.{◌≡◌, ℕ, ◌%◌, ◌<◌, ◌≤◌, Bool, false, List, Option, Some, None, IfSome, length, slice_get, slice_index}
use Rattle.book_base.specs.SeqSpec.{SeqSpec}
use Rattle.world_core.specs.Shape.{Meaning, Shape}
use Rattle.world_core.specs.Local.{Local}
use Rattle.world_core.specs.CallSteps.{all_steps_of}
use Rattle.world_core.specs.Calls.{calls_in}
use Rattle.report_lines.specs.declared.line.Line.{Line}
use Rattle.report_lines.specs.Lines.{any_error}
use Rattle.report_lines.specs.Phases.{HasMade, IsTold, asked}
use Rattle.report_lines.specs.Allotments.{operations_at}
use Rattle.row_table.specs.declared.rows.Rows.{Rows}
use Rattle.row_table.specs.declared.bench.Bench.{Bench}
use Rattle.row_table.specs.declared.stance.Stance.{Stance}
use Rattle.row_table.specs.Benches.{fresh_stance}
use Rattle.row_table.specs.Callers.{shape_of, on_bench, stance_on, IsBenchOf, HoldsAll}
use Rattle.client_scripts.specs.Plans.{Plan}
use Rattle.client_calls.specs.Asking.{Fits, PassCount, fits_own, own_count}
use Rattle.client_calls.specs.Ends.{HasLeftAt}
use Rattle.client_calls.specs.Finishing.{KeepsAsked, IsLeftStanding}
use Rattle.client_calls.specs.Clients.{HasSpent, Says}
use Rattle.client_calls.specs.declared.client.Client.{Client}
use Rattle.run_report.specs.Places.{AreInOrder}
use Rattle.run_report.specs.Passes.{IsOwnPass}
use Rattle.run_report.specs.Starts.{RunCourse, IsClientOf}
use Rattle.run_report.specs.declared.worker.Worker.{Worker}

module _ {P T E : Type 0} where
  -- The worker is that of caller i, and its client has made all phases of its allotment, or within
  -- it the client was halted or its call was left unjudged.
  pub record IsSpent (meaning : P → ℕ → ℕ → Meaning) (r : Rows P) (says : Says)
      (object : E → SeqSpec) (fits : Fits T) (count : T → Option PassCount) (course : RunCourse)
      (i : ℕ) (w : Worker P T E) : Type 0 where
    pub client : Client P T E
    pub here : w.client ≡ Some client
    pub of : IsClientOf meaning r says object fits count course i client
    pub spent : HasSpent (slice_index course.allotments i) client

  -- The worker has its client, which keeps no book and no order.
  pub record KeepsNothing (w : Worker P T E) : Type 0 where
    pub client : Client P T E
    pub here : w.client ≡ Some client
    pub no_book : client.sheet.gathered ≡ None
    pub no_order : client.sheet.standing ≡ None

-- What the pass of a caller counts after p phases of the caller: how often the object was asked in
-- these phases. Where the pass tells calls, it tells an operation and a reply for each of them.
pub record IsCountOf (p : ℕ) (l : Local) (count : PassCount) : Type 0 where
  pub asked_for : count.made ≡ asked p
  pub told_is : IfSome count.told (IsTold p (calls_in l))

-- Caller i of a world of this shape is back with this local and this pass. It has made the first p
-- phases of its allotment. Its pass, where it counts calls, counts those that the object was asked
-- for in these phases, and fits the caller with the object steps that the caller has made.
pub record IsBackWith {T : Type 0} (s : Shape) (fits : Fits T) (count : T → Option PassCount)
    (operations : List (List ℕ)) (allotments : List ℕ) (i p : ℕ) (l : Local)
    (pass : T) : Type 0 where
  pub fits_caller : fits s.callers s.cap pass i (all_steps_of l)
  pub within : p ≤ slice_index allotments i
  pub phases : HasMade (operations_at operations i) p l
  pub asked : KeepsAsked s.program i p l
  pub counts : IfSome (count pass) (IsCountOf p l)

-- Caller i of this course left these lines, one for each of its calls, and made p phases: exactly
-- those that the lines and the caller's allotment determine.
abbrev pub HasLeftLines : Says → ℕ → RunCourse → ℕ → ℕ → Local → List Line → Type 0
HasLeftLines says n course i p l own =
    HasLeftAt (says course.object) n (operations_at course.operations i)
    (slice_index course.allotments i) p l own

-- The stance on the bench of caller i, which has made this many phases: within a call it is halted,
-- and where it is live it is free for its next call.
pub record StandsAgain {P : Type 0} (b : Bench P) (i phases : ℕ) (l : Local) : Type 0 where
  pub stance : Stance
  pub here : stance_on b i ≡ Some stance
  pub standing : IsLeftStanding phases l stance

module _ {P T : Type 0} where
  -- Caller i is back on the bench after some phases of its allotment, with a stance that fits them,
  -- and item i of these passes is its pass.
  pub record IsBackOn (meaning : P → ℕ → ℕ → Meaning) (r : Rows P) (fits : Fits T)
      (count : T → Option PassCount) (operations : List (List ℕ)) (allotments : List ℕ)
      (b : Bench P) (passes : List T) (i : ℕ) : Type 0 where
    pub local : Local
    pub pass : T
    pub phases : ℕ
    pub here : on_bench b i ≡ Some local
    pub pass_here : slice_get passes i ≡ Some pass
    pub back : IsBackWith (shape_of meaning r) fits count operations allotments i phases local pass
    pub stands : StandsAgain b i phases local

  -- A run of a plan's callers has come back, whatever its answer, with this bench and these passes.
  pub record HaveReturned (meaning : P → ℕ → ℕ → Meaning) (r : Rows P) (fits : Fits T)
      (count : T → Option PassCount) (plan : Plan) (allotments : List ℕ) (b : Bench P)
      (passes : List T) : Type 0 where
    -- The bench is a bench of these rows, and holds each of their callers.
    pub bench : IsBenchOf meaning r b × HoldsAll b
    -- There is one pass for each caller of the plan.
    pub all_passes : length passes ≡ length plan.operations
    -- Each caller of the plan is back on the bench with its pass, which fits it, and has made a
    -- prefix of its phases: at most as many as its allotment. A pass that counts calls counts those
    -- that the object was asked for.
    pub back : (i : ℕ) → i < length plan.operations
        → IsBackOn meaning r fits count plan.operations allotments b passes i

  -- A run over an object outside the world has come back, with this bench and these passes.
  pub record HaveReturnedOutside (meaning : P → ℕ → ℕ → Meaning) (r : Rows P) (is_own : T → Type 0)
      (caller made cap : T → ℕ) (told : T → Option (List (ℕ × ℕ))) (plan : Plan)
      (allotments : List ℕ) (b : Bench P) (passes : List T) : Type 0 where
    pub run : HaveReturned meaning r (fits_own is_own caller) (own_count made cap told) plan
        allotments b passes
    -- Each pass is one of the object's own, and pass i is that of caller i.
    pub own : AreInOrder (IsOwnPass is_own caller) passes

  -- Caller i is back on the bench with its pass, and item i of `lines` has its lines. Where no line
  -- is an error and it stopped between two calls, or made all of them, it is free for its next
  -- call. Where memory was lacking for any caller (`wanted`), nothing is said of the lines of
  -- caller i, or of its being free.
  pub record IsBack (meaning : P → ℕ → ℕ → Meaning) (r : Rows P) (says : Says) (fits : Fits T)
      (count : T → Option PassCount) (course : RunCourse) (b : Bench P) (passes : List T)
      (lines : List (List Line)) (wanted : Bool) (i : ℕ) : Type 0 where
    pub on : IsBackOn meaning r fits count course.operations course.allotments b passes i
    pub own : List Line
    pub lines_here : slice_get lines i ≡ Some own
    pub free : wanted ≡ false → any_error own ≡ false → on.phases % 5 ≡ 0
        → on.stands.stance ≡ fresh_stance
    pub left : wanted ≡ false → HasLeftLines says r.callers course i on.phases on.local own

  -- Of the callers below n, those below k are back on the bench, and no other one is on it.
  pub record AreBack (meaning : P → ℕ → ℕ → Meaning) (r : Rows P) (says : Says) (fits : Fits T)
      (count : T → Option PassCount) (n k : ℕ) (course : RunCourse) (b : Bench P) (passes : List T)
      (lines : List (List Line)) (wanted : Bool) : Type 0 where
    pub back : (i : ℕ) → i < k → IsBack meaning r says fits count course b passes lines wanted i
    pub gone : (i : ℕ) → k ≤ i → i < n → on_bench b i ≡ None
