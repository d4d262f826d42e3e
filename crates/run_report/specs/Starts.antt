-- What callers and passes are before any call, and the workers that are made of them.
use Rattle.std.specs.Prelude.{◌≡◌, ℕ, ◌+◌, ◌*◌, ◌<◌, ◌≤◌, List, [], Option, Some, None, IfSome, length, slice_index, vec_capacity}
use Rattle.book_base.specs.SeqSpec.{SeqSpec}
use Rattle.world_core.specs.Shape.{Meaning}
use Rattle.world_core.specs.Local.{Local, IsIdle}
use Rattle.report_lines.specs.Phases.{progress_of, no_progress}
use Rattle.report_lines.specs.Allotments.{operations_at, allotments_of, allotments_by_turns}
use Rattle.row_table.specs.declared.rows.Rows.{Rows}
use Rattle.row_table.specs.declared.caller.Caller.{Caller}
use Rattle.row_table.specs.declared.bench.Bench.{Bench}
use Rattle.row_table.specs.Callers.{local_with, stance_of, on_bench, stance_on, IsBenchOf}
use Rattle.drv_wrapper.specs.Stands.{ready}
use Rattle.client_scripts.specs.Plans.{Plan}
use Rattle.reports.specs.declared.report.Own.{Own}
use Rattle.client_calls.specs.Asking.{Fits, PassCount}
use Rattle.client_calls.specs.Stands.{GoesOnFrom}
use Rattle.client_calls.specs.Clients.{phases_by, Says, IsAtWork}
use Rattle.client_calls.specs.declared.client.Client.{Client}
use Rattle.run_report.specs.Places.{AreInOrder}
use Rattle.run_report.specs.declared.worker.Worker.{Worker}
use Rattle.run_report.specs.declared.pace.Pace.{Pace}
use Rattle.run_report.specs.declared.pace.Pace.TheVariants.{Alone, ByTurns}

-- How many phases each of a plan's callers may make where each works by itself.
abbrev pub run_allotments : Plan → List ℕ
run_allotments plan = allotments_of plan.operations plan.stops

-- How many phases each of a plan's callers may make where they take the plan's turns.
abbrev pub replay_allotments : Plan → List ℕ
replay_allotments plan = allotments_by_turns plan.operations plan.stops plan.turns

-- How many phases each of a plan's callers may make at this pace.
abbrev pub allotments_by : Pace → Plan → List ℕ
allotments_by Alone plan = run_allotments plan
allotments_by ByTurns plan = replay_allotments plan

-- What all callers are given: each its operations and how many phases it may make, and the
-- sequential object that calls are judged by.
pub record RunCourse : Type 0 where
  pub operations : List (List ℕ)
  pub allotments : List ℕ
  pub object : SeqSpec

-- The course of a plan, with these allotments.
abbrev pub course_of : Plan → List ℕ → SeqSpec → RunCourse
course_of plan allotments object =
    record { operations = plan.operations; allotments = allotments; object = object }

module _ {P : Type 0} where
  -- These rows have capacity for the callers of a plan, and for the calls of each. They may have
  -- more callers.
  pub record HaveCapacityFor (plan : Plan) (r : Rows P) : Type 0 where
    pub callers : length plan.operations ≤ r.callers
    pub cap : (i : ℕ) → length (operations_at plan.operations i) ≤ r.cap

  -- A caller is live and idle, without calls, and so without object steps.
  pub record IsFresh (c : Caller P) : Type 0 where
    pub stance : stance_of c ≡ ready
    pub idle : IsIdle (local_with c)
    pub none : progress_of (local_with c) ≡ no_progress

  -- The bench holds this caller, live and idle, without calls, and so without object steps.
  pub record IsUnused (b : Bench P) (i : ℕ) : Type 0 where
    pub local : Local
    pub here : on_bench b i ≡ Some local
    pub stance : stance_on b i ≡ Some ready
    pub idle : IsIdle local
    pub none : progress_of local ≡ no_progress

  -- The callers of a plan may start on these rows, with this bench: the rows have capacity for
  -- them, and the bench is that of the rows and holds each of the plan's callers, unused.
  pub record MayStart (meaning : P → ℕ → ℕ → Meaning) (plan : Plan) (r : Rows P)
      (b : Bench P) : Type 0 where
    pub rows_for : HaveCapacityFor plan r
    pub bench_of : IsBenchOf meaning r b
    pub unused : (i : ℕ) → i < length plan.operations → IsUnused b i

  -- A whole run of a plan may begin, with this many callers beside the plan's: its callers may
  -- start, the rows have just these callers, and those beside the plan's are unused too.
  pub record MayBegin (meaning : P → ℕ → ℕ → Meaning) (plan : Plan) (beside : ℕ) (r : Rows P)
      (b : Bench P) : Type 0 where
    pub starts : MayStart meaning plan r b
    pub callers : r.callers ≡ length plan.operations + beside
    pub others : (i : ℕ) → length plan.operations ≤ i → i < r.callers → IsUnused b i

  -- A whole run of a plan may begin, with passes that are as `Are` says of the plan's operations.
  pub record MayRun {T : Type 0} (meaning : P → ℕ → ℕ → Meaning) (r : Rows P)
      (Are : List (List ℕ) → List T → Type 0) (plan : Plan) (beside : ℕ) (b : Bench P)
      (passes : List T) : Type 0 where
    pub begins : MayBegin meaning plan beside r b
    -- There is a pass for each caller of the plan, in order. No call was made with it, and one may
    -- be made for each operation of its caller.
    pub passes_for : Are plan.operations passes

  -- Of each caller from caller n on, the two benches have the same local and the same stance, or
  -- neither bench has any.
  abbrev pub AreAlikeFrom : ℕ → Bench P → Bench P → Type 0
  AreAlikeFrom n b c = (i : ℕ) → n ≤ i → (on_bench c i ≡ on_bench b i)
      × (stance_on c i ≡ stance_on b i)

  -- Of the first n callers the second bench holds just those below k, each as the first bench has
  -- it; from caller n on both benches hold the same callers.
  pub record HoldsBelow (n k : ℕ) (b c : Bench P) : Type 0 where
    pub below : (i : ℕ) → i < k → (on_bench c i ≡ on_bench b i) × (stance_on c i ≡ stance_on b i)
    pub gone : (i : ℕ) → k ≤ i → i < n → on_bench c i ≡ None
    pub others : AreAlikeFrom n b c

-- The list has no line, and capacity for a line for each operation of caller i.
pub record IsCapacityFor (operations : List (List ℕ)) (i : ℕ) (own : Own) : Type 0 where
  pub none : own.lines.items ≡ []
  pub has_capacity : length (operations_at operations i) ≤ vec_capacity own.lines

-- The count is that of a new pass: no call was made with it, it allows as many calls as there are
-- operations, and it tells of none.
pub record IsNewCount (operations : ℕ) (count : PassCount) : Type 0 where
  pub none : count.made ≡ 0
  pub has_capacity : operations ≤ count.room
  pub silent : IfSome count.told (λ pairs. pairs ≡ [])

-- The pass fits caller i of these rows without object steps. Where it counts calls, none was made
-- with it, it tells of none, and one may be made for each operation of the caller.
pub record IsFreshPass {P T : Type 0} (r : Rows P) (fits : Fits T) (count : T → Option PassCount)
    (operations : List (List ℕ)) (i : ℕ) (pass : T) : Type 0 where
  pub fits_caller : fits r.callers r.cap pass i []
  pub counts : IfSome (count pass) (IsNewCount (length (operations_at operations i)))

-- There is one pass for each caller, in order. Each fits its caller without object steps. Where it
-- counts calls, none was made with it, and one may be made for each operation of the caller.
pub record AreFreshPasses {P T : Type 0} (r : Rows P) (fits : Fits T) (count : T → Option PassCount)
    (operations : List (List ℕ)) (passes : List T) : Type 0 where
  pub as_many : length passes ≡ length operations
  pub each : AreInOrder (IsFreshPass r fits count operations) passes

module _ {P T E : Type 0} (meaning : P → ℕ → ℕ → Meaning) (r : Rows P) (says : Says)
    (object : E → SeqSpec) (fits : Fits T) (count : T → Option PassCount) (course : RunCourse)
    (i : ℕ) where
  -- The client is that of caller i, at work with the operations and the sequential object of this
  -- course.
  pub record IsClientOf (c : Client P T E) : Type 0 where
    pub work : IsAtWork meaning r says object fits count c
    pub who : c.sheet.who ≡ i
    pub operations : c.sheet.operations.now ≡ operations_at course.operations i
    pub judges : object c.sheet.ending ≡ course.object

  -- The worker is that of caller i, before its first phase: its client is at work on this course,
  -- and it has the caller's whole allotment left.
  pub record IsStart (w : Worker P T E) : Type 0 where
    pub client : Client P T E
    pub here : w.client ≡ Some client
    pub of : IsClientOf client
    pub goes : GoesOnFrom client.stand
    pub none : phases_by client ≡ 0
    pub allotment : w.allotment ≡ slice_index course.allotments i
    pub within : w.allotment ≤ 5 * length client.sheet.operations.now
