-- Runs whose callers judge nothing, while two monitors watch them: what they begin with, and what
-- they leave.
use Rattle.std.specs.Prelude.{◌≡◌, ℕ, ◌+◌, ◌%◌, ◌<◌, ◌≤◌, List, [], ◌∷◌, ◌++◌, Some, Option, IfSome, length, map, sum_by, slice_index}
use Rattle.book_base.specs.SeqSpec.{SeqSpec}
use Rattle.book_base.specs.Order.{HasLegalOrder}
use Rattle.world_core.specs.Local.{Local, Given}
use Rattle.world_core.specs.Calls.{book_in, local_at}
use Rattle.report_lines.specs.declared.line.Line.{Line}
use Rattle.report_lines.specs.Phases.{HasMade, published_by, progress_of, no_progress}
use Rattle.report_lines.specs.Allotments.{operations_at}
use Rattle.row_table.specs.declared.bench.Bench.{Bench}
use Rattle.row_table.specs.Benches.{fresh_stance}
use Rattle.row_table.specs.Callers.{locals_on, on_bench, stance_on}
use Rattle.client_scripts.specs.Plans.{Plan}
use Rattle.client_calls.specs.Asking.{PassCount}
use Rattle.run_report.specs.Places.{AreInOrder}
use Rattle.run_report.specs.Starts.{run_allotments}
use Rattle.run_report.specs.Returns.{IsCountOf}
use Rattle.monitor.specs.declared.beside.Left.{Left}
use Rattle.monitor.specs.Rounds.{HasRounds}
use Rattle.monitor.specs.Worlds.{published_book, AreRoundsOver, AreJudgedRounds}

-- How many rounds a monitor makes at the most: one for each call of a plan, and one more.
abbrev pub most_rounds : Plan → ℕ
most_rounds plan = sum_by length plan.operations + 1

-- How many records each caller publishes, where each of a plan's callers makes its whole allotment.
-- The two monitors publish none.
abbrev pub published_for : Plan → List ℕ
published_for plan = map published_by (run_allotments plan) ++ 0 ∷ 0 ∷ []

-- The lines of a plan's callers, and after them those of the two monitors, who have none.
abbrev pub with_monitors : List (List Line) → List (List Line)
with_monitors lines = (lines ++ [] ∷ []) ++ [] ∷ []

-- The caller is one of the two monitors: their numbers follow those of a plan's callers.
pub record IsMonitor (plan : Plan) (i : ℕ) : Type 0 where
  pub after : length plan.operations ≤ i
  pub before : i < length plan.operations + 2

-- Each of a plan's callers has made exactly the phases of its allotment, and the two monitors have
-- made no call.
pub record HaveMadeAll (plan : Plan) (locals : List Local) : Type 0 where
  pub callers : length locals ≡ length plan.operations + 2
  pub made : (i : ℕ) → i < length plan.operations → HasMade (operations_at plan.operations i)
      (slice_index (run_allotments plan) i) (local_at locals i)
  pub none : (i : ℕ) → IsMonitor plan i → progress_of (local_at locals i) ≡ no_progress

-- The pass of caller i, where it counts calls, counts exactly those that the caller's allotment
-- lets it ask the object for. Where it tells calls, it tells an operation and a reply for each of
-- them.
abbrev pub IsCountedAll : {T : Type 0} → (T → Option PassCount) → Plan → List Local → ℕ → T → Type 0
IsCountedAll count plan locals i pass =
    IfSome (count pass) (IsCountOf (slice_index (run_allotments plan) i) (local_at locals i))

module _ (spec : SeqSpec) where
  -- The cuts that monitor i was given, after those of its local `before`, are those of its rounds
  -- over the calls of all callers.
  abbrev pub HasMonitored : Plan → List Local → ℕ → Local → Type 0
  HasMonitored plan locals i before =
      (rounds : List Given) × ((local_at locals i).cuts ≡ before.cuts ++ rounds)
      × AreJudgedRounds spec (book_in locals) (most_rounds plan) rounds

  -- The cuts that monitor i was given, after those of its local `before`, are those of its rounds
  -- over the calls of all callers; nothing is said of the book at the last one.
  abbrev pub HasMadeSome : Plan → List Local → ℕ → Local → Type 0
  HasMadeSome plan locals i before =
      (rounds : List Given) × ((local_at locals i).cuts ≡ before.cuts ++ rounds)
      × AreRoundsOver spec (book_in locals) (most_rounds plan) rounds

  -- Both monitors have made rounds over the calls of all callers, after their locals on the bench
  -- `b`. One of them at least has made its rounds to the end, and both have where the book of all
  -- published records has a legal order. The other one may have lacked memory.
  pub record HaveMonitored {P : Type 0} (plan : Plan) (b : Bench P) (locals : List Local) : Type 0
    where
      pub each : (i : ℕ) (l : Local) → IsMonitor plan i → on_bench b i ≡ Some l
          → HasMadeSome plan locals i l
      pub ended : ℕ
      pub one : IsMonitor plan ended
      pub ends : (l : Local) → on_bench b ended ≡ Some l → HasMonitored plan locals ended l
      pub legal : HasLegalOrder spec (published_book locals) → (i : ℕ) (l : Local)
          → IsMonitor plan i → on_bench b i ≡ Some l → HasMonitored plan locals i l

module _ {P : Type 0} where
  -- Each of a plan's callers whose allotment ends between two calls, or after all of them, is on
  -- the bench, free for its next call.
  abbrev pub AreFreeAgain : Plan → Bench P → Type 0
  AreFreeAgain plan b =
      (i : ℕ) → i < length plan.operations → slice_index (run_allotments plan) i % 5 ≡ 0
      → stance_on b i ≡ Some fresh_stance

  -- Caller i is back on the bench after rounds, at most `most`, that began with the local `before`.
  -- It found the own witness that `left` has, or none; or it was cut short for want of memory, and
  -- left no witness.
  pub record HasWatched (spec : SeqSpec) (n : ℕ) (b : Bench P) (i : ℕ) (before : Local) (most : ℕ)
      (left : Left) : Type 0 where
    pub local : Local
    pub here : on_bench b i ≡ Some local
    pub rounds : HasRounds spec n left.wants_memory most before local left.own

-- What a run of a plan's callers that two monitors watch leaves on the bench `b`, which was `first`
-- as the run began, and in these passes, where it has an answer.
pub record HaveBeenWatched {P T : Type 0} (spec : SeqSpec) (count : T → Option PassCount)
    (plan : Plan) (first b : Bench P) (passes : List T) : Type 0 where
  -- Each caller of the plan has made exactly the phases that the plan gives it, and no monitor has
  -- made a call.
  pub made : HaveMadeAll plan (locals_on b)
  -- Each caller of the plan whose allotment ends between two calls, or after all of them, is free
  -- for its next call.
  pub free : AreFreeAgain plan b
  -- Each pass that counts calls counts exactly those that the plan's allotments let its caller ask
  -- the object for. Where it tells calls, it tells an operation and a reply for each of them.
  pub counted : AreInOrder (IsCountedAll count plan (locals_on b)) passes
  -- The cuts that each monitor was given in this run are those of its rounds over the calls of all
  -- callers: at most one more than the plan has calls. At each cut but the last the book has a
  -- legal order. Of one monitor at least, and of both where the book of all published records has a
  -- legal order, it also holds that where there are no more cuts than the plan has calls, the book
  -- at the last one has no legal order.
  pub rounds : HaveMonitored spec plan first (locals_on b)
