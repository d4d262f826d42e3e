-- What a hunt found in the runs that it made.
use Rattle.std.specs.Prelude.{zero, suc, ◌≡◌, ℕ, ◌+◌, ◌<◌, ◌≤◌, ◌%◌, ◌^◌, List, [], ◌∷◌, ◌++◌, length, Option, IfSome, IfNone}
use Rattle.book_base.specs.Order.{HasLegalOrder}
use Rattle.seq_objects.specs.Objects.{kind_spec}
use Rattle.report_lines.specs.Lawful.{IsLawful}
use Rattle.client_scripts.specs.Plans.{Plan}
use Rattle.client_scripts.specs.declared.workload.Workload.{Workload}
use Rattle.client_scripts.specs.Drawn.{drawn_plan}
use Rattle.reports.specs.Findings.{Findings, IsWitness, HasNoError}
use Rattle.run_report.specs.Places.{AreInOrder}
use Rattle.run_report.specs.Starts.{run_allotments}
use Rattle.run_report.specs.Reporting.{outside_shape, IsToldIn}
use Rattle.hunts.specs.declared.trial.Catch.{Catch}
use Rattle.hunts.specs.declared.runs.Settings.{Settings}
use Rattle.hunts.specs.declared.runs.Hunted.{Hunted}
use Rattle.hunts.specs.Watching.{RunNews, Begins, Ran}

-- The seed of the run of a hunt that has this number, counted from 0.
abbrev pub seed_at : Settings → ℕ → ℕ
seed_at settings number = (settings.seed + number) % 2 ^ 64

-- What is told of the run of a seed: it begins with the script of the seed, and then it was made.
abbrev pub news_of : Workload → ℕ → List RunNews
news_of w seed = Begins seed (drawn_plan w seed) ∷ Ran seed ∷ []

-- What is told of the first runs of a hunt, one run after the other, of as many runs as the number
-- says.
abbrev pub first_news : Settings → ℕ → List RunNews
first_news settings zero = []
first_news settings (suc number) =
    first_news settings number ++ news_of settings.workload (seed_at settings number)

module _ {T : Type 0} (made : T → ℕ) (told : T → Option (List (ℕ × ℕ))) where
  -- A run was made of this plan over an object outside the world, and reports these findings. They
  -- are of the plan's kind, and lawful by the object of that kind. With pass i the object was asked
  -- for just the calls that the lines of caller i determine, and where the pass tells a list, this
  -- has the operations and the replies of these calls.
  pub record IsRun (plan : Plan) (passes : List T) (findings : Findings) : Type 0 where
    pub kind : findings.kind ≡ plan.kind
    pub lawful : IsLawful (kind_spec plan.kind) (outside_shape (length plan.operations))
        plan.operations (run_allotments plan) findings.lines
    pub told_in : AreInOrder (IsToldIn made told (run_allotments plan) findings) passes

  -- A run of this plan was made with some passes, and reports these findings.
  abbrev pub IsMade : Plan → Findings → Type 0
  IsMade plan findings = (passes : List T) × IsRun plan passes findings

  -- A run was made of the script of a seed, and no line of its report is an error.
  pub record IsQuiet (w : Workload) (seed : ℕ) : Type 0 where
    pub report : Findings
    pub ran : IsMade (drawn_plan w seed) report
    pub none : HasNoError report.lines

  -- The catch is of a run of the script of a seed: its witness is the book at the seen cut of the
  -- first error line of the run's report, and no order of the witness is legal for the object of
  -- its kind. The passes are those with which the run was made.
  pub record IsCaught (w : Workload) (seed : ℕ) (catch : Catch T) : Type 0 where
    pub seed_is : catch.seed ≡ seed
    pub script : catch.script ≡ drawn_plan w seed
    pub ran : IsRun catch.script catch.passes.items catch.report
    pub witness : IsWitness catch.report.lines catch.witness
    pub no_order : ¬ HasLegalOrder (kind_spec w.kind) catch.witness

  -- All runs of a hunt before the one of this number were made, and were quiet.
  abbrev pub AreQuietBefore : Settings → ℕ → Type 0
  AreQuietBefore settings number = (k : ℕ) → k < number
      → IsQuiet settings.workload (seed_at settings k)

  -- The catch is of the last of this many runs, and those before it were quiet.
  pub record IsCaughtLast (settings : Settings) (runs : ℕ) (catch : Catch T) : Type 0 where
    pub number : ℕ
    pub last : runs ≡ number + 1
    pub before : AreQuietBefore settings number
    pub caught : IsCaught settings.workload (seed_at settings number) catch

  -- What a hunt ends with: a catch of its last run, or all its runs, which were quiet.
  pub record IsHunted (settings : Settings) (hunted : Hunted T) : Type 0 where
    pub within : hunted.runs ≤ settings.runs
    pub caught : IfSome hunted.caught (IsCaughtLast settings hunted.runs)
    pub nothing : IfNone hunted.caught
        ((hunted.runs ≡ settings.runs) × AreQuietBefore settings settings.runs)
