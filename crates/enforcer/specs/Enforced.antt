-- What a whole call adds to its caller's progress and to the counter of steps, and what an outcome
-- says of its call's line and of later outcomes.
use Rattle.std.specs.Prelude.{◌≡◌, ◌≤◌, ◌+◌, ◌*◌, ℕ, true, false, List, Option, Some, Result, Ok, Err}
use Rattle.book_base.specs.declared.call.Record.{Record}
use Rattle.book_base.specs.SeqSpec.{SeqSpec}
use Rattle.book_base.specs.Book.{Page}
use Rattle.book_base.specs.Cut.{IsWithin}
use Rattle.book_base.specs.BookAt.{book_at}
use Rattle.book_base.specs.Order.{HasLegalOrder}
use Rattle.world_core.specs.Shape.{Shape}
use Rattle.world_core.specs.Local.{Local}
use Rattle.world_core.specs.Calls.{AreTogether, book_in, local_at}
use Rattle.report_lines.specs.Phases.{Progress}
use Rattle.report_lines.specs.Progress.{after_announcing, after_viewing, after_publishing, after_seeing}
use Rattle.report_lines.specs.declared.line.LineEnd.TheVariants.{Error}
use Rattle.report_lines.specs.Workers.{IsJudgedBy}
use Rattle.frontier_check.specs.declared.kept_order.KeptOrder.{KeptOrder}
use Rattle.row_table.specs.declared.caller.Caller.{Caller}
use Rattle.collect_scan.specs.Scanned.{most_words}
use Rattle.row_gather.specs.declared.gathered.Gathered.{Gathered}
use Rattle.enforcer.specs.declared.outcome.Outcome.{Outcome}
use Rattle.enforcer.specs.declared.outcome.Outcome.TheVariants.{Illegal}
use Rattle.enforcer.specs.declared.outcome.Unjudged.{Unjudged}
use Rattle.enforcer.specs.declared.call_verdict.CallVerdict.TheVariants as verdict
use Rattle.enforcer.specs.Judged.{record_in, cut_in, end_of, is_illegal, stance_after, IsRightFor, IsRightByPeeks, IsRightInWorlds}
use Rattle.enforcer.specs.Verdicts.{outcome_of}
use Rattle.enforcer.specs.Kept.{TicksForNewAfter}

-- The progress of a caller after a whole call: it has one more call, with this operation, this
-- record and this seen cut, and one more published record.
abbrev pub after_call : ℕ → Record → List ℕ → Progress → Progress
after_call op r cut progress =
    after_seeing cut (after_publishing (after_viewing r (after_announcing op progress)))

-- The record of a call that wasn't judged.
abbrev pub record_unjudged : {P : Type 0} → Unjudged P → Record
record_unjudged u = record { reply = u.reply; view = u.view }

-- The reply of a call, judged or not.
abbrev pub reply_of : {P : Type 0} → Result (Caller P × Outcome) (Unjudged P) → ℕ
reply_of (Ok r) = (record_in r.1).reply
reply_of (Err u) = u.reply

-- The counter of steps has risen from `before` to `after` in two parts: by at most the words that
-- four scans may take, and then by the number of words of the call's book that the book `kept`
-- before the call lacks, under the conditions of `TicksForNewAfter`.
abbrev pub TicksForWholeCall : ℕ → Option Gathered → Outcome → Option Gathered → ℕ → ℕ → Type 0
TicksForWholeCall n kept outcome gathered before after =
    (scanned : ℕ) × (before ≤ scanned) × (scanned ≤ before + 4 * most_words n)
    × TicksForNewAfter n kept outcome gathered scanned after

-- Where an outcome is right for a book that its caller has gathered, the end of the call's line
-- that it makes is right too: where the line ends with `Delivered`, a book that the caller has
-- gathered at the seen cut has a legal order; where it ends with `Error`, a book that the caller
-- has gathered at the seen cut has no legal order.
abbrev pub OutcomesAreVerdicts : Type 0
OutcomesAreVerdicts =
    (spec : SeqSpec) (n : ℕ) (l : Local) (outcome : Outcome)
    → IsRightByPeeks spec n l outcome → IsJudgedBy spec n l (end_of outcome)

-- An error is final. In a reachable world in which the book at the cut `lower`, taken from the book
-- of all callers' calls, has no legal order, an outcome is an error if its seen cut contains
-- `lower` and it is right for the book at its seen cut.
abbrev pub ErrorsAreFinal : Type 0
ErrorsAreFinal =
    (spec : SeqSpec) (s : Shape) (locals : List Local)
    (lower : List ℕ) (outcome : Outcome) → AreTogether s locals
    → IsWithin lower (cut_in outcome) → ¬ HasLegalOrder spec (book_at lower (book_in locals))
    → IsRightFor spec (book_at (cut_in outcome) (book_in locals)) outcome
    → is_illegal outcome ≡ true

-- The outcome is an error with this record and this seen cut: the line of its call ends with
-- `Error` and with both, and its caller is halted.
pub record IsErrorOf (r : Record) (cut : List ℕ) (outcome : Outcome) : Type 0 where
  pub record_is : record_in outcome ≡ r
  pub cut_is : cut_in outcome ≡ cut
  pub illegal : is_illegal outcome ≡ true
  pub line : end_of outcome ≡ Error r cut
  pub halted : (stance_after outcome).live ≡ false

-- An illegal outcome is an error with the record and the seen cut that it carries. An illegal
-- verdict on the call makes the outcome with the same parts, whatever order is kept.
abbrev pub IllegalOutcomesAreErrors : Type 0
IllegalOutcomesAreErrors =
    (reply : ℕ) (view seen : List ℕ) (book : List Page)
    (standing : Option KeptOrder)
    → IsErrorOf (record { reply = reply; view = view }) seen (Illegal reply view seen book)
    × (outcome_of (record { reply = reply; view = view }) seen (verdict.Illegal book) standing
    ≡ Some (Illegal reply view seen book))

-- In a reachable world in which its caller has the local `l`, an illegal outcome that is right there
-- carries the book at the seen cut, taken from the book of all callers' calls, and this book has no
-- legal order.
abbrev pub IllegalOutcomesAreEvidence : Type 0
IllegalOutcomesAreEvidence =
    (spec : SeqSpec) (s : Shape) (i : ℕ) (l : Local) (locals : List Local)
    (reply : ℕ) (view seen : List ℕ) (book : List Page)
    → IsRightInWorlds spec s i l (Illegal reply view seen book)
    → AreTogether s locals → local_at locals i ≡ l
    → (book ≡ book_at seen (book_in locals)) × ¬ HasLegalOrder spec book
