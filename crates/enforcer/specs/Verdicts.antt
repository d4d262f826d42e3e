-- What the verdict on a call says: of its caller, of the line of the call, and of the book and the
-- order that are kept. A verdict has neither the record nor the seen cut of its call: these are those
-- of the seen call that was judged.
use Rattle.std.specs.Prelude.{◌≡◌, ℕ, false, List, Option, Some, None, IfSome, IsSomeAnd, length}
use Rattle.book_base.specs.declared.call.Record.{Record}
use Rattle.book_base.specs.SeqSpec.{SeqSpec}
use Rattle.book_base.specs.Cut.{IsWithin}
use Rattle.frontier_check.specs.declared.kept_order.KeptOrder.{KeptOrder}
use Rattle.frontier_check.specs.Standing.{IsStandingFor}
use Rattle.report_lines.specs.declared.line.LineEnd.{LineEnd}
use Rattle.report_lines.specs.declared.line.LineEnd.TheVariants as line
use Rattle.row_table.specs.declared.stance.Stance.{Stance}
use Rattle.row_gather.specs.declared.gathered.Gathered.{Gathered}
use Rattle.row_gather.specs.Gathered.{TicksForNew}
use Rattle.drv_wrapper.specs.Stands.{ready}
use Rattle.enforcer.specs.declared.call_verdict.CallVerdict.{CallVerdict}
use Rattle.enforcer.specs.declared.call_verdict.CallVerdict.TheVariants.{Delivered, Illegal}
use Rattle.enforcer.specs.declared.outcome.Outcome.{Outcome}
use Rattle.enforcer.specs.declared.outcome.Outcome.TheVariants as outcome

-- Where a book and an order are kept, the order stands in the book: for this object, the order's
-- places up to each of its marks follow one another in that book, or in an earlier one from which
-- that book has grown.
abbrev pub OrderStandsIn : SeqSpec → Option Gathered → Option KeptOrder → Type 0
OrderStandsIn spec gathered None = Unit {0}
OrderStandsIn spec None (Some s) = Unit {0}
OrderStandsIn spec (Some g) (Some s) = IsStandingFor spec g.book s

-- A book is kept, it is of n callers, and the cut that is kept with it is within this cut.
abbrev pub IsGatheredWithin : ℕ → Option Gathered → List ℕ → Type 0
IsGatheredWithin n gathered cut = IsSomeAnd gathered (λ g. (length g.book ≡ n) × IsWithin g.cut cut)

-- The stance of the caller after its call was judged: ready for its next call after `Delivered`, and
-- halted after `Illegal`.
abbrev pub stance_judged : CallVerdict → Stance
stance_judged Delivered = ready
stance_judged (Illegal book) = record ready { live = false }

-- How the line of a judged call with this record and this seen cut ends.
abbrev pub line_judged : Record → List ℕ → CallVerdict → LineEnd
line_judged r cut Delivered = line.Delivered r cut
line_judged r cut (Illegal book) = line.Error r cut

-- The outcome of a judged call with this record and this seen cut: for `Delivered` the outcome with
-- the kept order, and no outcome where no order is kept; and for `Illegal` the outcome with the book
-- of the verdict, whether an order is kept or not.
abbrev pub outcome_of : Record → List ℕ → CallVerdict → Option KeptOrder → Option Outcome
outcome_of r cut Delivered None = None
outcome_of r cut Delivered (Some s) = Some (outcome.Delivered r.reply r.view cut s.order)
outcome_of r cut (Illegal book) standing = Some (outcome.Illegal r.reply r.view cut book)

-- The verdict and the kept order make an outcome together, as `outcome_of` says, and `holds` is true
-- of this outcome.
abbrev pub IsOutcome : Record → List ℕ → CallVerdict → Option KeptOrder → (Outcome → Type 0) → Type 0
IsOutcome r cut verdict standing holds = IsSomeAnd (outcome_of r cut verdict standing) holds

-- After `Delivered` a book of n callers is kept with this seen cut; after `Illegal`, which carries
-- its book, no book is kept.
abbrev pub IsKeptAfter : ℕ → List ℕ → CallVerdict → Option Gathered → Type 0
IsKeptAfter n cut Delivered gathered =
    IsSomeAnd gathered (λ g. (length g.book ≡ n) × (g.cut ≡ cut))
IsKeptAfter n cut (Illegal book) gathered = gathered ≡ None

-- The book that was judged at this seen cut, with the cut: after `Delivered` the book `gathered` that
-- is kept after the call, where one is; and after `Illegal` the book that the verdict carries.
abbrev pub judged_book : List ℕ → CallVerdict → Option Gathered → Option Gathered
judged_book cut Delivered gathered = gathered
judged_book cut (Illegal book) gathered = Some (record { book = book; cut = cut })

-- Where there is a judged book (`judged_book`), the counter of steps has risen from `before` to
-- `after` by the number of its words that the book `kept` before the call lacks, if that book is of
-- n callers and its cut is within that of the judged book. If no book was kept before, the counter
-- has risen by the number of all words of the judged book.
abbrev pub TicksForJudged : ℕ → Option Gathered → List ℕ → CallVerdict → Option Gathered → ℕ → ℕ
    → Type 0
TicksForJudged n kept cut verdict gathered before after =
    IfSome (judged_book cut verdict gathered) (λ g. TicksForNew n kept g before after)
