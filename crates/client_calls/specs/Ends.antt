-- What the end of a line says of its call.
use Rattle.std.specs.Prelude.{◌≡◌, ℕ, List, []}
use Rattle.std.specs.List.{AllZip}
use Rattle.book_base.specs.declared.call.Record.{Record}
use Rattle.book_base.specs.SeqSpec.{SeqSpec}
use Rattle.world_core.specs.Local.{Local}
use Rattle.world_core.specs.Calls.{Reached, Is_announced, Has_record, Has_seen, Made, calls_in}
use Rattle.report_lines.specs.declared.line.LineEnd.{LineEnd}
use Rattle.report_lines.specs.declared.line.LineEnd.TheVariants.{Pending, Unchecked, Delivered, Error}
use Rattle.report_lines.specs.declared.line.Line.{Line}
use Rattle.report_lines.specs.Phases.{HasMade}
use Rattle.report_lines.specs.Allotments.{phases_of, KeepsTo}
use Rattle.report_lines.specs.Workers.{IsJudgedBy}

-- The sequential object of an ending that judges nothing: it replies 0 to each operation, and its
-- list stays empty.
abbrev pub silent : SeqSpec
silent = record { init = []; next = λ list operation. (list, 0) }

-- The end of the line of a judged call: delivered or an error, with this record and this seen cut,
-- by a book that a caller of n with local `l` gathered at this cut.
abbrev pub SaysJudged : SeqSpec → ℕ → Local → Record → List ℕ → LineEnd → Type 0
SaysJudged object n l r cut Pending = ⊥
SaysJudged object n l r cut (Unchecked r') = ⊥
SaysJudged object n l r cut (Delivered r' cut') = (r' ≡ r) × (cut' ≡ cut)
    × IsJudgedBy object n l (Delivered r' cut')
SaysJudged object n l r cut (Error r' cut') = (r' ≡ r) × (cut' ≡ cut)
    × IsJudgedBy object n l (Error r' cut')

-- The line of a call that nobody judges: unchecked, with this record.
abbrev pub SaysDeferred : SeqSpec → ℕ → Local → Record → List ℕ → LineEnd → Type 0
SaysDeferred object n l r cut end = end ≡ Unchecked r

-- The end of a line is pending for an announced call, unchecked with the record for a call that has
-- one and no seen cut, and as `says` has it for a call with a record and a seen cut.
abbrev pub EndsAs : (Record → List ℕ → LineEnd → Type 0) → Reached → LineEnd → Type 0
EndsAs says Is_announced end = end ≡ Pending
EndsAs says (Has_record r) end = end ≡ Unchecked r
EndsAs says (Has_seen r cut) end = says r cut end

-- The line has the operation of this call, and an end that says how far the call has come.
pub record IsLineOf (says : Record → List ℕ → LineEnd → Type 0) (call : Made)
    (line : Line) : Type 0 where
  pub operation : line.op ≡ call.operation
  pub end : EndsAs says call.reached line.end

-- There is one line for each of these calls, in their order.
abbrev pub AreLinesOfCalls : (Record → List ℕ → LineEnd → Type 0) → List Made → List Line → Type 0
AreLinesOfCalls says calls own = AllZip (IsLineOf says) calls own

-- What a client leaves, in its caller's local and its lines, for its operations and its allotment.
-- There is a line for each of its calls, pending or unchecked for a call without a seen cut, and
-- with an end as `says` has it for a call with one. The client made all phases of its allotment,
-- but for those after an error.
pub record HasLeft (says : ℕ → Local → Record → List ℕ → LineEnd → Type 0) (n : ℕ)
    (operations : List ℕ) (allotment : ℕ) (l : Local) (own : List Line) : Type 0 where
  pub lines : AreLinesOfCalls (says n l) (calls_in l) own
  pub made : HasMade operations (phases_of allotment own) l
  pub keeps : KeepsTo allotment own

-- A client has left a local and lines as `HasLeft` says, and has made p phases, as many as its
-- allotment and its lines determine.
pub record HasLeftAt (says : ℕ → Local → Record → List ℕ → LineEnd → Type 0) (n : ℕ)
    (operations : List ℕ) (allotment p : ℕ) (l : Local) (own : List Line) : Type 0 where
  pub left : HasLeft says n operations allotment l own
  pub is : p ≡ phases_of allotment own
