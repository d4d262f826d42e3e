-- Clients at work: how many phases a client has made, whether its pass and its capacity suit its
-- operations, and what stays as it works.
use Rattle.std.specs.Prelude.{◌≡◌, ℕ, ◌+◌, ◌*◌, ◌≤◌, List, Option, None, length, vec_capacity}
use Rattle.book_base.specs.declared.call.Record.{Record}
use Rattle.book_base.specs.SeqSpec.{SeqSpec}
use Rattle.world_core.specs.Shape.{Meaning}
use Rattle.world_core.specs.Local.{Local}
use Rattle.report_lines.specs.declared.line.LineEnd.{LineEnd}
use Rattle.row_table.specs.declared.rows.Rows.{Rows}
use Rattle.client_calls.specs.Asking.{Fits, PassCount, FitsCaller}
use Rattle.client_calls.specs.Stands.{caller_at, phases_at}
use Rattle.client_calls.specs.Course.{HasCome, Counts}
use Rattle.client_calls.specs.Keeping.{KeepsStanding}
use Rattle.client_calls.specs.declared.stand.CallerState.{CallerState}
use Rattle.client_calls.specs.declared.stand.CallerState.TheVariants.{Halted, Unjudged}
use Rattle.client_calls.specs.declared.client.Client.{Client}

-- A caller in this state after this many lines has spent an allotment of phases: it has made all of
-- them, or within them it was halted or its call was left unjudged.
abbrev pub Spent : {P : Type 0} → ℕ → ℕ → CallerState P → Type 0
Spent allotment lines (Halted c) = 5 * lines ≤ allotment
Spent allotment lines (Unjudged u) = 5 * lines + 5 ≤ allotment
Spent allotment lines s = phases_at lines s ≡ allotment

-- What the end of a line says, by the sequential object, the number of callers, the local of the
-- call's caller, and the record and the seen cut of the call.
abbrev pub Says : Type 1
Says = SeqSpec → ℕ → Local → Record → List ℕ → LineEnd → Type 0

module _ {P T E : Type 0} where
  -- How many phases a client has made.
  abbrev pub phases_by : Client P T E → ℕ
  phases_by c = phases_at (length c.sheet.lines.items) c.stand

  -- A client has spent an allotment: it has made all its phases, or within them it was halted or
  -- its call was left unjudged.
  abbrev pub HasSpent : ℕ → Client P T E → Type 0
  HasSpent allotment c = Spent allotment (length c.sheet.lines.items) c.stand

  -- A client's caller belongs to these rows, and its lines and its local are exactly those of the
  -- phases that it has made with its operations.
  abbrev pub IsUnderWay : (P → ℕ → ℕ → Meaning) → Rows P
      → (ℕ → Local → Record → List ℕ → LineEnd → Type 0) → Client P T E → Type 0
  IsUnderWay meaning r says c =
      HasCome meaning r says c.sheet.who c.sheet.operations.now c.stand c.sheet.lines.items

  -- A client's pass fits its caller. A pass that counts calls has counted the client's calls for
  -- which the object was asked, and allows one call for each operation of the client.
  pub record HasPass (fits : Fits T) (count : T → Option PassCount)
      (c : Client P T E) : Type 0 where
    pub fits_caller : FitsCaller fits c.pass (caller_at c.stand)
    pub counts : Counts (count c.pass) c.sheet.operations.now c.stand c.sheet.lines.items

  -- For each operation of a client its caller has a row, and its list of lines has capacity for a
  -- line.
  pub record HasCapacity (r : Rows P) (c : Client P T E) : Type 0 where
    pub rows : length c.sheet.operations.now ≤ r.cap
    pub lines : length c.sheet.operations.now ≤ vec_capacity c.sheet.lines

  -- A client is at work: what holds of it before and after each of its phases. The parameters are
  -- the meaning of the program, and the rows; what the ends of lines say, and by which object an
  -- ending judges; whom a pass fits, and what it counts.
  pub record IsAtWork (meaning : P → ℕ → ℕ → Meaning) (r : Rows P) (says : Says)
      (object : E → SeqSpec) (fits : Fits T) (count : T → Option PassCount)
      (c : Client P T E) : Type 0 where
    -- Its caller belongs to these rows, and its lines and its local are exactly those of the phases
    -- that it has made.
    pub course : IsUnderWay meaning r (says (object c.sheet.ending)) c
    -- Its pass fits its caller. A pass that counts calls has counted the client's calls for which
    -- the object was asked, and allows one call for each operation.
    pub pass : HasPass fits count c
    -- For each operation the caller has a row, and the list of lines has capacity for a line.
    pub has_capacity : HasCapacity r c
    -- The order that it keeps stands in the book that it keeps, by the sequential object that its
    -- ending judges by.
    pub stands : KeepsStanding (object c.sheet.ending) c.sheet

-- The client d is c without the book and the order that c keeps.
pub record Releases {P T E : Type 0} (c d : Client P T E) : Type 0 where
  pub stand : d.stand ≡ c.stand
  pub pass : d.pass ≡ c.pass
  pub who : d.sheet.who ≡ c.sheet.who
  pub operations : d.sheet.operations.now ≡ c.sheet.operations.now
  pub lines : d.sheet.lines.items ≡ c.sheet.lines.items
  pub capacity : vec_capacity d.sheet.lines ≡ vec_capacity c.sheet.lines
  pub ending : d.sheet.ending ≡ c.sheet.ending
  pub no_book : d.sheet.gathered ≡ None
  pub no_order : d.sheet.standing ≡ None
