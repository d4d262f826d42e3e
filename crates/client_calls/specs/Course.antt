-- How far a client has come with its operations: its caller, its lines, and the pass by which it
-- asks.
use Rattle.std.specs.Prelude.{◌≡◌, ◌≤◌, ℕ, true, false, List, [], ◌∷◌, ◌++◌, Option, IfSome, length, slice_index}
use Rattle.book_base.specs.declared.call.Record.{Record}
use Rattle.world_core.specs.Shape.{Meaning}
use Rattle.world_core.specs.Local.{Local}
use Rattle.world_core.specs.Calls.{Made, calls_in}
use Rattle.report_lines.specs.declared.line.LineEnd.{LineEnd}
use Rattle.report_lines.specs.declared.line.Line.{Line}
use Rattle.report_lines.specs.Lines.{is_error, any_error}
use Rattle.report_lines.specs.Phases.{HasMade, IsTold, asked}
use Rattle.row_table.specs.declared.rows.Rows.{Rows}
use Rattle.row_table.specs.Callers.{who_of, IsCallerOf}
use Rattle.drv_wrapper.specs.States.{op_answered, reply_answered}
use Rattle.client_calls.specs.Ends.{AreLinesOfCalls}
use Rattle.client_calls.specs.Asking.{PassCount}
use Rattle.client_calls.specs.Stands.{caller_at, local_at_stand, phases_at, under_way, MayGoOn}
use Rattle.client_calls.specs.declared.stand.CallerState.{CallerState}
use Rattle.client_calls.specs.declared.stand.CallerState.TheVariants.{Answered, Halted}

-- The last one of these lines is an error, and no other one is.
pub record EndsInError (own : List Line) : Type 0 where
  pub before : List Line
  pub line : Line
  pub is : own ≡ before ++ line ∷ []
  pub none : any_error before ≡ false
  pub error : is_error line ≡ true

module _ {P : Type 0} where
  -- The lines of a caller in the state `Halted` end with its one error, and those of a caller in
  -- any other state have no error.
  abbrev pub ErrorsFit : CallerState P → List Line → Type 0
  ErrorsFit (Halted c) own = EndsInError own
  ErrorsFit _ own = any_error own ≡ false

  -- A client with these operations has come to this state and these lines. Its caller has the
  -- number `who`, belongs to these rows, has made exactly the phases up to this state, and can make
  -- its next phase, unless it is halted. The lines are those of all its calls but the one under
  -- way.
  pub record HasCome (meaning : P → ℕ → ℕ → Meaning) (r : Rows P)
      (says : ℕ → Local → Record → List ℕ → LineEnd → Type 0) (who : ℕ) (operations : List ℕ)
      (s : CallerState P) (own : List Line) : Type 0 where
    pub caller : IsCallerOf meaning r (caller_at s)
    pub number : who_of (caller_at s) ≡ who
    pub made : HasMade operations (phases_at (length own) s) (local_at_stand s)
    pub ended : List Made
    pub calls : calls_in (local_at_stand s)
        ≡ ended ++ under_way (slice_index operations (length own)) s
    pub lines : AreLinesOfCalls (says r.callers (local_at_stand s)) ended own
    pub errors : ErrorsFit s own
    pub may : MayGoOn meaning r (slice_index operations (length own)) s

  -- While the call under way is answered and has no view, the last of these pairs is its operation
  -- with its reply.
  abbrev pub EndsAnswered : CallerState P → List (ℕ × ℕ) → Type 0
  EndsAnswered (Answered a) pairs = (prefix : List (ℕ × ℕ))
      × (pairs ≡ prefix ++ (op_answered a, reply_answered a) ∷ [])
  EndsAnswered _ pairs = Unit {0}

  -- The pairs, each an operation with a reply, are what an object tells of the calls of a client in
  -- this state with these lines.
  pub record HasTold (s : CallerState P) (own : List Line) (pairs : List (ℕ × ℕ)) : Type 0 where
    pub told : IsTold (phases_at (length own) s) (calls_in (local_at_stand s)) pairs
    pub last : EndsAnswered s pairs

  -- A pass that counts `made` calls has counted exactly the calls of this state and these lines for
  -- which the object was asked. Where it tells pairs (`told`), they are the operations and the
  -- replies of these calls.
  pub record HasAskedFor (made : ℕ) (told : Option (List (ℕ × ℕ))) (s : CallerState P)
      (own : List Line) : Type 0 where
    pub made_is : made ≡ asked (phases_at (length own) s)
    pub told_is : IfSome told (HasTold s own)

  -- A pass with this count has counted the calls of this state and these lines for which the object
  -- was asked, and allows one call for each of these operations.
  pub record HasCounted (operations : List ℕ) (s : CallerState P) (own : List Line)
      (count : PassCount) : Type 0 where
    pub asked : HasAskedFor count.made count.told s own
    pub has_capacity : length operations ≤ count.room

  -- A pass that counts calls has counted the calls of this state and these lines for which the
  -- object was asked, and allows one call for each of these operations. Nothing is said of a pass
  -- that counts none.
  abbrev pub Counts : Option PassCount → List ℕ → CallerState P → List Line → Type 0
  Counts count operations s own = IfSome count (HasCounted operations s own)
