-- How a call has ended: the state of its caller then, and what is said of the call.
use Rattle.std.specs.Prelude.{◌≡◌, ℕ, List, [], ◌∷◌, ◌++◌, true, false}
use Rattle.book_base.specs.declared.call.Record.{Record}
use Rattle.world_core.specs.Shape.{Meaning}
use Rattle.world_core.specs.Local.{Local}
use Rattle.report_lines.specs.declared.line.LineEnd.{LineEnd}
use Rattle.report_lines.specs.declared.line.Line.{Line}
use Rattle.report_lines.specs.Lines.{is_error}
use Rattle.report_lines.specs.Phases.{progress_of}
use Rattle.report_lines.specs.Progress.{after_seeing}
use Rattle.row_table.specs.declared.rows.Rows.{Rows}
use Rattle.row_table.specs.declared.caller.Caller.{Caller}
use Rattle.row_table.specs.Callers.{local_with, stance_of, IsFree, IsStill}
use Rattle.drv_wrapper.specs.Growth.{Grows}
use Rattle.enforcer.specs.declared.published_call.Published.{Published}
use Rattle.enforcer.specs.declared.seen_call.Seen.{Seen}
use Rattle.enforcer.specs.States.{caller_published, caller_seen, cut_seen, record_published, record_seen}
use Rattle.client_calls.specs.declared.stand.CallerState.{CallerState}
use Rattle.client_calls.specs.declared.stand.CallerState.TheVariants.{Idle, Halted, Unjudged}
use Rattle.client_calls.specs.declared.ended.Ended.{Ended}
use Rattle.client_calls.specs.declared.ended.Ended.TheVariants.{GoesOn, Halts, WantsMemory}

module _ {P : Type 0} where
  -- The caller of a call that has ended.
  abbrev pub caller_ended : Ended P → Caller P
  caller_ended (GoesOn c end) = c
  caller_ended (Halts c end) = c
  caller_ended (WantsMemory s) = caller_seen s

  -- The local of the caller of a call that has ended.
  abbrev pub local_ended : Ended P → Local
  local_ended e = local_with (caller_ended e)

  -- A caller is free after a call that is no error, and is halted after an error. Nothing is said
  -- of the caller of a call that was left unjudged.
  abbrev pub StandsAfter : Ended P → Type 0
  StandsAfter (GoesOn c end) = IsFree c
  StandsAfter (Halts c end) = (stance_of c).live ≡ false
  StandsAfter (WantsMemory s) = Unit {0}

  -- The end of a call's line is an error where the call halts its caller, and is no error where the
  -- caller is free for its next call. Nothing is said of a call that was left unjudged: it has no
  -- line.
  abbrev pub FitsError : Ended P → Type 0
  FitsError (GoesOn c end) = (op : ℕ) → is_error (record { op = op; end = end }) ≡ false
  FitsError (Halts c end) = (op : ℕ) → is_error (record { op = op; end = end }) ≡ true
  FitsError (WantsMemory s) = Unit {0}

  -- The end of a call's line is as `says` has it for the call's record and seen cut. Where memory
  -- was lacking, the call has no line, and keeps its record and its seen cut.
  abbrev pub SaysOf : (Local → Record → List ℕ → LineEnd → Type 0) → Record → List ℕ
      → Ended P → Type 0
  SaysOf says r cut (GoesOn c end) = says (local_with c) r cut end
  SaysOf says r cut (Halts c end) = says (local_with c) r cut end
  SaysOf says r cut (WantsMemory s) = (record_seen s ≡ r) × (cut_seen s ≡ cut)

  -- What an ended call leaves: its caller idle, halted or unjudged, and the call's line after the
  -- caller's lines `own`, unless the call is unjudged, and so has no line.
  abbrev pub IsNoted : ℕ → List Line → Ended P → List Line → CallerState P → Type 0
  IsNoted op own (GoesOn c end) own' s = (s ≡ Idle c)
      × (own' ≡ own ++ record { op = op; end = end } ∷ [])
  IsNoted op own (Halts c end) own' s = (s ≡ Halted c)
      × (own' ≡ own ++ record { op = op; end = end } ∷ [])
  IsNoted op own (WantsMemory u) own' s = (s ≡ Unjudged u) × (own' ≡ own)

  -- A published call has ended. Where it has a line, the line's end is as `says` has it. Its caller
  -- still belongs to these rows, saw a cut, and its progress has changed by this cut alone. The
  -- caller is halted after an error, and free for its next call after a call that is none.
  pub record HasEnded (meaning : P → ℕ → ℕ → Meaning) (r : Rows P)
      (says : ℕ → Local → Record → List ℕ → LineEnd → Type 0) (p : Published P)
      (e : Ended P) : Type 0 where
    pub cut : List ℕ
    pub still : IsStill meaning r (caller_published p) (caller_ended e)
    pub progress : progress_of (local_ended e)
        ≡ after_seeing cut (progress_of (local_with (caller_published p)))
    pub grows : Grows (local_with (caller_published p)) (local_ended e)
    pub stands : StandsAfter e
    pub error : FitsError e
    pub says_of : SaysOf (says r.callers) (record_published p) cut e

  -- A published call has ended in some way, and its line, where it has one, stands after the lines
  -- `own` of its caller.
  abbrev pub Ends : (P → ℕ → ℕ → Meaning) → Rows P
      → (ℕ → Local → Record → List ℕ → LineEnd → Type 0) → Published P → ℕ → List Line → List Line
      → CallerState P → Type 0
  Ends meaning r says p op own own' s = (e : Ended P) × HasEnded meaning r says p e
      × IsNoted op own e own' s

  -- A call whose cut was seen has ended. Where it has a line, the line's end is as `says` has it for
  -- the call's record and its seen cut. Its caller still belongs to these rows, and its progress is
  -- as before.
  pub record HasEndedSeen (meaning : P → ℕ → ℕ → Meaning) (r : Rows P)
      (says : ℕ → Local → Record → List ℕ → LineEnd → Type 0) (s : Seen P)
      (e : Ended P) : Type 0 where
    pub still : IsStill meaning r (caller_seen s) (caller_ended e)
    pub progress : progress_of (local_ended e) ≡ progress_of (local_with (caller_seen s))
    pub grows : Grows (local_with (caller_seen s)) (local_ended e)
    pub stands : StandsAfter e
    pub error : FitsError e
    pub says_of : SaysOf (says r.callers) (record_seen s) (cut_seen s) e

  -- A call whose cut was seen has ended in some way, and its line, where it has one, stands after
  -- the lines `own` of its caller.
  abbrev pub EndsSeen : (P → ℕ → ℕ → Meaning) → Rows P
      → (ℕ → Local → Record → List ℕ → LineEnd → Type 0) → Seen P → ℕ → List Line → List Line
      → CallerState P → Type 0
  EndsSeen meaning r says s op own own' t = (e : Ended P) × HasEndedSeen meaning r says s e
      × IsNoted op own e own' t
