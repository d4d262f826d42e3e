-- The state of a caller between two phases.
use Rattle.std.specs.Prelude.{◌≡◌, ℕ, ◌+◌, ◌*◌, false, List, [], ◌∷◌, length}
use Rattle.world_core.specs.Shape.{Meaning}
use Rattle.world_core.specs.Local.{Local}
use Rattle.world_core.specs.CallSteps.{steps_now}
use Rattle.world_core.specs.Calls.{Is_announced, Has_record, Has_seen, Made}
use Rattle.row_table.specs.declared.caller.Caller.{Caller}
use Rattle.row_table.specs.declared.rows.Rows.{Rows}
use Rattle.row_table.specs.Callers.{local_with, stance_of, IsFree, MayGet}
use Rattle.drv_wrapper.specs.States.{caller_announced, op_announced, announced_local, caller_answered, op_answered, reply_answered, caller_viewed, record_viewed}
use Rattle.enforcer.specs.States.{caller_published, record_published, caller_seen, cut_seen, record_seen}
use Rattle.client_calls.specs.declared.stand.CallerState.{CallerState}
use Rattle.client_calls.specs.declared.stand.CallerState.TheVariants.{Idle, Announced, Answered, Viewed, Published, Halted, Unjudged}

module _ {P : Type 0} where
  -- The caller that is in this state.
  abbrev pub caller_at : CallerState P → Caller P
  caller_at (Idle c) = c
  caller_at (Announced a) = caller_announced a
  caller_at (Answered a) = caller_answered a
  caller_at (Viewed v) = caller_viewed v
  caller_at (Published p) = caller_published p
  caller_at (Halted c) = c
  caller_at (Unjudged s) = caller_seen s

  -- The local of the caller that is in this state.
  abbrev pub local_at_stand : CallerState P → Local
  local_at_stand s = local_with (caller_at s)

  -- How many phases of the call under way were made: 0 where there is none, and all five where the
  -- call is unjudged for want of memory.
  abbrev pub place_of : CallerState P → ℕ
  place_of (Idle c) = 0
  place_of (Announced a) = 1
  place_of (Answered a) = 2
  place_of (Viewed v) = 3
  place_of (Published p) = 4
  place_of (Halted c) = 0
  place_of (Unjudged s) = 5

  -- How many phases a caller in this state has made, after this many lines.
  abbrev pub phases_at : ℕ → CallerState P → ℕ
  phases_at lines s = 5 * lines + place_of s

  -- The call under way of a caller in this state, as a list: no call, or the one of this operation,
  -- as far as it has come.
  abbrev pub under_way : ℕ → CallerState P → List Made
  under_way op (Idle c) = []
  under_way op (Announced a) = record { operation = op; reached = Is_announced } ∷ []
  under_way op (Answered a) = record { operation = op; reached = Is_announced } ∷ []
  under_way op (Viewed v) =
      record { operation = op; reached = Has_record (record_viewed v) } ∷ []
  under_way op (Published p) =
      record { operation = op; reached = Has_record (record_published p) } ∷ []
  under_way op (Halted c) = []
  under_way op (Unjudged s) =
      record { operation = op; reached = Has_seen (record_seen s) (cut_seen s) } ∷ []

  -- What a caller in this state needs for the next phase of its call with this operation. Between
  -- two calls the caller is free; an announced call has no object step yet; the program allows the
  -- reply of an answered call; a view has a count for each caller. A caller that can't go on after
  -- an error is halted.
  abbrev pub MayGoOn : (P → ℕ → ℕ → Meaning) → Rows P → ℕ → CallerState P → Type 0
  MayGoOn meaning r op (Idle c) = IsFree c
  MayGoOn meaning r op (Announced a) = (op_announced a ≡ op) × (steps_now (announced_local a) ≡ [])
  MayGoOn meaning r op (Answered a) = (op_answered a ≡ op)
      × MayGet meaning (caller_answered a) (reply_answered a)
  MayGoOn meaning r op (Viewed v) = length (record_viewed v).view ≡ r.callers
  MayGoOn meaning r op (Published p) = Unit {0}
  MayGoOn meaning r op (Halted c) = (stance_of c).live ≡ false
  MayGoOn meaning r op (Unjudged s) = Unit {0}

  -- The caller can make further phases: it isn't halted, and no call of it is left unjudged.
  abbrev pub GoesOnFrom : CallerState P → Type 0
  GoesOnFrom (Halted c) = ⊥
  GoesOnFrom (Unjudged s) = ⊥
  GoesOnFrom _ = Unit {0}
