-- How a call that was announced ends, once its reply is handed in.
use Rattle.std.specs.Prelude.{◌≡◌, ℕ, List}
use Rattle.book_base.specs.declared.call.Record.{Record}
use Rattle.book_base.specs.SeqSpec.{SeqSpec}
use Rattle.world_core.specs.Shape.{Meaning}
use Rattle.row_table.specs.declared.caller.Caller.{Caller}
use Rattle.row_table.specs.declared.rows.Rows.{Rows}
use Rattle.row_table.specs.Callers.{local_with, stance_of, IsStill}
use Rattle.report_lines.specs.Phases.{progress_of}
use Rattle.report_lines.specs.Progress.{after_announcing, after_viewing, after_publishing, after_seeing}
use Rattle.drv_wrapper.specs.declared.announced.Announced.{Announced}
use Rattle.drv_wrapper.specs.Events.{HasAnnounced}
use Rattle.drv_wrapper.specs.Growth.{Grows}
use Rattle.drv_wrapper.specs.States.{caller_announced, op_announced, announced_local}
use Rattle.enforcer.specs.declared.outcome.Outcome.{Outcome}
use Rattle.enforcer.specs.Judged.{record_in, cut_in, stance_after, AreWide, IsRightByPeeks, IsRightOf}
use Rattle.enforcer.specs.Recorded.{HoldsOwn}

module _ {P : Type 0} (meaning : P → ℕ → ℕ → Meaning) (r : Rows P) where
  -- The call is one that this caller announced with this operation: the caller made one scan of N,
  -- then staged and announced the row of the operation, and made no other event.
  pub record IsAnnouncedBy (c : Caller P) (op : ℕ) (call : Announced P) : Type 0 where
    pub still : IsStill meaning r c (caller_announced call)
    pub operation : op_announced call ≡ op
    pub announced : HasAnnounced r.callers op (local_with c) (announced_local call)
    pub progress : progress_of (announced_local call)
        ≡ after_announcing op (progress_of (local_with c))
    pub grows : Grows (local_with c) (announced_local call)

  -- The caller has published this record of the announced call, with the reply that was handed in,
  -- and has seen since a cut that holds all its own records. It has made no other call.
  pub record IsPublishedBy (call : Announced P) (reply : ℕ) (c : Caller P) (told : Record)
      (seen : List ℕ) : Type 0 where
    pub still : IsStill meaning r (caller_announced call) c
    pub replied : told.reply ≡ reply
    pub wide : AreWide r.callers told.view seen
    pub own : HoldsOwn seen c
    pub progress : progress_of (local_with c) ≡ after_seeing seen
        (after_publishing (after_viewing told (progress_of (announced_local call))))
    pub grows : Grows (announced_local call) (local_with c)

  -- The call was judged, and this is its right outcome: by what its caller has peeked, and for the
  -- book of all callers' calls at the seen cut, in whatever reachable world has the caller's local.
  pub record IsJudgedAs (spec : SeqSpec) (call : Announced P) (reply : ℕ) (c : Caller P)
      (outcome : Outcome) : Type 0 where
    pub published : IsPublishedBy call reply c (record_in outcome) (cut_in outcome)
    pub stance : stance_of c ≡ stance_after outcome
    pub by_peeks : IsRightByPeeks spec r.callers (local_with c) outcome
    pub verdict : IsRightOf spec meaning r c outcome
