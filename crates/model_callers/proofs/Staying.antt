-- A caller stays sound when more is told.
use Rattle.std.proofs.Common.{◌≡◌, ℕ, ◌<◌, ◌^◌, Option, Result, Ok, Err, IfOk, OnErr, sym, subst}
use Rattle.std.proofs.lemmas.Option.{IfSome_then}
use Rattle.world_core.specs.declared.program.Outside.{Outside}
use Rattle.row_table.specs.declared.rows.Rows.{Rows}
use Rattle.row_gather.specs.declared.gathered.Gathered.{Gathered}
use Rattle.told_models.specs.declared.table.Transition.{Transition}
use Rattle.told_models.specs.Table.{Table, Extends, TellsStep, TakesPromise}
use Rattle.told_models.proofs.Agreeing.{verdicts_stand}
use Rattle.told_models.proofs.Walks.{searches_stay}
use Rattle.model_checks.specs.Checks.{AreSmall}
use Rattle.model_checks.proofs.Numbers.{small-told, small-promised}
use Rattle.model_callers.specs.declared.stage.ModelStage.{ModelStage}
use Rattle.model_callers.specs.declared.stage.ModelStage.TheVariants.{Idle, Announced, Judging, Wrong, Unjudged}
use Rattle.model_callers.specs.declared.model_caller.ModelCaller.{ModelCaller}
use Rattle.model_callers.specs.Callers.{table_of, IsSoundAt, IsSoundCaller}

-- A caller in a stage is sound there where more is told.
sound_at-more : (r : Rows Outside) (old new : Table) (gathered : Option Gathered)
    (stage : ModelStage) → Extends old new → IsSoundAt r old gathered stage
    → IsSoundAt r new gathered stage
sound_at-more r old new gathered (Idle c) extends h = h
sound_at-more r old new gathered (Announced call) extends h = h
sound_at-more r old new gathered (Judging call search) extends h = (
  h.0,
  h.1,
  IfSome_then search h.2
      (λ found is. searches_stay old new call.gathered.book found extends is),
)
sound_at-more r old new gathered (Wrong call) extends h =
    (h.0, (verdicts_stand old new call.gathered.book extends).1 h.1)
sound_at-more r old new gathered (Unjudged c) extends h = h

-- The caller, with another table.
abbrev pub with_table : ModelCaller → Table → ModelCaller
with_table h table = record h { kept = record h.kept { table = table } }

sound-more : (h : ModelCaller) (table : Table) → IsSoundCaller h → Extends (table_of h) table
    → AreSmall table → IsSoundCaller (with_table h table)
sound-more h table sound extends small =
    (sound_at-more _ (table_of h) table h.kept.gathered h.stage extends sound.0, small)

-- A caller whose table takes a promise, or refuses it, stays sound.
pub sound-promised : {X Y : Type 0} (h : ModelCaller) (table : Table) (op reply : ℕ)
    (result : Result X Y) → IsSoundCaller h → Extends (table_of h) table
    → IfOk result (λ x. TakesPromise (table_of h) table op reply)
    → OnErr result (table ≡ table_of h) → IsSoundCaller (with_table h table)
sound-promised h table op reply (Ok x) sound extends takes refused =
    sound-more h table sound extends (small-promised (table_of h) table op reply takes sound.1)
sound-promised h table op reply (Err e) sound extends takes refused =
    sound-more h table sound extends (subst AreSmall (sym refused) sound.1)

-- A caller whose table tells a step, or refuses it, stays sound.
pub sound-told : {X Y : Type 0} (h : ModelCaller) (table : Table) (state op : ℕ)
    (transition : Transition) (result : Result X Y) → IsSoundCaller h
    → transition.next < 2 ^ 32 → Extends (table_of h) table
    → IfOk result (λ x. TellsStep (table_of h) table state op transition)
    → OnErr result (table ≡ table_of h) → IsSoundCaller (with_table h table)
sound-told h table state op transition (Ok x) sound low extends tells refused =
    sound-more h table sound extends
    (small-told (table_of h) table state op transition tells low sound.1)
sound-told h table state op transition (Err e) sound low extends tells refused =
    sound-more h table sound extends (subst AreSmall (sym refused) sound.1)
