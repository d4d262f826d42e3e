-- The handles that a program in another language holds, and when they are sound.
use Rattle.call_handles.specs.declared.handle.Handle.{Handle}
use Rattle.call_handles.specs.declared.handle.Handle.TheVariants.{Spare, Table, Caller, Monitor, Modelled, Model}
use Rattle.call_handles.specs.Callers.{IsSoundCaller}
use Rattle.call_handles.specs.Monitors.{IsSoundMonitor}
use Rattle.call_handles.specs.Tables.{IsSoundTable}
use Rattle.model_callers.specs.Callers as modelled
use Rattle.model_checks.specs.Checks.{IsSoundCheck}

-- A handle is sound where the table's, the caller's or the monitor's handle in it is, the caller
-- whose calls a model judges, or the check of a model. A spare handle is sound.
abbrev pub IsSound : Handle → Type 0
IsSound Spare = Unit {0}
IsSound (Table t) = IsSoundTable t
IsSound (Caller c) = IsSoundCaller c
IsSound (Monitor m) = IsSoundMonitor m
IsSound (Modelled h) = modelled.IsSoundCaller h
IsSound (Model check) = IsSoundCheck check
