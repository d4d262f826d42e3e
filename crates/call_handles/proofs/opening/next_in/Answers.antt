use Rattle.std.proofs.Common.{IfSome, Option, refl, sym, subst}
use Rattle.model_callers.specs.declared.model_caller.ModelCaller.{ModelCaller}
use Rattle.model_callers.specs.Callers.{IsFreshCaller}
use Rattle.call_handles.specs.declared.caller_handle.CallerHandle.{CallerHandle}
use Rattle.call_handles.specs.declared.monitor_handle.MonitorHandle.{MonitorHandle}
use Rattle.call_handles.specs.declared.handle.Handle.TheVariants.{Caller, Monitor, Modelled}
use Rattle.call_handles.specs.Tables.{rows_in, next_of, IsFreshOf, IsFreshMonitorOf}
use Rattle.call_handles.specs.declared.role.CallerRole.{CallerRole}
use Rattle.call_handles.specs.Slots.{IsFreshAs}
use Rattle.call_handles.proofs.opening.next_in.Goals as goal

pub returns-in-Some-clause-given : goal.returns-in-Some-clause-given
returns-in-Some-clause-given c =
    let t = c.args.table.now in
    let h = c.in-Some.caller in
    let fresh = subst (λ (o : Option CallerHandle). IfSome o (IsFreshOf t (next_of t))) c.in-Some.is
    c.in_ok-caller-in-Caller.ensures.given in
    subst (λ (role : CallerRole). IsFreshAs role t (next_of t) (Caller h)) (sym c.in-Caller.is)
    (h, refl, fresh)

pub returns-in-Some-2-clause-given : goal.returns-in-Some-2-clause-given
returns-in-Some-2-clause-given c =
    let t = c.args.table.now in
    let m = c.in-Some-2.monitor in
    let fresh = subst (λ (o : Option MonitorHandle). IfSome o (IsFreshMonitorOf t (next_of t)))
    c.in-Some-2.is c.in_ok-monitor-in-Monitor.ensures.given in
    subst (λ (role : CallerRole). IsFreshAs role t (next_of t) (Monitor m)) (sym c.in-Monitor.is)
    (m, refl, fresh)

pub returns-in-Some-3-clause-given : goal.returns-in-Some-3-clause-given
returns-in-Some-3-clause-given c =
    let t = c.args.table.now in
    let h = c.in-Some-3.caller in
    let fresh = subst (λ (o : Option ModelCaller). IfSome o (IsFreshCaller (rows_in t) (next_of t)))
    c.in-Some-3.is c.in_ok-caller-in-Modelled.ensures.given in
    subst (λ (role : CallerRole). IsFreshAs role t (next_of t) (Modelled h)) (sym c.in-Modelled.is)
    (h, refl, fresh)
