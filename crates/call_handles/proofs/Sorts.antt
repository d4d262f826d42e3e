-- Which handle a place has: a caller's, a monitor's or a table's, and what then holds of it.
use Rattle.std.proofs.Common.{◌≡◌, ◌↔◌, IsSome, IsNone, IfSome, IfOk, Option, Some, None, Result, Ok, Err, refl, sym, subst, ap, ◌∙◌}
use mathlib.Core.Bool.{true≢false}
use Rattle.call_handles.specs.declared.caller_handle.CallerHandle.{CallerHandle}
use Rattle.call_handles.specs.declared.monitor_handle.MonitorHandle.{MonitorHandle}
use Rattle.call_handles.specs.declared.table_handle.TableHandle.{TableHandle}
use Rattle.call_handles.specs.declared.handle.Handle.{Handle}
use Rattle.call_handles.specs.declared.handle.Handle.TheVariants.{Spare, Table, Caller, Monitor, Modelled, Model}
use Rattle.call_handles.specs.Tables.{rows_in, next_of}
use Rattle.call_handles.specs.Slots.{IsCallers, IsMonitors, IsModels, IsModelled, MayGive}
use Rattle.model_callers.specs.declared.model_caller.ModelCaller.{ModelCaller}
use Rattle.model_checks.specs.declared.check.ModelCheck.{ModelCheck}

-- the caller whose handle is in the place, or else the given one; and likewise the monitor, and the
-- table
abbrev caller_or : CallerHandle → Option Handle → CallerHandle
caller_or h (Some (Caller k)) = k
caller_or h (Some (Table t)) = h
caller_or h (Some (Monitor m)) = h
caller_or h (Some (Modelled c)) = h
caller_or h (Some (Model check)) = h
caller_or h (Some Spare) = h
caller_or h None = h

abbrev monitor_or : MonitorHandle → Option Handle → MonitorHandle
monitor_or m (Some (Monitor k)) = k
monitor_or m (Some (Caller h)) = m
monitor_or m (Some (Table t)) = m
monitor_or m (Some (Modelled c)) = m
monitor_or m (Some (Model check)) = m
monitor_or m (Some Spare) = m
monitor_or m None = m

abbrev table_or : TableHandle → Option Handle → TableHandle
table_or t (Some (Table u)) = u
table_or t (Some (Caller h)) = t
table_or t (Some (Monitor m)) = t
table_or t (Some (Modelled c)) = t
table_or t (Some (Model check)) = t
table_or t (Some Spare) = t
table_or t None = t

pub same_caller : (h k : CallerHandle)
    → ◌≡◌ {A = Option Handle} (Some (Caller h)) (Some (Caller k)) → h ≡ k
same_caller h k e = ap (caller_or h) e

pub same_monitor : (m k : MonitorHandle)
    → ◌≡◌ {A = Option Handle} (Some (Monitor m)) (Some (Monitor k)) → m ≡ k
same_monitor m k e = ap (monitor_or m) e

pub same_table : (t u : TableHandle)
    → ◌≡◌ {A = Option Handle} (Some (Table t)) (Some (Table u)) → t ≡ u
same_table t u e = ap (table_or t) e

abbrev model_or : ModelCheck → Option Handle → ModelCheck
model_or check (Some (Model other)) = other
model_or check (Some (Table t)) = check
model_or check (Some (Caller h)) = check
model_or check (Some (Monitor m)) = check
model_or check (Some (Modelled c)) = check
model_or check (Some Spare) = check
model_or check None = check

pub same_model : (a b : ModelCheck)
    → ◌≡◌ {A = Option Handle} (Some (Model a)) (Some (Model b)) → a ≡ b
same_model a b e = ap (model_or a) e

abbrev modelled_or : ModelCaller → Option Handle → ModelCaller
modelled_or h (Some (Modelled k)) = k
modelled_or h (Some (Table t)) = h
modelled_or h (Some (Caller k)) = h
modelled_or h (Some (Monitor m)) = h
modelled_or h (Some (Model check)) = h
modelled_or h (Some Spare) = h
modelled_or h None = h

pub same_modelled : (h k : ModelCaller)
    → ◌≡◌ {A = Option Handle} (Some (Modelled h)) (Some (Modelled k)) → h ≡ k
same_modelled h k e = ap (modelled_or h) e

-- where a place has this model's check, what holds exactly when the check has a property holds
-- exactly when the place has a model's check with this property
pub models_iff : (Yes : Type 0) (Is : ModelCheck → Type 0) (found : Option Handle)
    (check : ModelCheck) → found ≡ Some (Model check) → (Yes ↔ Is check)
    → (Yes ↔ IsModels Is found)
models_iff Yes Is found check is iff = (
  λ y. (check, is, iff.0 y),
  λ held. iff.1 (subst Is (same_model held.0 check (sym held.1 ∙ is)) held.2),
)

-- where a place has this caller whose calls a model judges, what holds exactly when the caller has
-- a property holds exactly when the place has such a caller with this property
pub modelled_iff : (Yes : Type 0) (Is : ModelCaller → Type 0) (found : Option Handle)
    (h : ModelCaller) → found ≡ Some (Modelled h) → (Yes ↔ Is h) → (Yes ↔ IsModelled Is found)
modelled_iff Yes Is found h is iff = (
  λ y. (h, is, iff.0 y),
  λ held. iff.1 (subst Is (same_modelled held.0 h (sym held.1 ∙ is)) held.2),
)

-- where a place has this caller's handle, what holds exactly when the handle has a property holds
-- exactly when the place has a caller's handle with this property
pub callers_iff : (Yes : Type 0) (Is : CallerHandle → Type 0) (found : Option Handle)
    (h : CallerHandle) → found ≡ Some (Caller h) → (Yes ↔ Is h) → (Yes ↔ IsCallers Is found)
callers_iff Yes Is found h is iff = (
  λ y. (h, is, iff.0 y),
  λ held. iff.1 (subst Is (same_caller held.0 h (sym held.1 ∙ is)) held.2),
)

-- where a place has this monitor's handle, what holds exactly when the handle has a property holds
-- exactly when the place has a monitor's handle with this property
pub monitors_iff : (Yes : Type 0) (Is : MonitorHandle → Type 0) (found : Option Handle)
    (m : MonitorHandle) → found ≡ Some (Monitor m) → (Yes ↔ Is m) → (Yes ↔ IsMonitors Is found)
monitors_iff Yes Is found m is iff = (
  λ y. (m, is, iff.0 y),
  λ held. iff.1 (subst Is (same_monitor held.0 m (sym held.1 ∙ is)) held.2),
)

-- where a place has a table, and no caller is given exactly when all callers of the table were
-- given before, one is given exactly when the place has a table that may give one
pub gives_iff : {X : Type 0} (given : Option X) (found : Option Handle) (t : TableHandle)
    → found ≡ Some (Table t) → (IsNone given ↔ (next_of t ≡ (rows_in t).callers))
    → (IsSome given ↔ MayGive found)
gives_iff None found t is iff = (
  λ some. absurd (true≢false (sym some)),
  λ may. absurd (subst (λ (u : TableHandle). ¬ (next_of u ≡ (rows_in u).callers))
      (same_table may.0 t (sym may.1 ∙ is)) may.2 (iff.0 refl)),
)
gives_iff (Some x) found t is iff =
    (λ some. (t, is, λ all. absurd (true≢false (iff.1 all))), λ may. refl)

-- what follows from two facts on the value that is found holds of this value
pub found_then : {X Y : Type 0} (r : Result (Option X) Y) (P Q R : X → Type 0)
    → IfOk r (λ found. IfSome found P) → IfOk r (λ found. IfSome found Q)
    → ((x : X) → P x → Q x → R x) → IfOk r (λ found. IfSome found R)
found_then (Ok (Some x)) P Q R p q f = f x p q
found_then (Ok None) P Q R p q f = tt
found_then (Err e) P Q R p q f = tt
