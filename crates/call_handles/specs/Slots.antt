-- A place for a handle in a program in another language: its handle, and what the calls on it find
-- and leave there.
use Rattle.std.specs.Prelude.{◌≡◌, ◌⊎◌, ℕ, ◌≤◌, ◌+◌, List, [], Option, None, Some}
use Rattle.book_base.specs.declared.TheConstants.{MAX_CALLERS, MAX_CALLS}
use Rattle.seq_objects.specs.declared.kind.Kind.{Kind}
use Rattle.seq_objects.specs.Words.{kind_name}
use Rattle.call_handles.specs.declared.caller_handle.CallerHandle.{CallerHandle}
use Rattle.call_handles.specs.declared.verdict.HandleVerdict.{HandleVerdict}
use Rattle.call_handles.specs.declared.monitor_handle.MonitorHandle.{MonitorHandle}
use Rattle.call_handles.specs.declared.table_handle.TableHandle.{TableHandle}
use Rattle.call_handles.specs.declared.handle.Handle.{Handle}
use Rattle.call_handles.specs.declared.handle.Handle.TheVariants.{Spare, Table, Caller, Monitor, Modelled, Model}
use Rattle.call_handles.specs.Callers.{IsOfSameTable, IsInError, HasBegun, HasEnded, HasPublished, IsWitnessOf}
use Rattle.call_handles.specs.Monitors.{IsOfSameWatch, IsMonitorFrom, HasFoundWrong, HasJudged, IsFoundWitness}
use Rattle.call_handles.specs.Tables.{rows_in, kind_in, next_of, GivesNext, IsFreshOf, IsFreshMonitorOf}
use Rattle.call_handles.specs.declared.role.CallerRole.{CallerRole}
use Rattle.call_handles.specs.declared.role.CallerRole.TheVariants as role
use Rattle.call_handles.specs.declared.slot.Slot.{Slot}
use Rattle.model_callers.specs.declared.model_caller.ModelCaller.{ModelCaller}
use Rattle.model_callers.specs.Callers as modelled
use Rattle.model_callers.specs.Told as told
use Rattle.model_checks.specs.declared.check.ModelCheck.{ModelCheck}
use Rattle.model_checks.specs.declared.request.ModelRequest.{ModelRequest}
use Rattle.model_checks.specs.declared.request.ModelReply.{ModelReply}
use Rattle.model_checks.specs.History.{book_without_calls}
use Rattle.model_checks.specs.Requests.{Serves}

-- The handle of a slot, where it has one.
abbrev pub handle_in : Slot → Option Handle
handle_in s = s.held.value

-- A table may be opened with this name and these numbers: a kind has this name, and there are at
-- least one caller and at most `MAX_CALLERS`, with at least one call and at most `MAX_CALLS` each.
pub record IsSized (name : List ℕ) (callers calls : ℕ) : Type 0 where
  pub kind : Kind
  pub named : kind_name kind ≡ name
  pub some_callers : 1 ≤ callers
  pub few_callers : callers ≤ MAX_CALLERS
  pub some_calls : 1 ≤ calls
  pub few_calls : calls ≤ MAX_CALLS

-- A table may be opened with these numbers: there are at least one caller and at most `MAX_CALLERS`,
-- with at least one call and at most `MAX_CALLS` each.
pub record IsSizedTable (callers calls : ℕ) : Type 0 where
  pub some_callers : 1 ≤ callers
  pub few_callers : callers ≤ MAX_CALLERS
  pub some_calls : 1 ≤ calls
  pub few_calls : calls ≤ MAX_CALLS

-- The handle is that of a table, of whatever kind, for this many callers with at most this many
-- calls each, which has given none of its callers.
abbrev pub IsOpenedTable : ℕ → ℕ → Option Handle → Type 0
IsOpenedTable callers calls found =
    (t : TableHandle) × (found ≡ Some (Table t)) × ((rows_in t).callers ≡ callers)
    × ((rows_in t).cap ≡ calls) × (next_of t ≡ 0)

-- The handle is that of a table of the kind with this name, for this many callers with at most this
-- many calls each, which has given none of its callers.
abbrev pub IsOpened : List ℕ → ℕ → ℕ → Option Handle → Type 0
IsOpened name callers calls found =
    (t : TableHandle) × (found ≡ Some (Table t)) × (kind_name (kind_in t) ≡ name)
    × ((rows_in t).callers ≡ callers)
    × ((rows_in t).cap ≡ calls) × (next_of t ≡ 0)

-- The handle is that of a table that has callers left to give.
abbrev pub MayGive : Option Handle → Type 0
MayGive found = (t : TableHandle) × (found ≡ Some (Table t)) × ¬ (next_of t ≡ (rows_in t).callers)

-- The handle is that of caller `who` of the table, in this role, before its first call or round.
abbrev pub IsFreshAs : CallerRole → TableHandle → ℕ → Handle → Type 0
IsFreshAs role.Caller t who given = (h : CallerHandle) × (given ≡ Caller h) × IsFreshOf t who h
IsFreshAs role.Monitor t who given = (m : MonitorHandle) × (given ≡ Monitor m)
    × IsFreshMonitorOf t who m
IsFreshAs role.Modelled t who given = (h : ModelCaller) × (given ≡ Modelled h)
    × modelled.IsFreshCaller (rows_in t) who h

-- The handles before and after are those of one table, which has given its next caller; the handle
-- `given` is that caller's, in this role.
abbrev pub HasGiven : CallerRole → Option Handle → Option Handle → Option Handle → Type 0
HasGiven part before after given =
    (t u : TableHandle) × (h : Handle) × (before ≡ Some (Table t)) × (after ≡ Some (Table u))
    × (given ≡ Some h)
    × GivesNext (next_of t + 1) t u × IsFreshAs part t (next_of t) h

-- The handle is a caller's, and the test `Is` holds of it.
abbrev pub IsCallers : (CallerHandle → Type 0) → Option Handle → Type 0
IsCallers Is found = (h : CallerHandle) × (found ≡ Some (Caller h)) × Is h

-- The handles before and after are callers' handles of one table and one kind, and the relation
-- `Are` holds between them.
abbrev pub AreCallers : (CallerHandle → CallerHandle → Type 0) → Option Handle
    → Option Handle → Type 0
AreCallers Are before after =
    (h k : CallerHandle) × (before ≡ Some (Caller h)) × (after ≡ Some (Caller k))
    × IsOfSameTable h k × Are h k

-- The caller of the handle before has announced a call with this operation, which is under way at
-- the handle after.
abbrev pub Begins : ℕ → Option Handle → Option Handle → Type 0
Begins op before after = AreCallers (HasBegun op) before after

-- The call that is announced at the handle before has ended with this reply and this answer, which
-- is right, and its caller is in the stage of the handle after.
abbrev pub Ends : ℕ → HandleVerdict → Option Handle → Option Handle → Type 0
Ends reply answer before after = AreCallers (λ h k. HasEnded reply h answer k) before after

-- The call that the caller had announced is published with this reply, and nobody has judged it.
abbrev pub Publishes : ℕ → Option Handle → Option Handle → Type 0
Publishes reply before after = AreCallers (HasPublished reply) before after

-- The handle is a monitor's, and the test `Is` holds of it.
abbrev pub IsMonitors : (MonitorHandle → Type 0) → Option Handle → Type 0
IsMonitors Is found = (m : MonitorHandle) × (found ≡ Some (Monitor m)) × Is m

-- The handles before and after are monitors' handles of one table and one kind, and the monitor has
-- made a round with this verdict.
abbrev pub Judges : HandleVerdict → Option Handle → Option Handle → Type 0
Judges judgement before after =
    (m k : MonitorHandle) × (before ≡ Some (Monitor m)) × (after ≡ Some (Monitor k))
    × IsOfSameWatch m k × HasJudged m judgement k

-- The handle before is that of a caller between two calls, and the handle after is that of this caller
-- as a monitor, which has made no round, of the same table and kind.
abbrev pub BecomesMonitor : Option Handle → Option Handle → Type 0
BecomesMonitor before after =
    (h : CallerHandle) × (m : MonitorHandle) × (before ≡ Some (Caller h)) × (after ≡ Some (Monitor m))
    × IsMonitorFrom h m

-- The last call of the handle's caller was an error, or a round of its monitor was illegal.
abbrev pub HasWitness : Option Handle → Type 0
HasWitness None = ⊥
HasWitness (Some Spare) = ⊥
HasWitness (Some (Table t)) = ⊥
HasWitness (Some (Caller h)) = IsInError h
HasWitness (Some (Monitor m)) = HasFoundWrong m
HasWitness (Some (Modelled h)) = modelled.IsInError h
HasWitness (Some (Model check)) = ⊥

-- The bytes are the text of the book of the caller's error, or of the monitor's illegal round. This
-- book has no legal order; where a model judges the caller's calls, for no object that agrees with
-- what was told.
abbrev pub Witnesses : Option Handle → List ℕ → Type 0
Witnesses None bytes = ⊥
Witnesses (Some Spare) bytes = ⊥
Witnesses (Some (Table t)) bytes = ⊥
Witnesses (Some (Caller h)) bytes = IsWitnessOf h bytes
Witnesses (Some (Monitor m)) bytes = IsFoundWitness m bytes
Witnesses (Some (Modelled h)) bytes = told.IsWitnessOf h bytes
Witnesses (Some (Model check)) bytes = ⊥

-- The handle is a model's check, and the test `Is` holds of it.
abbrev pub IsModels : (ModelCheck → Type 0) → Option Handle → Type 0
IsModels Is found = (check : ModelCheck) × (found ≡ Some (Model check)) × Is check

-- The handle is the check of a model in which no call of so many callers has begun and nothing was
-- told, but that the initial state has the number 0.
abbrev pub IsOpenedModel : ℕ → Option Handle → Type 0
IsOpenedModel callers found = IsModels (λ check. (check.book ≡ book_without_calls callers)
    × (check.table ≡ record { init = 0; steps = []; promises = [] })) found

-- The handle is a caller's whose calls a model judges, and the test `Is` holds of it.
abbrev pub IsModelled : (ModelCaller → Type 0) → Option Handle → Type 0
IsModelled Is found = (h : ModelCaller) × (found ≡ Some (Modelled h)) × Is h

-- The handles before and after are those of a caller of one table whose calls a model judges, and
-- the relation `Are` holds between them.
abbrev pub AreModelled : (ModelCaller → ModelCaller → Type 0) → Option Handle → Option Handle
    → Type 0
AreModelled Are before after =
    (h k : ModelCaller) × (before ≡ Some (Modelled h)) × (after ≡ Some (Modelled k))
    × (modelled.rows_of k ≡ modelled.rows_of h) × Are h k

-- The handle serves a request: it is a model's check, or a caller whose calls a model judges and
-- that serves the request.
abbrev pub MayServe : ModelRequest → Option Handle → Type 0
MayServe request None = ⊥
MayServe request (Some Spare) = ⊥
MayServe request (Some (Table t)) = ⊥
MayServe request (Some (Caller h)) = ⊥
MayServe request (Some (Monitor m)) = ⊥
MayServe request (Some (Modelled h)) = told.MayServe request h
MayServe request (Some (Model check)) = Unit {0}

-- The handles before and after are those of one model's check, or of one caller whose calls a model
-- judges, which has replied so to this request.
abbrev pub HasServed : ModelRequest → ModelReply → Option Handle → Option Handle → Type 0
HasServed request reply before after =
    ((old new : ModelCheck) × (before ≡ Some (Model old)) × (after ≡ Some (Model new))
    × Serves request old reply new)
    ⊎ AreModelled (λ h k. told.Serves request h reply k) before after
