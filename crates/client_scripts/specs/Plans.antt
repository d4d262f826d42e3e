-- What a script says: what the callers of a concurrent object are to do.
use Rattle.std.specs.Prelude.{◌≡◌, ℕ, ◌*◌, ◌<◌, ◌≤◌, true, List, [], ◌∷◌, length, map, Option, IfSome, slice_index_or}
use Rattle.std.specs.List.{AllByRecursion}
use Rattle.book_base.specs.declared.call.Call.{Call}
use Rattle.seq_objects.specs.declared.kind.Kind.{Kind}
use Rattle.text_fields.specs.declared.version.Version.{Version}
use Rattle.text_fields.specs.Version.{most_callers, most_calls, has_kind, word_limit}
use Rattle.text_fields.specs.Counts.{AreAtMost}
use Rattle.client_scripts.specs.declared.TheConstants.{PHASES}

-- What a script says. A caller that isn't stopped makes all its calls.
pub record Plan : Type 0 where
  -- the kind of the object
  pub kind : Kind
  -- each caller's operations, one a call
  pub operations : List (List ℕ)
  -- for each caller, after how many phases of its calls it stops, where it does
  pub stops : List (Option ℕ)
  -- the callers that take turns, one after the other
  pub turns : List ℕ

-- the operations of caller `i` of a plan, or none where the plan has no such caller
abbrev pub operations_of : Plan → ℕ → List ℕ
operations_of plan i = slice_index_or plan.operations i []

-- the call is one of the plan's
abbrev pub IsCall : Plan → Call → Type 0
IsCall plan call = call.number < length (operations_of plan call.caller)

-- how many operations each caller of a plan has
abbrev pub sizes : List (List ℕ) → List ℕ
sizes operations = map (λ ops. length ops) operations

-- For each caller, with its number of calls, there is a stop or none. A stop is a number of phases
-- below that of all the caller's calls, each of which has `PHASES` phases.
abbrev pub AreStops : List ℕ → List (Option ℕ) → Type 0
AreStops [] [] = Unit {0}
AreStops [] (stop ∷ stops) = ⊥
AreStops (calls ∷ counts) [] = ⊥
AreStops (calls ∷ counts) (stop ∷ stops) = IfSome stop (λ phases. phases < PHASES * calls)
    × AreStops counts stops

-- A plan that texts of a version can have.
pub record IsPlan (version : Version) (plan : Plan) : Type 0 where
  pub kind_known : has_kind version plan.kind ≡ true
  pub some : 1 ≤ length plan.operations
  pub callers : length plan.operations ≤ most_callers version
  pub calls : AreAtMost (most_calls version) (sizes plan.operations)
  pub operations : AllByRecursion (AllByRecursion (λ op. op < word_limit version)) plan.operations
  pub stops : AreStops (sizes plan.operations) plan.stops
  pub turns : AllByRecursion (λ caller. caller < length plan.operations) plan.turns
