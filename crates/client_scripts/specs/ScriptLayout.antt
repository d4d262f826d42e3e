-- How a script lies in memory.
use Rattle.std.specs.Prelude.{ℕ, List, map, Option}
use Rattle.std.specs.List.{concat}
use Rattle.seq_objects.specs.declared.kind.Kind.{Kind}
use Rattle.client_scripts.specs.declared.script.CallerScript.{CallerScript}
use Rattle.client_scripts.specs.Plans.{Plan, sizes}
use Rattle.client_scripts.specs.ScriptRules.{Begun}

-- the operations that each client holds
abbrev pub operations_in : List CallerScript → List (List ℕ)
operations_in clients = map (λ client. client.operations.items) clients

-- the stops that the clients hold
abbrev pub stops_in : List CallerScript → List (Option ℕ)
stops_in clients = map (λ client. client.stop) clients

-- the plan of a script that holds these clients and turns
abbrev pub plan_in : Kind → List CallerScript → List ℕ → Plan
plan_in kind clients turns = record {
  kind = kind;
  operations = operations_in clients;
  stops = stops_in clients;
  turns = turns;
}

-- what the lines of a script have said once the lines of all calls are read, and the stops of the
-- callers below `least`
abbrev pub told : List CallerScript → ℕ → Begun
told clients least = record {
  calls = sizes (operations_in clients);
  operations = concat (operations_in clients);
  stops = stops_in clients;
  least = least;
}
