use Rattle.std.proofs.Common.{◌≡◌, ◌<◌, ◌^◌, map, replicate, None}
use Rattle.std.specs.List.{AllByRecursion, range_with_len}
use Rattle.client_scripts.specs.Generator.{generated_operations}
use Rattle.client_scripts.specs.ScriptLayout.{operations_in, stops_in}
use Rattle.client_scripts.proofs.generator.make_script.Given as goal

abbrev pub invariant-loop-caller : goal.invariant-loop-caller
invariant-loop-caller l = record {
  operations : operations_in l.clients.items
      ≡ map (generated_operations l.number l.calls l.kind) (range_with_len 0 l.caller);
  stops : stops_in l.clients.items ≡ replicate l.caller None;
  small : AllByRecursion (AllByRecursion (λ op. op < 2 ^ 128)) (operations_in l.clients.items);
}
