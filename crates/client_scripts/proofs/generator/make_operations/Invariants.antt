use Rattle.std.proofs.Common.{◌≡◌, ◌<◌, ◌^◌}
use Rattle.std.specs.List.{AllByRecursion}
use Rattle.client_scripts.specs.Generator.{generated_operations}
use Rattle.client_scripts.proofs.generator.make_operations.Given as goal

abbrev pub invariant-loop-k : goal.invariant-loop-k
invariant-loop-k l = record {
  ops : l.ops.items ≡ generated_operations l.number l.k l.kind l.caller;
  small : AllByRecursion (λ op. op < 2 ^ 128) l.ops.items;
}
