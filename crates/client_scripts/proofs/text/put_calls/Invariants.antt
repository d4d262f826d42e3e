use Rattle.std.proofs.Common.{◌≡◌, ◌++◌, ◌<◌, ◌^◌, map}
use Rattle.std.specs.List.{AllByRecursion, range_with_len}
use Rattle.text_fields.specs.Lines.{text_of, by_number}
use Rattle.client_scripts.specs.Grammar.{caller_lines}
use Rattle.client_scripts.specs.Drawn.{drawn_operations}
use Rattle.client_scripts.proofs.text.put_calls.Given as goal

abbrev pub invariant-loop-caller : goal.invariant-loop-caller
invariant-loop-caller l = record {
  calls : l.out.items ≡ l.initial.out.items ++ text_of (by_number (caller_lines l.workload.kind) 0
      (map (drawn_operations l.workload l.key) (range_with_len 0 l.caller)));
  words : AllByRecursion (AllByRecursion (λ op. op < 2 ^ 128))
      (map (drawn_operations l.workload l.key) (range_with_len 0 l.caller));
}
