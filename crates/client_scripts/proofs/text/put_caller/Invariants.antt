use Rattle.std.proofs.Common.{◌≡◌, ◌++◌, ◌<◌, ◌^◌, map}
use Rattle.std.specs.List.{AllByRecursion, range_with_len}
use Rattle.text_fields.specs.Lines.{text_of, by_number}
use Rattle.client_scripts.specs.Grammar.{call_line}
use Rattle.client_scripts.specs.Drawn.{drawn_operation}
use Rattle.client_scripts.proofs.text.put_caller.Given as goal

abbrev pub invariant-loop-number : goal.invariant-loop-number
invariant-loop-number l = record {
  calls : l.out.items
      ≡ l.initial.out.items ++ text_of (by_number (call_line l.workload.kind l.caller) 0
      (map (drawn_operation l.workload l.key l.caller) (range_with_len 0 l.number)));
  words : AllByRecursion (λ op. op < 2 ^ 128)
      (map (drawn_operation l.workload l.key l.caller) (range_with_len 0 l.number));
}
