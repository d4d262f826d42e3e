use Rattle.std.proofs.Common.{◌≡◌, length, take, drop, replicate, None}
use Rattle.text_fields.specs.Faults.{GoesTo}
use Rattle.std.specs.List.{concat}
use Rattle.book_text.specs.CallLines.{all_calls}
use Rattle.client_scripts.specs.Plans.{sizes}
use Rattle.client_scripts.specs.ScriptRules.{InBody, begin, with_operations, script_rules}
use Rattle.client_scripts.specs.ScriptLayout.{operations_in, stops_in}
use Rattle.client_scripts.proofs.calls.read_clients.Given as goal

abbrev pub invariant-loop-i : goal.invariant-loop-i
invariant-loop-i l = record {
  goes : GoesTo (script_rules l.operations.version)
      (InBody l.operations.kind (begin l.calls) (all_calls 0 l.calls)) l.fn.lines
      (InBody l.operations.kind (with_operations (begin l.calls)
      (concat (operations_in l.clients.items))) (all_calls l.i (drop l.i l.calls))) l.lines;
  count : length l.clients.items ≡ l.i;
  sizes : sizes (operations_in l.clients.items) ≡ take l.i l.calls;
  stops : stops_in l.clients.items ≡ replicate l.i None;
}
