use Rattle.std.proofs.Common.{◌≡◌, ◌-◌, ◌++◌, List, length}
use Rattle.book_base.specs.declared.call.Call.{Call}
use Rattle.text_fields.specs.Faults.{GoesTo}
use Rattle.book_text.specs.CallLines.{calls_from}
use Rattle.client_scripts.specs.ScriptRules.{Begun, InBody, with_operations, script_rules}
use Rattle.client_scripts.proofs.calls.read_operations.Given as goal

abbrev pub invariant-loop-number : goal.invariant-loop-number
invariant-loop-number l = record {
  goes : (begun : Begun) (more : List Call) → GoesTo (script_rules l.operations.version)
      (InBody l.operations.kind begun (calls_from l.i 0 l.count ++ more)) l.fn.lines
      (InBody l.operations.kind (with_operations begun l.ops.items)
      (calls_from l.i l.number (l.count - l.number) ++ more)) l.lines;
  count : length l.ops.items ≡ l.number;
}
