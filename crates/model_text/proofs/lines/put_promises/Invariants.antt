use Rattle.std.proofs.Common.{◌≡◌, ◌++◌, map}
use Rattle.model_text.specs.Told.{promise_line}
use Rattle.model_text.proofs.lines.put_promises.Given as goal

abbrev pub invariant-loop-op : goal.invariant-loop-op
invariant-loop-op l = l.lines.items ++ map promise_line l.op-iterator
    ≡ l.initial.lines.items ++ map promise_line l.promises.keys
