use Rattle.std.proofs.Common.{◌≡◌, ◌++◌, take}
use Rattle.text_fields.specs.Lines.{text_of, by_number}
use Rattle.client_scripts.specs.Plans.{operations_of}
use Rattle.client_scripts.specs.Grammar.{call_line}
use Rattle.client_scripts.proofs.writer.put_caller.Given as goal

abbrev pub invariant-loop-number : goal.invariant-loop-number
invariant-loop-number l = l.out.items ≡ l.initial.out.items ++ text_of (by_number
    (call_line l.script.kind l.caller) 0 (take l.number (operations_of l.script l.caller)))
