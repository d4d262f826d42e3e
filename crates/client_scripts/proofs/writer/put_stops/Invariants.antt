use Rattle.std.proofs.Common.{◌≡◌, ◌++◌, take}
use Rattle.text_fields.specs.Lines.{text_of, by_number}
use Rattle.client_scripts.specs.Grammar.{stop_line}
use Rattle.client_scripts.proofs.writer.put_stops.Given as goal

abbrev pub invariant-loop-caller : goal.invariant-loop-caller
invariant-loop-caller l = l.out.items
    ≡ l.initial.out.items ++ text_of (by_number stop_line 0 (take l.caller l.script.stops))
