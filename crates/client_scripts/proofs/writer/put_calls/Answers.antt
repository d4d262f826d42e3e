use Rattle.std.proofs.Common.{ℕ, List, ◌++◌, [], ap, ◌∙◌, arith}
use Rattle.std.proofs.lemmas.List.{take_all}
use Rattle.text_fields.specs.Lines.{text_of, by_number}
use Rattle.client_scripts.specs.Grammar.{caller_lines}
use Rattle.client_scripts.proofs.Written.{part_more}
use Rattle.client_scripts.proofs.writer.put_calls.Goals as goal

pub loop-caller-preserved : goal.loop-caller-preserved
loop-caller-preserved c =
    part_more (caller_lines c.args.script.now.kind) c.args.out.now.items c.loop-caller.out.items
    c.put_caller.new.out.items c.args.script.now.operations [] c.loop-caller.caller
    (omega arith) c.loop-caller.invariant c.in_ok-put_caller.ensures

pub returns : goal.returns
returns c =
    let operations = c.args.script.now.operations in
    c.loop-caller.invariant ∙ ap (λ (ops : List (List ℕ)).
    c.args.out.now.items ++ text_of (by_number (caller_lines c.args.script.now.kind) 0 ops))
    (take_all c.loop-caller.caller operations (omega arith))
