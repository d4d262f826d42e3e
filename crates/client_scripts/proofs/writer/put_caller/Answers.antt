use Rattle.std.proofs.Common.{ℕ, List, ◌++◌, get_or, ap, ◌∙◌, arith}
use Rattle.std.proofs.lemmas.List.{take_all}
use Rattle.text_fields.specs.Lines.{text_of, by_number}
use Rattle.client_scripts.specs.Plans.{operations_of}
use Rattle.client_scripts.specs.Grammar.{call_line, call_words}
use Rattle.client_scripts.proofs.Written.{part_more, one_line}
use Rattle.client_scripts.proofs.writer.put_caller.Goals as goal

pub loop-number-preserved : goal.loop-number-preserved
loop-number-preserved c =
    let ops = operations_of c.args.script.now c.args.caller in
    part_more (call_line c.args.script.now.kind c.args.caller) c.args.out.now.items
    c.loop-number.out.items c.put_call.new.out.items ops 0 c.loop-number.number
    (omega arith) c.loop-number.invariant
    (one_line c.loop-number.out.items c.put_call.new.out.items (call_words c.args.script.now.kind
    (record { caller = c.args.caller; number = c.loop-number.number })
    (get_or ops c.loop-number.number 0)) c.in_ok-put_call.ensures)

pub returns : goal.returns
returns c =
    let ops = operations_of c.args.script.now c.args.caller in
    c.loop-number.invariant ∙ ap (λ (xs : List ℕ). c.args.out.now.items
    ++ text_of (by_number (call_line c.args.script.now.kind c.args.caller) 0 xs))
    (take_all c.loop-number.number ops (omega arith))
