use Rattle.std.proofs.Common.{◌++◌, [], List, ap, ◌∙◌, arith}
use Rattle.std.proofs.lemmas.List.{take_all}
use Rattle.text_fields.specs.Lines.{text_of, by_number}
use Rattle.client_scripts.proofs.Written.{part_more}
use Rattle.report_lines.specs.declared.line.Line.{Line}
use Rattle.reports.specs.Grammar.{caller_lines}
use Rattle.report_text.proofs.writer.put_lines.Goals as goal

pub loop-caller-preserved : goal.loop-caller-preserved
loop-caller-preserved c =
    part_more (caller_lines c.args.report.now.kind) c.args.out.now.items c.loop-caller.out.items
    c.put_caller.new.out.items c.args.report.now.lines [] c.loop-caller.caller
    (omega arith) c.loop-caller.invariant c.in_ok-put_caller.ensures

pub returns : goal.returns
returns c =
    let lines = c.args.report.now.lines in
    c.loop-caller.invariant ∙ ap (λ (ls : List (List Line)).
    c.args.out.now.items ++ text_of (by_number (caller_lines c.args.report.now.kind) 0 ls))
    (take_all c.loop-caller.caller lines (omega arith))
