use Rattle.std.proofs.Common.{◌++◌, List, get_or, sym, ap, ◌∙◌, arith}
use Rattle.std.proofs.lemmas.List.{take_all}
use Rattle.std.proofs.lemmas.Option.{get_or_from_slice_get}
use Rattle.book_base.specs.declared.call.Call.{Call}
use Rattle.seq_objects.specs.declared.kind.Kind.{Kind}
use Rattle.text_fields.specs.Lines.{text_of, line_text, by_number}
use Rattle.client_scripts.proofs.Written.{part_more, one_line}
use Rattle.report_lines.specs.declared.line.Line.{Line}
use Rattle.report_lines.specs.Lines.{lines_at}
use Rattle.reports.specs.Grammar.{call_line, line_words}
use Rattle.report_text.proofs.writer.put_caller.Goals as goal

pub loop-number-preserved : goal.loop-number-preserved
loop-number-preserved c =
    let kind = c.args.report.now.kind in
    let own = lines_at c.args.report.now.lines c.args.caller in
    let k = c.loop-number.number in
    let call : Call = record { caller = c.args.caller; number = k } in
    let line = c.line.result.now in
    let middle = c.loop-number.out.items in
    let written = c.in_ok-put_line.ensures
    ∙ ap (λ (kind : Kind). middle ++ line_text (line_words kind call line)) c.kind.ensures
    ∙ ap (λ (l : Line). middle ++ line_text (line_words kind call l))
    (sym (get_or_from_slice_get own k line line c.line.ensures)) in
    part_more (call_line kind c.args.caller) c.args.out.now.items middle c.put_line.new.out.items
    own line k (omega arith) c.loop-number.invariant
    (one_line middle c.put_line.new.out.items (line_words kind call (get_or own k line)) written)

pub returns : goal.returns
returns c =
    let own = lines_at c.args.report.now.lines c.args.caller in
    c.loop-number.invariant ∙ ap (λ (ls : List Line). c.args.out.now.items
    ++ text_of (by_number (call_line c.args.report.now.kind c.args.caller) 0 ls))
    (take_all c.loop-number.number own (omega arith))
