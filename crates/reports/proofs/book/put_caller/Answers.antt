use Rattle.std.proofs.Common.{◌≡◌, ◌<◌, List, sym, ap, ◌∙◌, subst, length, arith}
use Rattle.std.specs.Prelude.{Some, slice_get}
use Rattle.std.proofs.lemmas.List.{length-map}
use Rattle.std.proofs.lemmas.Option.{slice_get-get_or}
use Rattle.book_base.specs.declared.call.Call.{Call}
use Rattle.book_base.specs.Book.{Page, calls_of}
use Rattle.report_lines.specs.declared.line.Line.{Line}
use Rattle.report_lines.specs.Lines.{lines_at}
use Rattle.reports.specs.declared.report.Own.{Own}
use Rattle.reports.specs.ReportLayout.{lines_in}
use Rattle.reports.specs.Filling.{with_line_of, MayTake}
use Rattle.reports.proofs.Filling.{filling_begins, filling_ends, filling_more, calls_of-filling, may_take}
use Rattle.reports.proofs.book.put_caller.Goals as goal

pub loop-number-init : goal.loop-number-init
loop-number-init c = c.requires.filled ∙ filling_begins (lines_in c.args.callers.now) c.args.caller
    (omega (arith, c.requires.caller, length-map c.args.callers.now (λ (o : Own). o.lines.items)))

pub put_line-requires-clause-call : goal.put_line-requires-clause-call
put_line-requires-clause-call c =
    let lines = lines_in c.args.callers.now in
    let low : c.args.caller < length lines =
    omega (arith, c.requires.caller, length-map c.args.callers.now (λ (o : Own). o.lines.items)) in
    omega (
      arith,
      c.loop-number-test.true,
      ap length c.lines_of-own.ensures,
      ap (λ (b : List Page). calls_of b c.args.caller) c.loop-number.invariant,
      calls_of-filling lines c.args.caller c.loop-number.number low,
    )

pub put_line-requires-clause-may : goal.put_line-requires-clause-may
put_line-requires-clause-may c =
    let lines = lines_in c.args.callers.now in
    let k = c.loop-number.number in
    let line = c.index-own-number.result in
    let low : c.args.caller < length lines =
    omega (arith, c.requires.caller, length-map c.args.callers.now (λ (o : Own). o.lines.items)) in
    let there : slice_get (lines_at lines c.args.caller) k ≡ Some line =
    ap (λ (own : List Line). slice_get own k) (sym c.lines_of-own.ensures)
    ∙ slice_get-get_or c.lines_of-own.result.now k line c.loop-number-test.true
    ∙ ap (λ (x : Line). Some x) (sym c.index-own-number.is) in
    subst (λ (b : List Page). MayTake b (record { caller = c.args.caller; number = k }) line)
    (sym c.loop-number.invariant)
    (may_take lines c.args.caller k line low c.requires.lines.valid c.requires.lines.answered there)

pub loop-number-preserved : goal.loop-number-preserved
loop-number-preserved c =
    let lines = lines_in c.args.callers.now in
    let k = c.loop-number.number in
    let line = c.index-own-number.result in
    let call : Call = record { caller = c.args.caller; number = k } in
    let low : c.args.caller < length lines =
    omega (arith, c.requires.caller, length-map c.args.callers.now (λ (o : Own). o.lines.items)) in
    let there : slice_get (lines_at lines c.args.caller) k ≡ Some line =
    ap (λ (own : List Line). slice_get own k) (sym c.lines_of-own.ensures)
    ∙ slice_get-get_or c.lines_of-own.result.now k line c.loop-number-test.true
    ∙ ap (λ (x : Line). Some x) (sym c.index-own-number.is) in
    c.in_ok-put_line.ensures
    ∙ (ap (λ (b : List Page). with_line_of b call line) c.loop-number.invariant
    ∙ filling_more lines c.args.caller k line low c.requires.lines.answered there)

pub returns : goal.returns
returns c =
    let lines = lines_in c.args.callers.now in
    let low : c.args.caller < length lines =
    omega (arith, c.requires.caller, length-map c.args.callers.now (λ (o : Own). o.lines.items)) in
    c.loop-number.invariant
    ∙ filling_ends lines c.args.caller c.loop-number.number low (omega (
      arith,
      c.loop-number-test.false,
      c.loop-number.auto.number-end,
      ap length c.lines_of-own.ensures,
    )) c.requires.lines.valid
