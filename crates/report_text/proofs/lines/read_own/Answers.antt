use Rattle.std.proofs.Common.{ℕ, ◌+◌, List, length, refl, sym, subst, ap, ◌∙◌, arith}
use Rattle.std.proofs.lemmas.List.{length_push}
use Rattle.std.proofs.lemmas.Result.{err_from_is_err_and}
use Rattle.report_lines.specs.declared.line.Line.{Line}
use Rattle.report_text.proofs.OwnSteps.{AreReadTo, own-none, own-stops, own-more, own-all}
use Rattle.report_text.proofs.lines.read_own.Goals as goal

pub returns-in_err-op-clause-refused : goal.returns-in_err-op-clause-refused
returns-in_err-op-clause-refused c =
    let p = err_from_is_err_and c.from_residual.result c.from_residual.ensures.1 in
    let l = c.loop-number in
    rw (p.1, p.2) (λ counts told more draft stand.
    own-stops c.args.kind counts told c.args.i c.args.count more c.args.lines.now l.number
    l.own.items l.draft l.lines c.loop-number-test.true stand l.invariant.count
    (l.invariant.read counts told more draft stand) c.in_err-op.field-0.0
    c.in_err-op.ensures.refused)

pub loop-number-init : goal.loop-number-init
loop-number-init c = record {
  read = λ counts told more draft stand.
      subst (λ (items : List Line). AreReadTo c.args.kind counts told c.args.i c.args.count 0 more
      c.args.lines.now items c.args.draft.now c.args.lines.now) (sym c.new-own.ensures.items)
      (own-none c.args.kind counts told c.args.i c.args.count more c.args.lines.now
      c.args.draft.now draft);
  count = ap (length {A = Line}) c.new-own.ensures.items;
  wide = c.requires.wide;
  calls = λ j. refl;
  answers = omega (arith, c.requires.unanswered);
  others = λ j other. refl;
}

pub loop-number-preserved : goal.loop-number-preserved
loop-number-preserved c =
    let l = c.loop-number in
    let line : Line = record { op = c.in_ok-op.field-0.op; end = c.in_ok-op.field-0.end } in
    record {
      read = λ counts told more draft stand.
          own-more c.args.kind counts told c.args.i c.args.count more c.args.lines.now l.number
          l.own.items l.draft l.lines c.loop-number-test.true stand l.invariant.count
          (l.invariant.read counts told more draft stand)
          line c.push.new.self.items c.read_line.new.draft c.read_line.new.lines
          c.in_ok-push.ensures.items c.in_ok-op.ensures.found;
      count = ap (length {A = Line}) c.in_ok-push.ensures.items ∙ length_push l.own.items line
          ∙ ap (λ (n : ℕ). n + 1) l.invariant.count;
      wide = c.in_ok-op.ensures.wide;
      calls = λ j. c.in_ok-op.ensures.calls j ∙ l.invariant.calls j;
      answers = c.in_ok-op.ensures.own;
      others = λ j other. c.in_ok-op.ensures.others j other ∙ l.invariant.others j other;
    }

pub returns-clause-found : goal.returns-clause-found
returns-clause-found c = λ counts told more draft stand.
    let l = c.loop-number in
    own-all c.args.kind counts told c.args.i c.args.count more c.args.lines.now l.number l.own.items
    l.draft l.lines (omega arith) (l.invariant.read counts told more draft stand)
