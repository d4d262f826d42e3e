use Rattle.std.proofs.Common.{◌++◌, sym, subst}
use Rattle.stream_text.specs.declared.line_source.NextLine.{NextLine}
use Rattle.watch.specs.Ending.{EndsAt, HasCome}
use Rattle.watch.proofs.Endings.{come_same}
use Rattle.watch.proofs.Returning.{none_then, some_then}
use Rattle.watch.proofs.watching.Watching.step.Goals as goal

pub returns-in-Line-clause-goes_on : goal.returns-in-Line-clause-goes_on
returns-in-Line-clause-goes_on c =
    none_then c.step_line.result c.step_line.ensures.goes_on
    (λ goes asked lines due said output h whole.
    (c.in-Line.is, goes asked lines due said output h (whole c.in-Line.is)))

pub returns-in-Line-clause-ends : goal.returns-in-Line-clause-ends
returns-in-Line-clause-ends c =
    some_then c.step_line.result _ _ c.step_line.ensures.ends
    (λ ending ends asked lines due said output h whole ok.
    let e = ends asked lines due said output h (whole c.in-Line.is) ok in (
      e.0,
      e.1,
      e.2,
      subst (λ (n : NextLine). HasCome lines n c.args.line.now ending e.0) (sym c.in-Line.is) e.3,
      e.4,
      e.5,
      subst (λ (n : NextLine). EndsAt e.0 n c.args.line.now (output ++ e.1) e.2 ending)
          (sym c.in-Line.is) e.6,
    ))

pub returns-in_default : goal.returns-in_default
returns-in_default c = record {
  goes_on = tt;
  ends = λ asked lines due said output h whole ok.
      let e = c.end.ensures.ends asked lines due said output h c.in_default.not-Line ok
      c.args.line.now in
      (lines, e.0, e.1, come_same lines c.args.next c.args.line.now c.end.result, e.2, e.3, e.4);
}
