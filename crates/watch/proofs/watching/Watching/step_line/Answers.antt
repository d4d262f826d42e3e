use Rattle.std.proofs.Common.{◌∙◌, ◌++◌, ◌∷◌, [], List, ℕ, refl, sym, ap, inr, append-nil}
use Rattle.stream_text.specs.declared.line_source.NextLine.TheVariants as next_lines
use Rattle.watch.specs.Output.{output_text}
use Rattle.watch.proofs.Endings.{come_same}
use Rattle.watch.proofs.watching.Watching.step_line.Goals as goal

pub returns-in-Ok-true-clause-ends : goal.returns-in-Ok-true-clause-ends
returns-in-Ok-true-clause-ends c asked lines due said output h whole ok =
    let closes = c.in-Ok-true.ensures.over c.in-Ok-true.field-0-test asked lines due said output h
    whole in (
      lines ++ c.args.line.now ∷ [],
      closes.0,
      [],
      inr (refl, refl),
      closes.1 ∙ ap (λ (l : List ℕ). c.args.self.now.out.items ++ l)
          (sym (append-nil (output_text closes.0))),
      closes.2,
      (refl, closes.3),
    )

pub returns-in-Ok-false-clause-goes_on : goal.returns-in-Ok-false-clause-goes_on
returns-in-Ok-false-clause-goes_on c asked lines due said output h whole =
    c.in-Ok-false.ensures.goes_on c.in-Ok-false.field-0-test asked lines due said output h whole

pub returns-in-Err-Wrong-clause-ends : goal.returns-in-Err-Wrong-clause-ends
returns-in-Err-Wrong-clause-ends c asked lines due said output h whole ok =
    let wrong = c.in-Err-Wrong.ensures.wrong c.in-Err-Wrong.wrong c.in-Err-Wrong.field-0-is asked
    lines due said output h whole in
    let ended = c.refuse.ensures.ends asked lines due said output wrong.1 ok next_lines.Line
    c.args.line.now wrong.0 in (
      lines,
      ended.0,
      ended.1,
      come_same lines next_lines.Line c.args.line.now c.refuse.result,
      ended.2 ∙ ap (λ v. v.items ++ (output_text ended.0 ++ ended.1)) wrong.2,
      ended.3,
      ended.4,
    )
