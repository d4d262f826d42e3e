use Rattle.std.proofs.Common.{◌∙◌, ◌++◌, [], List, ℕ, sym, ap, subst, append-nil}
use Rattle.stream_text.specs.declared.line_source.NextLine.{NextLine}
use Rattle.watch.specs.Output.{output_text}
use Rattle.watch.specs.Ending.{EndsAt}
use Rattle.watch.proofs.watching.Watching.end.Goals as goal

pub returns-in-Some : goal.returns-in-Some
returns-in-Some c = record {
  ends = λ asked lines due said output h no ok line.
      c.refuse.ensures.ends asked lines due said output h ok c.args.next line
      (c.in-Some.ensures.wrong due line no h.reader);
}

pub returns-in-None : goal.returns-in-None
returns-in-None c = record {
  ends = λ asked lines due said output h no ok line.
      let right = c.in-None.ensures.right no in
      let ended = c.finish.ensures.ends asked lines due said output h
      (right.1 due said h.reader h.says) ok line in (
        ended.0,
        [],
        ended.1 ∙ ap (λ (l : List ℕ). c.args.self.now.out.items ++ l)
            (sym (append-nil (output_text ended.0))),
        ended.2,
        subst (λ (n : NextLine). EndsAt lines n line (output ++ ended.0) [] c.finish.result)
            (sym right.0) ended.3,
      );
}
