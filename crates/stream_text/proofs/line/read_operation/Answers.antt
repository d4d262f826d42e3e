use Rattle.std.proofs.Common.{◌∙◌, List, ℕ, [], ◌++◌, refl, sym, ap, append-nil}
use Rattle.seq_objects.specs.Words.{operation_words}
use Rattle.stream_text.proofs.Lines.{next_there, operation_more}
use Rattle.stream_text.proofs.line.read_operation.Goals as goal

pub returns-in_default-clause-none : goal.returns-in_default-clause-none
returns-in_default-clause-none c = (
  refl,
  λ op has is. c.in_default.ensures.none op [] has
      (is ∙ sym (append-nil (operation_words c.args.kind op))),
)

pub returns-then-is_some-clause-none : goal.returns-then-is_some-clause-none
returns-then-is_some-clause-none c =
    let found = c.in-Some.ensures.found in
    let next = next_there c.next.result _ _ (sym c.is_some.ensures ∙ c.if-is_some.true)
    c.next.ensures in (
      refl,
      operation_more c.args.kind c.in-Some.op next.0.now c.args.words.now c.next.new.self found.0
          (found.1 ∙ ap (λ (ws : List (List ℕ)). operation_words c.args.kind c.in-Some.op ++ ws)
          next.1),
    )
