use Rattle.std.proofs.Common.{ℕ, List, [], ◌∷◌, ◌++◌, map, sym, ap, ◌∙◌, append_assoc}
use Rattle.std.proofs.lemmas.List.{append-nil}
use Rattle.model_text.specs.declared.told_line.ToldLine.{ToldLine}
use Rattle.model_text.specs.Told.{promise_line}
use Rattle.model_text.proofs.lines.put_promises.Goals as goal

pub loop-op-init : goal.loop-op-init
loop-op-init c = ap (λ (left : List (ℕ × ℕ)). c.args.lines.now.items ++ map promise_line left)
    c.into_iter-op-iterator.ensures.into_iter_gives.0

pub loop-op-preserved : goal.loop-op-preserved
loop-op-preserved c =
    ap (λ (items : List ToldLine). items ++ map promise_line c.next.new.self) c.in_ok-push.ensures.items
    ∙ append_assoc c.loop-op.lines.items (promise_line c.in-Some.field-0.now ∷ [])
    (map promise_line c.next.new.self)
    ∙ ap (λ (left : List (ℕ × ℕ)). c.loop-op.lines.items ++ map promise_line left)
    (sym c.in-Some.ensures.steps)
    ∙ c.loop-op.invariant

pub returns-clause-put : goal.returns-clause-put
returns-clause-put c =
    sym (append-nil c.loop-op.lines.items)
    ∙ ap (λ (left : List (ℕ × ℕ)). c.loop-op.lines.items ++ map promise_line left)
    (sym c.in-None.ensures.steps.0)
    ∙ c.loop-op.invariant
