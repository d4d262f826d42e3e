use Rattle.std.proofs.Common.{ℕ, List, [], ◌∷◌, ◌++◌, map, sym, ap, ◌∙◌, append_assoc}
use Rattle.std.proofs.lemmas.List.{append-nil}
use Rattle.told_models.specs.declared.table.Transition.{Transition}
use Rattle.model_text.specs.declared.told_line.ToldLine.{ToldLine}
use Rattle.model_text.specs.Told.{step_line}
use Rattle.model_text.proofs.lines.put_steps.Goals as goal

pub loop-state-init : goal.loop-state-init
loop-state-init c = ap (λ (left : List ((ℕ × ℕ) × Transition)). c.args.lines.now.items ++ map step_line left)
    c.into_iter-state-iterator.ensures.into_iter_gives.0

pub loop-state-preserved : goal.loop-state-preserved
loop-state-preserved c =
    ap (λ (items : List ToldLine). items ++ map step_line c.next.new.self) c.in_ok-push.ensures.items
    ∙ append_assoc c.loop-state.lines.items (step_line (c.in-Some.field-0-0.now, c.in-Some.transition.now) ∷ [])
    (map step_line c.next.new.self)
    ∙ ap (λ (left : List ((ℕ × ℕ) × Transition)). c.loop-state.lines.items ++ map step_line left)
    (sym c.in-Some.ensures.steps)
    ∙ c.loop-state.invariant

pub returns-clause-put : goal.returns-clause-put
returns-clause-put c =
    sym (append-nil c.loop-state.lines.items)
    ∙ ap (λ (left : List ((ℕ × ℕ) × Transition)). c.loop-state.lines.items ++ map step_line left)
    (sym c.in-None.ensures.steps.0)
    ∙ c.loop-state.invariant
