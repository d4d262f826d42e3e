use Rattle.std.proofs.Common.{List, Option, Some, None, set, sym, ap, ◌∙◌}
use Rattle.std.proofs.lemmas.Bool.{cond-true}
use Rattle.std.proofs.lemmas.List.{set-set}
use Rattle.test_objects.specs.Calls.{is_put}
use Rattle.test_objects.proofs.late.Late.turn.Goals as goal

pub returns-then-is_put-clause-waiting : goal.returns-then-is_put-clause-waiting
returns-then-is_put-clause-waiting g c =
    let i = c.args.entry.now.caller in
    let op = c.args.entry.now.op in
    ap (λ (l : List (Option _)). set l i (Some op)) c.make_waiting.ensures.waiting
    ∙ set-set c.args.scratch.now.waiting.items i None (Some op)
    ∙ ap (set c.args.scratch.now.waiting.items i)
    (sym (cond-true (is_put op) (Some op) None (sym c.is_put.ensures ∙ c.if-is_put.true)))
