use Rattle.std.proofs.Common.{◌≡◌, List, [], ◌++◌, map, sym, ap, subst, ◌∙◌}
use Rattle.model_text.specs.declared.told_line.ToldLine.{ToldLine}
use Rattle.model_text.specs.Told.{AllFollow, TellsAlike, told_table, promise_line, step_line}
use Rattle.model_text.proofs.Listing.{lines_follow, lines_alike, all_weaker}
use Rattle.model_text.proofs.lines.lines_of.Goals as goal

lines_are : (c : goal.After-drop-branch-3) → c.put_steps.new.lines.items
    ≡ map promise_line c.in_ok-promises.field-0.keys
    ++ map step_line c.in_ok-steps.field-0.entries
lines_are c = c.in_ok-put_steps.ensures.put
    ∙ ap (λ (items : List ToldLine). items ++ map step_line c.in_ok-steps.field-0.entries)
    (c.in_ok-put_promises.ensures.put
    ∙ ap (λ (items : List ToldLine). items ++ map promise_line c.in_ok-promises.field-0.keys)
    c.new-lines.ensures.items)

pub returns-clause-follow : goal.returns-clause-follow
returns-clause-follow c = subst (AllFollow []) (sym (lines_are c))
    (lines_follow c.args.table.now c.in_ok-steps.ensures.keeps c.in_ok-promises.field-0.keys
    c.in_ok-steps.field-0.entries c.in_ok-put_promises.ensures.ordered
    c.in_ok-put_steps.ensures.ordered
    (all_weaker c.in_ok-promises.field-0.keys
    (λ pair has. sym (c.in_ok-promises.ensures.promises pair.0 pair.1) ∙ has)
    c.in_ok-put_promises.ensures.found)
    (all_weaker c.in_ok-steps.field-0.entries
    (λ step has. sym (c.in_ok-steps.ensures.steps step.0.0 step.0.1) ∙ has)
    c.in_ok-put_steps.ensures.found))

pub returns-clause-alike : goal.returns-clause-alike
returns-clause-alike c =
    subst (λ (lines : List ToldLine). TellsAlike (told_table lines) c.args.table.now)
    (sym (lines_are c))
    (lines_alike c.args.table.now c.in_ok-promises.field-0.keys c.in_ok-steps.field-0.entries
    c.requires c.in_ok-promises.ensures.promises c.in_ok-steps.ensures.steps)
