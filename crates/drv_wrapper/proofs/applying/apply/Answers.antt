use Rattle.std.proofs.Common.{◌≡◌, ap, subst, ◌∙◌}
use Rattle.world_core.specs.Local.{Local}
use Rattle.row_table.specs.Callers.{local_with}
use Rattle.drv_wrapper.specs.States.{caller_announced, caller_answered, caller_viewed}
use Rattle.drv_wrapper.specs.Growth.{Grows}
use Rattle.drv_wrapper.proofs.Growing.{grows_on}
use Rattle.drv_wrapper.proofs.applying.apply.Goals as goal

pub view-requires-clause-rows : goal.view-requires-clause-rows
view-requires-clause-rows g c =
    c.ask-answered.ensures.caller.rows _ c.args.rows.now c.announce-announced.ensures.caller.0

pub returns-clause-grows : goal.returns-clause-grows
returns-clause-grows g c =
    let asked : local_with (caller_answered c.ask-answered.result) ≡ local_with
    (caller_announced c.announce-announced.result) = c.ask-answered.ensures.caller.local in
    grows_on (local_with c.args.caller) (local_with (caller_announced c.announce-announced.result))
    (local_with (caller_viewed c.view.result)) c.announce-announced.ensures.grows
    (subst (λ (l : Local). Grows l (local_with (caller_viewed c.view.result))) asked
    c.view.ensures.grows)

pub returns-clause-steps : goal.returns-clause-steps
returns-clause-steps g c =
    c.view.ensures.viewed.object_steps ∙ ap (λ (l : Local). l.object_steps)
    c.ask-answered.ensures.caller.local ∙ c.announce-announced.ensures.announced.object_steps
