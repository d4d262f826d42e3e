use Rattle.std.proofs.Common.{◌∙◌, ℕ, sym, ap, subst, length}
use Rattle.text_fields.specs.Counts.{AreAtMost}
use Rattle.client_scripts.specs.Plans.{Plan, sizes}
use Rattle.core_objects.specs.CoreObjects.{ArePassesFor}
use Rattle.whole_runs.proofs.MadeScripts.{made_calls, made_callers}
use Rattle.whole_runs.proofs.inside_runs.run_made.Goals as goal

pub core_fresh-status-requires-clause-calls : goal.core_fresh-status-requires-clause-calls
core_fresh-status-requires-clause-calls g c κs within =
    subst (λ (plan : Plan). AreAtMost c.args.size.cap (sizes plan.operations))
    (sym c.in_ok-script.ensures)
    (made_calls 0 c.args.size.calls c.args.kind c.args.size.callers c.args.size.cap
    c.args.size.within)

pub core_fresh-status-requires-clause-passes : goal.core_fresh-status-requires-clause-passes
core_fresh-status-requires-clause-passes g c κs within =
    let callers = ap (λ (plan : Plan). length plan.operations) c.in_ok-script.ensures
    ∙ made_callers 0 c.args.size.calls c.args.kind c.args.size.callers in
    subst (λ (n : ℕ). ArePassesFor (g.O.CoreObject.fits c.args.object.now) n c.args.size.cap
    c.args.passes.now.items) (sym callers) c.requires
