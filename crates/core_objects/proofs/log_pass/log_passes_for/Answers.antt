use Rattle.std.proofs.Common.{◌+◌, sym, subst}
use Rattle.core_objects.proofs.LogPasses.{AreLogPasses, one_log_pass}
use Rattle.core_objects.proofs.log_pass.log_passes_for.Goals as goal

pub loop-caller-preserved : goal.loop-caller-preserved
loop-caller-preserved g c =
    let spec = g.S.SeqObject.spec c.args.object.now in
    subst (AreLogPasses spec c.args.n c.args.cap (c.loop-caller.caller + 1))
    (sym c.in_ok-push.ensures.items)
    (one_log_pass spec c.args.n c.args.cap c.loop-caller.caller c.loop-caller.passes.items
    c.in_ok-pass_for.field-0 c.loop-caller.invariant c.in_ok-pass_for.ensures)
