use Rattle.std.proofs.Common.{subst}
use Rattle.std.proofs.lemmas.Result.{IfOk-weaker}
use Rattle.core_runs.specs.Logged.{IsLoggedBy}
use Rattle.named_runs.proofs.named_object.LogBoxNamedObject.open_for.Goals as goal

pub returns-clause-opened : goal.returns-clause-opened
returns-clause-opened g c =
    IfOk-weaker c.open.result _ _
    (λ r is. (
      is.0,
      λ phases calls of. c.for_kind.ensures c.args.n phases calls
          (subst (λ (m : _). IsLoggedBy (g.M.Machine.reply_to m) c.args.n phases calls) is.2 of),
    ))
    c.open.ensures.log
