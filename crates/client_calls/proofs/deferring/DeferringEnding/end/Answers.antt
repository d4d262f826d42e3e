use Rattle.std.proofs.Common.{sym, subst}
use Rattle.world_core.specs.Local.{Local}
use Rattle.row_gather.specs.Gathered.{IsGatheredBy}
use Rattle.client_calls.proofs.deferring.DeferringEnding.end.Goals as goal

pub returns-clause-caller : goal.returns-clause-caller
returns-clause-caller g c = (
  c.defer.ensures.caller.rows g.P.Program.meaning c.args._rows.now c.requires.rows,
  c.defer.ensures.caller.who,
)

pub returns-clause-kept : goal.returns-clause-kept
returns-clause-kept g c = subst (λ (l : Local). IsGatheredBy l c.args._gathered.now)
    (sym c.defer.ensures.caller.local) c.requires.gathered
