use Rattle.std.proofs.Common.{◌∙◌, ap}
use Rattle.world_core.specs.Local.{Local}
use Rattle.world_core.specs.Event.{is_unstaged}
use Rattle.enforcer.specs.Recorded.{is_announcing}
use Rattle.enforcer.proofs.Standing.{announcing_is, unstaged_is}
use Rattle.whole_runs.proofs.lossy_queue.call.Goals as goal

pub returns-clause-caller : goal.returns-clause-caller
returns-clause-caller g c =
    let same = c.defer.ensures.caller in
    let saw = c.seen.result.saw in (
      record {
        caller = same.rows _ c.args.rows.now c.seen.ensures.caller.0;
        idle = record {
          announcing = announcing_is _
              (ap (λ (l : Local). is_announcing l.phase) same.local ∙ saw.announcing);
          unstaged =
              unstaged_is _ (ap (λ (l : Local). is_unstaged l.staged) same.local ∙ saw.unstaged);
        };
        stance = c.defer.ensures.stance ∙ c.seen.result.stands;
      },
      same.who ∙ c.seen.ensures.caller.1 ∙ c.publish-published.ensures.caller.1
          ∙ c.apply-viewed.ensures.caller.1 ∙ c.requires.caller.1,
    )
