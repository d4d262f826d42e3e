use Rattle.std.proofs.Common.{subst}
use Rattle.world_core.specs.declared.program.Outside.{Outside}
use Rattle.row_table.specs.declared.rows.Rows.{Rows}
use Rattle.call_handles.specs.Callers.{AnswersFor}
use Rattle.call_handles.proofs.judging.judge_counted.Goals as goal

pub returns-clause-ended : goal.returns-clause-ended
returns-clause-ended g c =
    subst (λ (rows : Rows Outside). AnswersFor rows c.args.kept.now.kind c.args.call c.args.reply
    c.finish.result.0 c.finish.result.1) c.deref.ensures c.finish.ensures.ended
