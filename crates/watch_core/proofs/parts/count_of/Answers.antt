use Rattle.std.proofs.Common.{◌∙◌, ◌<◌, length, arith}
use Rattle.watch_core.proofs.Lookups.{count_more, none_at}
use Rattle.watch_core.proofs.parts.count_of.Goals.{in-Some, in_default}
use Rattle.watch_core.proofs.parts.count_of.Goals as goal

pub loop-at-preserved : goal.loop-at-preserved
loop-at-preserved c =
    let parts = c.args.parts.now.entries in
    let at = c.loop-at.at in
    let low : at < length parts = omega (arith, c.loop-at-test.true, c.len-at-end.ensures.len) in
    elim c.match-get_index.branch [
      | in-Some w ↦ w.count-is ∙ count_more parts at c.loop-at.count w.configurations.result
          w.saturating_add-count.result _ _ w.in-Some.ensures.entry c.loop-at.invariant
          w.configurations.ensures w.saturating_add-count.ensures
      | in_default w ↦ absurd (none_at parts at low w.in_default.ensures.entry)
    ]
