use Rattle.frontier_check.proofs.Resuming.{keeps_one}
use Rattle.frontier_check.proofs.prefix.Prefix.mark_end.Goals as goal

pub returns-in_ok-push : goal.returns-in_ok-push
returns-in_ok-push c =
    keeps_one c.args.self.now c.args.records.now c.args.marks.now.items c.push.new.self.items
    c.in_ok-mark.mark c.in_ok-mark.ensures c.in_ok-push.ensures.items
