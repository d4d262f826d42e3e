use Rattle.frontier_check.proofs.Resuming.{keeps_one, keeps_removed}
use Rattle.frontier_check.proofs.prefix.Prefix.leave_mark.Goals as goal

pub returns-then-len-gt-MOST_MARKS : goal.returns-then-len-gt-MOST_MARKS
returns-then-len-gt-MOST_MARKS c =
    keeps_removed c.args.self.now c.args.records.now c.args.marks.now.items c.push.new.self.items
    c.remove.new.self.items _
    (keeps_one c.args.self.now c.args.records.now c.args.marks.now.items c.push.new.self.items
    c.in_ok-mark.mark c.in_ok-mark.ensures c.in_ok-push.ensures.items) c.remove.ensures.items

pub returns-else-len-gt-MOST_MARKS : goal.returns-else-len-gt-MOST_MARKS
returns-else-len-gt-MOST_MARKS c =
    keeps_one c.args.self.now c.args.records.now c.args.marks.now.items c.push.new.self.items
    c.in_ok-mark.mark c.in_ok-mark.ensures c.in_ok-push.ensures.items
