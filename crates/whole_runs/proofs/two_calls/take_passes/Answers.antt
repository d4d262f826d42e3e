use Rattle.whole_runs.proofs.Passes.{both_taken}
use Rattle.whole_runs.proofs.two_calls.take_passes.Goals as goal

pub returns-clause-a : goal.returns-clause-a
returns-clause-a g c =
    (both_taken g.M.Machine.reply_to g.M.Machine.has_seen c.args.object.now c.args.passes.items
    c.pop.new.self.items c.pop-2.new.self.items c.in-Some-pop.a c.in-Some.b
    c.requires.passes c.requires.two c.requires.fresh c.in-Some.ensures.items
    c.in-Some-pop.ensures.items).1

pub returns-clause-b : goal.returns-clause-b
returns-clause-b g c =
    let both = both_taken g.M.Machine.reply_to g.M.Machine.has_seen c.args.object.now
    c.args.passes.items c.pop.new.self.items c.pop-2.new.self.items c.in-Some-pop.a c.in-Some.b
    c.requires.passes c.requires.two c.requires.fresh c.in-Some.ensures.items
    c.in-Some-pop.ensures.items in
    (both.2, both.3)
