use Rattle.hunts.specs.Hunting.{first_news, AreQuietBefore}
use Rattle.hunts.specs.Watching.{Hears}
use Rattle.hunts.proofs.runs.hunt.Given as goal

abbrev pub invariant-loop-number : goal.invariant-loop-number
invariant-loop-number g l =
    AreQuietBefore g.B.Pass.ObjectPass.made g.B.Pass.ObjectPass.told l.settings l.number
    × Hears (g.W.Onlooker.heard l.initial.watch) (first_news l.settings l.number)
    (g.W.Onlooker.heard l.watch)
