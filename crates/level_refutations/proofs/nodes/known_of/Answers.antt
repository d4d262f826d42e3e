use Rattle.std.proofs.Common.{List, subst}
use Rattle.std.proofs.lemmas.List.{take_all}
use Rattle.level_refutations.specs.declared.node.Node.{Node}
use Rattle.level_refutations.specs.Stored.{AreKnown}
use Rattle.level_refutations.proofs.Knowing.{none_known, known_more}
use Rattle.level_refutations.proofs.nodes.known_of.Goals as goal

pub loop-k-init : goal.loop-k-init
loop-k-init c = none_known c.args.cuts.now c.new-known.result.keys c.new-known.ensures.empty

pub loop-k-preserved : goal.loop-k-preserved
loop-k-preserved c = known_more c.args.cuts.now c.args.nodes.now c.loop-k.k _ c.loop-k.known.keys
    c.insert.new.known.keys c.loop-k-test.true c.loop-k.invariant c.in_ok-insert.ensures

pub returns : goal.returns
returns c = subst (λ (ns : List Node). AreKnown c.args.cuts.now ns c.loop-k.known.keys)
    (take_all c.loop-k.k c.args.nodes.now c.loop-k-test.false) c.loop-k.invariant
