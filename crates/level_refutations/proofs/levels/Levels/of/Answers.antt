use Rattle.std.proofs.Common.{List, subst}
use Rattle.std.proofs.lemmas.List.{take_all}
use Rattle.level_refutations.specs.declared.entry.LevelEntry.{LevelEntry}
use Rattle.level_refutations.specs.Closed.{levels_of}
use Rattle.level_refutations.specs.Stored.{AreLevels}
use Rattle.level_refutations.proofs.Listing.{no_levels}
use Rattle.level_refutations.proofs.levels.Levels.of.Goals as goal

pub loop-k-init : goal.loop-k-init
loop-k-init c = no_levels c.args.entries.now _ c.new-2.ensures.even c.new-2.ensures.none
    c.new.ensures.items

pub add-requires-clause-before : goal.add-requires-clause-before
add-requires-clause-before c = c.loop-k.invariant

pub loop-k-preserved : goal.loop-k-preserved
loop-k-preserved c = c.in_ok-add.ensures

pub returns : goal.returns
returns c = subst (λ (es : List LevelEntry). AreLevels c.args.entries.now c.loop-k.levels
    (levels_of es)) (take_all c.loop-k.k c.args.entries.now c.loop-k-test.false)
    c.loop-k.invariant
