use Rattle.std.proofs.Common.{ℕ, ◌<◌, ◌∙◌, length, ap, length-set, arith}
use Rattle.std.proofs.lemmas.Grind.{same_number_lists}
use Rattle.search_hints.proofs.Least.{copied-more}
use Rattle.search_hints.proofs.next.cut_of.Goals as goal

pub set-requires : goal.set-requires
set-requires c = omega (arith, c.loop-caller.invariant.long)

pub loop-caller-preserved : goal.loop-caller-preserved
loop-caller-preserved c = record {
  long = ap length c.set.ensures ∙ (length-set c.loop-caller.cut c.loop-caller.caller c.from.result
      ∙ c.loop-caller.invariant.long);
  same = copied-more c.loop-caller.cut c.set.new.self c.args.counts.now c.loop-caller.caller
      c.from.result c.loop-caller.invariant.long (omega arith) c.from.ensures c.set.ensures
      c.loop-caller.invariant.same;
}

pub returns : goal.returns
returns c =
    same_number_lists c.loop-caller.cut c.args.counts.now c.loop-caller.invariant.long
    (λ (i : ℕ) (below : i < length c.loop-caller.cut).
    c.loop-caller.invariant.same i (omega (arith, c.loop-caller.invariant.long)))
