use Rattle.std.proofs.Common.{◌∙◌, ◌<◌, length, slice_set, refl, arith}
use Rattle.late_residue.proofs.Items.{length-set}
use Rattle.late_residue.proofs.Revealing.{forgotten_none, forgotten_next, all_forgotten}
use Rattle.late_residue.proofs.Handling.{item_at}
use Rattle.late_residue.proofs.late_residue.forget.Goals as goal

pub loop-k-init : goal.loop-k-init
loop-k-init c = record {
  count = refl;
  so_far = forgotten_none c.args.call c.args.reply c.args.ones.now.items;
}

pub loop-k-preserved : goal.loop-k-preserved
loop-k-preserved c =
    let ones = c.loop-k.ones.items in
    let within : c.loop-k.k < length ones =
    omega (arith, c.loop-k-test.true, c.len-k-end.ensures, c.loop-k.invariant.count) in
    record {
      count = length-set ones c.loop-k.k c.forget.new.self ∙ c.loop-k.invariant.count;
      so_far = forgotten_next c.args.call c.args.reply c.args.ones.now.items ones
          (slice_set ones c.loop-k.k c.forget.new.self) c.loop-k.k c.index_mut.result.now
          c.forget.new.self c.loop-k.invariant.so_far
          (item_at ones c.loop-k.k c.index_mut.result.now _ within c.index_mut.ensures.value) refl
          c.forget.ensures;
    }

pub returns : goal.returns
returns c = all_forgotten c.args.call c.args.reply c.args.ones.now.items c.loop-k.ones.items c.loop-k.k
    c.loop-k.invariant.so_far (omega (arith, c.len-k-end.ensures, c.loop-k-test.false))
