use Rattle.std.proofs.Common.{◌-◌, length, drop, arith, length-take, length-drop, ◌∙◌}
use Rattle.byte_streams.proofs.ToldLemmas.{Appends-take}
use Rattle.byte_streams.proofs.transfer.write_all.Goals as goal

pub loop-at-preserved : goal.loop-at-preserved
loop-at-preserved g c = record {
  within = omega (
    arith,
    c.in_ok-count.ensures.bound,
    length-take (length c.args.text.now - c.loop-at.at) (drop c.loop-at.at c.args.text.now),
    length-drop c.loop-at.at c.args.text.now,
  );
  taken = Appends-take _ _ _ c.args.text.now c.loop-at.at c.in_ok-count.count
      c.loop-at.invariant.taken c.in_ok-count.ensures.bytes;
  calm = c.in_ok-count.ensures.calm (λ refused. c.if-count-eq0.false refused.0)
      ∙ c.loop-at.invariant.calm;
}
