use Rattle.std.proofs.Common.{arith}
use Rattle.row_table.specs.Callers.{local_with}
use Rattle.row_gather.proofs.Peeking.{all_stay, alone_one, alone_then, ready_still, has_peeked}
use Rattle.row_gather.proofs.Reading.{entries_more}
use Rattle.row_gather.proofs.records.peek_view.Goals as goal

pub loop-j-preserved : goal.loop-j-preserved
loop-j-preserved g c =
    let meaning = g.P.Program.meaning in
    let rows = c.args.rows.now in
    let was = c.loop-j.invariant in
    let ready = ready_still meaning rows _ _ _ _ was.alone c.requires.ready in
    let step = alone_one meaning rows _ _ _ _ _ _ _ _ _ ready c.peek-count.ensures.caller
    c.peek-count.ensures.event c.peek-count.ensures.stance c.peek-count.ensures.tick in
    record {
      alone = alone_then meaning rows _ _ _ _ _ _ was.alone step;
      ticks = omega (arith, was.ticks, c.peek-count.ensures.tick);
      entries = entries_more rows.callers (local_with c.loop-j.caller)
          (local_with c.peek-count.new.caller) c.args.call c.loop-j.j c.loop-j.view c.set.new.self
          c.peek-count.result
          (all_stay (local_with c.loop-j.caller) (local_with c.peek-count.new.caller) _ _
          step.peeks) was.entries (omega arith) (has_peeked meaning rows c.loop-j.caller
          c.peek-count.new.caller _ c.args.call _ _ ready c.peek-count.ensures.event) c.set.ensures;
    }
