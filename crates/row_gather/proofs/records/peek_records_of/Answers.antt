use Rattle.std.proofs.Common.{arith}
use Rattle.row_table.specs.Callers.{local_with}
use Rattle.row_gather.proofs.Peeking.{all_stay, alone_then}
use Rattle.row_gather.proofs.Reading.{records_more}
use Rattle.row_gather.proofs.records.peek_records_of.Goals as goal

pub returns-in_err-push-clause-peeks : goal.returns-in_err-push-clause-peeks
returns-in_err-push-clause-peeks g c = alone_then g.P.Program.meaning c.args.rows.now _ _ _ _ _ _
    c.loop-number.invariant.alone c.peek_record.ensures.peeks

pub loop-number-preserved : goal.loop-number-preserved
loop-number-preserved g c =
    let was = c.loop-number.invariant in
    let step = c.peek_record.ensures in
    record {
      alone = alone_then g.P.Program.meaning c.args.rows.now _ _ _ _ _ _ was.alone step.peeks;
      ticks = omega (arith, was.ticks, step.ticks);
      records = records_more c.args.rows.now.callers (local_with c.loop-number.caller)
          (local_with c.peek_record.new.caller) c.args.j c.args.from c.loop-number.number
          c.loop-number.records.items c.push.new.self.items c.peek_record.result
          (all_stay (local_with c.loop-number.caller) (local_with c.peek_record.new.caller) _ _
          step.peeks.peeks) was.records step.record c.in_ok-push.ensures.items;
    }
