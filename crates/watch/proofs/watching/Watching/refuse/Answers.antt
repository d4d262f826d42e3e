use Rattle.watch.proofs.Endings.{ends_illegal, ends_refused}
use Rattle.watch.proofs.watching.Watching.refuse.Goals as goal

pub returns-in-Ok-true : goal.returns-in-Ok-true
returns-in-Ok-true c = record {
  ends = λ asked lines due said output h ok next line wrong.
      ends_illegal asked c.args.self.now c.settle.new.self lines output next line
      (c.in-Ok-true.ensures.over c.in-Ok-true.field-0-test asked lines due said output h);
}

pub returns-in-Ok : goal.returns-in-Ok
returns-in-Ok c = record {
  ends = λ asked lines due said output h ok next line wrong.
      ends_refused asked c.args.self.now c.settle.new.self c.put_refusal.new.self lines due said
      output next line c.args.wrong
      (c.in-Ok-false.ensures.goes_on c.in-Ok-false.field-0-test asked lines due said output h)
      c.in-Ok.ensures wrong;
}
