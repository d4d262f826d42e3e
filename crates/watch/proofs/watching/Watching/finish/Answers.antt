use Rattle.std.proofs.Common.{refl}
use Rattle.watch.proofs.Endings.{ends_legal, ends_unsure}
use Rattle.watch.proofs.watching.Watching.finish.Goals as goal

pub returns-in-Ok-true : goal.returns-in-Ok-true
returns-in-Ok-true c = record {
  ends = λ asked lines due said output h says ok line.
      let closes = c.in-Ok-true.ensures.over c.in-Ok-true.field-0-test asked lines due said output h
      says in
      (closes.0, closes.1, closes.2, (refl, closes.3));
}

pub returns-then-self : goal.returns-then-self
returns-then-self c = record {
  ends = λ asked lines due said output h says ok line.
      ends_unsure asked c.args.self.now c.report.new.self lines due said output line says
      c.if-self.true
      (c.in-Ok-false.ensures.goes_on c.in-Ok-false.field-0-test asked lines due said output h says);
}

pub returns-else-self : goal.returns-else-self
returns-else-self c = record {
  ends = λ asked lines due said output h says ok line.
      ends_legal asked c.args.self.now c.report.new.self lines due said output line says
      c.if-self.false
      (c.in-Ok-false.ensures.goes_on c.in-Ok-false.field-0-test asked lines due said output h says);
}
