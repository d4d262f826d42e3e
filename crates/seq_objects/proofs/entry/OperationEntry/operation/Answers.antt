use Rattle.std.proofs.Common.{option_copied, arith}
use Rattle.seq_objects.specs.Words.{further}
use Rattle.seq_objects.specs.EntryView.{shown}
use Rattle.seq_objects.proofs.Arguments.{IsWrittenWith-none, IsWrittenWith-one}
use Rattle.seq_objects.proofs.entry.OperationEntry.operation.Goals as goal

pub returns-in-Nullary-clause-found : goal.returns-in-Nullary-clause-found
returns-in-Nullary-clause-found c =
    rw c.word_of.ensures (IsWrittenWith-none (shown c.args.self.now) (further
    (option_copied c.args.second) (option_copied c.args.third)) (omega arith) c.in-Nullary.is)

pub returns-in_ok-argument-in-Unary-clause-found : goal.returns-in_ok-argument-in-Unary-clause-found
returns-in_ok-argument-in-Unary-clause-found c =
    rw (c.word_of-in-Unary.ensures, c.in_ok-second-in-Unary.was)
    (IsWrittenWith-one (shown c.args.self.now) c.in_ok-second-in-Unary.field-0.now
    (option_copied c.args.third) c.in_ok-argument-in-Unary.field-0 (omega arith) c.in-Unary.is
    (omega arith) c.in_ok-argument-in-Unary.ensures.found)
